-- The first run of the counters: it makes sixteen of them at 0, and plans its tasks.
use Rattle.std.proofs.Common.{◌≡◌, ℕ, ◌+◌, ◌-◌, ◌/◌, ◌%◌, ◌<◌, ◌≤◌, zero, suc, Bool, true, false, cond, ◌&&◌, length, nat_le, Some, None, List, [], ◌∷◌, Result, Ok, refl, sym, ap, subst, ◌∙◌, inl, inr, arith, add-zero}
use Rattle.std.specs.FinMap.{FinMap, get, len, empty, insert, contains_key, get-empty, len-empty, len-insert}
use Rattle.std.proofs.lemmas.Bool.{lt-leb, le-ltb}
use Rattle.std.proofs.lemmas.Bool.Decides.{eqb_tells}
use Rattle.std.specs.Cmp.{IsTotalOrder}
use Rattle.std.specs.declared.cmp.Ordering.{Ordering}
use Rattle.dk_types.specs.declared.number.RunNo.{RunNo}
use Rattle.dk_types.specs.declared.number.ObjectId.{ObjectId}
use Rattle.dk_types.specs.declared.number.TaskKey.{TaskKey}
use Rattle.dk_types.specs.declared.object.Object.{Object}
use Rattle.dk_types.specs.declared.fault.AppFault.{AppFault}
use Rattle.dk_types.specs.declared.limits.TheConstants.{BODY_MOST_BYTES, OBJECTS_MOST_COUNT, TASKS_MOST_COUNT}
use Rattle.dk_types.specs.declared.mode.Mode.TheVariants.{Game}
use Rattle.dk_wire.proofs.LengthLaws.{length-u64}
use Rattle.dk_model.specs.Keys.{key_cmp}
use Rattle.dk_model.specs.DurableWorlds.{Task}
use Rattle.dk_model.specs.Runs.{Run, Act, give, carry_on, and_then, is_game, is_reserved_kind, is_reserved_name, is_too_long, create, bind, schedule, next_id, next_key, with_object, with_name, with_task}
use Rattle.dk_model.proofs.Maps.{ids_total, exact_ids, keys_total, exact_keys, names_total, exact_names, get-insert_here, get-insert_other, get-insert_cases}
use Rattle.dk_demos.specs.Counting.{COUNTER, counter_bytes}
use Rattle.dk_demos.specs.Raising.{make_under}
use Rattle.dk_demos.specs.CountersRules.{counter_name, make, make_from, counter_of_task, plan, plan_from, begin}
use Rattle.dk_demos.proofs.CountersLeft.{TheTasks, task_key}

-- the id of a counter
abbrev pub counter_id : RunNo → ℕ → ObjectId
counter_id root number = record { run = root; k = number }

-- a counter that was raised so often, as an object
abbrev pub counter_object : ℕ → Object
counter_object count = record { kind = COUNTER; bytes = counter_bytes (record { count = count }) }

-- the task behind so many
abbrev pub planned : ℕ → ℕ → ℕ → Task
planned seed at before = record { due = at; period = 0; kind = 1; arg = counter_of_task seed (before + 1) ∷ [] }

pub and_false : (b : Bool) → (b && false) ≡ false
and_false true = refl
and_false false = refl

-- one step came to its end, so the next one follows
pub then_ok : {A B : Type 0} (f : Act A) (g : A → Act B) (s t : Run) (x : A) → f s ≡ (Ok x, t) → and_then f g s ≡ g x t
unfolding and_then
then_ok {A} {B} f g s t x e = ap (λ (p : Result A AppFault × Run). carry_on p.0 g p.1) e

done_ok : (s : Run) → give {A = Unit {0}} (Ok tt) s ≡ (Ok tt, s)
unfolding give
done_ok s = refl

-- one key more or the same
len_more : {K X : Type 0} {R : K → K → Ordering} → IsTotalOrder R → (m : FinMap R X) (k : K) (v : X) (n : ℕ) → len m ≤ n → len (insert m k v) ≤ n + 1
len_more total m k v n few =
    let same = len-insert total m k v in
    let most = either (contains_key m k) (len m) in omega (arith, same, most, few)
  where
    either : (b : Bool) (n : ℕ) → cond b n (n + 1) ≤ n + 1
    either true n = omega arith
    either false n = omega arith

-- names of different counters differ
names_apart : (a b : ℕ) → a < 16 → b < 16 → (a ≡ b → ⊥) → ◌≡◌ {A = List ℕ} (counter_name a) (counter_name b) → ⊥
names_apart a b la lb apart e =
    let tens : 48 + a / 10 ≡ 48 + b / 10 = cc in
    let ones : 48 + a % 10 ≡ 48 + b % 10 = cc in
    apart (omega (arith, tens, ones, la, lb))

-- ---- the counters

-- so many counters are made, and nothing else
pub record IsMadeTo (root : RunNo) (at c : ℕ) (s : Run) : Type 0 where
  pub number : s.number ≡ root
  pub moment : s.at ≡ at
  pub mode : s.mode ≡ Game
  pub objects_made : s.objects_made ≡ c
  pub tasks_made : s.tasks_made ≡ 0
  pub tasks : s.world.tasks ≡ empty
  pub names : (k : ℕ) → k < c → get s.world.names (counter_name k) ≡ Some (counter_id root k)
  pub counters : (k : ℕ) → k < c → get s.world.objects (counter_id root k) ≡ Some (counter_object 0)
  pub few_objects : len s.world.objects ≤ c
  pub bodies : (id : ObjectId) (object : Object) → get s.world.objects id ≡ Some object → length object.bytes ≤ 8
  pub few_names : len s.world.names ≤ c
  pub texts : (name : List ℕ) (id : ObjectId) → get s.world.names name ≡ Some id → length name ≤ 4

-- one counter more
abbrev with_counter : ℕ → Run → Run
with_counter c s = with_name (with_object (record s { objects_made = s.objects_made + 1 }) (next_id s) (Some (counter_object 0))) (counter_name c) (Some (next_id s))

make_is : (c : ℕ) (s : Run) → s.objects_made < OBJECTS_MOST_COUNT → make c s ≡ (Ok tt, with_counter c s)
unfolding make make_under create bind and_then
make_is c s few =
    let kind : is_reserved_kind s.mode COUNTER ≡ false = and_false (is_game s.mode) in
    let long : is_too_long (counter_bytes (record { count = 0 })) ≡ false = le-ltb BODY_MOST_BYTES _ (omega (arith, length-u64 0)) in
    let room : nat_le OBJECTS_MOST_COUNT s.objects_made ≡ false = lt-leb OBJECTS_MOST_COUNT s.objects_made few in
    let name : is_reserved_name s.mode (counter_name c) ≡ false = and_false (is_game s.mode) in
    rw (kind, long, room, name) refl

module _ (root : RunNo) (at c : ℕ) (s : Run) (m : IsMadeTo root at c s) (lt : c < 16) where
  id_is : next_id s ≡ counter_id root c
  id_is i = record { run = m.number i; k = m.objects_made i }

  abbrev t : Run
  t = with_counter c s

  other_id : (k : ℕ) → k < c → ◌≡◌ {A = ObjectId} (next_id s) (counter_id root k) → ⊥
  other_id k below same = let ks : s.objects_made ≡ k = ap (λ (id : ObjectId). id.k) same in let made = m.objects_made in omega (arith, ks, made, below)

  name_got : (k : ℕ) → k < c + 1 → get t.world.names (counter_name k) ≡ Some (counter_id root k)
  name_got k below = elim (eqb_tells k c) [
    | inl e ↦ ap (λ (j : ℕ). get t.world.names (counter_name j)) e.1 ∙ get-insert_here names_total s.world.names (counter_name c) (next_id s) ∙ ap Some id_is ∙ ap (λ (j : ℕ). Some (counter_id root j)) (sym e.1)
    | inr e ↦
        let lower : k < c = omega (arith, below, e.1) in
        get-insert_other names_total exact_names s.world.names (counter_name c) (next_id s) (counter_name k) (names_apart c k lt (omega (arith, lower, lt)) (λ same. e.1 (sym same))) ∙ m.names k lower
  ]

  counter_got : (k : ℕ) → k < c + 1 → get t.world.objects (counter_id root k) ≡ Some (counter_object 0)
  counter_got k below = elim (eqb_tells k c) [
    | inl e ↦ ap (get t.world.objects) (ap (counter_id root) e.1 ∙ sym id_is) ∙ get-insert_here ids_total s.world.objects (next_id s) (counter_object 0)
    | inr e ↦
        let lower : k < c = omega (arith, below, e.1) in
        get-insert_other ids_total exact_ids s.world.objects (next_id s) (counter_object 0) (counter_id root k) (other_id k lower) ∙ m.counters k lower
  ]

  made_next : IsMadeTo root at (c + 1) t
  made_next = record {
    number = m.number;
    moment = m.moment;
    mode = m.mode;
    objects_made = ap (λ n. n + 1) m.objects_made;
    tasks_made = m.tasks_made;
    tasks = m.tasks;
    names = name_got;
    counters = counter_got;
    few_objects = len_more ids_total s.world.objects (next_id s) (counter_object 0) c m.few_objects;
    bodies = λ id object e. elim (get-insert_cases ids_total exact_ids s.world.objects (next_id s) (counter_object 0) id object e) [
      | inl p ↦ subst (λ (o : Object). length o.bytes ≤ 8) p.1 (omega (arith, length-u64 0))
      | inr f ↦ m.bodies id object f
    ];
    few_names = len_more names_total s.world.names (counter_name c) (next_id s) c m.few_names;
    texts = λ name id e. elim (get-insert_cases names_total exact_names s.world.names (counter_name c) (next_id s) name id e) [
      | inl p ↦ subst (λ (n : List ℕ). length n ≤ 4) (sym p.0) (omega arith)
      | inr f ↦ m.texts name id f
    ];
  }

-- the act came to its end in such a run
pub record EndsIn (P : Run → Type 0) (r : Result (Unit {0}) AppFault × Run) : Type 0 where
  pub run : Run
  pub is : r ≡ (Ok tt, run)
  pub has : P run

makes : (root : RunNo) (at n c : ℕ) (s : Run) → IsMadeTo root at c s → c + n ≤ 16 → EndsIn (IsMadeTo root at (c + n)) (make_from c n s)
makes root at zero c s m most = record { run = s; is = done_ok s; has = subst (λ k. IsMadeTo root at k s) (sym (add-zero c)) m }
makes root at (suc n) c s m most =
    let few = m.objects_made in
    let one = make_is c s (omega (arith, few, most)) in
    let rest = makes root at n (c + 1) (with_counter c s) (made_next root at c s m (omega (arith, most))) (omega (arith, most)) in
    let same : c + 1 + n ≡ c + suc n = omega arith in
    record {
      run = rest.run;
      is = then_ok (make c) (λ _. make_from (c + 1) n) s (with_counter c s) tt one ∙ rest.is;
      has = subst (λ k. IsMadeTo root at k rest.run) same rest.has;
    }

-- ---- the tasks

-- so many tasks are planned, and the counters are as they were made
pub record IsPlannedTo (seed : ℕ) (root : RunNo) (at n : ℕ) (s : Run) : Type 0 where
  pub number : s.number ≡ root
  pub moment : s.at ≡ at
  pub tasks_made : s.tasks_made ≡ n
  pub names : (k : ℕ) → k < 16 → get s.world.names (counter_name k) ≡ Some (counter_id root k)
  pub counters : (k : ℕ) → k < 16 → get s.world.objects (counter_id root k) ≡ Some (counter_object 0)
  pub few_objects : len s.world.objects ≤ 16
  pub bodies : (id : ObjectId) (object : Object) → get s.world.objects id ≡ Some object → length object.bytes ≤ 8
  pub few_names : len s.world.names ≤ 16
  pub texts : (name : List ℕ) (id : ObjectId) → get s.world.names name ≡ Some id → length name ≤ 4
  pub tasks : (k : ℕ) → k < n → get s.world.tasks (task_key root k) ≡ Some (planned seed at k)
  pub only : (key : TaskKey) (task : Task) → get s.world.tasks key ≡ Some task → (k : ℕ) × (k < n) × (key ≡ task_key root k) × (task ≡ planned seed at k)
  pub few_tasks : len s.world.tasks ≤ n

none_pending : (tasks : TheTasks) (key : TaskKey) (task : Task) → ◌≡◌ {A = TheTasks} tasks empty → get tasks key ≡ Some task → ⊥
none_pending tasks key task none e = let is : None ≡ Some task = sym (ap (λ (m : TheTasks). get m key) none ∙ get-empty key_cmp key) ∙ e in absurd cc

-- none at first
none_planned : (seed : ℕ) (root : RunNo) (at : ℕ) (s : Run) → IsMadeTo root at 16 s → IsPlannedTo seed root at 0 s
none_planned seed root at s m = record {
  number = m.number;
  moment = m.moment;
  tasks_made = m.tasks_made;
  names = m.names;
  counters = m.counters;
  few_objects = m.few_objects;
  bodies = m.bodies;
  few_names = m.few_names;
  texts = m.texts;
  tasks = λ k below. absurd (omega (arith, below));
  only = λ key task e. absurd (none_pending s.world.tasks key task m.tasks e);
  few_tasks = let none : len s.world.tasks ≡ 0 = ap len m.tasks ∙ len-empty key_cmp Task in omega (arith, none);
}

abbrev with_plan : ℕ → ℕ → Run → Run
with_plan seed number s = with_task (record s { tasks_made = s.tasks_made + 1 }) (next_key s) (Some (record { due = s.at + 0; period = 0; kind = 1; arg = counter_of_task seed number ∷ [] }))

plan_is : (seed number : ℕ) (s : Run) → s.tasks_made < TASKS_MOST_COUNT → plan seed number s ≡ (Ok tt, with_plan seed number s)
unfolding plan schedule and_then give
plan_is seed number s few =
    let room : nat_le TASKS_MOST_COUNT s.tasks_made ≡ false = lt-leb TASKS_MOST_COUNT s.tasks_made few in
    rw room refl

module _ (seed : ℕ) (root : RunNo) (at n : ℕ) (s : Run) (m : IsPlannedTo seed root at n s) where
  key_is : next_key s ≡ task_key root n
  key_is i = record { run = m.number i; k = m.tasks_made i }

  abbrev made : Task
  made = record { due = s.at + 0; period = 0; kind = 1; arg = counter_of_task seed (n + 1) ∷ [] }

  task_is : made ≡ planned seed at n
  task_is = ap (λ (due : ℕ). record { due = due; period = 0; kind = 1; arg = counter_of_task seed (n + 1) ∷ [] }) (add-zero s.at ∙ m.moment)

  abbrev u : Run
  u = with_plan seed (n + 1) s

  other_key : (k : ℕ) → k < n → ◌≡◌ {A = TaskKey} (next_key s) (task_key root k) → ⊥
  other_key k below same = let ks : s.tasks_made ≡ k = ap (λ (key : TaskKey). key.k) same in let so_far = m.tasks_made in omega (arith, ks, so_far, below)

  task_got : (k : ℕ) → k < n + 1 → get u.world.tasks (task_key root k) ≡ Some (planned seed at k)
  task_got k below = elim (eqb_tells k n) [
    | inl e ↦ ap (get u.world.tasks) (ap (task_key root) e.1 ∙ sym key_is) ∙ get-insert_here keys_total s.world.tasks (next_key s) made ∙ ap Some task_is ∙ ap (λ (j : ℕ). Some (planned seed at j)) (sym e.1)
    | inr e ↦
        let lower : k < n = omega (arith, below, e.1) in
        get-insert_other keys_total exact_keys s.world.tasks (next_key s) made (task_key root k) (other_key k lower) ∙ m.tasks k lower
  ]

  only_got : (key : TaskKey) (task : Task) → get u.world.tasks key ≡ Some task → (k : ℕ) × (k < n + 1) × (key ≡ task_key root k) × (task ≡ planned seed at k)
  only_got key task e = elim (get-insert_cases keys_total exact_keys s.world.tasks (next_key s) made key task e) [
    | inl p ↦ (n, omega arith, p.0 ∙ key_is, sym p.1 ∙ task_is)
    | inr f ↦ let o = m.only key task f in let below = o.1 in (o.0, omega (arith, below), o.2, o.3)
  ]

  planned_next : IsPlannedTo seed root at (n + 1) u
  planned_next = record {
    number = m.number;
    moment = m.moment;
    tasks_made = ap (λ k. k + 1) m.tasks_made;
    names = m.names;
    counters = m.counters;
    few_objects = m.few_objects;
    bodies = m.bodies;
    few_names = m.few_names;
    texts = m.texts;
    tasks = task_got;
    only = only_got;
    few_tasks = len_more keys_total s.world.tasks (next_key s) made n m.few_tasks;
  }

plans : (seed : ℕ) (root : RunNo) (at n before : ℕ) (s : Run) → IsPlannedTo seed root at before s → before + n ≤ TASKS_MOST_COUNT → EndsIn (IsPlannedTo seed root at (before + n)) (plan_from seed before n s)
plans seed root at zero before s m most = record { run = s; is = done_ok s; has = subst (λ k. IsPlannedTo seed root at k s) (sym (add-zero before)) m }
plans seed root at (suc n) before s m most =
    let few = m.tasks_made in
    let one = plan_is seed (before + 1) s (omega (arith, few, most)) in
    let rest = plans seed root at n (before + 1) (with_plan seed (before + 1) s) (planned_next seed root at before s m) (omega (arith, most)) in
    let same : before + 1 + n ≡ before + suc n = omega arith in
    record {
      run = rest.run;
      is = then_ok (plan seed (before + 1)) (λ _. plan_from seed (before + 1) n) s (with_plan seed (before + 1) s) tt one ∙ rest.is;
      has = subst (λ k. IsPlannedTo seed root at k rest.run) same rest.has;
    }

zero_plus : (n : ℕ) → 0 + n ≡ n
zero_plus n = omega arith

-- the whole first run, from a run in which nothing is made
pub begins : (seed tasks : ℕ) (root : RunNo) (at : ℕ) (s : Run) → IsMadeTo root at 0 s → tasks ≤ TASKS_MOST_COUNT → EndsIn (IsPlannedTo seed root at tasks) (begin seed tasks s)
begins seed tasks root at s m most =
    let one = makes root at 16 0 s m (omega arith) in
    let rest = plans seed root at tasks 0 one.run (none_planned seed root at one.run one.has) (omega (arith, most)) in
    record {
      run = rest.run;
      is = then_ok (make_from 0 16) (λ _. plan_from seed 0 tasks) s one.run tt one.is ∙ rest.is;
      has = subst (λ k. IsPlannedTo seed root at k rest.run) (zero_plus tasks) rest.has;
    }
