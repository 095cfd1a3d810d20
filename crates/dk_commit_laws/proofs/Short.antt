-- The net effects of a step are short.
use Rattle.std.proofs.Common.{◌≡◌, ℕ, ◌≤◌, T, Bool, true, false, cond, not, ◌&&◌, map, is_some, is_eq, nat_eq, Option, Some, None, Result, Ok, Err, List, [], ◌∷◌, length, refl, sym, ap, subst, ◌∙◌, inl, inr, arith}
use Rattle.std.proofs.lemmas.Bool.{cases_lt, lt-ltb}
use Rattle.std.proofs.lemmas.List.{length-map}
use Rattle.std.specs.List.{AllByRecursion, sum_by}
use Rattle.std.specs.Ordering.{is_lt, eq_by_cmp}
use Rattle.std.specs.declared.cmp.Ordering.{Ordering}
use Rattle.std.specs.declared.cmp.Ordering.TheVariants.{Less, Equal, Greater}
use Rattle.std.specs.Cmp.{IsTotalOrder, tied_itself}
use Rattle.std.specs.FinMap.{FinMap, IsAntisymmetric, get, entries_sorted, is_sorted, retain_keys, get-insert, get-remove}
use Rattle.std.specs.FinMap.Entries.{below_all}
use Rattle.dk_types.specs.declared.number.RunNo.{RunNo}
use Rattle.dk_types.specs.declared.number.TaskKey.{TaskKey}
use Rattle.dk_types.specs.declared.fault.AppFault.{AppFault}
use Rattle.dk_types.specs.declared.fault.AppFault.TheVariants.{TooLarge}
use Rattle.dk_types.specs.declared.fault.Outcome.TheVariants as outcome
use Rattle.dk_types.specs.declared.job.Job.{Job}
use Rattle.dk_types.specs.declared.job.Job.TheVariants as job
use Rattle.dk_model.specs.Keys.{key_cmp}
use Rattle.dk_model.specs.DurableWorlds.{DurableWorld, Task, with_value}
use Rattle.dk_model.specs.Effects.{same_id, same_object, same_value, set_in, gone_in, new_in, is_moved, moved_in, pending_of, effects, effects_length, object_length, binding_length, name_length, pending_length}
use Rattle.dk_model.specs.Events.{Meaning}
use Rattle.dk_model.specs.Runs.{Run, begun, with_task}
use Rattle.dk_model.specs.Steps.{Stepped, own_task, own_found, kept_by, failed, ended, is_too_large, step, work, game_part, next_due}
use Rattle.dk_model.proofs.Maps.{ids_total, exact_ids, names_total, exact_names, keys_total, exact_keys}
use Rattle.dk_laws.proofs.EffectsMade.{Kept, Tells, ids_told, objects_told, numbers_told}
use Rattle.dk_commit_laws.proofs.Spelled.{kept_all}

abbrev Short : DurableWorld → DurableWorld → Type 0
Short a b = effects_length (effects a b) ≤ 16777216

empty_of : {A : Type 0} (xs : List A) → AllByRecursion (λ _. ⊥) xs → xs ≡ []
empty_of [] h = refl
empty_of (x ∷ xs) h = absurd h.0

not_true : (b : Bool) → b ≡ true → b ≡ false → ⊥
not_true b is isnt = let t : true ≡ false = sym is ∙ isnt in absurd cc

equal_of : (o : Ordering) → is_eq o ≡ true → o ≡ Equal
equal_of Less h = absurd cc
equal_of Equal h = refl
equal_of Greater h = absurd cc

-- a sum over one item at most
sum_one : {A : Type 0} (f : A → ℕ) (n : ℕ) → ((x : A) → f x ≤ n) → (xs : List A) → length xs ≤ 1 → sum_by f xs ≤ n
sum_one f n most [] one = omega arith
sum_one f n most (x ∷ []) one = let h = most x in omega (arith, h)
sum_one f n most (x ∷ (y ∷ xs)) one = absurd (omega (arith, one))

module _ {K X : Type 0} {R : K → K → Ordering} (total : IsTotalOrder R) (exact : IsAntisymmetric R) where
  -- nothing of a map is kept where no key passes
  none_kept : (m : FinMap R X) (p : K → Bool) → ((k : K) (x : X) → get m k ≡ Some x → p k ≡ false) → Kept m p ≡ []
  none_kept m p none = empty_of (Kept m p) (kept_all total exact m p (λ _. ⊥) (λ k x is passes. not_true (p k) passes (none k x is)))

  one_of : (q : K) (es : List (K × X)) → T (is_sorted R es) → AllByRecursion (λ e. e.0 ≡ q) es → length es ≤ 1
  one_of q [] sorted all = omega arith
  one_of q (e ∷ []) sorted all = omega arith
  one_of q (e ∷ (f ∷ es)) sorted all =
      let tied : is_lt (R e.0 f.0) ≡ false = (λ i. is_lt (R (all.0 i) (all.1.0 i))) ∙ ap is_lt (tied_itself total q) in
      absurd (not_first (is_lt (R e.0 f.0)) (below_all R e.0 es) (is_sorted R (f ∷ es)) tied sorted)
    where
      not_first : (a b c : Bool) → a ≡ false → T ((a && b) && c) → ⊥
      not_first true b c isnt t = absurd cc
      not_first false b c isnt t = t

  -- and one at most where one key alone may pass
  one_kept : (m : FinMap R X) (p : K → Bool) (q : K) → ((k : K) (x : X) → get m k ≡ Some x → p k ≡ true → k ≡ q) → length (Kept m p) ≤ 1
  one_kept m p q only = one_of q (Kept m p) (entries_sorted (retain_keys m p)) (kept_all total exact m p (λ e. e.0 ≡ q) only)

  -- nothing differs from itself
  set_none : (same : X → X → Bool) → Tells same → (a : FinMap R X) → set_in same a a ≡ []
  unfolding set_in
  set_none same t a = none_kept a (λ k. not (same_value same (get a k) (get a k))) (λ k x is. ap (λ o. not (same_value same o o)) is ∙ ap not (t.itself x))

  gone_none : (a : FinMap R X) → gone_in a a ≡ []
  unfolding gone_in
  gone_none a = ap (map (λ e. e.0)) (none_kept a (λ k. not (is_some (get a k))) (λ k x is. ap (λ o. not (is_some o)) is))

  new_none : (a b : FinMap R X) → ((k : K) (x : X) → get b k ≡ Some x → is_some (get a k) ≡ true) → new_in a b ≡ []
  unfolding new_in
  new_none a b there = none_kept b (λ k. not (is_some (get a k))) (λ k x is. ap not (there k x is))

-- effects on one task at most are short
short_tasks : (a b : DurableWorld) → b.objects ≡ a.objects → b.names ≡ a.names → new_in a.tasks b.tasks ≡ [] → length (gone_in a.tasks b.tasks) ≤ 1 → length (moved_in a.tasks b.tasks) ≤ 1 → Short a b
short_tasks a b objects names new gone moved =
    let e = effects a b in
    let written : sum_by object_length e.written ≡ 0 = ap (λ m. sum_by object_length (set_in same_object a.objects m)) objects ∙ ap (sum_by object_length) (set_none ids_total exact_ids same_object objects_told a.objects) in
    let removed : sum_by (λ id. 12) e.removed ≡ 0 = ap (λ m. sum_by (λ id. 12) (gone_in a.objects m)) objects ∙ ap (sum_by (λ id. 12)) (gone_none ids_total exact_ids a.objects) in
    let bound : sum_by binding_length e.bound ≡ 0 = ap (λ m. sum_by binding_length (set_in same_id a.names m)) names ∙ ap (sum_by binding_length) (set_none names_total exact_names same_id ids_told a.names) in
    let unbound : sum_by name_length e.unbound ≡ 0 = ap (λ m. sum_by name_length (gone_in a.names m)) names ∙ ap (sum_by name_length) (gone_none names_total exact_names a.names) in
    let added : sum_by pending_length e.added ≡ 0 = ap (λ es. sum_by pending_length (map pending_of es)) new in
    let dropped : sum_by (λ key. 12) e.dropped ≤ 12 = sum_one (λ key. 12) 12 (λ x. omega arith) e.dropped gone in
    let requeued : sum_by (λ m. 20) e.requeued ≤ 20 = sum_one (λ m. 20) 20 (λ x. omega arith) e.requeued moved in
    omega (arith, written, removed, bound, unbound, added, dropped, requeued)

one_moved : (a b : FinMap key_cmp Task) (q : TaskKey) → ((k : TaskKey) (x : Task) → get b k ≡ Some x → is_moved (get a k) (get b k) ≡ true → k ≡ q) → length (moved_in a b) ≤ 1
unfolding moved_in
one_moved a b q only = let same = length-map {B = TaskKey × ℕ} (Kept b (λ k. is_moved (get a k) (get b k))) (λ (e : TaskKey × Task). (e.0, e.1.due)) in let one = one_kept keys_total exact_keys b (λ k. is_moved (get a k) (get b k)) q only in omega (arith, same, one)

one_gone : (a b : FinMap key_cmp Task) (q : TaskKey) → ((k : TaskKey) (x : Task) → get a k ≡ Some x → not (is_some (get b k)) ≡ true → k ≡ q) → length (gone_in a b) ≤ 1
unfolding gone_in
one_gone a b q only = let same = length-map (Kept a (λ k. not (is_some (get b k)))) (λ (e : TaskKey × Task). e.0) in let one = one_kept keys_total exact_keys a (λ k. not (is_some (get b k))) q only in omega (arith, same, one)

get-valued : (m : FinMap key_cmp Task) (key : TaskKey) (c : Option Task) (k : TaskKey) → get (with_value m key c) k ≡ cond (eq_by_cmp key_cmp k key) c (get m k)
get-valued m key None k = get-remove keys_total m key k
get-valued m key (Some t) k = get-insert keys_total m key t k

unmoved : (o : Option Task) → is_moved o o ≡ false
unmoved None = refl
unmoved (Some x) = ap not (numbers_told.itself x.due)

-- a value put under a key that has one
module _ (m : FinMap key_cmp Task) (key : TaskKey) (task : Task) (has : get m key ≡ Some task) (c : Option Task) where
  abbrev b : FinMap key_cmp Task
  b = with_value m key c

  at_key : (k : TaskKey) → eq_by_cmp key_cmp k key ≡ true → k ≡ key
  at_key k is = exact_keys k key (equal_of _ is)

  elsewhere : (k : TaskKey) → eq_by_cmp key_cmp k key ≡ false → get b k ≡ get m k
  elsewhere k is = get-valued m key c k ∙ ap (λ t. cond t c (get m k)) is

  by_key : (P : Type 0) (k : TaskKey) → (k ≡ key → P) → (get b k ≡ get m k → P) → P
  by_key P k here there = elim (eq_by_cmp key_cmp k key) as (λ t. eq_by_cmp key_cmp k key ≡ t → P) [
    | true ↦ λ is. here (at_key k is)
    | false ↦ λ is. there (elsewhere k is)
  ] refl

  valued_new : new_in m b ≡ []
  valued_new = new_none keys_total exact_keys m b (λ k x is. by_key (is_some (get m k) ≡ true) k (λ same. ap (λ q. is_some (get m q)) same ∙ ap is_some has) (λ same. ap is_some (sym same ∙ is)))

  valued_gone : length (gone_in m b) ≤ 1
  valued_gone = one_gone m b key (λ k x is none. by_key (k ≡ key) k (λ same. same) (λ same. absurd (not_true (not (is_some (get b k))) none (ap (λ o. not (is_some o)) (same ∙ is)))))

  valued_moved : length (moved_in m b) ≤ 1
  valued_moved = one_moved m b key (λ k x is moved. by_key (k ≡ key) k (λ same. same) (λ same. absurd (not_true (is_moved (get m k) (get b k)) moved (ap (is_moved (get m k)) same ∙ unmoved (get m k)))))

module _ (d : DurableWorld) where
  -- where no task is touched
  same_short : (b : DurableWorld) → b.objects ≡ d.objects → b.names ≡ d.names → b.tasks ≡ d.tasks → Short d b
  same_short b objects names tasks = short_tasks d b objects names
      (ap (new_in d.tasks) tasks ∙ new_none keys_total exact_keys d.tasks d.tasks (λ k x is. ap is_some is))
      (let same : length (gone_in d.tasks b.tasks) ≡ 0 = ap (λ m. length (gone_in d.tasks m)) tasks ∙ ap length (gone_none keys_total exact_keys d.tasks) in omega (arith, same))
      (one_moved d.tasks b.tasks (record { run = record { 0 = 0 }; k = 0 }) (λ k x is moved. absurd (not_true _ moved (ap (λ m. is_moved (get d.tasks k) (get m k)) tasks ∙ unmoved (get d.tasks k)))))

  value_short : (key : TaskKey) (task : Task) → get d.tasks key ≡ Some task → (c : Option Task) (b : DurableWorld) → b.objects ≡ d.objects → b.names ≡ d.names → b.tasks ≡ with_value d.tasks key c → Short d b
  value_short key task has c b objects names tasks = short_tasks d b objects names
      (ap (new_in d.tasks) tasks ∙ valued_new d.tasks key task has c)
      (subst (λ m. length (gone_in d.tasks m) ≤ 1) (sym tasks) (valued_gone d.tasks key task has c))
      (subst (λ m. length (moved_in d.tasks m) ≤ 1) (sym tasks) (valued_moved d.tasks key task has c))

  module _ (run : RunNo) (at : ℕ) where
    abbrev start : Run
    start = begun run at d

    own_short : (o : Option Task) (key : TaskKey) (due period : ℕ) → get d.tasks key ≡ o → Short d (own_found o key due period start).1.world
    own_short None key due period has = same_short start.world refl refl refl
    own_short (Some task) key due period has =
        elim (nat_eq period 0) as (λ t. Short d (cond {A = Result Bool AppFault × Run} t (Ok true, with_task start key None) (Ok true, record start { world = record (start.world) { tasks = with_value start.world.tasks key (Some (record task { due = next_due due period start.at })) } })).1.world) [
          | true ↦ value_short key task has None (with_task start key None).world refl refl refl
          | false ↦ value_short key task has (Some (record task { due = next_due due period at })) (record (start.world) { tasks = with_value start.world.tasks key (Some (record task { due = next_due due period at })) }) refl refl refl
        ]

    kept_short : (j : Job) → Short d (kept_by j start).world
    unfolding own_task
    kept_short (job.Task key due period kind arg) = own_short (get d.tasks key) key due period refl
    kept_short job.Initialize = same_short start.world refl refl refl
    kept_short (job.Login conn name) = same_short start.world refl refl refl
    kept_short (job.Message conn name body) = same_short start.world refl refl refl
    kept_short (job.Channel conn name channel body) = same_short start.world refl refl refl
    kept_short (job.Disconnect conn name graceful) = same_short start.world refl refl refl

    fits_in : (t : DurableWorld) → is_too_large d t ≡ false → Short d t
    unfolding is_too_large
    fits_in t small = elim (cases_lt 16777216 (effects_length (effects d t))) [
      | inl more ↦ absurd (not_true _ (lt-ltb 16777216 (effects_length (effects d t)) more) small)
      | inr most ↦ most
    ]

    ended_short : (j : Job) (r : Result (Unit {0}) AppFault) (t : Run) → Short d (ended j d start (r, t)).world
    ended_short j (Ok x) t =
        elim (is_too_large d t.world) as (λ b. is_too_large d t.world ≡ b → Short d (cond {A = Stepped} b (failed j start TooLarge) (record { outcome = outcome.Ok; world = t.world; touched = t.touched; outs = t.outs })).world) [
          | true ↦ λ _. kept_short j
          | false ↦ λ small. fits_in t.world small
        ] refl
    ended_short j (Err fault) t = kept_short j

pub step_short : (rules : Meaning) (j : Job) (run : RunNo) (at : ℕ) (d : DurableWorld) → effects_length (effects d (step rules j run at d).world) ≤ 16777216
step_short rules j run at d = let end = work (game_part rules) j (begun run at d) in ended_short d run at j end.0 end.1
