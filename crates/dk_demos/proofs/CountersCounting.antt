-- What holds of the durable world between the commits of the counters: pending tasks and raised counters together are the totals.
use Rattle.std.proofs.Common.{◌≡◌, ℕ, ◌+◌, ◌-◌, ◌^◌, ◌<◌, ◌≤◌, zero, suc, Bool, true, false, cond, length, nat_eq, is_some, Some, None, [], ◌∷◌, Result, Ok, refl, sym, ap, subst, ◌∙◌, inl, inr, arith}
use Rattle.std.specs.FinMap.{FinMap, get, len, insert, remove, contains_key, get-empty, len-empty, len-insert, len-remove}
use Rattle.std.proofs.lemmas.Bool.{eq-eqb, ne_eqb}
use Rattle.std.proofs.lemmas.Bool.Decides.{eqb_tells}
use Rattle.std.proofs.lemmas.List.Sums.{count_by-le-length}
use Rattle.dk_types.specs.declared.number.RunNo.{RunNo}
use Rattle.dk_types.specs.declared.number.ObjectId.{ObjectId}
use Rattle.dk_types.specs.declared.number.TaskKey.{TaskKey}
use Rattle.dk_types.specs.declared.object.Object.{Object}
use Rattle.dk_types.specs.declared.job.Job.{Job}
use Rattle.dk_types.specs.declared.job.Job.TheVariants as job
use Rattle.dk_types.specs.declared.fault.AppFault.{AppFault}
use Rattle.dk_types.specs.declared.fault.AppFault.TheVariants.{TooLarge}
use Rattle.dk_types.specs.declared.fault.Outcome.TheVariants as outcome
use Rattle.dk_types.specs.declared.limits.TheConstants.{TASKS_MOST_COUNT}
use Rattle.dk_types.specs.declared.mode.Mode.TheVariants.{Game}
use Rattle.dk_types.specs.Names.{bytes_cmp}
use Rattle.dk_wire.proofs.LengthLaws.{length-u64}
use Rattle.dk_model.specs.Keys.{id_cmp, key_cmp}
use Rattle.dk_model.specs.DurableWorlds.{DurableWorld, Task, empty_world}
use Rattle.dk_model.specs.Runs.{Run, Act, begun, give, within, with_task}
use Rattle.dk_model.specs.Steps.{Stepped, own_task, work, game_part, failed, ended, is_too_large, step}
use Rattle.dk_model.proofs.Maps.{ids_total, exact_ids, keys_total, exact_keys, get-insert_here, get-insert_other, get-insert_cases, get-remove_cases, get-remove_other}
use Rattle.dk_model.proofs.StepLaws.{step_goes_on}
use Rattle.dk_demos.specs.Counting.{COUNTER, counter_bytes, raised}
use Rattle.dk_demos.specs.CountersRules.{counter_name, counter_of_task, begin, counters_rules}
use Rattle.dk_demos.specs.CountersLawful.{counters_lawful}
use Rattle.dk_demos.specs.CountersTotals.{generated_from, plain_count}
use Rattle.dk_demos.proofs.CountersLeft.{task_key, one_if, left, left_all, left_each, left_removed}
use Rattle.dk_demos.proofs.SmallWorlds.{IsSmallWorld, small_effects}
use Rattle.dk_demos.proofs.CountersBegin.{counter_id, counter_object, planned, then_ok, IsMadeTo, EndsIn, IsPlannedTo, begins}
use Rattle.dk_demos.proofs.CountersRaise.{with_raised, raises}

-- whether the task behind so many raises this counter
abbrev pub raises_this : ℕ → ℕ → ℕ → Bool
raises_this seed counter before = nat_eq (counter_of_task seed (before + 1)) counter

-- a counter was raised by those of its tasks that are no longer pending
pub record IsCounted (seed tasks : ℕ) (root : RunNo) (d : DurableWorld) (c : ℕ) : Type 0 where
  pub count : ℕ
  pub object : get d.objects (counter_id root c) ≡ Some (counter_object count)
  pub total : count + left d.tasks root (raises_this seed c) 0 tasks ≡ plain_count seed tasks c

-- the counters are made and the tasks planned, and the tasks that are no longer pending were committed
pub record IsCounting (seed tasks : ℕ) (root : RunNo) (at : ℕ) (d : DurableWorld) : Type 0 where
  pub names : (c : ℕ) → c < 16 → get d.names (counter_name c) ≡ Some (counter_id root c)
  pub counters : (c : ℕ) → c < 16 → IsCounted seed tasks root d c
  pub pending : (key : TaskKey) (task : Task) → get d.tasks key ≡ Some task → (k : ℕ) × (k < tasks) × (key ≡ task_key root k) × (task ≡ planned seed at k)
  pub committed : d.commits + left d.tasks root (λ k. true) 0 tasks ≡ tasks + 1
  pub some : 1 ≤ d.commits
  pub small : IsSmallWorld d

generated_length : (seed before n : ℕ) → length (generated_from seed before n) ≡ n
unfolding generated_from
generated_length seed before zero = refl
generated_length seed before (suc n) = let rest = generated_length seed (before + 1) n in omega (arith, rest)

-- no counter is in the list more often than there are tasks
pub plain_most : (seed tasks c : ℕ) → plain_count seed tasks c ≤ tasks
plain_most seed tasks c = let most = count_by-le-length (λ item. nat_eq item c) (generated_from seed 0 tasks) in let same = generated_length seed 0 tasks in omega (arith, most, same)

-- a run whose work came to its end, and whose effects may be written
stepped : (j : Job) (d : DurableWorld) (start t : Run) (r : Result (Unit {0}) AppFault × Run) → r ≡ (Ok tt, t) → is_too_large d t.world ≡ false → (ended j d start r).world ≡ t.world
stepped j d start t r is fits =
    ap (λ (p : Result (Unit {0}) AppFault × Run). (ended j d start p).world) is
    ∙ ap (λ b. (cond {A = Stepped} b (failed j start TooLarge) (record { outcome = outcome.Ok; world = t.world; touched = t.touched; outs = t.outs })).world) fits

empty_small : (d : DurableWorld) → ◌≡◌ {A = DurableWorld} d empty_world → IsSmallWorld d
empty_small d is = subst IsSmallWorld (sym is) record {
  objects = let none = len-empty id_cmp Object in omega (arith, none);
  bodies = λ id object e. let no : None ≡ Some object = sym (get-empty id_cmp id) ∙ e in absurd cc;
  names = let none = len-empty bytes_cmp ObjectId in omega (arith, none);
  texts = λ name id e. let no : None ≡ Some id = sym (get-empty bytes_cmp name) ∙ e in absurd cc;
  tasks = let none = len-empty key_cmp Task in omega (arith, none);
  args = λ key task e. let no : None ≡ Some task = sym (get-empty key_cmp key) ∙ e in absurd cc;
}

-- in the game's mode, and back
within_ok : (act : Act (Unit {0})) (s t : Run) → act (record s { mode = Game }) ≡ (Ok tt, t) → within Game act s ≡ (Ok tt, record t { mode = s.mode })
unfolding within
within_ok act s t e = ap (λ (p : Result (Unit {0}) AppFault × Run). (p.0, record (p.1) { mode = s.mode })) e

module _ (seed tasks : ℕ) (few : tasks ≤ TASKS_MOST_COUNT) (run : RunNo) (at : ℕ) where
  abbrev rules : Job → Act (Unit {0})
  rules = counters_rules seed tasks

  -- ---- the first run

  abbrev start : Run
  start = begun run at empty_world

  none_made : IsMadeTo run at 0 (record start { mode = Game })
  none_made = record {
    number = refl;
    moment = refl;
    mode = refl;
    objects_made = refl;
    tasks_made = refl;
    tasks = refl;
    names = λ k below. absurd (omega (arith, below));
    counters = λ k below. absurd (omega (arith, below));
    few_objects = let none = len-empty id_cmp Object in omega (arith, none);
    bodies = λ id object e. let no : None ≡ Some object = sym (get-empty id_cmp id) ∙ e in absurd cc;
    few_names = let none = len-empty bytes_cmp ObjectId in omega (arith, none);
    texts = λ name id e. let no : None ≡ Some id = sym (get-empty bytes_cmp name) ∙ e in absurd cc;
  }

  first : EndsIn (IsPlannedTo seed run at tasks) (begin seed tasks (record start { mode = Game }))
  first = begins seed tasks run at (record start { mode = Game }) none_made few

  planned_small : (t : Run) → IsPlannedTo seed run at tasks t → IsSmallWorld t.world
  planned_small t m = record {
    objects = m.few_objects;
    bodies = m.bodies;
    names = m.few_names;
    texts = m.texts;
    tasks = let most = m.few_tasks in omega (arith, most, few);
    args = λ key task e. let o = m.only key task e in subst (λ (x : Task). length x.arg ≤ 1) (sym o.3) (omega arith);
  }

  all_pending : (t : Run) → IsPlannedTo seed run at tasks t → (k : ℕ) → 0 ≤ k → k < 0 + tasks → contains_key t.world.tasks (task_key run k) ≡ true
  all_pending t m k low high = ap is_some (m.tasks k (omega (arith, high)))

  first_world : (step rules job.Initialize run at empty_world).world ≡ first.run.world
  first_world =
      stepped job.Initialize empty_world start (record (first.run) { mode = start.mode }) (work (game_part rules) job.Initialize start) (within_ok (rules job.Initialize) start first.run first.is)
      (small_effects empty_world first.run.world (empty_small empty_world refl) (planned_small first.run first.has))

  -- after the first run all tasks are pending, and the counters are at 0
  pub first_counting : IsCounting seed tasks run at (step rules job.Initialize run at empty_world).world
  first_counting =
      let m = first.has in
      let t = first.run in
      let goes = step_goes_on rules (counters_lawful seed tasks) job.Initialize run at empty_world in
      let one : t.world.commits ≡ 1 = ap (λ (d : DurableWorld). d.commits) (sym first_world) ∙ goes.commits in
      let all = left_each t.world.tasks run 0 tasks (all_pending t m) in
      subst (IsCounting seed tasks run at) (sym first_world) record {
        names = m.names;
        counters = λ c lt. record {
          count = 0;
          object = m.counters c lt;
          total = let each = left_all t.world.tasks run seed c 0 tasks (all_pending t m) in omega (arith, each);
        };
        pending = m.only;
        committed = omega (arith, one, all);
        some = omega (arith, one);
        small = planned_small t m;
      }

module _ (seed tasks : ℕ) (few : tasks ≤ TASKS_MOST_COUNT) (root : RunNo) (due : ℕ) (d : DurableWorld) (m : IsCounting seed tasks root due d) (k : ℕ) (there : get d.tasks (task_key root k) ≡ Some (planned seed due k)) (run : RunNo) (at : ℕ) where
  -- ---- a task

  abbrev key : TaskKey
  key = task_key root k

  abbrev counter : ℕ
  counter = counter_of_task seed (k + 1)

  abbrev j : Job
  j = job.Task key due 0 1 (counter ∷ [])

  abbrev game : Job → Act (Unit {0})
  game = counters_rules seed tasks

  below : counter < 16
  below = omega arith

  counted : IsCounted seed tasks root d counter
  counted = m.counters counter below

  abbrev id : ObjectId
  id = counter_id root counter

  abbrev begin_run : Run
  begin_run = begun run at d

  -- the task is gone, and the game has its turn
  abbrev taken : Run
  taken = with_task begin_run key None

  abbrev ended_run : Run
  ended_run = with_raised id counted.count (record taken { mode = Game })

  count_fits : counted.count < 2 ^ 64
  count_fits = let total = counted.total in let most = plain_most seed tasks counter in omega (arith, total, most, few)

  takes : own_task key due 0 begin_run ≡ (Ok true, taken)
  unfolding own_task
  takes = rw there refl

  worked : work (game_part game) j begin_run ≡ (Ok tt, record ended_run { mode = begin_run.mode })
  worked =
      then_ok (own_task key due 0) (λ pending. cond pending (game_part game j) (give (Ok tt))) begin_run taken true takes
      ∙ within_ok (game j) taken ended_run (raises counter id counted.count (record taken { mode = Game }) below count_fits (m.names counter below) counted.object)

  abbrev after : DurableWorld
  after = ended_run.world

  abbrev once : Object
  once = counter_object counted.count

  abbrev more : Object
  more = record { kind = COUNTER; bytes = counter_bytes (raised (record { count = counted.count })) }

  got_more : get after.objects id ≡ Some (counter_object (counted.count + 1))
  got_more =
      get-insert_here ids_total (insert d.objects id once) id more
      ∙ ap (λ (n : ℕ). Some (counter_object n)) (omega (arith, count_below))
    where
      count_below : counted.count + 1 ≤ 2 ^ 64 - 1
      count_below = let total = counted.total in let most = plain_most seed tasks counter in omega (arith, total, most, few)

  got_same : (c : ℕ) → (counter ≡ c → ⊥) → get after.objects (counter_id root c) ≡ get d.objects (counter_id root c)
  got_same c apart =
      let other : ◌≡◌ {A = ObjectId} id (counter_id root c) → ⊥ = λ same. apart (ap (λ (i : ObjectId). i.k) same) in
      get-insert_other ids_total exact_ids (insert d.objects id once) id more (counter_id root c) other ∙ get-insert_other ids_total exact_ids d.objects id once (counter_id root c) other

  k_below : k < tasks
  k_below = let p = m.pending key (planned seed due k) there in let same : k ≡ p.0 = ap (λ (q : TaskKey). q.k) p.2 in let lt = p.1 in omega (arith, same, lt)

  fewer : (test : ℕ → Bool) → left after.tasks root test 0 tasks + one_if (test k) ≡ left d.tasks root test 0 tasks
  fewer test = left_removed d.tasks root test k (planned seed due k) 0 tasks there (omega arith) (omega (arith, k_below))

  counted_after : (c : ℕ) → c < 16 → IsCounted seed tasks root after c
  counted_after c lt = elim (eqb_tells counter c) [
    | inl e ↦
        let total = counted.total in
        let one = fewer (raises_this seed counter) in
        let passes : one_if (raises_this seed counter k) ≡ 1 = ap one_if (eq-eqb counter counter refl) in
        subst (IsCounted seed tasks root after) e.1 record { count = counted.count + 1; object = got_more; total = omega (arith, total, one, passes) }
    | inr e ↦
        let was = m.counters c lt in
        let total = was.total in
        let one = fewer (raises_this seed c) in
        let passes : one_if (raises_this seed c k) ≡ 0 = ap one_if (ne_eqb counter c e.1) in
        record { count = was.count; object = got_same c e.1 ∙ was.object; total = omega (arith, total, one, passes) }
  ]

  len_again : (o : Object) (objects : FinMap id_cmp Object) → len objects ≤ 16 → contains_key objects id ≡ true → len (insert objects id o) ≤ 16
  len_again o objects most has = let same = len-insert ids_total objects id o ∙ ap (λ b. cond b (len objects) (len objects + 1)) has in omega (arith, same, most)

  len_less : (b : Bool) (n : ℕ) → cond b (n - 1) n ≤ n
  len_less true n = omega arith
  len_less false n = omega arith

  small_after : IsSmallWorld after
  small_after = record {
    objects = len_again more (insert d.objects id once) (len_again once d.objects m.small.objects (ap is_some counted.object)) (ap is_some (get-insert_here ids_total d.objects id once));
    bodies = λ i object e. elim (get-insert_cases ids_total exact_ids (insert d.objects id once) id more i object e) [
      | inl p ↦ subst (λ (o : Object). length o.bytes ≤ 8) p.1 (omega (arith, length-u64 (raised (record { count = counted.count })).count))
      | inr f ↦ elim (get-insert_cases ids_total exact_ids d.objects id once i object f) [
        | inl p ↦ subst (λ (o : Object). length o.bytes ≤ 8) p.1 (omega (arith, length-u64 counted.count))
        | inr g ↦ m.small.bodies i object g
      ]
    ];
    names = m.small.names;
    texts = m.small.texts;
    tasks = let most = m.small.tasks in let same = len-remove keys_total d.tasks key in let less = len_less (contains_key d.tasks key) (len d.tasks) in omega (arith, most, same, less);
    args = λ q task e. m.small.args q task (get-remove_cases keys_total exact_keys d.tasks key q task e);
  }

  stepped_world : (step game j run at d).world ≡ after
  stepped_world = stepped j d begin_run (record ended_run { mode = begin_run.mode }) (work (game_part game) j begin_run) worked (small_effects d after m.small small_after)

  -- after a task one fewer is pending, and its counter is one more
  pub task_counting : IsCounting seed tasks root due (step game j run at d).world
  task_counting =
      let goes = step_goes_on game (counters_lawful seed tasks) j run at d in
      let one_more : after.commits ≡ d.commits + 1 = ap (λ (w : DurableWorld). w.commits) (sym stepped_world) ∙ goes.commits in
      let committed = m.committed in
      let less = fewer (λ i. true) in
      subst (IsCounting seed tasks root due) (sym stepped_world) record {
        names = m.names;
        counters = counted_after;
        pending = λ q task e. m.pending q task (get-remove_cases keys_total exact_keys d.tasks key q task e);
        committed = omega (arith, committed, one_more, less);
        some = omega (arith, one_more);
        small = small_after;
      }

  -- and the other tasks are pending still
  pub others_pending : (q : TaskKey) (task : Task) → (key ≡ q → ⊥) → get d.tasks q ≡ Some task → get (step game j run at d).world.tasks q ≡ Some task
  others_pending q task apart e = ap (λ (w : DurableWorld). get w.tasks q) stepped_world ∙ other_task ∙ e where
    other_task : get (remove d.tasks key) q ≡ get d.tasks q
    other_task = get-remove_other keys_total exact_keys d.tasks key q apart
