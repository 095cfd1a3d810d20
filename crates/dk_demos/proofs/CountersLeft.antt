-- How many of the planned tasks are pending: all at first, one fewer after each commit of one, and none in the end.
use Rattle.std.proofs.Common.{◌≡◌, ℕ, ◌+◌, ◌<◌, ◌≤◌, zero, suc, Bool, true, cond, ◌&&◌, nat_eq, is_some, Option, Some, None, refl, sym, ap, ◌∙◌, inl, inr, arith, count_by}
use Rattle.std.specs.FinMap.{FinMap, get, remove, contains_key}
use Rattle.std.proofs.lemmas.List.Sums.{sum_by-cons}
use Rattle.std.proofs.lemmas.Bool.Decides.{eqb_tells}
use Rattle.dk_types.specs.declared.number.RunNo.{RunNo}
use Rattle.dk_types.specs.declared.number.TaskKey.{TaskKey}
use Rattle.dk_model.specs.Keys.{key_cmp}
use Rattle.dk_model.specs.DurableWorlds.{Task}
use Rattle.dk_model.proofs.Maps.{keys_total, exact_keys, get-remove_here, get-remove_other}
use Rattle.dk_demos.specs.CountersRules.{counter_of_task}
use Rattle.dk_demos.specs.CountersTotals.{generated_from}

abbrev pub TheTasks : Type 0
TheTasks = FinMap key_cmp Task

-- the key of the task behind so many
abbrev pub task_key : RunNo → ℕ → TaskKey
task_key root before = record { run = root; k = before }

abbrev pub one_if : Bool → ℕ
one_if b = cond b 1 0

-- of so many tasks behind the first ones, how many are pending and pass the test
abbrev pub left : TheTasks → RunNo → (ℕ → Bool) → ℕ → ℕ → ℕ
left tasks root test before zero = 0
left tasks root test before (suc n) = one_if (contains_key tasks (task_key root before) && test before) + left tasks root test (before + 1) n

-- where none is pending, none is left
pub left_none : (tasks : TheTasks) (root : RunNo) (test : ℕ → Bool) (before n : ℕ) → ((key : TaskKey) → get tasks key ≡ None) → left tasks root test before n ≡ 0
left_none tasks root test before zero none = refl
left_none tasks root test before (suc n) none =
    let rest = left_none tasks root test (before + 1) n none in
    let here : one_if (contains_key tasks (task_key root before) && test before) ≡ 0 = ap (λ (o : Option Task). one_if (is_some o && test before)) (none (task_key root before)) in omega (arith, rest, here)

-- where all are pending, all are left that pass
pub left_all : (tasks : TheTasks) (root : RunNo) (seed counter before n : ℕ) → ((k : ℕ) → before ≤ k → k < before + n → contains_key tasks (task_key root k) ≡ true)
    → left tasks root (λ k. nat_eq (counter_of_task seed (k + 1)) counter) before n ≡ count_by (λ item. nat_eq item counter) (generated_from seed before n)
unfolding generated_from
left_all tasks root seed counter before zero all = refl
left_all tasks root seed counter before (suc n) all =
    let test : ℕ → Bool = λ item. nat_eq item counter in
    let rest = left_all tasks root seed counter (before + 1) n (λ k low high. all k (omega (arith, low)) (omega (arith, high))) in
    let here : one_if (contains_key tasks (task_key root before) && test (counter_of_task seed (before + 1))) ≡ one_if (test (counter_of_task seed (before + 1))) =
    ap (λ b. one_if (b && test (counter_of_task seed (before + 1)))) (all before (omega arith) (omega arith)) in
    let sum = sum_by-cons (λ item. cond (test item) 1 0) (counter_of_task seed (before + 1)) (generated_from seed (before + 1) n) in
    omega (arith, rest, here, sum)

-- where all are pending, as many are left
pub left_each : (tasks : TheTasks) (root : RunNo) (before n : ℕ) → ((k : ℕ) → before ≤ k → k < before + n → contains_key tasks (task_key root k) ≡ true) → left tasks root (λ k. true) before n ≡ n
left_each tasks root before zero all = refl
left_each tasks root before (suc n) all =
    let rest = left_each tasks root (before + 1) n (λ k low high. all k (omega (arith, low)) (omega (arith, high))) in
    let here : one_if (contains_key tasks (task_key root before) && true) ≡ 1 = ap (λ b. one_if (b && true)) (all before (omega arith) (omega arith)) in
    omega (arith, rest, here)

module _ (tasks : TheTasks) (root : RunNo) (test : ℕ → Bool) (gone : ℕ) where
  apart : (k : ℕ) → (gone ≡ k → ⊥) → ◌≡◌ {A = TaskKey} (task_key root gone) (task_key root k) → ⊥
  apart k other same = other (ap (λ (key : TaskKey). key.k) same)

  other_left : (k : ℕ) → (gone ≡ k → ⊥) → one_if (contains_key (remove tasks (task_key root gone)) (task_key root k) && test k) ≡ one_if (contains_key tasks (task_key root k) && test k)
  other_left k other = ap (λ (o : Option Task). one_if (is_some o && test k)) (get-remove_other keys_total exact_keys tasks (task_key root gone) (task_key root k) (apart k other))

  -- tasks that come later are left as before
  later_left : (before n : ℕ) → gone < before → left (remove tasks (task_key root gone)) root test before n ≡ left tasks root test before n
  later_left before zero lt = refl
  later_left before (suc n) lt =
      let rest = later_left (before + 1) n (omega (arith, lt)) in
      let here = other_left before (λ same. omega (arith, lt, same)) in omega (arith, rest, here)

  -- one fewer is left, where it passed
  pub left_removed : (task : Task) (before n : ℕ) → get tasks (task_key root gone) ≡ Some task → before ≤ gone → gone < before + n
      → left (remove tasks (task_key root gone)) root test before n + one_if (test gone) ≡ left tasks root test before n
  left_removed task before zero there low high = absurd (omega (arith, low, high))
  left_removed task before (suc n) there low high = elim (eqb_tells gone before) [
    | inl t ↦
        let rest = later_left (before + 1) n (omega (arith, t.1)) in
        let was : one_if (contains_key tasks (task_key root before) && test before) ≡ one_if (test before) =
        ap (λ (o : Option Task). one_if (is_some o && test before)) (ap (λ (k : ℕ). get tasks (task_key root k)) (sym t.1) ∙ there) in
        let now : one_if (contains_key (remove tasks (task_key root gone)) (task_key root before) && test before) ≡ 0 =
        ap (λ (o : Option Task). one_if (is_some o && test before)) (ap (λ (k : ℕ). get (remove tasks (task_key root gone)) (task_key root k)) (sym t.1) ∙ get-remove_here keys_total tasks (task_key root gone)) in
        let same : one_if (test gone) ≡ one_if (test before) = ap (λ (k : ℕ). one_if (test k)) t.1 in
        omega (arith, rest, was, now, same)
    | inr t ↦
        let rest = left_removed task (before + 1) n there (omega (arith, low, t.1)) (omega (arith, high)) in
        let here = other_left before t.1 in omega (arith, rest, here)
  ]
