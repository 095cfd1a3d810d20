-- The due task that comes first is there.
use Rattle.std.proofs.Common.{◌≡◌, ℕ, Bool, true, false, cond, map, Some, List, [], ◌∷◌, is_some, sym, ap}
use Rattle.std.specs.List.{AllByRecursion, filter}
use Rattle.std.specs.FinMap.{FinMap, entries, contains_key}
use Rattle.dk_types.specs.declared.number.TaskKey.{TaskKey}
use Rattle.dk_model.specs.Keys.{key_cmp}
use Rattle.dk_model.specs.Picks.{least, is_sooner}
use Rattle.dk_model.proofs.Maps.{keys_total}
use Rattle.dk_laws.proofs.Entries.{all_entries}
use Rattle.dk_laws.proofs.Picked.{least_has, mapped_has}
use Rattle.dk_tasks.specs.Tasks.{Kept, bare}
use Rattle.dk_tasks.specs.Due.{is_due, due_tasks, least_due}

-- what is true of each item as it is mapped is true of those that are left
all_left : {A B : Type 0} (P : B → Type 0) (f : A → B) (test : A → Bool) (xs : List A) → AllByRecursion (λ x. P (f x)) xs → AllByRecursion P (map f (filter test xs))
all_left P f test [] p = tt
all_left P f test (x ∷ xs) p =
    let rest = all_left P f test xs p.1 in
    elim (test x) as (λ b. AllByRecursion P (map f (cond b (x ∷ filter test xs) (filter test xs)))) [ true ↦ (p.0, rest) | false ↦ rest ]

pub due_there : (at : ℕ) (m : FinMap key_cmp Kept) (key : TaskKey) → Some key ≡ least_due at m → contains_key m key ≡ true
due_there at m key is =
    mapped_has (λ k. contains_key m k ≡ true) (λ e. e.0) (least is_sooner (due_tasks at m))
    (least_has (λ e. contains_key m e.0 ≡ true) is_sooner (due_tasks at m) (all_left (λ e. contains_key m e.0 ≡ true) bare (is_due at) (entries m) (all_entries keys_total (λ e. contains_key m e.0 ≡ true) m (λ k t e. ap is_some e))))
    key (sym is)
