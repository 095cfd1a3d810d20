-- All tasks in order, as a walk over the entries gives them.
use Rattle.std.proofs.Common.{◌≡◌, refl, sym, ap, ◌∙◌, List, [], ◌∷◌, ◌++◌, map, Bor}
use Rattle.std.proofs.lemmas.List.{append-nil}
use Rattle.std.specs.List.{AllByRecursion}
use Rattle.std.specs.FinMap.{FinMap, entries}
use Rattle.dk_types.specs.declared.number.TaskKey.{TaskKey}
use Rattle.dk_types.specs.declared.durable.Pending.{Pending}
use Rattle.dk_map.specs.Entries.{IsOrdered}
use Rattle.dk_model.specs.Keys.{key_cmp}
use Rattle.dk_model.specs.Effects.{pending_of}
use Rattle.dk_tasks.specs.Tasks.{Kept, bare, durable_tasks}
use Rattle.dk_tasks.specs.Places.{kept_entry, kept_tasks, IsKeyed}
use Rattle.dk_tasks.specs.declared.stored.Stored.{Stored}
use Rattle.dk_tasks.proofs.Durable.{entries-durable}
use Rattle.dk_tasks.proofs.Kept.{kept_entries}

-- what stands behind the references of an entry
abbrev pub behind : Bor TaskKey × Bor Stored → TaskKey × Stored
behind e = (e.0.now, e.1.now)

abbrev task_in : TaskKey × Stored → Pending
task_in e = e.1.task

-- the task behind them
abbrev pub task_behind : Bor TaskKey × Bor Stored → Pending
task_behind e = e.1.now.task

referred : (xs : List (Bor TaskKey × Bor Stored)) → map task_behind xs ≡ map task_in (map behind xs)
referred [] = refl
referred (x ∷ xs) = ap (λ t. x.1.now.task ∷ t) (referred xs)

-- tasks at their own keys are whole
whole : (es : List (TaskKey × Stored)) → AllByRecursion IsKeyed es → map task_in es ≡ map pending_of (map bare (map kept_entry es))
whole [] a = refl
whole (e ∷ es) a =
    λ i. (record { key = a.0 i; due = e.1.task.due; period = e.1.task.period; kind = e.1.task.kind; arg = e.1.task.arg }) ∷ whole es a.1 i

-- a walk that has nothing left has given all tasks of the durable world
pub walked : (m : FinMap key_cmp Kept) (es : List (TaskKey × Stored)) → kept_tasks es ≡ m → IsOrdered key_cmp es → AllByRecursion IsKeyed es
    → (list : List Pending) (rest all : List (Bor TaskKey × Bor Stored)) → list ++ map task_behind rest ≡ map task_behind all → rest ≡ [] → map behind all ≡ es
    → list ≡ map pending_of (entries (durable_tasks m))
walked m es v h a list rest all is ended e =
    sym (append-nil list) ∙ ap (λ r. list ++ map task_behind r) (sym ended) ∙ is
    ∙ referred all ∙ ap (map task_in) e ∙ whole es a ∙ ap (map pending_of) (ap (map bare) (sym (kept_entries es v h)) ∙ sym (entries-durable m))
