-- What changes come to, as lists in the order of their keys.
use Rattle.std.specs.Prelude.{ℕ, Bool, is_some, nat_eq, if◌then◌else◌, Option, Some, None, List, [], ◌∷◌}
use Rattle.dk_types.specs.Values.{Task}
use Rattle.dk_types.specs.Values.{same_value}
use Rattle.dk_overlay.specs.declared.change.Change.{Change}
use Rattle.dk_overlay.specs.declared.change.TaskChange.{TaskChange}
use Rattle.dk_overlay.specs.declared.change.TaskChange.TheVariants.{Added, Withdrawn, Dropped, Moved}
use Rattle.dk_overlay.specs.Changes.{task_made}

-- an entry put before others, if it has a value
abbrev pub picked_one : {K X : Type 0} → K → Option X → List (K × X) → List (K × X)
picked_one k None rest = rest
picked_one k (Some x) rest = (k, x) ∷ rest

-- the entries for which f gives a value, with that value
abbrev pub picked : {K C X : Type 0} → (C → Option X) → List (K × C) → List (K × X)
picked f [] = []
picked f (e ∷ es) = picked_one e.0 (f e.1) (picked f es)

-- the value that a change leaves, where it is another one
abbrev pub newly_set : {X : Type 0} → (X → X → Bool) → Change X → Option X
newly_set same c = if same_value same c.before c.after then None else c.after

-- the value that a change took away
abbrev pub taken_away : {X : Type 0} → Change X → Option X
taken_away c = if is_some c.after then None else c.before

-- the task that a change added
abbrev pub task_added : TaskChange → Option Task
task_added (Added s) = Some (task_made s)
task_added Withdrawn = None
task_added Dropped = None
task_added (Moved from to) = None

-- whether it dropped one
abbrev pub task_dropped : TaskChange → Option (Unit {0})
task_dropped (Added s) = None
task_dropped Withdrawn = None
task_dropped Dropped = Some tt
task_dropped (Moved from to) = None

-- the other due moment that it gave one
abbrev pub task_moved : TaskChange → Option ℕ
task_moved (Added s) = None
task_moved Withdrawn = None
task_moved Dropped = None
task_moved (Moved from to) = if nat_eq from to then None else Some to
