-- What a change makes of what stood at its key.
use Rattle.std.specs.Prelude.{ℕ, Bool, true, false, Option, Some, None, List, [], ◌∷◌}
use Rattle.std.specs.declared.cmp.Ordering.{Ordering}
use Rattle.std.specs.FinMap as map
use Rattle.dk_types.specs.Values.{Task}
use Rattle.dk_overlay.specs.declared.change.Change.{Change}
use Rattle.dk_overlay.specs.declared.change.Scheduled.{Scheduled}
use Rattle.dk_overlay.specs.declared.change.TaskChange.{TaskChange}
use Rattle.dk_overlay.specs.declared.change.TaskChange.TheVariants.{Added, Withdrawn, Dropped, Moved}

-- the value that a change leaves, whatever stood there
abbrev pub value_now : {X : Type 0} → Change X → Option X → Option X
value_now c x = c.after

-- a scheduled task but for its key
abbrev pub task_made : Scheduled → Task
task_made s = record { due = s.due; period = s.period; kind = s.kind; arg = s.arg }

-- a task with another due moment
abbrev pub moved_to : ℕ → Option Task → Option Task
moved_to to None = None
moved_to to (Some task) = Some (record task { due = to })

-- the task that a change leaves of what stood there
abbrev pub task_now : TaskChange → Option Task → Option Task
task_now (Added s) x = Some (task_made s)
task_now Withdrawn x = None
task_now Dropped x = None
task_now (Moved from to) x = moved_to to x

-- whether the task was pending before the run
abbrev pub stood : TaskChange → Bool
stood (Added s) = false
stood Withdrawn = false
stood Dropped = true
stood (Moved from to) = true

-- whether it is pending now, where the change alone tells it: a moved task is pending where it was before the run
abbrev pub settled : Option TaskChange → Option Bool
settled None = None
settled (Some (Added s)) = Some true
settled (Some Withdrawn) = Some false
settled (Some Dropped) = Some false
settled (Some (Moved from to)) = None

-- the change after a task was taken away, by what the run had done to it
abbrev pub removing : Option TaskChange → TaskChange
removing None = Dropped
removing (Some (Added s)) = Withdrawn
removing (Some Withdrawn) = Withdrawn
removing (Some Dropped) = Dropped
removing (Some (Moved from to)) = Dropped

-- the change after a task got another due moment; `from` is the one before the run
abbrev pub moving : Option TaskChange → ℕ → ℕ → TaskChange
moving None from to = Moved from to
moving (Some (Added s)) from to = Added (record s { due = to })
moving (Some Withdrawn) from to = Withdrawn
moving (Some Dropped) from to = Dropped
moving (Some (Moved first was)) from to = Moved first to

-- the map with what stood at a key before it was changed there
abbrev pub put_back : {K X : Type 0} {R : K → K → Ordering} → map.FinMap R X → K → Option X → map.FinMap R X
put_back m k None = map.remove m k
put_back m k (Some x) = map.insert m k x

-- the map with these values put at their keys, one after another
abbrev pub put_each : {K X : Type 0} {R : K → K → Ordering} → List (K × X) → map.FinMap R X → map.FinMap R X
put_each [] m = m
put_each (c ∷ changes) m = put_each changes (map.insert m c.0 c.1)
