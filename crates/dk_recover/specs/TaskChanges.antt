-- Tasks in the order of their keys, with some added, some dropped and some moved; and whether that says no more than it does.
use Rattle.std.specs.Prelude.{ℕ, Bool, false, ◌&&◌, not, nat_eq, is_some, List, Option, Some, None}
use Rattle.std.specs.List.{list_all}
use Rattle.dk_types.specs.Values.{Task}
use Rattle.dk_types.specs.declared.number.TaskKey.{TaskKey}
use Rattle.dk_types.specs.declared.durable.Pending.{Pending}
use Rattle.dk_map.specs.Entries.{find}
use Rattle.dk_model.specs.Keys.{key_cmp}
use Rattle.dk_recover.specs.Changes.{without_all, all_there}

-- there is a task, and it is due at another moment than this
abbrev pub is_due_else : Option Task → ℕ → Bool
is_due_else None due = false
is_due_else (Some task) due = not (nat_eq task.due due)

-- none of these tasks is there yet
abbrev pub all_new : List (TaskKey × Task) → List Pending → Bool
all_new es added = list_all (λ (p : Pending). not (is_some (find key_cmp p.key es))) added

-- each of these tasks is there, with another due moment than the new one
abbrev pub all_moved : List (TaskKey × Task) → List (TaskKey × ℕ) → Bool
all_moved es moved = list_all (λ e. is_due_else (find key_cmp e.0 es) e.1) moved

-- Each added task is new, each dropped one is there, and each moved one is there, is not dropped, and is due at another moment.
abbrev pub is_task_change : List Pending → List TaskKey → List (TaskKey × ℕ) → List (TaskKey × Task) → Bool
is_task_change added dropped moved es = all_new es added && all_there key_cmp es dropped && all_moved (without_all key_cmp dropped es) moved
