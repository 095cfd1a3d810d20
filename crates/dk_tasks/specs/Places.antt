-- How the store keeps its tasks: in a tree by key, and each that no run has once more by its place, which is told by its due
-- moment and its key. So the soonest of them stands at the front.
use Rattle.std.specs.Prelude.{◌≡◌, ℕ, ◌+◌, ◌&&◌, not, Bool, true, false, if◌then◌else◌, is_some, Option, None, Some, List, length, map, filter}
use Rattle.std.specs.List.{AllByRecursion}
use Rattle.std.specs.Option.{option_map}
use Rattle.std.specs.declared.cmp.Ordering.{Ordering}
use Rattle.std.specs.Ordering.{nat_cmp, on, then_cmp, eq_by_cmp}
use Rattle.std.specs.FinMap.{FinMap}
use Rattle.dk_types.specs.declared.number.TaskKey.{TaskKey}
use Rattle.dk_map.specs.AsMap.{map_of}
use Rattle.dk_map.specs.Entries.{find, put, without, IsOrdered}
use Rattle.dk_model.specs.Keys.{key_cmp}
use Rattle.dk_model.specs.Effects.{task_of}
use Rattle.dk_tasks.specs.Tasks.{Kept}
use Rattle.dk_tasks.specs.declared.stored.Stored.{Stored}
use Rattle.dk_tasks.specs.declared.stored.TaskRank.{TaskRank}

-- what is kept of a task, but for its key
abbrev pub kept_of : Stored → Kept
kept_of s = record { task = (task_of s.task).1; stamp = s.stamp; claimed = s.claimed }

-- an entry of the tree as the store shows it
abbrev pub kept_entry : TaskKey × Stored → TaskKey × Kept
kept_entry e = (e.0, kept_of e.1)

-- entries in the order of their keys as the map that callers see
abbrev pub kept_tasks : List (TaskKey × Stored) → FinMap key_cmp Kept
kept_tasks es = map_of key_cmp (map kept_entry es)

-- by due moment and key, as the derive compares
abbrev pub place_cmp : TaskRank → TaskRank → Ordering
place_cmp = then_cmp (on (λ p. p.due) nat_cmp) (on (λ p. p.key) key_cmp)

-- where a task stands
abbrev pub place_of : TaskKey → Stored → TaskRank
place_of key s = record { due = s.task.due; key = key }

-- a task with another due moment, and with another mark of whether a run has it
abbrev pub due_at : ℕ → Stored → Stored
due_at due s = record s { task = record s.task { due = due } }

-- the task with this mark
abbrev pub claimed_at : Bool → Stored → Stored
claimed_at claimed s = record s { claimed = claimed }

-- e is d with another due moment for the task at a key, of which the old moment is told and whether a run has it; none, and e is d, where no task is there
abbrev pub IsMoved : TaskKey → ℕ → List (TaskKey × Stored) → List (TaskKey × Stored) → Option (ℕ × Bool) → Type 0
IsMoved key due d e (Some was) = (s : Stored) × (find key_cmp key d ≡ Some s) × (was ≡ (s.task.due, s.claimed)) × (e ≡ put key_cmp key (due_at due s) d)
IsMoved key due d e None = (find key_cmp key d ≡ None) × (e ≡ d)

-- e is d with another mark for the task at a key, of which the due moment is told and how it was marked; none, and e is d, where no task is there
abbrev pub IsMarked : TaskKey → Bool → List (TaskKey × Stored) → List (TaskKey × Stored) → Option (ℕ × Bool) → Type 0
IsMarked key claimed d e (Some was) = (s : Stored) × (find key_cmp key d ≡ Some s) × (was ≡ (s.task.due, s.claimed)) × (e ≡ put key_cmp key (claimed_at claimed s) d)
IsMarked key claimed d e None = (find key_cmp key d ≡ None) × (e ≡ d)

-- whether what was found at a place's key stands there: what a run has does not
abbrev pub is_placed : TaskRank → Option Stored → Bool
is_placed p None = false
is_placed p (Some s) = not s.claimed && eq_by_cmp place_cmp p (place_of p.key s)

-- what is left of the places d and of their room b where a place goes: where a run has the task, it had none
abbrev pub IsLeft : Bool → TaskRank → List (TaskRank × Unit {0}) → List (TaskRank × Unit {0}) → ℕ → ℕ → Type 0
IsLeft true place d e b c = (e ≡ d) × (c ≡ b)
IsLeft false place d e b c =
    (e ≡ without place_cmp place d) × IsOrdered place_cmp e × ((r : Option (TaskRank × Unit {0})) × (option_map (λ x. x.1) r ≡ find place_cmp place d) × (c ≡ b + (if is_some r then 1 else 0)))

-- the same where there may have been no task
abbrev pub IsVacated : Option Stored → List (TaskRank × Unit {0}) → List (TaskRank × Unit {0}) → ℕ → ℕ → Type 0
IsVacated None d e b c = (e ≡ d) × (c ≡ b)
IsVacated (Some s) d e b c = IsLeft s.claimed (place_of s.task.key s) d e b c

-- how many of the tasks a run has
abbrev pub held_count : List (TaskKey × Stored) → ℕ
held_count tasks = length (filter (λ e. e.1.claimed) tasks)

-- each task is kept at its own key
abbrev pub IsKeyed : TaskKey × Stored → Type 0
IsKeyed e = e.1.task.key ≡ e.0

-- the one tree keeps the tasks, and the other the places of those that no run has
pub record IsInStep (tasks : List (TaskKey × Stored)) (places : List (TaskRank × Unit {0})) : Type 0 where
  pub ordered : IsOrdered key_cmp tasks
  pub keyed : AllByRecursion IsKeyed tasks
  pub places_ordered : IsOrdered place_cmp places
  pub placed : (p : TaskRank) → is_some (find place_cmp p places) ≡ is_placed p (find key_cmp p.key tasks)
  pub counted : length places + held_count tasks ≡ length tasks
