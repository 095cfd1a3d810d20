-- What the store is seen as: a finite map from keys to tasks, each with its stamp and whether a claimed run has it.
use Rattle.std.specs.Prelude.{ℕ, refl, Bool, false, List, map}
use Rattle.std.specs.Option.{option_map}
use Rattle.std.specs.Coded.{Coded, code_by, coded×, coded_ℕ, coded_bool, coded_list}
use Rattle.std.specs.FinMap.{FinMap, code, entries, from_sorted, get}
use Rattle.dk_types.specs.declared.number.TaskKey.{TaskKey}
use Rattle.dk_types.specs.declared.durable.Pending.{Pending}
use Rattle.dk_model.specs.Keys.{key_cmp}
use Rattle.dk_model.specs.DurableWorlds.{Task, with_value}
use Rattle.dk_model.specs.Effects.{pending_of}

-- a pending task, the number of the commit that last wrote it, and whether a claimed run has it
pub record Kept : Type 0 where
  pub task : Task
  pub stamp : ℕ
  pub claimed : Bool

-- the pending tasks by their keys, and how many more fit without memory
pub record TaskStore : Type 0 where
  pub tasks : FinMap key_cmp Kept
  pub spare : ℕ

-- a key, a task and what is shown are stored as the pairs of their fields
abbrev pub key_code : Coded TaskKey
key_code = code_by (ℕ × ℕ) (coded× coded_ℕ coded_ℕ) (λ k. (k.run.0, k.k)) (λ p. record { run = record { 0 = p.0 }; k = p.1 }) (λ _. refl)

-- a task is stored as its fields, one pair in another
abbrev pub task_code : Coded Task
task_code =
    code_by (ℕ × (ℕ × (ℕ × List ℕ))) (coded× coded_ℕ (coded× coded_ℕ (coded× coded_ℕ (coded_list coded_ℕ))))
    (λ t. (t.due, (t.period, (t.kind, t.arg)))) (λ p. record { due = p.0; period = p.1.0; kind = p.1.1.0; arg = p.1.1.1 }) (λ _. refl)

-- and a kept one with its stamp and its mark
abbrev pub kept_code : Coded Kept
kept_code = code_by (Task × (ℕ × Bool)) (coded× task_code (coded× coded_ℕ coded_bool)) (λ t. (t.task, (t.stamp, t.claimed))) (λ p. record { task = p.0; stamp = p.1.0; claimed = p.1.1 }) (λ _. refl)

-- and what is shown as the pair of its fields
abbrev pub shown_code : Coded TaskStore
shown_code = code_by (FinMap key_cmp Kept × ℕ) (coded× (code key_code kept_code) coded_ℕ) (λ s. (s.tasks, s.spare)) (λ p. record { tasks = p.0; spare = p.1 }) (λ _. refl)

-- a task that no run has
abbrev pub unclaimed : Task → ℕ → Kept
unclaimed task stamp = record { task = task; stamp = stamp; claimed = false }

-- the task with another due moment: it is not written, so its stamp stays
abbrev pub with_due : ℕ → Kept → Kept
with_due due t = record t { task = record t.task { due = due } }

-- the task written by another commit
abbrev pub with_stamp : ℕ → Kept → Kept
with_stamp stamp t = record t { stamp = stamp }

-- the task with this mark
abbrev pub with_claim : Bool → Kept → Kept
with_claim claimed t = record t { claimed = claimed }

-- the tasks with what stands at a key changed
abbrev pub changed_at : (Kept → Kept) → TaskKey → FinMap key_cmp Kept → FinMap key_cmp Kept
changed_at change key tasks = with_value tasks key (option_map change (get tasks key))

-- the task at its key as a value of its own, and its stamp
abbrev pub stamped : TaskKey → Kept → Pending × ℕ
stamped key t = (pending_of (key, t.task), t.stamp)

-- the task alone at its key
abbrev pub bare : TaskKey × Kept → TaskKey × Task
bare e = (e.0, e.1.task)

-- the tasks as a durable world has them
abbrev pub durable_tasks : FinMap key_cmp Kept → FinMap key_cmp Task
durable_tasks tasks = from_sorted (map bare (entries tasks))
