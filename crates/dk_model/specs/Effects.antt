-- The net effects between two durable worlds, the world with effects made, and the length that effects are written in.
use Rattle.std.specs.Prelude.{ℕ, ◌+◌, not, Bool, false, Option, Some, None, List, [], ◌∷◌, map, length, sum_by, is_some, nat_eq}
use Rattle.std.specs.declared.cmp.Ordering.{Ordering}
use Rattle.std.specs.FinMap.{FinMap, get, insert, remove, entries, retain_keys}
use Rattle.dk_types.specs.declared.number.ObjectId.{ObjectId}
use Rattle.dk_types.specs.declared.number.TaskKey.{TaskKey}
use Rattle.dk_types.specs.declared.object.Object.{Object}
use Rattle.dk_types.specs.declared.durable.Pending.{Pending}
use Rattle.dk_types.specs.declared.durable.Effects.{Effects}
use Rattle.dk_types.specs.declared.durable.Entry.{Entry}
use Rattle.dk_model.specs.Keys.{key_cmp}
pub use Rattle.dk_types.specs.Values.{same_id, same_object, same_value, pending_of}
use Rattle.dk_model.specs.DurableWorlds.{DurableWorld, Task, last_with}

module _ {K X : Type 0} {R : K → K → Ordering} where
  -- the entries of b that are new or differ from those of a, in the keys' order
  unfoldable pub set_in : (X → X → Bool) → FinMap R X → FinMap R X → List (K × X)
  set_in same a b = entries (retain_keys b (λ k. not (same_value same (get a k) (get b k))))

  -- the keys of a that b lacks, in order
  unfoldable pub gone_in : FinMap R X → FinMap R X → List K
  gone_in a b = map (λ e. e.0) (entries (retain_keys a (λ k. not (is_some (get b k)))))

  -- the entries of b whose keys a lacks, in order
  unfoldable pub new_in : FinMap R X → FinMap R X → List (K × X)
  new_in a b = entries (retain_keys b (λ k. not (is_some (get a k))))

  -- a map with entries set, one after another
  abbrev pub with_set : List (K × X) → FinMap R X → FinMap R X
  with_set [] m = m
  with_set (e ∷ es) m = with_set es (insert m e.0 e.1)

  -- a map without keys, taken away one after another
  abbrev pub without_keys : List K → FinMap R X → FinMap R X
  without_keys [] m = m
  without_keys (k ∷ ks) m = without_keys ks (remove m k)

-- a pending task as its key and the rest of it
abbrev pub task_of : Pending → TaskKey × Task
task_of p = (p.key, record { due = p.due; period = p.period; kind = p.kind; arg = p.arg })

-- whether a task stands in both with another due moment
abbrev pub is_moved : Option Task → Option Task → Bool
is_moved None b = false
is_moved (Some x) None = false
is_moved (Some x) (Some y) = not (nat_eq x.due y.due)

-- the tasks that stand in both with another due moment, and the new one, in order
unfoldable pub moved_in : FinMap key_cmp Task → FinMap key_cmp Task → List (TaskKey × ℕ)
moved_in a b = map (λ e. (e.0, e.1.due)) (entries (retain_keys b (λ k. is_moved (get a k) (get b k))))

-- what leads from the first world to the second, list by list
abbrev pub effects : DurableWorld → DurableWorld → Effects
effects a b = record {
  written = set_in same_object a.objects b.objects;
  removed = gone_in a.objects b.objects;
  bound = set_in same_id a.names b.names;
  unbound = gone_in a.names b.names;
  added = map pending_of (new_in a.tasks b.tasks);
  dropped = gone_in a.tasks b.tasks;
  requeued = moved_in a.tasks b.tasks;
}

-- the task that was found, with another due moment
abbrev pub moved_at : Option Task → TaskKey → ℕ → FinMap key_cmp Task → FinMap key_cmp Task
moved_at None key due tasks = tasks
moved_at (Some task) key due tasks = insert tasks key (record task { due = due })

-- tasks with new due moments, one after another
abbrev pub with_moved : List (TaskKey × ℕ) → FinMap key_cmp Task → FinMap key_cmp Task
with_moved [] tasks = tasks
with_moved (e ∷ es) tasks = with_moved es (moved_at (get tasks e.0) e.0 e.1 tasks)

-- the world with the effects made
abbrev pub apply : Effects → DurableWorld → DurableWorld
apply e a = record a {
  objects = without_keys e.removed (with_set e.written a.objects);
  names = without_keys e.unbound (with_set e.bound a.names);
  tasks = with_moved e.requeued (without_keys e.dropped (with_set (map task_of e.added) a.tasks));
}

-- the world after a commit: its effects made, its number the number of commits, and its run at most the largest
abbrev pub after : Entry → DurableWorld → DurableWorld
after entry d = record (apply entry.effects d) { commits = entry.seq; last = last_with d.last entry.run }

-- an id or a key takes 12 bytes, a kind 2, a moment or a span 8, a length or a count 4, and the length of a name 1
abbrev pub object_length : ObjectId × Object → ℕ
object_length e = 12 + (2 + (4 + length e.1.bytes))

-- how many bytes the spelling of a binding has
abbrev pub binding_length : List ℕ × ObjectId → ℕ
binding_length e = (1 + length e.0) + 12

-- how many bytes the spelling of a name has
abbrev pub name_length : List ℕ → ℕ
name_length name = 1 + length name

-- how many bytes the spelling of a pending task has
abbrev pub pending_length : Pending → ℕ
pending_length p = 12 + (8 + (8 + (2 + (4 + length p.arg))))

-- how many bytes the spelling of a list has, by the length of each item's
abbrev pub list_length : {A : Type 0} → (A → ℕ) → List A → ℕ
list_length size xs = 4 + sum_by size xs

-- how many bytes the seven lists are written in
abbrev pub effects_length : Effects → ℕ
effects_length e =
    list_length object_length e.written + list_length (λ id. 12) e.removed + list_length binding_length e.bound + list_length name_length e.unbound
    + list_length pending_length e.added + list_length (λ key. 12) e.dropped + list_length (λ moved. 20) e.requeued
