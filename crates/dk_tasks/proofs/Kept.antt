-- The map that callers see, beside the entries that the store keeps.
use Rattle.std.proofs.Common.{◌≡◌, refl, sym, ap, subst, ◌∙◌, List, length, is_some, map}
use Rattle.std.specs.Prelude.{T}
use Rattle.std.specs.Option.{option_map}
use Rattle.std.specs.FinMap.{FinMap, entries, get, contains_key, len, insert, remove}
use Rattle.dk_types.specs.declared.number.TaskKey.{TaskKey}
use Rattle.dk_map.specs.Entries.{find, put, without, IsOrdered}
use Rattle.dk_map.proofs.Counts.{found_of}
use Rattle.dk_map.proofs.Maps.{entries-map_of}
use Rattle.dk_map.proofs.Seen.{get_seen, len_seen, put_seen, without_seen}
use Rattle.dk_model.specs.Keys.{key_cmp}
use Rattle.dk_tasks.specs.Tasks.{Kept, stamped}
use Rattle.dk_tasks.specs.Places.{kept_of, kept_entry, kept_tasks}
use Rattle.dk_tasks.specs.declared.stored.Stored.{Stored}
use Rattle.dk_tasks.proofs.Mapped.{find-changed, put-changed, without-changed, sorted-changed, length-changed}
use Rattle.dk_tasks.proofs.Orders.{key_total, key_same}

-- the entries that callers see are in order
pub kept_ordered : (es : List (TaskKey × Stored)) → IsOrdered key_cmp es → IsOrdered key_cmp (map kept_entry es)
kept_ordered es h = subst T (sym (sorted-changed key_cmp kept_of es)) h

module _ {m : FinMap key_cmp Kept} (es : List (TaskKey × Stored)) (v : kept_tasks es ≡ m) (h : IsOrdered key_cmp es) where
  -- all entries in order
  pub kept_entries : entries m ≡ map kept_entry es
  kept_entries = ap entries (sym v) ∙ entries-map_of key_cmp (map kept_entry es) (kept_ordered es h)

  -- what is found at a key
  pub kept_get : (k : TaskKey) → option_map kept_of (find key_cmp k es) ≡ get m k
  kept_get k = sym (find-changed key_cmp kept_of k es) ∙ get_seen (map kept_entry es) v (kept_ordered es h) k

  -- whether there is one
  pub kept_some : (k : TaskKey) → is_some (find key_cmp k es) ≡ contains_key m k
  kept_some k = sym (found_of kept_of (find key_cmp k es) (kept_get k) refl)

  -- how many there are
  pub kept_len : length es ≡ len m
  kept_len = sym (length-changed key_cmp kept_of es) ∙ len_seen (map kept_entry es) v (kept_ordered es h)

  -- what a new entry leaves
  pub kept_put : (k : TaskKey) (s : Stored) (fs : List (TaskKey × Stored)) → fs ≡ put key_cmp k s es → kept_tasks fs ≡ insert m k (kept_of s)
  kept_put k s fs e = put_seen key_total (map kept_entry es) v (kept_ordered es h) k (kept_of s) (map kept_entry fs) (ap (map kept_entry) e ∙ sym (put-changed key_cmp kept_of k s es))

  -- and what taking one out leaves
  pub kept_without : (k : TaskKey) (fs : List (TaskKey × Stored)) → fs ≡ without key_cmp k es → kept_tasks fs ≡ remove m k
  kept_without k fs e = without_seen key_total (map kept_entry es) v (kept_ordered es h) key_same k (map kept_entry fs) (ap (map kept_entry) e ∙ sym (without-changed key_cmp kept_of k es))

-- a task that is kept at its key is the whole task
pub stamped-kept_of : (s : Stored) (k : TaskKey) → s.task.key ≡ k → stamped k (kept_of s) ≡ (s.task, s.stamp)
stamped-kept_of s k e = λ i. (record { key = sym e i; due = s.task.due; period = s.task.period; kind = s.task.kind; arg = s.task.arg }, s.stamp)
