-- The tasks as a durable world has them, after each change of the store.
use Rattle.std.proofs.Common.{◌≡◌, ℕ, refl, sym, ap, subst, ◌∙◌, Bool, true, false, cond, Option, None, Some, map}
use Rattle.std.specs.Prelude.{T}
use Rattle.std.specs.Option.{option_map}
use Rattle.std.specs.Ordering.{eq_by_cmp}
use Rattle.std.specs.FinMap.{FinMap, entries, entries_sorted, entries-from_sorted, get, get-entries, get-insert, get-remove, get-empty, insert, remove, empty, same_map}
use Rattle.dk_types.specs.declared.number.TaskKey.{TaskKey}
use Rattle.dk_map.specs.Entries.{find}
use Rattle.dk_model.specs.Keys.{key_cmp}
use Rattle.dk_model.specs.DurableWorlds.{Task, with_value}
use Rattle.dk_model.specs.Effects.{moved_at}
use Rattle.dk_tasks.specs.Tasks.{Kept, bare, durable_tasks, changed_at, with_due}
use Rattle.dk_tasks.proofs.Mapped.{find-changed, sorted-changed}
use Rattle.dk_tasks.proofs.Orders.{key_total, key_same}

abbrev task_in : Kept → Task
task_in t = t.task

-- each task stands once, at its key and in the same order
pub entries-durable : (m : FinMap key_cmp Kept) → entries (durable_tasks m) ≡ map bare (entries m)
entries-durable m = entries-from_sorted key_cmp (map bare (entries m)) (subst T (sym (sorted-changed key_cmp task_in (entries m))) (entries_sorted m))

pub get-durable : (m : FinMap key_cmp Kept) (q : TaskKey) → get (durable_tasks m) q ≡ option_map task_in (get m q)
get-durable m q = get-entries (durable_tasks m) q ∙ ap (find key_cmp q) (entries-durable m) ∙ find-changed key_cmp task_in q (entries m) ∙ ap (option_map task_in) (sym (get-entries m q))

-- a test before a change
map-cond : (b : Bool) (x y : Option Kept) → option_map task_in (cond b x y) ≡ cond b (option_map task_in x) (option_map task_in y)
map-cond true x y = refl
map-cond false x y = refl

pub durable-empty : durable_tasks empty ≡ empty
durable-empty = same_map key_total key_same _ _ (λ q. get-durable empty q ∙ ap (option_map task_in) (get-empty key_cmp q) ∙ sym (get-empty key_cmp q))

pub durable-insert : (m : FinMap key_cmp Kept) (k : TaskKey) (t : Kept) → durable_tasks (insert m k t) ≡ insert (durable_tasks m) k t.task
durable-insert m k t =
    same_map key_total key_same _ _ (λ q.
    get-durable (insert m k t) q ∙ ap (option_map task_in) (get-insert key_total m k t q) ∙ map-cond (eq_by_cmp key_cmp q k) (Some t) (get m q)
    ∙ sym (get-insert key_total (durable_tasks m) k t.task q ∙ ap (cond (eq_by_cmp key_cmp q k) (Some t.task)) (get-durable m q)))

pub durable-remove : (m : FinMap key_cmp Kept) (k : TaskKey) → durable_tasks (remove m k) ≡ remove (durable_tasks m) k
durable-remove m k =
    same_map key_total key_same _ _ (λ q.
    get-durable (remove m k) q ∙ ap (option_map task_in) (get-remove key_total m k q) ∙ map-cond (eq_by_cmp key_cmp q k) None (get m q)
    ∙ sym (get-remove key_total (durable_tasks m) k q ∙ ap (cond (eq_by_cmp key_cmp q k) None) (get-durable m q)))

-- what `requeue` leaves is what the model moves
pub durable-with_due : (m : FinMap key_cmp Kept) (k : TaskKey) (due : ℕ) (t : Kept) → get m k ≡ Some t → durable_tasks (changed_at (with_due due) k m) ≡ moved_at (get (durable_tasks m) k) k due (durable_tasks m)
durable-with_due m k due t e =
    ap (λ r. durable_tasks (with_value m k (option_map (with_due due) r))) e ∙ durable-insert m k (with_due due t)
    ∙ ap (λ r. moved_at r k due (durable_tasks m)) (sym (get-durable m k ∙ ap (option_map task_in) e))
