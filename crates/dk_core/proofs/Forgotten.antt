-- The durable world after each change of the stamped one: what a commit does to the stores does the same to the maps of the
-- world, and stamps are forgotten.
use Rattle.std.proofs.Common.{◌≡◌, ℕ, refl, sym, ap, ◌∙◌, List, [], ◌∷◌, map, None, Some}
use Rattle.std.specs.declared.cmp.Ordering.{Ordering}
use Rattle.std.specs.Cmp.{IsTotalOrder}
use Rattle.std.specs.Option.{option_map}
use Rattle.std.specs.FinMap.{FinMap, IsAntisymmetric, get, insert, remove, same_map}
use Rattle.dk_types.specs.declared.number.TaskKey.{TaskKey}
use Rattle.dk_types.specs.declared.object.Object.{Object}
use Rattle.dk_types.specs.declared.item.Item.{Item}
use Rattle.dk_types.specs.declared.item.Item.TheVariants as ask
use Rattle.dk_types.specs.declared.durable.Pending.{Pending}
use Rattle.dk_map.specs.Values.{values_with}
use Rattle.dk_map.proofs.Values.{values-insert, values-remove}
use Rattle.dk_types.specs.Keys.{id_cmp, key_cmp}
use Rattle.dk_model.specs.DurableWorlds.{Task, with_value}
use Rattle.dk_model.specs.Effects.{with_set, without_keys, task_of, moved_at, with_moved}
use Rattle.dk_model.proofs.Maps.{ids_total, exact_ids, keys_total, exact_keys, names_total, exact_names}
use Rattle.dk_objects.specs.StampedObjects.{objects_of}
use Rattle.dk_names.specs.Bindings.{StampedNames, ids_of}
use Rattle.dk_tasks.specs.Tasks.{Kept, unclaimed, with_due, with_stamp, changed_at, durable_tasks}
use Rattle.dk_tasks.proofs.Durable.{get-durable, durable-insert, durable-remove, durable-with_due}
use Rattle.dk_core.specs.Publishing.{stamped_entry, unclaimed_entry, with_due_at, object_restamped, name_restamped, task_restamped, objects_restamped, names_restamped, tasks_restamped}
use Rattle.dk_core.proofs.MapFacts.{remove-absent, part-Changed, values-Changed}

module _ {K X : Type 0} {R : K → K → Ordering} (o : IsTotalOrder R) (same : IsAntisymmetric R) where
  abbrev first_of : X × ℕ → X
  first_of s = s.0

  pub values-with_set : (stamp : ℕ) (es : List (K × X)) (m : FinMap R (X × ℕ)) → values_with first_of (with_set (map (stamped_entry stamp) es) m) ≡ with_set es (values_with first_of m)
  values-with_set stamp [] m = refl
  values-with_set stamp (e ∷ es) m = values-with_set stamp es (insert m e.0 (e.1, stamp)) ∙ ap (with_set es) (values-insert first_of o same m e.0 (e.1, stamp))

  pub values-without_keys : (ks : List K) (m : FinMap R (X × ℕ)) → values_with first_of (without_keys ks m) ≡ without_keys ks (values_with first_of m)
  values-without_keys [] m = refl
  values-without_keys (k ∷ ks) m = values-without_keys ks (remove m k) ∙ ap (without_keys ks) (values-remove first_of o same m k)

pub objects_of-restamped : (stamp : ℕ) (xs : List Item) (m : FinMap id_cmp (Object × ℕ)) → objects_of (objects_restamped stamp xs m) ≡ objects_of m
objects_of-restamped stamp [] m = refl
objects_of-restamped stamp (ask.Object id ∷ xs) m =
    objects_of-restamped stamp xs (object_restamped stamp (ask.Object id) m) ∙ values-Changed ids_total exact_ids (λ (s : Object × ℕ). s.0) (λ s. (s.0, stamp)) (λ _. refl) m id
objects_of-restamped stamp (ask.Bound name ∷ xs) m = objects_of-restamped stamp xs m
objects_of-restamped stamp (ask.NextAfter after ∷ xs) m = objects_of-restamped stamp xs m
objects_of-restamped stamp (ask.Task key ∷ xs) m = objects_of-restamped stamp xs m

pub ids_of-restamped : (stamp : ℕ) (xs : List Item) (m : StampedNames) → ids_of (names_restamped stamp xs m) ≡ ids_of m
ids_of-restamped stamp [] m = refl
ids_of-restamped stamp (ask.Object id ∷ xs) m = ids_of-restamped stamp xs m
ids_of-restamped stamp (ask.Bound name ∷ xs) m =
    ids_of-restamped stamp xs (name_restamped stamp (ask.Bound name) m) ∙ values-Changed names_total exact_names (λ (s : _ × ℕ). s.0) (λ s. (s.0, stamp)) (λ _. refl) m name
ids_of-restamped stamp (ask.NextAfter after ∷ xs) m = ids_of-restamped stamp xs m
ids_of-restamped stamp (ask.Task key ∷ xs) m = ids_of-restamped stamp xs m

abbrev task_in : Kept → Task
task_in t = t.task

pub durable-with_set : (stamp : ℕ) (ps : List Pending) (m : FinMap key_cmp Kept) → durable_tasks (with_set (map (unclaimed_entry stamp) ps) m) ≡ with_set (map task_of ps) (durable_tasks m)
durable-with_set stamp [] m = refl
durable-with_set stamp (p ∷ ps) m =
    durable-with_set stamp ps (insert m p.key (unclaimed (task_of p).1 stamp)) ∙ ap (with_set (map task_of ps)) (durable-insert m p.key (unclaimed (task_of p).1 stamp))

pub durable-without_keys : (ks : List TaskKey) (m : FinMap key_cmp Kept) → durable_tasks (without_keys ks m) ≡ without_keys ks (durable_tasks m)
durable-without_keys [] m = refl
durable-without_keys (k ∷ ks) m = durable-without_keys ks (remove m k) ∙ ap (without_keys ks) (durable-remove m k)

-- a task that is not there is not moved
durable-moved : (m : FinMap key_cmp Kept) (k : TaskKey) (due : ℕ) → durable_tasks (changed_at (with_due due) k m) ≡ moved_at (get (durable_tasks m) k) k due (durable_tasks m)
durable-moved m k due = elim (get m k) as (λ r. get m k ≡ r → durable_tasks (changed_at (with_due due) k m) ≡ moved_at (get (durable_tasks m) k) k due (durable_tasks m)) [
  | None ↦ λ e.
      ap (λ r. durable_tasks (with_value m k (option_map (with_due due) r))) e ∙ ap durable_tasks (remove-absent keys_total exact_keys m k e)
      ∙ ap (λ r. moved_at r k due (durable_tasks m)) (sym (get-durable m k ∙ ap (option_map task_in) e))
  | Some t ↦ λ e. durable-with_due m k due t e
] refl

pub durable-with_due_at : (es : List (TaskKey × ℕ)) (m : FinMap key_cmp Kept) → durable_tasks (with_due_at es m) ≡ with_moved es (durable_tasks m)
durable-with_due_at [] m = refl
durable-with_due_at (e ∷ es) m = durable-with_due_at es (changed_at (with_due e.1) e.0 m) ∙ ap (with_moved es) (durable-moved m e.0 e.1)

durable-with_stamp : (stamp : ℕ) (key : TaskKey) (m : FinMap key_cmp Kept) → durable_tasks (changed_at (with_stamp stamp) key m) ≡ durable_tasks m
durable-with_stamp stamp key m =
    same_map keys_total exact_keys _ _ (λ q.
    get-durable (changed_at (with_stamp stamp) key m) q ∙ part-Changed keys_total exact_keys task_in (with_stamp stamp) (λ _. refl) m key q ∙ sym (get-durable m q))

pub durable-restamped : (stamp : ℕ) (xs : List Item) (m : FinMap key_cmp Kept) → durable_tasks (tasks_restamped stamp xs m) ≡ durable_tasks m
durable-restamped stamp [] m = refl
durable-restamped stamp (ask.Object id ∷ xs) m = durable-restamped stamp xs m
durable-restamped stamp (ask.Bound name ∷ xs) m = durable-restamped stamp xs m
durable-restamped stamp (ask.NextAfter after ∷ xs) m = durable-restamped stamp xs m
durable-restamped stamp (ask.Task key ∷ xs) m = durable-restamped stamp xs (task_restamped stamp (ask.Task key) m) ∙ durable-with_stamp stamp key m
