-- What is stamped before effects are made is as if it were stamped after.
use Rattle.std.proofs.Common.{◌≡◌, ℕ, ◌+◌, refl, ap, ◌∙◌, List, [], ◌∷◌, map, Option}
use Rattle.std.specs.FinMap.{FinMap}
use Rattle.dk_types.specs.declared.number.RunNo.{RunNo}
use Rattle.dk_types.specs.declared.number.ObjectId.{ObjectId}
use Rattle.dk_types.specs.declared.number.TaskKey.{TaskKey}
use Rattle.dk_types.specs.declared.object.Object.{Object}
use Rattle.dk_types.specs.declared.item.Item.{Item}
use Rattle.dk_types.specs.declared.item.Item.TheVariants as ask
use Rattle.dk_types.specs.declared.durable.Effects.{Effects}
use Rattle.dk_types.specs.Keys.{id_cmp, key_cmp}
use Rattle.dk_model.specs.DurableWorlds.{last_with}
use Rattle.dk_model.specs.Effects.{with_set, without_keys}
use Rattle.dk_model.proofs.Maps.{ids_total, exact_ids, keys_total, exact_keys, names_total, exact_names}
use Rattle.dk_objects.specs.StampedObjects as objects
use Rattle.dk_names.specs.Bindings as names
use Rattle.dk_names.specs.Bindings.{StampedNames}
use Rattle.dk_tasks.specs.Tasks.{Kept, with_due, with_stamp, changed_at}
use Rattle.dk_core.specs.StampedWorlds.{Stamped, with_room}
use Rattle.dk_core.specs.Publishing.{stamped_entry, unclaimed_entry, with_due_at, objects_restamped, names_restamped, tasks_restamped, published, committed}
use Rattle.dk_core.proofs.MapFacts.{Changed-Changed, without-Changed, set-Changed}

objects-left : (n : ℕ) (xs : List Item) (ks : List ObjectId) (m : FinMap id_cmp (Object × ℕ)) → without_keys ks (objects_restamped n xs m) ≡ objects_restamped n xs (without_keys ks m)
objects-left n [] ks m = refl
objects-left n (ask.Object id ∷ xs) ks m = objects-left n xs ks (objects.restamped n id m) ∙ ap (objects_restamped n xs) (without-Changed ids_total exact_ids (λ s. (s.0, n)) ks m id)
objects-left n (ask.Bound name ∷ xs) ks m = objects-left n xs ks m
objects-left n (ask.NextAfter after ∷ xs) ks m = objects-left n xs ks m
objects-left n (ask.Task key ∷ xs) ks m = objects-left n xs ks m

names-made : (n : ℕ) (xs : List Item) (ks : List (List ℕ)) (es : List (List ℕ × ObjectId)) (m : StampedNames)
    → without_keys ks (with_set (map (stamped_entry n) es) (names_restamped n xs m)) ≡ names_restamped n xs (without_keys ks (with_set (map (stamped_entry n) es) m))
names-made n [] ks es m = refl
names-made n (ask.Object id ∷ xs) ks es m = names-made n xs ks es m
names-made n (ask.Bound name ∷ xs) ks es m =
    names-made n xs ks es (names.restamped n name m)
    ∙ ap (names_restamped n xs) (ap (without_keys ks) (set-Changed names_total exact_names (λ s. (s.0, n)) (stamped_entry n) (λ _. refl) es m name)
    ∙ without-Changed names_total exact_names (λ s. (s.0, n)) ks (with_set (map (stamped_entry n) es) m) name)
names-made n (ask.NextAfter after ∷ xs) ks es m = names-made n xs ks es m
names-made n (ask.Task key ∷ xs) ks es m = names-made n xs ks es m

due-Changed : (n : ℕ) (ds : List (TaskKey × ℕ)) (m : FinMap key_cmp Kept) (key : TaskKey) → with_due_at ds (changed_at (with_stamp n) key m) ≡ changed_at (with_stamp n) key (with_due_at ds m)
due-Changed n [] m key = refl
due-Changed n (d ∷ ds) m key = ap (with_due_at ds) (Changed-Changed keys_total exact_keys (with_stamp n) (with_due d.1) (λ _. refl) m key d.0) ∙ due-Changed n ds (changed_at (with_due d.1) d.0 m) key

tasks-left : (n : ℕ) (xs : List Item) (ds : List (TaskKey × ℕ)) (ks : List TaskKey) (m : FinMap key_cmp Kept)
    → with_due_at ds (without_keys ks (tasks_restamped n xs m)) ≡ tasks_restamped n xs (with_due_at ds (without_keys ks m))
tasks-left n [] ds ks m = refl
tasks-left n (ask.Object id ∷ xs) ds ks m = tasks-left n xs ds ks m
tasks-left n (ask.Bound name ∷ xs) ds ks m = tasks-left n xs ds ks m
tasks-left n (ask.NextAfter after ∷ xs) ds ks m = tasks-left n xs ds ks m
tasks-left n (ask.Task key ∷ xs) ds ks m =
    tasks-left n xs ds ks (changed_at (with_stamp n) key m)
    ∙ ap (tasks_restamped n xs) (ap (with_due_at ds) (without-Changed keys_total exact_keys (with_stamp n) ks m key) ∙ due-Changed n ds (without_keys ks m) key)

-- effects that are made where the items are stamped already leave the world of the commit
pub made_so : (run : RunNo) (e : Effects) (touched : List Item) (w s p q : Stamped)
    → with_set (map (stamped_entry (w.commits + 1)) e.written) s.objects ≡ objects_restamped (w.commits + 1) touched (with_set (map (stamped_entry (w.commits + 1)) e.written) w.objects)
    → s.names ≡ names_restamped (w.commits + 1) touched w.names
    → with_set (map (unclaimed_entry (w.commits + 1)) e.added) s.tasks ≡ tasks_restamped (w.commits + 1) touched (with_set (map (unclaimed_entry (w.commits + 1)) e.added) w.tasks)
    → p ≡ with_room p.room (published (w.commits + 1) e s) → q ≡ p → (last : Option RunNo) → last ≡ last_with w.last run
    → record q { commits = w.commits + 1; last = last } ≡ with_room q.room (committed run e touched w)
made_so run e touched w s p q objects names tasks made same last largest =
    let n = w.commits + 1 in
    λ i. record {
      objects = (ap (λ (x : Stamped). x.objects) (same ∙ made) ∙ ap (without_keys e.removed) objects ∙ objects-left n touched e.removed (with_set (map (stamped_entry n) e.written) w.objects)) i;
      names = (ap (λ (x : Stamped). x.names) (same ∙ made) ∙ ap (λ m. without_keys e.unbound (with_set (map (stamped_entry n) e.bound) m)) names ∙ names-made n touched e.unbound e.bound w.names) i;
      tasks = (ap (λ (x : Stamped). x.tasks) (same ∙ made) ∙ ap (λ m. with_due_at e.requeued (without_keys e.dropped m)) tasks
          ∙ tasks-left n touched e.requeued e.dropped (with_set (map (unclaimed_entry n) e.added) w.tasks)) i;
      commits = n;
      last = largest i;
      room = q.room;
    }
