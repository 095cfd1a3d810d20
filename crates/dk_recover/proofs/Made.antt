-- Effects fit a world exactly where each of their lists is a change of its map.
use Rattle.std.proofs.Common.{◌≡◌, ℕ, true, map, List, sym, ap, subst, ◌∙◌}
use Rattle.std.specs.FinMap.{FinMap}
use Rattle.dk_types.specs.declared.number.ObjectId.{ObjectId}
use Rattle.dk_types.specs.declared.number.TaskKey.{TaskKey}
use Rattle.dk_types.specs.declared.object.Object.{Object}
use Rattle.dk_types.specs.declared.durable.Effects.{Effects}
use Rattle.dk_types.specs.Names.{bytes_cmp}
use Rattle.dk_types.specs.Values.{Task, same_id, same_object}
use Rattle.dk_map.specs.Entries.{IsOrdered}
use Rattle.dk_map.specs.AsMap.{map_of}
use Rattle.dk_model.specs.Keys.{id_cmp, key_cmp}
use Rattle.dk_model.specs.DurableWorlds.{DurableWorld}
use Rattle.dk_model.specs.Effects.{task_of, with_set, without_keys, with_moved}
use Rattle.dk_model.specs.Entries.{AreEffects}
use Rattle.dk_model.proofs.Maps.{ids_total, exact_ids, names_total, exact_names}
use Rattle.dk_laws.proofs.EffectsMade.{objects_told, ids_told}
use Rattle.dk_recover.specs.Changes.{changed_by, is_change}
use Rattle.dk_recover.specs.TaskChanges.{is_task_change}
use Rattle.dk_recover.specs.Worlds.{AreFit}
use Rattle.dk_recover.proofs.Fit.{objects_in_order, names_in_order, tasks_in_order, moved_in_order, ids_in_order, unbound_in_order, dropped_in_order}
use Rattle.dk_recover.proofs.MapChanges as changes
use Rattle.dk_recover.proofs.TaskChanges as tasks

-- the entries of a world's maps, in order
pub record AreOf (os : List (ObjectId × Object)) (ns : List (List ℕ × ObjectId)) (ts : List (TaskKey × Task)) (d : DurableWorld) : Type 0 where
  pub objects : map_of id_cmp os ≡ d.objects
  pub names : map_of bytes_cmp ns ≡ d.names
  pub tasks : map_of key_cmp ts ≡ d.tasks
  pub objects_ordered : IsOrdered id_cmp os
  pub names_ordered : IsOrdered bytes_cmp ns
  pub tasks_ordered : IsOrdered key_cmp ts

-- each list is a change
pub record AreClean (d : DurableWorld) (e : Effects) : Type 0 where
  pub objects : changes.IsClean same_object d.objects e.written e.removed
  pub names : changes.IsClean same_id d.names e.bound e.unbound
  pub tasks : tasks.IsTaskClean d.tasks (map task_of e.added) e.dropped e.requeued

module _ (d : DurableWorld) (e : Effects) (are : AreEffects 2 e) where
  pub fit_clean : AreClean d e → AreFit d e
  fit_clean c i = record {
    written = changes.set_is id_cmp ids_total exact_ids objects_told e.written e.removed (objects_in_order 2 e.written are.written) d.objects c.objects i;
    removed = changes.gone_is id_cmp ids_total exact_ids objects_told e.written e.removed (objects_in_order 2 e.written are.written) (ids_in_order e.removed are.removed) d.objects c.objects i;
    bound = changes.set_is bytes_cmp names_total exact_names ids_told e.bound e.unbound (names_in_order e.bound are.bound) d.names c.names i;
    unbound = changes.gone_is bytes_cmp names_total exact_names ids_told e.bound e.unbound (names_in_order e.bound are.bound) (unbound_in_order e.unbound are.unbound) d.names c.names i;
    added = tasks.added_is e.added e.dropped e.requeued (tasks_in_order 2 e.added are.added) (moved_in_order e.requeued are.requeued) d.tasks c.tasks i;
    dropped = tasks.dropped_is e.added e.dropped e.requeued (tasks_in_order 2 e.added are.added) (moved_in_order e.requeued are.requeued) (dropped_in_order e.dropped are.dropped) d.tasks c.tasks i;
    requeued = tasks.moved_is e.added e.dropped e.requeued (tasks_in_order 2 e.added are.added) (moved_in_order e.requeued are.requeued) d.tasks c.tasks i;
  }

  pub clean_fit : AreFit d e → AreClean d e
  clean_fit fit = record {
    objects = changes.is_clean id_cmp ids_total exact_ids objects_told e.written e.removed (objects_in_order 2 e.written are.written) d.objects (ap (λ (x : Effects). x.written) fit) (ap (λ (x : Effects). x.removed) fit);
    names = changes.is_clean bytes_cmp names_total exact_names ids_told e.bound e.unbound (names_in_order e.bound are.bound) d.names (ap (λ (x : Effects). x.bound) fit) (ap (λ (x : Effects). x.unbound) fit);
    tasks = tasks.is_clean e.added e.dropped e.requeued (tasks_in_order 2 e.added are.added) (moved_in_order e.requeued are.requeued) d.tasks (ap (λ (x : Effects). x.added) fit) (ap (λ (x : Effects). x.dropped) fit) (ap (λ (x : Effects). x.requeued) fit);
  }

  module _ (os : List (ObjectId × Object)) (ns : List (List ℕ × ObjectId)) (ts : List (TaskKey × Task)) (of : AreOf os ns ts d) where
    pub objects_checked : is_change id_cmp same_object e.written e.removed os ≡ true → changes.IsClean same_object d.objects e.written e.removed
    objects_checked is = subst (λ (m : FinMap id_cmp Object). changes.IsClean same_object m e.written e.removed) of.objects
        (changes.check_clean id_cmp ids_total exact_ids objects_told e.written e.removed (objects_in_order 2 e.written are.written) os of.objects_ordered is)

    pub names_checked : is_change bytes_cmp same_id e.bound e.unbound ns ≡ true → changes.IsClean same_id d.names e.bound e.unbound
    names_checked is = subst (λ (m : FinMap bytes_cmp ObjectId). changes.IsClean same_id m e.bound e.unbound) of.names
        (changes.check_clean bytes_cmp names_total exact_names ids_told e.bound e.unbound (names_in_order e.bound are.bound) ns of.names_ordered is)

    pub tasks_checked : is_task_change e.added e.dropped e.requeued ts ≡ true → tasks.IsTaskClean d.tasks (map task_of e.added) e.dropped e.requeued
    tasks_checked is = subst (λ (m : FinMap key_cmp Task). tasks.IsTaskClean m (map task_of e.added) e.dropped e.requeued) of.tasks
        (tasks.check_clean e.added e.dropped e.requeued (tasks_in_order 2 e.added are.added) (moved_in_order e.requeued are.requeued) ts of.tasks_ordered is)

    pub objects_needed : AreFit d e → is_change id_cmp same_object e.written e.removed os ≡ true
    objects_needed fit = changes.clean_check id_cmp ids_total exact_ids objects_told e.written e.removed (objects_in_order 2 e.written are.written) os of.objects_ordered
        (subst (λ (m : FinMap id_cmp Object). changes.IsClean same_object m e.written e.removed) (sym of.objects) (clean_fit fit).objects)

    pub names_needed : AreFit d e → is_change bytes_cmp same_id e.bound e.unbound ns ≡ true
    names_needed fit = changes.clean_check bytes_cmp names_total exact_names ids_told e.bound e.unbound (names_in_order e.bound are.bound) ns of.names_ordered
        (subst (λ (m : FinMap bytes_cmp ObjectId). changes.IsClean same_id m e.bound e.unbound) (sym of.names) (clean_fit fit).names)

    pub tasks_needed : AreFit d e → is_task_change e.added e.dropped e.requeued ts ≡ true
    tasks_needed fit = tasks.clean_check e.added e.dropped e.requeued (tasks_in_order 2 e.added are.added) (moved_in_order e.requeued are.requeued) ts of.tasks_ordered
        (subst (λ (m : FinMap key_cmp Task). tasks.IsTaskClean m (map task_of e.added) e.dropped e.requeued) (sym of.tasks) (clean_fit fit).tasks)

    pub objects_made : is_change id_cmp same_object e.written e.removed os ≡ true → map_of id_cmp (changed_by id_cmp e.written e.removed os) ≡ without_keys e.removed (with_set e.written d.objects)
    objects_made is =
        changes.changed_is id_cmp ids_total exact_ids objects_told e.written e.removed (objects_in_order 2 e.written are.written) os of.objects_ordered
        (changes.check_clean id_cmp ids_total exact_ids objects_told e.written e.removed (objects_in_order 2 e.written are.written) os of.objects_ordered is)
        ∙ ap (λ (m : FinMap id_cmp Object). without_keys e.removed (with_set e.written m)) of.objects

    pub names_made : is_change bytes_cmp same_id e.bound e.unbound ns ≡ true → map_of bytes_cmp (changed_by bytes_cmp e.bound e.unbound ns) ≡ without_keys e.unbound (with_set e.bound d.names)
    names_made is =
        changes.changed_is bytes_cmp names_total exact_names ids_told e.bound e.unbound (names_in_order e.bound are.bound) ns of.names_ordered
        (changes.check_clean bytes_cmp names_total exact_names ids_told e.bound e.unbound (names_in_order e.bound are.bound) ns of.names_ordered is)
        ∙ ap (λ (m : FinMap bytes_cmp ObjectId). without_keys e.unbound (with_set e.bound m)) of.names

    pub tasks_made : is_task_change e.added e.dropped e.requeued ts ≡ true → with_moved e.requeued (map_of key_cmp (changed_by key_cmp (map task_of e.added) e.dropped ts)) ≡ with_moved e.requeued (without_keys e.dropped (with_set (map task_of e.added) d.tasks))
    tasks_made is =
        ap (with_moved e.requeued)
        (tasks.changed_is e.added e.dropped e.requeued (tasks_in_order 2 e.added are.added) (moved_in_order e.requeued are.requeued) ts of.tasks_ordered
        (tasks.check_clean e.added e.dropped e.requeued (tasks_in_order 2 e.added are.added) (moved_in_order e.requeued are.requeued) ts of.tasks_ordered is)
        ∙ ap (λ (m : FinMap key_cmp Task). without_keys e.dropped (with_set (map task_of e.added) m)) of.tasks)

    pub objects_still : IsOrdered id_cmp (changed_by id_cmp e.written e.removed os)
    objects_still = changes.put_ordered id_cmp ids_total exact_ids e.written _ (changes.without_ordered id_cmp ids_total exact_ids e.removed os of.objects_ordered)

    pub names_still : IsOrdered bytes_cmp (changed_by bytes_cmp e.bound e.unbound ns)
    names_still = changes.put_ordered bytes_cmp names_total exact_names e.bound _ (changes.without_ordered bytes_cmp names_total exact_names e.unbound ns of.names_ordered)
