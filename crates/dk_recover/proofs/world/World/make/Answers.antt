use Rattle.std.proofs.Common.{◌≡◌, ℕ, true, false, Ok, List, map, subst, ap, sym, ◌∙◌}
use Rattle.dk_types.specs.Names.{bytes_cmp}
use Rattle.dk_types.specs.Values.{same_id, same_object}
use Rattle.dk_map.specs.Entries.{IsOrdered}
use Rattle.dk_map.specs.AsMap.{map_of}
use Rattle.dk_model.specs.Keys.{id_cmp, key_cmp}
use Rattle.dk_types.specs.declared.number.ObjectId.{ObjectId}
use Rattle.dk_types.specs.declared.number.TaskKey.{TaskKey}
use Rattle.dk_model.specs.Effects.{task_of, with_moved}
use Rattle.dk_model.specs.DurableWorlds.{DurableWorld}
use Rattle.dk_recover.specs.Changes.{changed_by, is_change}
use Rattle.dk_recover.specs.TaskChanges.{is_task_change}
use Rattle.dk_recover.proofs.Made.{AreOf, fit_clean, objects_checked, names_checked, tasks_checked, objects_needed, names_needed, tasks_needed, objects_made, names_made, tasks_made, objects_still, names_still}
use Rattle.dk_recover.proofs.world.World.make.Goals as goal

pub returns-then-not-branch-clause-unfit : goal.returns-then-not-branch-clause-unfit
returns-then-not-branch-clause-unfit c _ fit =
    let e = c.args.effects in
    let in' = c.self.inside in
    let of : AreOf in'.objects.entries in'.names.entries in'.tasks.entries c.args.self.now = record { objects = ap (λ (w : DurableWorld). w.objects) c.self.view_is; names = ap (λ (w : DurableWorld). w.names) c.self.view_is; tasks = ap (λ (w : DurableWorld). w.tasks) c.self.view_is; objects_ordered = c.self.invariant.0; names_ordered = c.self.invariant.1; tasks_ordered = c.self.invariant.2 } in
    let wrong : true ≡ false =
    sym (objects_needed c.args.self.now e c.requires _ _ _ of fit) ∙ ap (λ (g : List ObjectId). is_change id_cmp same_object e.written g in'.objects.entries) (sym c.as_slice.ensures) ∙ sym c.in_ok-change.ensures.fits ∙ c.if-not-branch.true in
    cc

pub returns-then-not-branch-2-clause-unfit : goal.returns-then-not-branch-2-clause-unfit
returns-then-not-branch-2-clause-unfit c _ fit =
    let e = c.args.effects in
    let in' = c.self.inside in
    let of : AreOf in'.objects.entries in'.names.entries in'.tasks.entries c.args.self.now = record { objects = ap (λ (w : DurableWorld). w.objects) c.self.view_is; names = ap (λ (w : DurableWorld). w.names) c.self.view_is; tasks = ap (λ (w : DurableWorld). w.tasks) c.self.view_is; objects_ordered = c.self.invariant.0; names_ordered = c.self.invariant.1; tasks_ordered = c.self.invariant.2 } in
    let wrong : true ≡ false =
    sym (names_needed c.args.self.now e c.requires _ _ _ of fit) ∙ ap (λ (g : List (List ℕ)). is_change bytes_cmp same_id e.bound g in'.names.entries) (sym c.as_slice-2.ensures) ∙ sym c.in_ok-change-2.ensures.fits ∙ c.if-not-branch-2.true in
    cc

pub returns-then-not-branch-3-clause-unfit : goal.returns-then-not-branch-3-clause-unfit
returns-then-not-branch-3-clause-unfit c _ fit =
    let e = c.args.effects in
    let in' = c.self.inside in
    let of : AreOf in'.objects.entries in'.names.entries in'.tasks.entries c.args.self.now = record { objects = ap (λ (w : DurableWorld). w.objects) c.self.view_is; names = ap (λ (w : DurableWorld). w.names) c.self.view_is; tasks = ap (λ (w : DurableWorld). w.tasks) c.self.view_is; objects_ordered = c.self.invariant.0; names_ordered = c.self.invariant.1; tasks_ordered = c.self.invariant.2 } in
    let wrong : true ≡ false =
    sym (tasks_needed c.args.self.now e c.requires _ _ _ of fit)
    ∙ ap (λ (g : List TaskKey). is_task_change e.added g e.requeued in'.tasks.entries) (sym c.as_slice-3.ensures) ∙ ap (λ (g : List (TaskKey × ℕ)). is_task_change e.added c.as_slice-3.result.now g in'.tasks.entries) (sym c.as_slice-moved.ensures)
    ∙ sym c.in_ok-change_tasks.ensures.fits ∙ c.if-not-branch-3.true in
    cc

pub returns : goal.returns
returns c =
    let d = c.args.self.now in
    let e = c.args.effects in
    let in' = c.self.inside in
    let of : AreOf in'.objects.entries in'.names.entries in'.tasks.entries c.args.self.now = record { objects = ap (λ (w : DurableWorld). w.objects) c.self.view_is; names = ap (λ (w : DurableWorld). w.names) c.self.view_is; tasks = ap (λ (w : DurableWorld). w.tasks) c.self.view_is; objects_ordered = c.self.invariant.0; names_ordered = c.self.invariant.1; tasks_ordered = c.self.invariant.2 } in
    let objects : is_change id_cmp same_object e.written e.removed in'.objects.entries ≡ true =
    ap (λ (g : List ObjectId). is_change id_cmp same_object e.written g in'.objects.entries) (sym c.as_slice.ensures) ∙ sym c.in_ok-change.ensures.fits ∙ c.if-not-branch.false in
    let names : is_change bytes_cmp same_id e.bound e.unbound in'.names.entries ≡ true =
    ap (λ (g : List (List ℕ)). is_change bytes_cmp same_id e.bound g in'.names.entries) (sym c.as_slice-2.ensures) ∙ sym c.in_ok-change-2.ensures.fits ∙ c.if-not-branch-2.false in
    let tasks : is_task_change e.added e.dropped e.requeued in'.tasks.entries ≡ true =
    ap (λ (g : List TaskKey). is_task_change e.added g e.requeued in'.tasks.entries) (sym c.as_slice-3.ensures) ∙ ap (λ (g : List (TaskKey × ℕ)). is_task_change e.added c.as_slice-3.result.now g in'.tasks.entries) (sym c.as_slice-moved.ensures)
    ∙ sym c.in_ok-change_tasks.ensures.fits ∙ c.if-not-branch-3.false in
    let moved =
    c.in_ok-change_tasks.ensures.tasks (ap Ok c.if-not-branch-3.false)
    ∙ ap (λ (g : List (TaskKey × ℕ)). with_moved g (map_of key_cmp (changed_by key_cmp (map task_of e.added) c.as_slice-3.result.now in'.tasks.entries))) c.as_slice-moved.ensures
    ∙ ap (λ (g : List TaskKey). with_moved e.requeued (map_of key_cmp (changed_by key_cmp (map task_of e.added) g in'.tasks.entries))) c.as_slice-3.ensures in
    record {
      fits = (
        fit_clean d e c.requires (record { objects = objects_checked d e c.requires _ _ _ of objects; names = names_checked d e c.requires _ _ _ of names; tasks = tasks_checked d e c.requires _ _ _ of tasks }),
        λ i. record {
          objects = (ap (map_of id_cmp) (c.in_ok-change.ensures.entries (ap Ok c.if-not-branch.false) ∙ ap (λ (g : List ObjectId). changed_by id_cmp e.written g in'.objects.entries) c.as_slice.ensures) ∙ objects_made d e c.requires _ _ _ of objects) i;
          names = (ap (map_of bytes_cmp) (c.in_ok-change-2.ensures.entries (ap Ok c.if-not-branch-2.false) ∙ ap (λ (g : List (List ℕ)). changed_by bytes_cmp e.bound g in'.names.entries) c.as_slice-2.ensures) ∙ names_made d e c.requires _ _ _ of names) i;
          tasks = (moved ∙ tasks_made d e c.requires _ _ _ of tasks) i;
          commits = (c.self.view_is i).commits;
          last = (c.self.view_is i).last;
        },
      );
      unfit = λ wrong. absurd cc;
    }
