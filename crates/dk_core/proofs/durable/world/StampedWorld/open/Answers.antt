use Rattle.std.proofs.Common.{ap, ◌∙◌, map}
use Rattle.dk_model.specs.Effects.{with_set}
use Rattle.dk_core.specs.StampedWorlds.{Stamped}
use Rattle.dk_core.specs.Publishing.{stamped_entry, unclaimed_entry}
use Rattle.dk_core.proofs.OpenedWorlds.{world_kept, stamps_kept, unclaimed_kept}
use Rattle.dk_core.proofs.durable.world.StampedWorld.open.Goals as goal

pub returns-clause-world : goal.returns-clause-world
returns-clause-world c =
    let d = c.args.durable in
    let new = c.world.view_is ∙ c.new-world.ensures.nothing in
    world_kept d _ _ _ (record { objects = 0; names = 0; tasks = 0 })
    (c.set_objects.ensures ∙ ap (with_set (map (stamped_entry d.commits) d.objects)) (c.in_ok-reserve.ensures.objects ∙ ap (λ (w : Stamped). w.objects) new))
    (c.bind_names.ensures ∙ ap (with_set (map (stamped_entry d.commits) d.names)) (c.in_ok-reserve-2.ensures.names ∙ ap (λ (w : Stamped). w.names) new))
    (c.add_tasks.ensures ∙ ap (with_set (map (unclaimed_entry d.commits) d.tasks)) (c.in_ok-reserve-3.ensures.tasks ∙ ap (λ (w : Stamped). w.tasks) new))

pub returns-clause-stamps : goal.returns-clause-stamps
returns-clause-stamps c =
    let d = c.args.durable in
    let new = c.world.view_is ∙ c.new-world.ensures.nothing in
    stamps_kept d _ _ _ (record { objects = 0; names = 0; tasks = 0 })
    (c.set_objects.ensures ∙ ap (with_set (map (stamped_entry d.commits) d.objects)) (c.in_ok-reserve.ensures.objects ∙ ap (λ (w : Stamped). w.objects) new))
    (c.bind_names.ensures ∙ ap (with_set (map (stamped_entry d.commits) d.names)) (c.in_ok-reserve-2.ensures.names ∙ ap (λ (w : Stamped). w.names) new))
    (c.add_tasks.ensures ∙ ap (with_set (map (unclaimed_entry d.commits) d.tasks)) (c.in_ok-reserve-3.ensures.tasks ∙ ap (λ (w : Stamped). w.tasks) new))

pub returns-clause-unclaimed : goal.returns-clause-unclaimed
returns-clause-unclaimed c =
    let d = c.args.durable in
    let new = c.world.view_is ∙ c.new-world.ensures.nothing in
    unclaimed_kept d _ _ _ (record { objects = 0; names = 0; tasks = 0 })
    (c.set_objects.ensures ∙ ap (with_set (map (stamped_entry d.commits) d.objects)) (c.in_ok-reserve.ensures.objects ∙ ap (λ (w : Stamped). w.objects) new))
    (c.bind_names.ensures ∙ ap (with_set (map (stamped_entry d.commits) d.names)) (c.in_ok-reserve-2.ensures.names ∙ ap (λ (w : Stamped). w.names) new))
    (c.add_tasks.ensures ∙ ap (with_set (map (unclaimed_entry d.commits) d.tasks)) (c.in_ok-reserve-3.ensures.tasks ∙ ap (λ (w : Stamped). w.tasks) new))
