use Rattle.std.proofs.Common.{ap, ◌∙◌, None, Some}
use Rattle.std.specs.FinMap.{get}
use Rattle.std.specs.Option.{option_map}
use Rattle.dk_tasks.specs.Tasks.{stamped}
use Rattle.dk_core.proofs.Reading.{task_read}
use Rattle.dk_core.proofs.durable.world.StampedWorld.read_task.Goals as goal

pub returns-in-None : goal.returns-in-None
returns-in-None c = task_read c.args.self.now c.args.key None (c.in-None.ensures ∙ ap (λ w. option_map (stamped c.args.key) (get w.tasks c.args.key)) c.self.view_is)

pub returns-in-Some : goal.returns-in-Some
returns-in-Some c =
    task_read c.args.self.now c.args.key (Some (c.in-Some.field-0-0.now, c.in-Some.stamp)) (c.in-Some.ensures ∙ ap (λ w. option_map (stamped c.args.key) (get w.tasks c.args.key)) c.self.view_is)
