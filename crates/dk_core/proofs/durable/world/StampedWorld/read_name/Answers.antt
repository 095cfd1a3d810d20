use Rattle.std.proofs.Common.{ap, ◌∙◌, None, Some}
use Rattle.std.specs.FinMap.{get}
use Rattle.dk_core.proofs.Reading.{name_read}
use Rattle.dk_core.proofs.durable.world.StampedWorld.read_name.Goals as goal

pub returns-in-None : goal.returns-in-None
returns-in-None c = name_read c.args.self.now c.args.name.now None (c.in-None.ensures ∙ ap (λ w. get w.names c.args.name.now) c.self.view_is)

pub returns-in-Some : goal.returns-in-Some
returns-in-Some c = name_read c.args.self.now c.args.name.now (Some (c.in-Some.id, c.in-Some.stamp)) (c.in-Some.ensures ∙ ap (λ w. get w.names c.args.name.now) c.self.view_is)
