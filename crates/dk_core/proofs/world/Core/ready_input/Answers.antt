use Rattle.std.proofs.Common.{refl}
use Rattle.dk_core.specs.Cores.{world_of}
use Rattle.dk_core.proofs.world.Core.ready_input.Goals as goal

pub returns-in_default-clause-pick : goal.returns-in_default-clause-pick
returns-in_default-clause-pick c marks = c.in_default.ensures.picked (world_of c.args.self.now) record { connections = refl; claims = marks.inputs }

pub returns-clause-pick : goal.returns-clause-pick
returns-clause-pick c marks = c.in-Some.ensures.picked (world_of c.args.self.now) record { connections = refl; claims = marks.inputs }
