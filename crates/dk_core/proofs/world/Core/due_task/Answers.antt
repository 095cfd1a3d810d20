use Rattle.std.proofs.Common.{refl}
use Rattle.dk_core.specs.Cores.{world_of}
use Rattle.dk_core.proofs.Soonest.{due_there}
use Rattle.dk_core.proofs.world.Core.due_task.Goals as goal

pub returns-in_default-clause-pick : goal.returns-in_default-clause-pick
returns-in_default-clause-pick c marks = c.in_default.ensures.picked (world_of c.args.self.now) record { tasks = refl; moment = refl; claims = marks.tasks }

pub returns-clause-pick : goal.returns-clause-pick
returns-clause-pick c marks = c.in-Some.ensures.picked (world_of c.args.self.now) record { tasks = refl; moment = refl; claims = marks.tasks }

pub returns-clause-there : goal.returns-clause-there
returns-clause-there c = due_there c.args.self.now.moment c.args.self.now.world.tasks c.in-Some.key c.in-Some.ensures.least
