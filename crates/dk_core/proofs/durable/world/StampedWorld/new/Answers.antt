use Rattle.std.proofs.Common.{[], None}
use Rattle.dk_core.proofs.OpenedWorlds.{world_kept, stamps_kept}
use Rattle.dk_core.proofs.durable.world.StampedWorld.new.Goals as goal

pub returns-clause-empty : goal.returns-clause-empty
returns-clause-empty c = world_kept (record { commits = 0; last = None; objects = []; names = []; tasks = [] }) _ _ _ (record { objects = 0; names = 0; tasks = 0 }) c.new.ensures.empty c.new-2.ensures.empty c.new-3.ensures.empty

pub returns-clause-stamps : goal.returns-clause-stamps
returns-clause-stamps c = stamps_kept (record { commits = 0; last = None; objects = []; names = []; tasks = [] }) _ _ _ (record { objects = 0; names = 0; tasks = 0 }) c.new.ensures.empty c.new-2.ensures.empty c.new-3.ensures.empty
