use Rattle.std.proofs.Common.{take}
use Rattle.std.specs.List.{AllByRecursion}
use Rattle.dk_core.specs.Changes.{Stands}
use Rattle.dk_core.proofs.durable.world.StampedWorld.first_conflict.Given as goal

-- those before this place stand
abbrev pub invariant-loop-item : goal.invariant-loop-item
invariant-loop-item l = AllByRecursion (Stands l.self) (take l.item-index l.reads)
