use Rattle.std.proofs.Common.{take}
use Rattle.dk_disk.specs.Torn.{IsFilledOver}
use Rattle.dk_disk.proofs.replay.filled.Given as goal

abbrev pub invariant-ranges-2 : goal.invariant-ranges-2
invariant-ranges-2 l = IsFilledOver l.fill l.size l.fn.synced.items (take l.range-index l.touched) l.image.items
