use Rattle.std.proofs.Common.{take}
use Rattle.dk_overlay.specs.Asked.{place_in, IsIndexed}
use Rattle.dk_overlay.proofs.index.Index.of.Given as goal

-- the items so far have their places
abbrev pub invariant-loop-at : goal.invariant-loop-at
invariant-loop-at l = IsIndexed (take l.at l.list) (place_in l.index)
