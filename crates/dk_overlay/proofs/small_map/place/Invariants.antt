use Rattle.std.proofs.Common.{◌-◌}
use Rattle.dk_overlay.proofs.Places.{Between}
use Rattle.dk_overlay.proofs.small_map.place.Given as goal

-- the entries before are below the key, and those behind above it
abbrev pub invariant-halve : goal.invariant-halve
invariant-halve g l = Between g.K.Ord.cmp l.key l.list l.low l.high

-- what is left to be looked at
abbrev pub decreases-halve : goal.decreases-halve
decreases-halve g l = l.high - l.low
