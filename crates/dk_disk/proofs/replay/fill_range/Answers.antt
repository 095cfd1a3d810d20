use Rattle.std.proofs.Common.{arith}
use Rattle.dk_disk.proofs.Fills.{painted_none, painted_more, painted_end}
use Rattle.dk_disk.proofs.replay.fill_range.Goals as goal

pub places-init : goal.places-init
places-init c = (omega arith, painted_none _ _ _)

pub places-preserved : goal.places-preserved
places-preserved c = (omega (arith, c.places-test.true), painted_more _ _ _ _ _ c.places.auto.at (omega (arith, c.places-test.true, c.requires)) c.places.invariant.1)

pub returns : goal.returns
returns c = painted_end _ _ _ _ _ _ c.places-test.false c.places.invariant.0 c.places.invariant.1
