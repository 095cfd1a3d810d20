use Rattle.std.proofs.Common.{◌≤◌, max}
use Rattle.dk_disk.specs.Torn.{IsPainted}
use Rattle.dk_disk.proofs.replay.fill_range.Given as goal

abbrev pub invariant-places : goal.invariant-places
invariant-places l = (l.at ≤ max l.start l.end) × IsPainted l.start l.at l.fill l.fn.image.items l.image.items
