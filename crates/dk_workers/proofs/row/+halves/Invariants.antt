use Rattle.std.proofs.Common.{◌+◌, ◌-◌, ◌*◌, length}
use Rattle.dk_workers.proofs.row.+halves.Given as goal

abbrev pub decreases-serve_from : goal.decreases-serve_from
decreases-serve_from g l = 4 * length l.elements.now

abbrev pub decreases-serve_halves : goal.decreases-serve_halves
decreases-serve_halves g l = 4 * (length l.front.now + length l.back.now) - 1

abbrev pub decreases-serve_halves-one : goal.decreases-serve_halves-one
decreases-serve_halves-one g l = 4 * length l.front.now + 1

abbrev pub decreases-serve_halves-other : goal.decreases-serve_halves-other
decreases-serve_halves-other g l = 4 * length l.back.now + 1
