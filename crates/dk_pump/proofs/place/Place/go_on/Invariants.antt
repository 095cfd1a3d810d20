use Rattle.std.proofs.Common.{◌≡◌}
use Rattle.dk_pump.proofs.place.Place.go_on.Given as goal

abbrev pub invariant-loop : goal.invariant-loop
invariant-loop g l = l.place.pass.number ≡ l.fn.self.pass.number
