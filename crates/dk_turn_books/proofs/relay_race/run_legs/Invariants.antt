use Rattle.std.proofs.Common.{◌≡◌}
use Rattle.dk_turn_books.specs.Legs.{legs_of}
use Rattle.dk_turn_books.proofs.relay_race.run_legs.Given as goal

-- the legs so far
abbrev pub invariant-loop : goal.invariant-loop
invariant-loop g l = (l.pass.number ≡ l.fn.pass.number) × (legs_of l.fn.pass.number l.pass.front ≡ l.counter)
