use Rattle.std.proofs.Common.{◌≡◌}
use Rattle.dk_turn_books.specs.Ticks.{Took}
use Rattle.dk_turn_books.proofs.many_turns.count_all.Given as goal

-- the turns so far
abbrev pub invariant-loop : goal.invariant-loop
invariant-loop g l = (l.pass.number ≡ l.fn.pass.number) × Took l.fn.pass.number l.counter l.counted l.pass.front
