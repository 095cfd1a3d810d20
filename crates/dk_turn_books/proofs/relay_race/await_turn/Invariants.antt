use Rattle.std.proofs.Common.{◌≡◌}
use Rattle.dk_turn.specs.Fronts.{Continues}
use Rattle.dk_turn_books.proofs.relay_race.await_turn.Given as goal

abbrev pub invariant-loop : goal.invariant-loop
invariant-loop g l = (l.pass.number ≡ l.fn.pass.number) × Continues (λ e. e.by) l.fn.pass.number l.fn.pass.front l.pass.front
