use Rattle.std.proofs.Common.{◌≡◌}
use Rattle.dk_pump.specs.Ticking.{Ticks}
use Rattle.dk_pump.proofs.ticker.keep_time.Given as goal

abbrev pub invariant-loop : goal.invariant-loop
invariant-loop g l = record {
  number : l.pass.number ≡ l.fn.pass.number;
  ticks : Ticks g.W.Hosting.opened g.J.Naming.name.passes l.fn.pass.number l.fn.pass.front l.pass.front;
}
