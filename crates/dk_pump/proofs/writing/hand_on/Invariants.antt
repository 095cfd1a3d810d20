use Rattle.std.proofs.Common.{◌≡◌}
use Rattle.dk_pump.proofs.WrittenOn.{IsHandingOn}
use Rattle.dk_pump.proofs.writing.hand_on.Given as goal

abbrev pub invariant-loop : goal.invariant-loop
invariant-loop g l = record {
  number : l.pass.number ≡ l.fn.pass.number;
  handing : IsHandingOn g.W.Hosting.opened g.J.Naming.name.passes l.fn.pass.number l.conn l.fn.gone l.over l.fn.pass.front l.pass.front;
}
