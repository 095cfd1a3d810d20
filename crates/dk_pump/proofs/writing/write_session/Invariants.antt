use Rattle.std.proofs.Common.{◌≡◌}
use Rattle.dk_pump.specs.Writing.{IsWriting}
use Rattle.dk_pump.proofs.writing.write_session.Given as goal

abbrev pub invariant-loop : goal.invariant-loop
invariant-loop g l = record {
  number : l.pass.number ≡ l.fn.pass.number;
  writing : IsWriting g.W.Hosting.opened g.J.Naming.name.passes l.fn.pass.number l.conn (g.K.Sink.contents l.fn.sink) (g.K.Sink.contents l.sink) (g.K.Sink.counted l.fn.sink) (g.K.Sink.counted l.sink) l.fn.pass.front l.pass.front;
}
