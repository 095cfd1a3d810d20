use Rattle.std.proofs.Common.{◌≡◌}
use Rattle.dk_edge.proofs.KnownBytes.{IsWritten}
use Rattle.dk_edge.proofs.std_streams.StdSinkSink.put.Given as goal

abbrev pub invariant-loop : goal.invariant-loop
invariant-loop g l = record {
  faults : l.self.faults ≡ l.initial.self.faults;
  put : IsWritten (g.W.Write.contents l.initial.self.writer) (g.W.Write.contents l.self.writer) l.bytes l.rest;
}
