use Rattle.std.proofs.Common.{◌≡◌}
use Rattle.std.specs.Io.KnownBytes.{Keeps}
use Rattle.dk_edge.proofs.std_streams.StdSourceSource.take.Given as goal

abbrev pub invariant-loop : goal.invariant-loop
invariant-loop g l = record {
  faults : l.self.faults ≡ l.initial.self.faults;
  kept : Keeps (g.I.Read.remaining l.initial.self.reader) (g.I.Read.remaining l.self.reader);
}
