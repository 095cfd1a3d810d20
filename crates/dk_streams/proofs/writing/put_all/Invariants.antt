use Rattle.std.proofs.Common.{◌≡◌, length}
use Rattle.dk_edge.proofs.KnownBytes.{IsWritten}
use Rattle.dk_streams.proofs.writing.put_all.Given as goal

abbrev pub invariant-pieces : goal.invariant-pieces
invariant-pieces g l = record {
  count : g.K.Sink.counted l.out ≡ g.K.Sink.counted l.initial.out;
  put : IsWritten (g.K.Sink.contents l.initial.out) (g.K.Sink.contents l.out) l.text l.rest;
}

abbrev pub decreases-pieces : goal.decreases-pieces
decreases-pieces g l = length l.rest
