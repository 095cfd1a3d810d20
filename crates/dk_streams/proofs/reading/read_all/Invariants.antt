use Rattle.std.proofs.Common.{◌≡◌, ◌≤◌, ◌-◌, vec_len}
use Rattle.std.specs.Io.KnownBytes.{Consumes}
use Rattle.dk_streams.proofs.reading.read_all.Given as goal

abbrev pub invariant-pieces : goal.invariant-pieces
invariant-pieces g l = record {
  few : vec_len l.bytes ≤ 16777216;
  count : g.S.Source.counted l.input ≡ g.S.Source.counted l.initial.input;
  read : Consumes (g.S.Source.remaining l.initial.input) (g.S.Source.remaining l.input) l.bytes.items;
}

abbrev pub decreases-pieces : goal.decreases-pieces
decreases-pieces g l = 16777216 - vec_len l.bytes
