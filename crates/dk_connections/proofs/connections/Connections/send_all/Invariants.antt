use Rattle.std.proofs.Common.{◌+◌, ◌≤◌, length, vec_capacity}
use Rattle.std.specs.Vec.Iter.{into_iter_items}
use Rattle.dk_connections.proofs.Sends.{Sending}
use Rattle.dk_connections.proofs.connections.Connections.send_all.Given as goal

abbrev pub invariant-loop-letter : goal.invariant-loop-letter
invariant-loop-letter l = record {
  sent : Sending l.initial.self.connections l.self.connections (into_iter_items l.initial.letter-iterator) (into_iter_items l.letter-iterator) l.closed.items;
  room : length l.closed.items + length (into_iter_items l.letter-iterator) ≤ vec_capacity l.closed;
}
