use Rattle.std.specs.Vec.Iter.{into_iter_items}
use Rattle.dk_connections.proofs.Sends.{Closing}
use Rattle.dk_connections.proofs.connections.Connections.close_all.Given as goal

abbrev pub invariant-loop-conn : goal.invariant-loop-conn
invariant-loop-conn l = Closing l.initial.self.connections l.self.connections (into_iter_items l.initial.conn-iterator) (into_iter_items l.conn-iterator)
