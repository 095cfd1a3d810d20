use Rattle.std.proofs.Common.{◌≡◌, take}
use Rattle.dk_connections.proofs.deliveries.Deliveries.new.Given as goal

abbrev pub invariant-loop-conn : goal.invariant-loop-conn
invariant-loop-conn l = l.letters.items ≡ take l.conn-index l.outs
