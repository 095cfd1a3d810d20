use Rattle.std.proofs.Common.{map}
use Rattle.std.specs.Vec.Iter.{into_iter_items}
use Rattle.dk_core.specs.StampedWorlds.{durable_of}
use Rattle.dk_core.proofs.Walks.{session_in, IsWalked}
use Rattle.dk_core.proofs.opening.open_connections.Given as goal

-- with what is left opened too, all are
abbrev pub invariant-loop-name : goal.invariant-loop-name
invariant-loop-name l =
    IsWalked (map (λ e. session_in (durable_of l.world) (e.0.now, e.1.now.0)) (into_iter_items l.name-iterator)) (map (λ e. session_in (durable_of l.world) (e.0.now, e.1.now.0)) (into_iter_items l.initial.name-iterator)) l.connections.connections
