use Rattle.std.proofs.Common.{ap}
use Rattle.dk_connections.proofs.Steps.{alive_seen}
use Rattle.dk_connections.proofs.connections.Connections.make_room.Goals as goal

pub returns-in_err-reserve-2-clause-alive : goal.returns-in_err-reserve-2-clause-alive
returns-in_err-reserve-2-clause-alive c = alive_seen _ _ c.self.invariant _ (ap (λ s. s.connections) c.self.view_is)

pub returns-in_err-reserve-3-clause-alive : goal.returns-in_err-reserve-3-clause-alive
returns-in_err-reserve-3-clause-alive c = alive_seen _ _ c.self.invariant _ (ap (λ s. s.connections) c.self.view_is)

pub returns-in_err-reserve-4-clause-alive : goal.returns-in_err-reserve-4-clause-alive
returns-in_err-reserve-4-clause-alive c = alive_seen _ _ c.self.invariant _ (ap (λ s. s.connections) c.self.view_is)

pub returns-in_ok-reserve-2-clause-alive : goal.returns-in_ok-reserve-2-clause-alive
returns-in_ok-reserve-2-clause-alive c = alive_seen _ _ c.self.invariant _ (ap (λ s. s.connections) c.self.view_is)

pub returns-in_ok-reserve-4-clause-alive : goal.returns-in_ok-reserve-4-clause-alive
returns-in_ok-reserve-4-clause-alive c = alive_seen _ _ c.self.invariant _ (ap (λ s. s.connections) c.self.view_is)
