use Rattle.dk_txn.proofs.Asking.{asks_then}
use Rattle.dk_refs.specs.Telling.{TellsKind}
use Rattle.dk_refs.proofs.Calls.{update_stops, update_halts, update_does, mark_tells, passed}
use Rattle.dk_refs.proofs.reference.ManagedRef.get_for_update.Goals as goal

pub returns-in_err-value-clause-does : goal.returns-in_err-value-clause-does
returns-in_err-value-clause-does g c = update_stops c.args.self.now g.T.Managed.KIND g.T.Managed.of c.in_err-value.ensures.does c.from_residual.ensures.1

pub returns-in_err-mark-clause-does : goal.returns-in_err-mark-clause-does
returns-in_err-mark-clause-does g c =
    update_halts c.args.self.now g.T.Managed.KIND g.T.Managed.of c.in_ok-value.ensures.does (rw c.self.view_is at c.in_err-mark.ensures.does) c.from_residual-in_err-mark.ensures.1

pub returns-in_err-mark-clause-kind : goal.returns-in_err-mark-clause-kind
returns-in_err-mark-clause-kind g c =
    passed (TellsKind c.mark.new.self.set c.args.self.now) _ _ c.from_residual-in_err-mark.ensures.1 (mark_tells c.args.self.now (rw c.self.view_is at c.in_err-mark.ensures.does))

pub returns-clause-does : goal.returns-clause-does
returns-clause-does g c = update_does c.args.self.now g.T.Managed.KIND g.T.Managed.of c.in_ok-value.ensures.does (rw c.self.view_is at c.in_ok-mark.ensures.does)

pub returns-in_err-mark-clause-asks : goal.returns-in_err-mark-clause-asks
returns-in_err-mark-clause-asks g c = asks_then c.in_ok-value.ensures.asks (rw c.self.view_is at c.in_err-mark.ensures.asks)

pub returns-clause-asks : goal.returns-clause-asks
returns-clause-asks g c = asks_then c.in_ok-value.ensures.asks (rw c.self.view_is at c.in_ok-mark.ensures.asks)
