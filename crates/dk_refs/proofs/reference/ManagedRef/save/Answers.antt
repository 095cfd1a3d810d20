use Rattle.std.proofs.Common.{sym, ◌∙◌}
use Rattle.dk_txn.proofs.Asking.{asks_then}
use Rattle.dk_txn.specs.Refusals.{TellsLength}
use Rattle.dk_refs.specs.Telling.{TellsKind}
use Rattle.dk_refs.proofs.Calls.{save_stops, save_wrong, save_right, save_tells, found_kind, get_tells, passed}
use Rattle.dk_refs.proofs.reference.ManagedRef.save.Goals as goal

pub returns-in_err-before-clause-does : goal.returns-in_err-before-clause-does
returns-in_err-before-clause-does g c = save_stops c.args.self.now g.T.Managed.KIND (g.T.Managed.bytes c.args.value.now) (rw c.self.view_is at c.in_err-before.ensures.does) c.from_residual.ensures.1

pub returns-in_err-before-clause-kind : goal.returns-in_err-before-clause-kind
returns-in_err-before-clause-kind g c =
    passed (TellsKind c.get.new.self.set c.args.self.now) _ _ c.from_residual.ensures.1 (get_tells c.args.self.now (rw c.self.view_is at c.in_err-before.ensures.does))

pub returns-in_err-before-clause-length : goal.returns-in_err-before-clause-length
returns-in_err-before-clause-length g c =
    passed (TellsLength (g.T.Managed.bytes c.args.value.now)) _ _ c.from_residual.ensures.1 (c.in_err-before.ensures.length (g.T.Managed.bytes c.args.value.now))

pub returns-then-before-KIND-clause-does : goal.returns-then-before-KIND-clause-does
returns-then-before-KIND-clause-does g c =
    save_wrong c.args.self.now c.in_ok-before.before (rw c.self.view_is at c.in_ok-before.ensures.does) g.T.Managed.KIND (g.T.Managed.bytes c.args.value.now)
    (λ same. c.if-before-KIND.true (same ∙ sym c.KIND.ensures))

pub returns-then-before-KIND-clause-kind : goal.returns-then-before-KIND-clause-kind
returns-then-before-KIND-clause-kind g c = found_kind c.args.self.now c.in_ok-before.before (rw c.self.view_is at c.in_ok-before.ensures.does)

pub returns-clause-does : goal.returns-clause-does
returns-clause-does g c =
    save_right c.args.self.now c.in_ok-before.before (rw c.self.view_is at c.in_ok-before.ensures.does) g.T.Managed.KIND (g.T.Managed.bytes c.args.value.now) (c.if-before-KIND.false ∙ c.KIND.ensures)
    (rw (c.self.view_is, c.in_ok-payload.ensures) at c.save.ensures.does)

pub returns-clause-kind : goal.returns-clause-kind
returns-clause-kind g c = save_tells c.args.self.now _ (rw c.self.view_is at c.save.ensures.does)

pub returns-clause-asks : goal.returns-clause-asks
returns-clause-asks g c = asks_then (rw c.self.view_is at c.in_ok-before.ensures.asks) (rw c.self.view_is at c.save.ensures.asks)
