use Rattle.std.proofs.Common.{sym, ap, ◌∙◌}
use Rattle.std.specs.Option.{ok_or}
use Rattle.dk_txn.specs.declared.refusal.Refusal.TheVariants as refusal
use Rattle.dk_refs.specs.Telling.{TellsKind}
use Rattle.dk_refs.proofs.Calls.{get_stops, get_wrong, get_read, found_kind, get_tells, passed}
use Rattle.dk_refs.proofs.reference.ManagedRef.get.Goals as goal

pub returns-in_err-object-clause-does : goal.returns-in_err-object-clause-does
returns-in_err-object-clause-does g c = get_stops c.args.self.now g.T.Managed.KIND g.T.Managed.of (rw c.self.view_is at c.in_err-object.ensures.does) c.from_residual.ensures.1

pub returns-in_err-object-clause-kind : goal.returns-in_err-object-clause-kind
returns-in_err-object-clause-kind g c =
    passed (TellsKind c.get.new.self.set c.args.self.now) _ _ c.from_residual.ensures.1 (get_tells c.args.self.now (rw c.self.view_is at c.in_err-object.ensures.does))

pub returns-then-object-KIND-clause-does : goal.returns-then-object-KIND-clause-does
returns-then-object-KIND-clause-does g c =
    get_wrong c.args.self.now c.in_ok-object.object (rw c.self.view_is at c.in_ok-object.ensures.does) g.T.Managed.KIND g.T.Managed.of (λ same. c.if-object-KIND.true (same ∙ sym c.KIND.ensures))

pub returns-then-object-KIND-clause-kind : goal.returns-then-object-KIND-clause-kind
returns-then-object-KIND-clause-kind g c = found_kind c.args.self.now c.in_ok-object.object (rw c.self.view_is at c.in_ok-object.ensures.does)

pub returns-clause-does : goal.returns-clause-does
returns-clause-does g c =
    get_read c.args.self.now c.in_ok-object.object (rw c.self.view_is at c.in_ok-object.ensures.does) g.T.Managed.KIND g.T.Managed.of c.ok_or.result (c.if-object-KIND.false ∙ c.KIND.ensures)
    (c.ok_or.ensures.value ∙ ap (λ o. ok_or o refusal.BadBytes) c.in_ok-decode.ensures)
