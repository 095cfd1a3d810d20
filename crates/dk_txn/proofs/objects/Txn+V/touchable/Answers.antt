use Rattle.std.proofs.Common.{sym, ap, ◌∙◌}
use Rattle.dk_model.specs.Runs as act
use Rattle.dk_txn.proofs.ObjectCalls.{absent_untouched, reserved_untouched, may_touch}
use Rattle.dk_txn.proofs.objects.Txn+V.touchable.Goals as goal

pub returns-in-None-clause-err : goal.returns-in-None-clause-err
returns-in-None-clause-err g c = absent_untouched _ c.args.id _ _ c.in_ok-before.ensures.known c.in-None.is

pub returns-then-is_reserved_kind-clause-err : goal.returns-then-is_reserved_kind-clause-err
returns-then-is_reserved_kind-clause-err g c =
    reserved_untouched _ c.args.id _ _ c.in-Some.kind c.in_ok-before.ensures.known c.in-Some.is
    (sym (ap (λ m. act.is_reserved_kind m c.in-Some.kind) c.mode.ensures) ∙ sym c.is_reserved_kind.ensures ∙ c.if-is_reserved_kind.true)

pub returns-clause-ok : goal.returns-clause-ok
returns-clause-ok g c =
    may_touch _ c.args.id _ _ c.in-Some.kind c.in_ok-before.ensures.known c.in-Some.is
    (sym (ap (λ m. act.is_reserved_kind m c.in-Some.kind) c.mode.ensures) ∙ sym c.is_reserved_kind.ensures ∙ c.if-is_reserved_kind.false)
