use Rattle.std.proofs.Common.{Some, sym, ap, ◌∙◌}
use Rattle.dk_model.specs.Runs as act
use Rattle.dk_txn.proofs.Kit.{same_error}
use Rattle.dk_txn.proofs.ObjectCalls.{touch_does, change_refused, save_long, save_means, length_same}
use Rattle.dk_txn.proofs.objects.Txn+V.save.Goals as goal

pub returns-then-is_too_long-clause-does : goal.returns-then-is_too_long-clause-does
returns-then-is_too_long-clause-does g c = save_long c.args.id c.args.bytes c.too_long.ensures.told (sym c.is_too_long.ensures ∙ c.if-is_too_long.true)

pub returns-in_err-before-clause-does : goal.returns-in_err-before-clause-does
returns-in_err-before-clause-does g c =
    same_error (change_refused c.args.id (act.save c.args.id c.args.bytes) (λ o. Some (record { kind = o.kind; bytes = c.args.bytes })) c.touchable.ensures.keeps c.touchable.ensures.same_changes c.in_err-before.ensures.err
    (save_means c.args.id c.args.bytes (sym c.is_too_long.ensures ∙ c.if-is_too_long.false))) c.from_residual.ensures.1

pub returns-clause-does : goal.returns-clause-does
returns-clause-does g c =
    touch_does (act.save c.args.id c.args.bytes) (λ o. Some (record { kind = o.kind; bytes = c.args.bytes })) (Some (record { kind = c.in_ok-before.kind; bytes = c.args.bytes }))
    c.touchable.ensures.keeps c.touchable.ensures.same_changes c.in_ok-before.ensures.ok
    (λ o same. ap (λ kind. Some (record { kind = kind; bytes = c.args.bytes })) (sym same))
    (rw c.in_ok-shared.ensures at c.in_ok-change_object.ensures.ok) (save_means c.args.id c.args.bytes (sym c.is_too_long.ensures ∙ c.if-is_too_long.false))

pub returns-in_err-before-clause-length : goal.returns-in_err-before-clause-length
returns-in_err-before-clause-length g c = length_same c.args.bytes _ _ c.from_residual.ensures.1 (c.in_err-before.ensures.length c.args.bytes)
