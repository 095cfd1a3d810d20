use Rattle.std.proofs.Common.{None, refl}
use Rattle.dk_model.specs.Runs as act
use Rattle.dk_txn.proofs.Kit.{same_error}
use Rattle.dk_txn.proofs.ObjectCalls.{touch_does, change_refused}
use Rattle.dk_txn.proofs.objects.Txn+V.remove.Goals as goal

pub returns-in_err-before-clause-does : goal.returns-in_err-before-clause-does
unfolding act.remove
returns-in_err-before-clause-does g c =
    same_error (change_refused c.args.id (act.remove c.args.id) (λ _. None) c.touchable.ensures.keeps c.touchable.ensures.same_changes c.in_err-before.ensures.err (λ s. refl)) c.from_residual.ensures.1

pub returns-clause-does : goal.returns-clause-does
unfolding act.remove
returns-clause-does g c =
    touch_does (act.remove c.args.id) (λ _. None) None c.touchable.ensures.keeps c.touchable.ensures.same_changes c.in_ok-before.ensures.ok (λ o same. refl) c.in_ok-change_object.ensures.ok (λ s. refl)
