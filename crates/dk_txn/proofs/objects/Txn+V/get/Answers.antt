use Rattle.std.proofs.Common.{sym, subst}
use Rattle.std.specs.Result.{IfErr}
use Rattle.dk_txn.specs.Refusals.{TellsLength}
use Rattle.dk_txn.proofs.ObjectCalls.{get_does, length_absent}
use Rattle.dk_txn.proofs.objects.Txn+V.get.Goals as goal

pub returns-clause-does : goal.returns-clause-does
returns-clause-does g c = get_does c.args.id c.object_now.ensures.keeps c.object_now.ensures.same_changes c.in_ok-object.ensures.now c.ok_or.result c.ok_or.ensures.value

pub returns-clause-length : goal.returns-clause-length
returns-clause-length g c = λ bytes. subst (λ r. IfErr r (TellsLength bytes)) (sym c.ok_or.ensures.value) (length_absent bytes _)
