use Rattle.std.proofs.Common.{IfOk, sym, subst}
use Rattle.dk_txn.specs.Finishes.{TellsEnd}
use Rattle.dk_txn.proofs.ending.finish.Goals as goal

pub returns-in-Ok-clause-told : goal.returns-in-Ok-clause-told
returns-in-Ok-clause-told c = subst (λ e. IfOk c.come_to_end.result (TellsEnd c.args.set c.args.job.now e)) (sym c.in-Ok.is) c.come_to_end.ensures.told

pub returns-in-Err-clause-told : goal.returns-in-Err-clause-told
returns-in-Err-clause-told c = subst (λ e. IfOk c.fail.result (TellsEnd c.args.set c.args.job.now e)) (sym c.in-Err.is) c.fail.ensures.told
