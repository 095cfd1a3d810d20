use Rattle.std.proofs.Common.{IfOk, IfNone, subst}
use Rattle.dk_overlay.specs.Asked.{WasNotRead}
use Rattle.dk_overlay.specs.ReadsAndWrites.{ReadsAndWrites}
use Rattle.dk_overlay.proofs.read_write_set.ReadWriteSet.answer.Goals as goal

pub returns-clause-none : goal.returns-clause-none
returns-clause-none c = subst (λ (t : ReadsAndWrites). IfOk c.answer.result (λ o. IfNone o (WasNotRead t.reads c.args.item.now))) c.self.view_is c.answer.ensures.none
