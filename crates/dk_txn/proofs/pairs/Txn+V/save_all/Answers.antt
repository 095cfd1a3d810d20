use Rattle.std.proofs.Common.{ap, ◌∙◌}
use Rattle.dk_overlay.specs.ReadsAndWrites.{ReadsAndWrites}
use Rattle.dk_overlay.proofs.PutAll.{all_changed}
use Rattle.dk_txn.proofs.Asking.{asks_changed}
use Rattle.dk_txn.proofs.Kit.{same_error}
use Rattle.dk_txn.proofs.Together.{never_comes, starves}
use Rattle.dk_txn.proofs.SavedAll.{all_saved}
use Rattle.dk_txn.proofs.pairs.Txn+V.save_all.Goals as goal

pub returns-in_err-changes-clause-does : goal.returns-in_err-changes-clause-does
returns-in_err-changes-clause-does g c = same_error (never_comes c.rewritten_all.ensures.keeps c.in_err-changes.ensures.err) c.from_residual.ensures.1

pub returns-in_err-change_all-clause-does : goal.returns-in_err-change_all-clause-does
returns-in_err-change_all-clause-does g c = starves c.rewritten_all.ensures.keeps c.in_err-change_all.ensures.err c.from_residual-in_err-change_all.ensures.1

pub returns-clause-does : goal.returns-clause-does
returns-clause-does g c = all_saved c.args.payloads.items c.in_ok-changes.changes.items c.rewritten_all.ensures.keeps c.rewritten_all.ensures.same_changes c.requires.short c.in_ok-changes.ensures.ok c.in_ok-change_all.ensures.ok

pub returns-in_err-change_all-clause-asks : goal.returns-in_err-change_all-clause-asks
returns-in_err-change_all-clause-asks g c = asks_changed c.change_all.new.self c.rewritten_all.ensures.asks (ap (λ (t : ReadsAndWrites). t.reads) c.in_err-change_all.ensures.err)

pub returns-clause-asks : goal.returns-clause-asks
returns-clause-asks g c = asks_changed c.change_all.new.self c.rewritten_all.ensures.asks (ap (λ (t : ReadsAndWrites). t.reads) (c.in_ok-change_all.ensures.ok ∙ all_changed c.rewritten_all.new.self.set c.in_ok-changes.changes.items))
