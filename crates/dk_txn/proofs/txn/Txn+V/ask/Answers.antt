use Rattle.std.proofs.Common.{IfSome, IfNone, None, Some, append-nil, refl, sym, ap, subst, ◌∙◌}
use Rattle.dk_overlay.specs.Asked.{WasAnswered, WasNotRead}
use Rattle.dk_overlay.specs.ReadsAndWrites.{ReadsAndWrites}
use Rattle.dk_txn.proofs.Asking.{asks_once, asks_weaker}
use Rattle.dk_txn.proofs.Agreeing.{agrees_read}
use Rattle.dk_txn.proofs.Reading.{keeps_read, keeps_unread, reading_answers, reading_asked}
use Rattle.dk_txn.proofs.txn.Txn+V.ask.Goals as goal

pub returns-in_err-read-in-None-clause-asks : goal.returns-in_err-read-in-None-clause-asks
returns-in_err-read-in-None-clause-asks g c = asks_once c.args.item None refl (subst (λ o. IfNone o (WasNotRead c.args.self.now.set.reads c.args.item)) c.in-None.is c.in_ok-answer.ensures.none) c.read.ensures.becomes (sym (append-nil c.args.self.now.set.reads))

pub returns-in_err-read-in-None-clause-keeps : goal.returns-in_err-read-in-None-clause-keeps
returns-in_err-read-in-None-clause-keeps g c = keeps_unread refl (g.V.View.sights.asking _ _ c.args.item c.read.ensures.becomes) (asks_weaker (λ q is. tt) (returns-in_err-read-in-None-clause-asks g c)) refl

pub returns-in_err-answer-in-None-clause-asks : goal.returns-in_err-answer-in-None-clause-asks
returns-in_err-answer-in-None-clause-asks g c = asks_once c.args.item None refl (subst (λ o. IfNone o (WasNotRead c.args.self.now.set.reads c.args.item)) c.in-None.is c.in_ok-answer.ensures.none) c.read.ensures.becomes (sym (append-nil c.args.self.now.set.reads))

pub returns-in_err-answer-in-None-clause-keeps : goal.returns-in_err-answer-in-None-clause-keeps
returns-in_err-answer-in-None-clause-keeps g c = keeps_unread refl (g.V.View.sights.asking _ _ c.args.item c.read.ensures.becomes) (asks_weaker (λ q is. tt) (returns-in_err-answer-in-None-clause-asks g c)) refl

pub returns-in_err-add_read-in-None-clause-asks : goal.returns-in_err-add_read-in-None-clause-asks
returns-in_err-add_read-in-None-clause-asks g c =
    asks_once c.args.item None refl (subst (λ o. IfNone o (WasNotRead c.args.self.now.set.reads c.args.item)) c.in-None.is c.in_ok-answer.ensures.none) c.read.ensures.becomes
    (ap (λ (t : ReadsAndWrites). t.reads) c.in_err-add_read-in-None.ensures.err ∙ sym (append-nil c.args.self.now.set.reads))

pub returns-in_err-add_read-in-None-clause-keeps : goal.returns-in_err-add_read-in-None-clause-keeps
returns-in_err-add_read-in-None-clause-keeps g c =
    keeps_unread refl (g.V.View.sights.asking _ _ c.args.item c.read.ensures.becomes) (asks_weaker (λ q is. tt) (returns-in_err-add_read-in-None-clause-asks g c)) c.in_err-add_read-in-None.ensures.err

pub returns-in-Some-clause-answers : goal.returns-in-Some-clause-answers
returns-in-Some-clause-answers g c =
    let told = subst (λ o. IfSome o (WasAnswered c.args.self.now.set.reads c.args.item)) c.in-Some.is c.in_ok-answer.ensures.some in
    λ d agrees. agrees_read d c.args.self.now.set.reads c.args.item told.0 agrees told.1 ∙ sym told.2

pub returns-in_ok-add_read-in-None-clause-asks : goal.returns-in_ok-add_read-in-None-clause-asks
returns-in_ok-add_read-in-None-clause-asks g c =
    asks_once c.args.item (Some c.in_ok-read-in-None.read) refl (subst (λ o. IfNone o (WasNotRead c.args.self.now.set.reads c.args.item)) c.in-None.is c.in_ok-answer.ensures.none) c.read.ensures.becomes
    (ap (λ (t : ReadsAndWrites). t.reads) c.in_ok-add_read-in-None.ensures.ok)

pub returns-in_ok-add_read-in-None-clause-keeps : goal.returns-in_ok-add_read-in-None-clause-keeps
returns-in_ok-add_read-in-None-clause-keeps g c =
    keeps_read c.args.item c.in_ok-read-in-None.read refl c.in_ok-read-in-None.ensures.gives (g.V.View.sights.asking _ _ c.args.item c.read.ensures.becomes)
    (asks_weaker (λ q is. tt) (returns-in_ok-add_read-in-None-clause-asks g c)) c.in_ok-add_read-in-None.ensures.ok

pub returns-in_ok-add_read-in-None-clause-answers : goal.returns-in_ok-add_read-in-None-clause-answers
returns-in_ok-add_read-in-None-clause-answers g c = λ d agrees.
    reading_answers c.args.self.now.set _ c.args.item c.in_ok-read-in-None.read c.in_ok-add_read-in-None.ensures.ok d agrees ∙ sym c.in_ok-answer-in-None.ensures

pub returns-in_ok-add_read-in-None-clause-asked : goal.returns-in_ok-add_read-in-None-clause-asked
returns-in_ok-add_read-in-None-clause-asked g c = reading_asked c.args.self.now.set _ c.args.item c.in_ok-read-in-None.read c.in_ok-add_read-in-None.ensures.ok
