use Rattle.std.proofs.Common.{sym, ap, ◌∙◌}
use Rattle.std.specs.FinMap as map
use Rattle.std.specs.Option.{option_copied}
use Rattle.dk_overlay.specs.ReadsAndWrites.{ReadsAndWrites}
use Rattle.dk_txn.specs.Does.{KnownObject}
use Rattle.dk_txn.proofs.ObjectCalls.{known_changed, known_asked, if_copied}
use Rattle.dk_txn.proofs.objects.Txn+V.known_object.Goals as goal

pub returns-in-Some-clause-known : goal.returns-in-Some-clause-known
returns-in-Some-clause-known g c =
    if_copied (KnownObject c.args.self.now.set c.args.id) c.copy_change.result c.in-Some.change.now c.copy_change.ensures (known_changed c.args.self.now.set c.args.id c.in-Some.change.now (sym c.object.ensures ∙ ap option_copied c.in-Some.is))

pub returns-in_ok-before-in-None-clause-known : goal.returns-in_ok-before-in-None-clause-known
returns-in_ok-before-in-None-clause-known g c =
    known_asked c.ask.new.self.set c.args.id c.in_ok-ask-in-None.field-0 c.object_of_answer-after.result c.in_ok-before-in-None.before
    (ap (λ (t : ReadsAndWrites). map.get t.objects c.args.id) c.ask.ensures.same_changes ∙ sym c.object.ensures ∙ ap option_copied c.in-None.is)
    c.object_of_answer-after.ensures c.in_ok-before-in-None.ensures c.in_ok-ask-in-None.ensures.answers
