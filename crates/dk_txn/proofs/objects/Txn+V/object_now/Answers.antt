use Rattle.std.proofs.Common.{refl, sym, ap, ◌∙◌}
use Rattle.std.specs.FinMap as map
use Rattle.std.specs.Option.{option_copied}
use Rattle.dk_overlay.specs.ReadsAndWrites.{ReadsAndWrites}
use Rattle.dk_txn.specs.Does.{IsNow}
use Rattle.dk_txn.proofs.ObjectCalls.{known_changed, known_asked, if_copied}
use Rattle.dk_txn.proofs.objects.Txn+V.object_now.Goals as goal

pub returns-in-Some-clause-now : goal.returns-in-Some-clause-now
returns-in-Some-clause-now g c =
    if_copied (IsNow c.args.self.now.set c.args.id) c.copy_value.result c.in-Some.change.now.after c.copy_value.ensures (known_changed c.args.self.now.set c.args.id c.in-Some.change.now (sym c.object.ensures ∙ ap option_copied c.in-Some.is)).after

pub returns-in_ok-ask-in-None-clause-now : goal.returns-in_ok-ask-in-None-clause-now
returns-in_ok-ask-in-None-clause-now g c =
    (known_asked c.ask.new.self.set c.args.id c.in_ok-ask-in-None.field-0 c.object_of_answer.result c.object_of_answer.result
    (ap (λ (t : ReadsAndWrites). map.get t.objects c.args.id) c.ask.ensures.same_changes ∙ sym c.object.ensures ∙ ap option_copied c.in-None.is)
    c.object_of_answer.ensures refl c.in_ok-ask-in-None.ensures.answers).after
