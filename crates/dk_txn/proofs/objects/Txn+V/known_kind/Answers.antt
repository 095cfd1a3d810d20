use Rattle.std.proofs.Common.{sym, ap, ◌∙◌}
use Rattle.std.specs.FinMap as map
use Rattle.std.specs.Option.{option_copied}
use Rattle.dk_overlay.specs.ReadsAndWrites.{ReadsAndWrites}
use Rattle.dk_txn.proofs.ObjectCalls.{kind_changed, kind_asked}
use Rattle.dk_txn.proofs.objects.Txn+V.known_kind.Goals as goal

pub returns-in_ok-copy_value-in-Some-clause-known : goal.returns-in_ok-copy_value-in-Some-clause-known
returns-in_ok-copy_value-in-Some-clause-known g c =
    kind_changed c.args.self.now.set c.args.id c.in-Some.change.now _ _ (sym c.object.ensures ∙ ap option_copied c.in-Some.is) c.in_ok-copy_value-in-Some.ensures c.kind_of-kind.ensures

pub returns-in_ok-ask-in-None-clause-known : goal.returns-in_ok-ask-in-None-clause-known
returns-in_ok-ask-in-None-clause-known g c =
    kind_asked c.ask.new.self.set c.args.id c.in_ok-ask-in-None.field-0 c.object_of_answer-before.result c.kind_of-kind-in-None.result
    (ap (λ (t : ReadsAndWrites). map.get t.objects c.args.id) c.ask.ensures.same_changes ∙ sym c.object.ensures ∙ ap option_copied c.in-None.is)
    c.object_of_answer-before.ensures c.in_ok-ask-in-None.ensures.answers c.kind_of-kind-in-None.ensures
