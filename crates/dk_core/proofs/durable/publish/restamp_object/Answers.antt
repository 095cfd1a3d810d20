use Rattle.std.proofs.Common.{refl, sym, ap, ◌∙◌, map}
use Rattle.dk_model.proofs.Maps.{ids_total, exact_ids}
use Rattle.dk_laws.proofs.EffectsMade.{ids_told}
use Rattle.dk_model.specs.Effects.{with_set}
use Rattle.dk_core.specs.Publishing.{stamped_entry}
use Rattle.dk_core.proofs.MapFacts.{set-Changed, set-settled}
use Rattle.dk_core.proofs.durable.publish.restamp_object.Goals as goal

-- what will be written has the stamp then
pub returns-in-Some-clause-stamped : goal.returns-in-Some-clause-stamped
returns-in-Some-clause-stamped c =
    sym (set-settled ids_total exact_ids (λ s. (s.0, c.args.stamp)) (stamped_entry c.args.stamp) (λ _. refl) c.args.written.now c.args.next.now c.in-Some.field-0.now c.in-Some.ensures.lookup.3.0 c.in-Some.ensures.lookup.1
    c.args.id (ids_told.equal c.in-Some.field-0.now.0 c.args.id (sym c.eq.ensures ∙ c.if-eq.true)) c.args.objects.now.objects)

-- and all else has it now
pub returns-in_default-clause-stamped : goal.returns-in_default-clause-stamped
returns-in_default-clause-stamped c =
    ap (with_set (map (stamped_entry c.args.stamp) c.args.written.now)) c.restamp.ensures.objects
    ∙ set-Changed ids_total exact_ids (λ s. (s.0, c.args.stamp)) (stamped_entry c.args.stamp) (λ _. refl) c.args.written.now c.args.objects.now.objects c.args.id
