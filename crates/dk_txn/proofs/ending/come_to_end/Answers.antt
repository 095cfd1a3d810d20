use Rattle.std.proofs.Common.{refl, sym, ap, subst, ◌∙◌, nat_lt}
use Rattle.dk_types.specs.declared.fault.AppFault.TheVariants.{TooLarge}
use Rattle.dk_types.specs.declared.fault.Outcome.TheVariants as outcome
use Rattle.dk_types.specs.declared.limits.TheConstants.{EFFECTS_MOST_BYTES}
use Rattle.dk_model.specs.Effects.{effects_length}
use Rattle.dk_overlay.specs.Asked.{IsOnce}
use Rattle.dk_overlay.specs.ReadsAndWrites.{ReadsAndWrites}
use Rattle.dk_txn.proofs.RunEnds.{tells_done, tells_large, tells_without, if_ok}
use Rattle.dk_txn.proofs.ending.come_to_end.Goals as goal

pub returns-then-is_too_large-clause-told : goal.returns-then-is_too_large-clause-told
returns-then-is_too_large-clause-told c =
    let large = sym (ap (λ e. nat_lt EFFECTS_MOST_BYTES (effects_length e)) c.in_ok-effects.ensures.effects) ∙ sym c.is_too_large.ensures ∙ c.if-is_too_large.true in
    if_ok c.fail.result c.fail.ensures.told (λ f tells. tells_large c.args.set c.args.job.now f large (tells_without c.args.set c.in_ok-effects.set c.args.job.now TooLarge f c.in_ok-effects.ensures.rest tells))

pub returns-clause-told : goal.returns-clause-told
returns-clause-told c =
    let small = sym (ap (λ e. nat_lt EFFECTS_MOST_BYTES (effects_length e)) c.in_ok-effects.ensures.effects) ∙ sym c.is_too_large.ensures ∙ c.if-is_too_large.false in
    tells_done c.args.set c.args.job.now
    (record { reads = c.into_parts-parts.result.reads; effects = c.in_ok-effects.effects; outs = c.into_parts-parts.result.outs; outcome = outcome.Ok; touched = c.into_parts-parts.result.touched })
    small refl c.in_ok-effects.ensures.effects (c.into_parts-parts.ensures.touched ∙ ap (λ (t : ReadsAndWrites). t.touched) c.in_ok-effects.ensures.rest)
    (c.into_parts-parts.ensures.outs ∙ ap (λ (t : ReadsAndWrites). t.outs) c.in_ok-effects.ensures.rest)

pub returns-clause-once : goal.returns-clause-once
returns-clause-once c = subst IsOnce (sym c.into_parts-parts.ensures.reads) c.into_parts-parts.ensures.once

pub returns-then-is_too_large-clause-reads : goal.returns-then-is_too_large-clause-reads
returns-then-is_too_large-clause-reads c = if_ok c.fail.result c.fail.ensures.reads (λ f same. same ∙ ap (λ (t : ReadsAndWrites). t.reads) c.in_ok-effects.ensures.rest)

pub returns-clause-reads : goal.returns-clause-reads
returns-clause-reads c = c.into_parts-parts.ensures.reads ∙ ap (λ (t : ReadsAndWrites). t.reads) c.in_ok-effects.ensures.rest
