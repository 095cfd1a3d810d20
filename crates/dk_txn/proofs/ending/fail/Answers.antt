use Rattle.std.proofs.Common.{refl, sym, ap, subst, ◌∙◌}
use Rattle.dk_types.specs.declared.fault.Outcome.TheVariants as outcome
use Rattle.dk_overlay.specs.Asked.{IsOnce}
use Rattle.dk_overlay.specs.ReadsAndWrites.{ReadsAndWrites}
use Rattle.dk_txn.proofs.RunEnds.{tells_failed}
use Rattle.dk_txn.proofs.ending.fail.Goals as goal

pub returns-clause-told : goal.returns-clause-told
returns-clause-told c =
    tells_failed c.args.set c.args.job.now c.args.fault c.in_ok-kept.kept
    (record { reads = c.into_parts-reads.result.reads; effects = c.in_ok-effects.effects; outs = c.in_ok-outs.outs; outcome = outcome.Fail c.args.fault; touched = c.into_parts-touched.result.touched })
    c.in_ok-kept.ensures refl c.in_ok-effects.ensures.effects (c.into_parts-touched.ensures.touched ∙ ap (λ (t : ReadsAndWrites). t.touched) c.in_ok-effects.ensures.rest) c.in_ok-outs.ensures

pub returns-clause-once : goal.returns-clause-once
returns-clause-once c = subst IsOnce (sym c.into_parts-reads.ensures.reads) c.into_parts-reads.ensures.once
