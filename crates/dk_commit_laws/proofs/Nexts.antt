-- The entry of a step fits, and leads to the step's world.
use Rattle.std.proofs.Common.{◌≡◌, ◌+◌, refl, sym, ap, subst, ◌∙◌}
use Rattle.dk_model.specs.DurableWorlds.{DurableWorld, last_with}
use Rattle.dk_model.specs.Effects.{effects, apply, after}
use Rattle.dk_model.specs.Steps.{step}
use Rattle.dk_model.specs.Validity.{IsValid}
use Rattle.dk_model.proofs.StepLaws.{step_goes_on}
use Rattle.dk_model.proofs.StepValid.{step_valid}
use Rattle.dk_laws.proofs.EffectsMade.{apply-effects}
use Rattle.dk_laws.proofs.StepDues.{step_differs}
use Rattle.dk_commit_laws.specs.EntryOfStep.{entry_of, EntriesAreNext}

pub entries_next : EntriesAreNext
entries_next rules j run at d lawful v ready =
    let s = step rules j run at d in
    let goes = step_goes_on rules lawful j run at d in
    let made : apply (effects d s.world) d ≡ record (s.world) { commits = d.commits; last = d.last } = apply-effects d s.world (step_differs rules lawful run at d v j ready) in
    let leads : after (entry_of d run s) d ≡ s.world
    = ap (λ (w : DurableWorld). record w { commits = d.commits + 1; last = last_with d.last run }) made ∙ (λ i. record (s.world) { commits = sym goes.commits i; last = sym goes.last i }) in (
      record {
        seq = refl;
        effects = ap (effects d) (sym leads);
        valid = subst IsValid (sym leads) (step_valid rules lawful j run at d v ready);
      },
      leads,
    )
