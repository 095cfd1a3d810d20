-- The entry of a step.
use Rattle.std.specs.Prelude.{◌≡◌, ℕ, ◌+◌, ◌<◌, ◌^◌, [], ◌∷◌, length}
use Rattle.dk_types.specs.declared.number.RunNo.{RunNo}
use Rattle.dk_types.specs.declared.job.Job.{Job}
use Rattle.dk_types.specs.declared.durable.Entry.{Entry}
use Rattle.dk_model.specs.DurableWorlds.{DurableWorld}
use Rattle.dk_model.specs.Effects.{effects, after}
use Rattle.dk_model.specs.Entries.{AreEntries, entries_spelling}
use Rattle.dk_model.specs.Events.{Meaning}
use Rattle.dk_model.specs.Lawful.{AreLawful}
use Rattle.dk_model.specs.Recovered.{IsNext}
use Rattle.dk_model.specs.Steps.{Stepped, step}
use Rattle.dk_model.specs.Validity.{IsValid}
use Rattle.dk_model.proofs.StepValid.{IsReady}

-- the entry of the commit that comes next, of a run that steps so
abbrev pub entry_of : DurableWorld → RunNo → Stepped → Entry
entry_of d run s = record { seq = d.commits + 1; run = run; effects = effects d s.world }

-- it fits, and leads to the step's world
abbrev pub EntriesAreNext : Type 0
EntriesAreNext =
    (rules : Meaning) (j : Job) (run : RunNo) (at : ℕ) (d : DurableWorld) → AreLawful rules → IsValid d → IsReady j run at d
    → IsNext d (entry_of d run (step rules j run at d)) × (after (entry_of d run (step rules j run at d)) d ≡ (step rules j run at d).world)

-- it has a spelling alone in a record, which is short enough for one
abbrev pub EntriesAreSpelled : Type 0
EntriesAreSpelled =
    (rules : Meaning) (j : Job) (run : RunNo) (at : ℕ) (d : DurableWorld) → AreLawful rules → IsValid d → IsReady j run at d
    → AreEntries 2 (entry_of d run (step rules j run at d) ∷ []) × (length (entries_spelling (entry_of d run (step rules j run at d) ∷ [])) < 2 ^ 32)
