-- Steps of lawful rules may be committed: the premise of the clause `steps` of `commit`.
use Rattle.std.proofs.Common.{ℕ}
use Rattle.dk_types.specs.declared.number.RunNo.{RunNo}
use Rattle.dk_types.specs.declared.job.Job.{Job}
use Rattle.dk_model.specs.DurableWorlds.{DurableWorld}
use Rattle.dk_model.specs.Validity.{IsValid}
use Rattle.dk_model.specs.Steps.{step}
use Rattle.dk_model.specs.Events.{Meaning}
use Rattle.dk_model.specs.Lawful.{AreLawful}
use Rattle.dk_model.proofs.StepLaws.{step_goes_on}
use Rattle.dk_model.proofs.StepValid.{IsReady}
use Rattle.dk_laws.proofs.StepDues.{step_differs}
use Rattle.dk_core.specs.Commits.{StepsFrom}

-- a step of lawful rules on a valid world, of a job that is ready, may be committed next
pub steps_from : (rules : Meaning) → AreLawful rules → (j : Job) (run : RunNo) (at : ℕ) (d : DurableWorld) → IsValid d → IsReady j run at d → StepsFrom d run (step rules j run at d)
steps_from rules lawful j run at d v ready =
    let g = step_goes_on rules lawful j run at d in
    record { commits = g.commits; last = g.last; objects = g.objects; names = g.names; tasks = g.tasks; due = step_differs rules lawful run at d v j ready }
