-- The rules of the timer are lawful.
use Rattle.std.proofs.Common.{◌==◌, [], refl, lit<}
use Rattle.dk_types.specs.declared.number.TaskKey.{TaskKey}
use Rattle.dk_types.specs.declared.job.Job.{Job}
use Rattle.dk_types.specs.declared.job.Job.TheVariants as job
use Rattle.dk_model.specs.Lawful.{IsForGame, AreLawful}
use Rattle.dk_model.proofs.Acts.{Anything, IsLawful, lawful_rules, lawful_then, lawful_done, lawful_if}
use Rattle.dk_model.proofs.Operations.{lawful_schedule_periodic, lawful_cancel}
use Rattle.dk_model.proofs.Bytes.{bytes_nil, name_of_ascii}
use Rattle.dk_demos.specs.RaisingLawful.{lawful_make_under, lawful_raise_under}
use Rattle.dk_demos.specs.TimerRules.{count_name, begin, tick, timer_rules}

lawful_begin : {Needs : Type 0} → IsLawful Needs Anything begin
unfolding begin
lawful_begin =
    lawful_then (lawful_make_under count_name (λ _. name_of_ascii count_name refl refl refl)) (λ _.
    lawful_then (lawful_schedule_periodic 1 [] 100 100 (λ _. (lit< tt, bytes_nil))) (λ _. lawful_done tt))

lawful_tick : {Needs : Type 0} (key : TaskKey) → IsLawful Needs Anything (tick key)
unfolding tick
lawful_tick key = lawful_then (lawful_raise_under count_name) (λ counter. lawful_if (counter.count == 3) (lawful_cancel key) (lawful_done tt))

lawful_job : (j : Job) → IsLawful (IsForGame j) Anything (timer_rules j)
lawful_job job.Initialize = lawful_begin
lawful_job (job.Task key due period kind arg) = lawful_tick key
lawful_job (job.Login conn name) = lawful_done tt
lawful_job (job.Message conn name body) = lawful_done tt
lawful_job (job.Channel conn name channel body) = lawful_done tt
lawful_job (job.Disconnect conn name graceful) = lawful_done tt

-- the rules are lawful
pub timer_lawful : AreLawful timer_rules
timer_lawful = lawful_rules lawful_job
