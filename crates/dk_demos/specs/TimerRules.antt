-- What the timer means: what each job does, said on the run in its midst.
use Rattle.std.specs.Prelude.{ℕ, ◌==◌, List, [], Ok, codes, if◌then◌else◌}
use Rattle.dk_types.specs.declared.number.TaskKey.{TaskKey}
use Rattle.dk_types.specs.declared.job.Job.{Job}
use Rattle.dk_types.specs.declared.job.Job.TheVariants as job
use Rattle.dk_model.specs.Runs.{Act, give, and_then, schedule_periodic, cancel}
use Rattle.dk_demos.specs.Raising.{make_under, raise_under}

-- the name that the counter is bound to
abbrev pub count_name : List ℕ
count_name = codes "Count"

-- a counter at 0, and a task that is due after 100 ms and then each 100 ms
unfoldable pub begin : Act (Unit {0})
begin = and_then (make_under count_name) (λ _. and_then (schedule_periodic 1 [] 100 100) (λ _. give (Ok tt)))

-- the counter is raised; where it is 3 then, the task is over
unfoldable pub tick : TaskKey → Act (Unit {0})
tick key = and_then (raise_under count_name) (λ counter. if counter.count == 3 then cancel key else give (Ok tt))

-- what each job does: the first run and the task alone do something
abbrev pub timer_rules : Job → Act (Unit {0})
timer_rules job.Initialize = begin
timer_rules (job.Task key due period kind arg) = tick key
timer_rules (job.Login conn name) = give (Ok tt)
timer_rules (job.Message conn name body) = give (Ok tt)
timer_rules (job.Channel conn name channel body) = give (Ok tt)
timer_rules (job.Disconnect conn name graceful) = give (Ok tt)
