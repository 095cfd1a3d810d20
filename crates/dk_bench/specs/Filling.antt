-- What the filler means: what each job does, said on the run in its midst.
use Rattle.std.specs.Prelude.{ℕ, List, [], ◌∷◌, Ok}
use Rattle.std.proofs.Common.{zero, suc}
use Rattle.dk_types.specs.declared.job.Job.{Job}
use Rattle.dk_types.specs.declared.job.Job.TheVariants as job
use Rattle.dk_types.specs.declared.limits.TheConstants.{DELAY_MOST_MS}
use Rattle.dk_model.specs.Runs.{Act, give, and_then, create, schedule, schedule_periodic}
use Rattle.dk_demos.specs.CountersRules.{make_from, raise}

-- a task that raises the counter 7 each millisecond
abbrev pub plan : Act (Unit {0})
plan = and_then (schedule_periodic 1 (7 ∷ []) 1 1) (λ _. give (Ok tt))

-- the counters, and the task
unfoldable pub begin : Act (Unit {0})
begin = and_then (make_from 0 16) (λ _. plan)

-- so many objects
abbrev pub fill : ℕ → Act (Unit {0})
fill zero = give (Ok tt)
fill (suc n) = and_then (create 2 []) (λ _. fill n)

-- a task that is due last
abbrev pub put_off : Act (Unit {0})
put_off = and_then (schedule 1 [] DELAY_MOST_MS) (λ _. give (Ok tt))

-- the first run: so many objects are made
abbrev pub enter : ℕ → Act (Unit {0})
enter objects = and_then (fill objects) (λ _. put_off)

-- what each job does: the first run, logins and tasks alone do something
abbrev pub filler_rules : ℕ → Job → Act (Unit {0})
filler_rules objects job.Initialize = begin
filler_rules objects (job.Login conn name) = enter objects
filler_rules objects (job.Task key due period kind arg) = raise arg
filler_rules objects (job.Message conn name body) = give (Ok tt)
filler_rules objects (job.Channel conn name channel body) = give (Ok tt)
filler_rules objects (job.Disconnect conn name graceful) = give (Ok tt)
