-- A game of one periodic task, which counts its occurrences and ends with the third.
use Rattle.std.specs.Prelude.{ℕ, ◌+◌, ◌==◌, List, [], codes, if◌then◌else◌, Ok}
use Rattle.dk_types.specs.declared.number.ObjectId.{ObjectId}
use Rattle.dk_types.specs.declared.number.TaskKey.{TaskKey}
use Rattle.dk_types.specs.declared.job.Job.{Job}
use Rattle.dk_types.specs.declared.job.Job.TheVariants as job
use Rattle.dk_types.specs.Fields.{u64_spelling}
use Rattle.dk_types.specs.Payload.{next_u64}
use Rattle.dk_model.specs.Runs.{Act, give, and_then, create, save, bound, bind, schedule_periodic, cancel}
use Rattle.dk_model.specs.Records.{value_of}
use Rattle.dk_model.specs.References.{get_as}

-- the kind of the counter, whose bytes are its number
abbrev pub COUNTER : ℕ
COUNTER = 1

-- the name of the counter
abbrev pub count_name : List ℕ
count_name = codes "Count"

-- a counter of 0 under its name, and the task, due after 100 ms and then each 100 ms
abbrev pub begin_counting : Act (Unit {0})
begin_counting =
    and_then (create COUNTER (u64_spelling 0)) (λ id. and_then (bind count_name id) (λ _. and_then (schedule_periodic 1 [] 100 100) (λ _. give (Ok tt))))

-- the counter has this number; with the third occurrence the task is over
abbrev pub counted : TaskKey → ObjectId → ℕ → Act (Unit {0})
counted key id count = and_then (save id (u64_spelling count)) (λ _. if count == 3 then cancel key else give (Ok tt))

-- one occurrence: the counter is raised, and the third time the task is cancelled
abbrev pub count : TaskKey → Act (Unit {0})
count key = and_then (bound count_name) (λ id. and_then (get_as COUNTER (value_of next_u64) id) (λ so_far. counted key id (so_far + 1)))

-- the game
abbrev pub timer_rules : Job → Act (Unit {0})
timer_rules job.Initialize = begin_counting
timer_rules (job.Task key due period kind arg) = count key
timer_rules (job.Login conn name) = give (Ok tt)
timer_rules (job.Message conn name body) = give (Ok tt)
timer_rules (job.Channel conn name channel body) = give (Ok tt)
timer_rules (job.Disconnect conn name graceful) = give (Ok tt)
