-- What the sheets mean: what each job does, said on the run in its midst.
use Rattle.std.specs.Prelude.{ℕ, List, Option, Some, None, Ok}
use Rattle.std.proofs.Common.{zero, suc}
use Rattle.dk_types.specs.declared.number.ObjectId.{ObjectId}
use Rattle.dk_types.specs.declared.job.Job.{Job}
use Rattle.dk_types.specs.declared.job.Job.TheVariants as job
use Rattle.dk_types.specs.Fields.{id_spelling}
use Rattle.dk_types.specs.Payload.{next_id}
use Rattle.dk_model.specs.Records.{value_of}
use Rattle.dk_model.specs.References.{get_for_update_as, save_as}
use Rattle.dk_model.specs.Runs.{Act, give, and_then, create, schedule}
use Rattle.dk_bench.specs.Sheet.{SHEET, sheet_bytes, sheet_of, blank, raised}

-- a task that rewrites the sheet of this id, so many milliseconds later; its argument is the id
abbrev pub schedule_one : ObjectId → ℕ → Act (Unit {0})
schedule_one id delay = and_then (schedule 1 (id_spelling id) delay) (λ _. give (Ok tt))

-- so many such tasks, a millisecond apart, the last one first
abbrev pub schedule_each : ObjectId → ℕ → Act (Unit {0})
schedule_each id zero = give (Ok tt)
schedule_each id (suc n) = and_then (schedule_one id n) (λ _. schedule_each id n)

-- a blank sheet, and the tasks that rewrite it: at once, and a millisecond apart
unfoldable pub plan : ℕ → Act (Unit {0})
plan times = and_then (create SHEET (sheet_bytes blank)) (λ id. schedule_each id times)

-- so many sheets, each with its tasks
abbrev pub begin : ℕ → ℕ → Act (Unit {0})
begin zero times = give (Ok tt)
begin (suc n) times = and_then (plan times) (λ _. begin n times)

-- each number of the sheet is raised by one
unfoldable pub rewrite_at : ObjectId → Act (Unit {0})
rewrite_at id =
    and_then (get_for_update_as SHEET sheet_of id) (λ sheet.
    and_then (save_as SHEET id (sheet_bytes (raised sheet))) (λ _.
    give (Ok tt)))

-- the sheet of an id, where there is one
abbrev pub rewrite_found : Option ObjectId → Act (Unit {0})
rewrite_found None = give (Ok tt)
rewrite_found (Some id) = rewrite_at id

-- a task's argument tells which
abbrev pub rewrite : List ℕ → Act (Unit {0})
rewrite arg = rewrite_found (value_of next_id arg)

-- what each job does: the first run and the tasks alone do something
abbrev pub sheets_rules : ℕ → ℕ → Job → Act (Unit {0})
sheets_rules sheets times job.Initialize = begin sheets times
sheets_rules sheets times (job.Task key due period kind arg) = rewrite arg
sheets_rules sheets times (job.Login conn name) = give (Ok tt)
sheets_rules sheets times (job.Message conn name body) = give (Ok tt)
sheets_rules sheets times (job.Channel conn name channel body) = give (Ok tt)
sheets_rules sheets times (job.Disconnect conn name graceful) = give (Ok tt)
