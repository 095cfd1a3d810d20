-- What the counters mean: what each job does, said on the run in its midst.
use Rattle.std.specs.Prelude.{ℕ, ◌+◌, ◌/◌, ◌%◌, List, [], ◌∷◌, Ok, nat_lt, if◌then◌else◌}
use Rattle.std.proofs.Common.{zero, suc}
use Rattle.dk_types.specs.declared.job.Job.{Job}
use Rattle.dk_types.specs.declared.job.Job.TheVariants as job
use Rattle.dk_model.specs.Runs.{Act, give, and_then, schedule}
use Rattle.dk_demos.specs.Raising.{make_under, raise_under}

-- `c.` and the number in two digits
abbrev pub counter_name : ℕ → List ℕ
counter_name number = 99 ∷ 46 ∷ (48 + number / 10) ∷ (48 + number % 10) ∷ []

-- a counter at 0, under its name
unfoldable pub make : ℕ → Act (Unit {0})
make number = make_under (counter_name number)

-- so many counters, from this number on
abbrev pub make_from : ℕ → ℕ → Act (Unit {0})
make_from first zero = give (Ok tt)
make_from first (suc n) = and_then (make first) (λ _. make_from (first + 1) n)

-- which counter the task of this number raises; tasks are numbered from 1
abbrev pub counter_of_task : ℕ → ℕ → ℕ
counter_of_task seed number = (seed + number / 2) % 16

-- a task that is due at once; its argument is its counter's number
unfoldable pub plan : ℕ → ℕ → Act (Unit {0})
plan seed number = and_then (schedule 1 (counter_of_task seed number ∷ []) 0) (λ _. give (Ok tt))

-- so many tasks behind the first ones
abbrev pub plan_from : ℕ → ℕ → ℕ → Act (Unit {0})
plan_from seed before zero = give (Ok tt)
plan_from seed before (suc n) = and_then (plan seed (before + 1)) (λ _. plan_from seed (before + 1) n)

-- sixteen counters, and so many tasks
abbrev pub begin : ℕ → ℕ → Act (Unit {0})
begin seed tasks = and_then (make_from 0 16) (λ _. plan_from seed 0 tasks)

-- the counter of this number is raised by one
unfoldable pub raise_at : ℕ → Act (Unit {0})
raise_at number = and_then (raise_under (counter_name number)) (λ _. give (Ok tt))

-- the counter of this number is raised, where there is one
abbrev pub raise_known : ℕ → Act (Unit {0})
raise_known number = if nat_lt number 16 then raise_at number else give (Ok tt)

-- the first byte of a task's argument tells which
abbrev pub raise : List ℕ → Act (Unit {0})
raise [] = give (Ok tt)
raise (number ∷ bytes) = raise_known number

-- what each job does: the first run and the tasks alone do something
abbrev pub counters_rules : ℕ → ℕ → Job → Act (Unit {0})
counters_rules seed tasks job.Initialize = begin seed tasks
counters_rules seed tasks (job.Task key due period kind arg) = raise arg
counters_rules seed tasks (job.Login conn name) = give (Ok tt)
counters_rules seed tasks (job.Message conn name body) = give (Ok tt)
counters_rules seed tasks (job.Channel conn name channel body) = give (Ok tt)
counters_rules seed tasks (job.Disconnect conn name graceful) = give (Ok tt)
