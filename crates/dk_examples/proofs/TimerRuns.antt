-- The runs of the timer.
use Rattle.std.proofs.Common.{◌≡◌, ℕ, ◌+◌, true, Some, None, Bool, [], ◌∷◌, Result, Ok, refl, ap}
use Rattle.std.specs.FinMap.{insert, remove, from_entries}
use Rattle.dk_types.specs.declared.job.Job.TheVariants as job
use Rattle.dk_types.specs.declared.item.Item.TheVariants as ask
use Rattle.dk_types.specs.declared.fault.AppFault.{AppFault}
use Rattle.dk_types.specs.declared.fault.AppFault.TheVariants as fault
use Rattle.dk_types.specs.Fields.{u64_spelling}
use Rattle.dk_types.specs.Payload.{next_u64, next_end}
use Rattle.dk_types.specs.Reading.{u64_at, end_at}
use Rattle.dk_model.specs.Runs.{Run, begun, give, and_then, within, get, create, save, bound, bind, schedule_periodic, cancel}
use Rattle.dk_model.specs.Steps.{own_task}
use Rattle.dk_model.specs.Records.{value_of}
use Rattle.dk_model.specs.References.{get_as}
use Rattle.dk_examples.specs.Worked.{run, id, key, object, in_eight, giving_up, listed}
use Rattle.dk_examples.specs.TimerGame.{timer_rules}
use Rattle.dk_examples.specs.TimerRows.{TimerBegins, TimerSkips, TimerGoesOn, TimerEnds, TimerIsOver, TimerFails, OnceFails, one_task, two_tasks, counted, occurrence, each_100_ms, counting}
use Rattle.dk_examples.proofs.Running.{runs_ok, runs_failed, looks, puts, at_end}

pub timer_begins : TimerBegins
unfolding within and_then create bind schedule_periodic give u64_spelling
timer_begins = runs_ok timer_rules job.Initialize (run 0) 0 (record { objects = []; names = []; tasks = [] }) (counting 0 100) 0 None _
    record { objects = refl; names = refl; tasks = refl } refl
    record { objects = simp puts; names = simp puts; tasks = simp puts; sorted = record { objects = refl; names = refl; tasks = refl } } refl

-- the counter is read back
read_0 : value_of next_u64 (in_eight 0) ≡ Some 0
unfolding next_u64 next_end u64_at end_at
read_0 = refl

read_1 : value_of next_u64 (in_eight 1) ≡ Some 1
unfolding next_u64 next_end u64_at end_at
read_1 = refl

read_2 : value_of next_u64 (in_eight 2) ≡ Some 2
unfolding next_u64 next_end u64_at end_at
read_2 = refl

-- a run that counts to n, before it looks whether this is the third
count_end : ℕ → ℕ → ℕ → ℕ → ℕ → ℕ → Run
count_end n due next commits number at = at_end
    (record (listed (counting n due) commits (Some (run number))) {
      objects = insert (from_entries (counting n due).objects) (id 0 0) (object 1 (in_eight (n + 1)));
      tasks = insert (from_entries (counting n due).tasks) (key 0 0) (each_100_ms next);
    })
    (ask.Object (id 0 0) ∷ []) [] (run number) at 0 0

pub timer_skips : TimerSkips
unfolding within and_then give own_task bound get_as get save cancel u64_spelling count_end
timer_skips = runs_ok timer_rules (occurrence 100) (run 1) 350 (counting 0 100) (counting 1 400) 1 (Some (run 0)) (count_end 0 100 400 2 1 350)
    record { objects = refl; names = refl; tasks = refl } (simp (looks, read_0))
    record { objects = simp puts; names = simp puts; tasks = simp puts; sorted = record { objects = refl; names = refl; tasks = refl } } refl

pub timer_goes_on : TimerGoesOn
unfolding within and_then give own_task bound get_as get save cancel u64_spelling count_end
timer_goes_on = runs_ok timer_rules (occurrence 400) (run 2) 400 (counting 1 400) (counting 2 500) 2 (Some (run 1)) (count_end 1 400 500 3 2 400)
    record { objects = refl; names = refl; tasks = refl } (simp (looks, read_1))
    record { objects = simp puts; names = simp puts; tasks = simp puts; sorted = record { objects = refl; names = refl; tasks = refl } } refl

cancel_end : Run
unfolding count_end
cancel_end = let s = count_end 2 500 600 4 3 500 in record s { world = record (s.world) { tasks = remove s.world.tasks (key 0 0) }; touched = ask.Object (id 0 0) ∷ ask.Task (key 0 0) ∷ [] }

pub timer_ends : TimerEnds
unfolding within and_then give own_task bound get_as get save cancel u64_spelling cancel_end
timer_ends = runs_ok timer_rules (occurrence 500) (run 3) 500 (counting 2 500) counted 3 (Some (run 2)) cancel_end
    record { objects = refl; names = refl; tasks = refl } (simp (looks, read_2))
    record { objects = simp puts; names = simp puts; tasks = simp puts; sorted = record { objects = refl; names = refl; tasks = refl } } refl

pub timer_is_over : TimerIsOver
unfolding within and_then give own_task
timer_is_over = runs_ok timer_rules (occurrence 600) (run 4) 600 counted counted 4 (Some (run 3)) (begun (run 4) 600 (listed counted 4 (Some (run 3))))
    record { objects = refl; names = refl; tasks = refl } (simp looks)
    record { objects = simp puts; names = simp puts; tasks = simp puts; sorted = record { objects = refl; names = refl; tasks = refl } } refl

-- the run that has set the next due moment
moved_end : Run
moved_end = at_end (record (listed (counting 0 100) 2 (Some (run 1))) { tasks = insert (from_entries (counting 0 100).tasks) (key 0 0) (each_100_ms 400) }) [] [] (run 1) 350 0 0

-- what the occurrence has done to its own task
own_moved : own_task (key 0 0) 100 100 (begun (run 1) 350 (listed (counting 0 100) 1 (Some (run 0)))) ≡ (Ok true, moved_end)
unfolding own_task moved_end
own_moved = simp looks

pub timer_fails : TimerFails
unfolding within and_then give own_task moved_end
timer_fails = runs_failed giving_up (occurrence 100) (run 1) 350 (counting 0 100) (counting 0 400) 1 (Some (run 0)) moved_end (fault.Game 7)
    record { objects = refl; names = refl; tasks = refl } (simp looks) moved_end (ap (λ (p : Result Bool AppFault × Run). p.1) own_moved)
    record { objects = simp puts; names = simp puts; tasks = simp puts; sorted = record { objects = refl; names = refl; tasks = refl } }

-- the run whose task is gone
gone_end : Run
gone_end = at_end (record (listed two_tasks 2 (Some (run 5))) { tasks = remove (from_entries two_tasks.tasks) (key 0 1) }) (ask.Task (key 0 1) ∷ []) [] (run 5) 30 0 0

own_gone : own_task (key 0 1) 20 0 (begun (run 5) 30 (listed two_tasks 1 (Some (run 0)))) ≡ (Ok true, gone_end)
unfolding own_task gone_end
own_gone = simp looks

pub once_fails : OnceFails
unfolding within and_then give own_task gone_end
once_fails = runs_failed giving_up (job.Task (key 0 1) 20 0 7 (1 ∷ 2 ∷ [])) (run 5) 30 two_tasks one_task 1 (Some (run 0)) gone_end (fault.Game 7)
    record { objects = refl; names = refl; tasks = refl } (simp looks) gone_end (ap (λ (p : Result Bool AppFault × Run). p.1) own_gone)
    record { objects = simp puts; names = simp puts; tasks = simp puts; sorted = record { objects = refl; names = refl; tasks = refl } }
