-- Timers: missed occurrences are skipped, and the due moments stay on their grid.
use Rattle.std.specs.Prelude.{ℕ, Some, [], ◌∷◌}
use Rattle.dk_types.specs.declared.job.Job.{Job}
use Rattle.dk_types.specs.declared.job.Job.TheVariants as job
use Rattle.dk_types.specs.declared.item.Item.TheVariants as ask
use Rattle.dk_types.specs.declared.fault.AppFault.TheVariants as fault
use Rattle.dk_types.specs.declared.fault.Outcome.TheVariants as outcome
use Rattle.dk_model.specs.DurableWorlds.{Task, empty_world}
use Rattle.dk_model.specs.Finishes.{Report}
use Rattle.dk_examples.specs.Worked.{run, id, key, object, in_eight, giving_up, Lists, listed, no_effects, does_nothing, Runs}
use Rattle.dk_examples.specs.TimerGame.{timer_rules, count_name}

-- every 100 ms, next at this moment
abbrev pub each_100_ms : ℕ → Task
each_100_ms due = record { due = due; period = 100; kind = 1; arg = [] }

-- a counter with this count, and the task with this next due moment
abbrev pub counting : ℕ → ℕ → Lists
counting n due = record { objects = (id 0 0, object 1 (in_eight n)) ∷ []; names = (count_name, id 0 0) ∷ []; tasks = (key 0 0, each_100_ms due) ∷ [] }

-- run 0 makes object 0.0 and task 0.0, which is first due at 100
abbrev pub TimerBegins : Type 0
TimerBegins = Runs timer_rules job.Initialize (run 0) 0 empty_world
    (record {
      outcome = outcome.Ok;
      effects = record no_effects { written = (id 0 0, object 1 (in_eight 0)) ∷ []; bound = (count_name, id 0 0) ∷ []; added = record { key = key 0 0; due = 100; period = 100; kind = 1; arg = [] } ∷ [] };
      touched = ask.Object (id 0 0) ∷ ask.Bound count_name ∷ ask.Task (key 0 0) ∷ [];
      outs = [];
    })
    (listed (counting 0 100) 1 (Some (run 0)))

-- an occurrence of the task, which was due then
abbrev pub occurrence : ℕ → Job
occurrence due = job.Task (key 0 0) due 100 1 []

-- a run of an occurrence that counts to this number and sets this next due moment
abbrev pub counts_to : ℕ → ℕ → Report
counts_to n next = record {
  outcome = outcome.Ok;
  effects = record no_effects { written = (id 0 0, object 1 (in_eight n)) ∷ []; requeued = (key 0 0, next) ∷ [] };
  touched = ask.Object (id 0 0) ∷ [];
  outs = [];
}

-- at 350 the occurrence of 100 is run: those of 200 and 300 are skipped, and the next is due at 400
abbrev pub TimerSkips : Type 0
TimerSkips = Runs timer_rules (occurrence 100) (run 1) 350 (listed (counting 0 100) 1 (Some (run 0))) (counts_to 1 400) (listed (counting 1 400) 2 (Some (run 1)))

-- at 400 that of 400 is run, and the next is due at 500
abbrev pub TimerGoesOn : Type 0
TimerGoesOn = Runs timer_rules (occurrence 400) (run 2) 400 (listed (counting 1 400) 2 (Some (run 1))) (counts_to 2 500) (listed (counting 2 500) 3 (Some (run 2)))

-- after the third occurrence, which cancelled the task
abbrev pub counted : Lists
counted = record { objects = (id 0 0, object 1 (in_eight 3)) ∷ []; names = (count_name, id 0 0) ∷ []; tasks = [] }

-- the third occurrence cancels its task
abbrev pub TimerEnds : Type 0
TimerEnds = Runs timer_rules (occurrence 500) (run 3) 500 (listed (counting 2 500) 3 (Some (run 2)))
    (record {
      outcome = outcome.Ok;
      effects = record no_effects { written = (id 0 0, object 1 (in_eight 3)) ∷ []; dropped = key 0 0 ∷ [] };
      touched = ask.Object (id 0 0) ∷ ask.Task (key 0 0) ∷ [];
      outs = [];
    })
    (listed counted 4 (Some (run 3)))

-- an occurrence of a task that is no longer pending does nothing
abbrev pub TimerIsOver : Type 0
TimerIsOver = Runs timer_rules (occurrence 600) (run 4) 600 (listed counted 4 (Some (run 3))) does_nothing (listed counted 5 (Some (run 4)))

-- of a periodic occurrence that gives up the next due moment alone is kept
abbrev pub TimerFails : Type 0
TimerFails = Runs giving_up (occurrence 100) (run 1) 350 (listed (counting 0 100) 1 (Some (run 0)))
    (record {
      outcome = outcome.Fail (fault.Game 7);
      effects = record no_effects { requeued = (key 0 0, 400) ∷ [] };
      touched = [];
      outs = [];
    })
    (listed (counting 0 400) 2 (Some (run 1)))

-- the periodic task alone
abbrev pub one_task : Lists
one_task = record { objects = []; names = []; tasks = (key 0 0, each_100_ms 100) ∷ [] }

-- and a task that is run once, due at 20
abbrev pub two_tasks : Lists
two_tasks = record { objects = []; names = []; tasks = (key 0 0, each_100_ms 100) ∷ (key 0 1, record { due = 20; period = 0; kind = 7; arg = 1 ∷ 2 ∷ [] }) ∷ [] }

-- a once-task that gives up is gone all the same
abbrev pub OnceFails : Type 0
OnceFails = Runs giving_up (job.Task (key 0 1) 20 0 7 (1 ∷ 2 ∷ [])) (run 5) 30 (listed two_tasks 1 (Some (run 0)))
    (record {
      outcome = outcome.Fail (fault.Game 7);
      effects = record no_effects { dropped = key 0 1 ∷ [] };
      touched = ask.Task (key 0 1) ∷ [];
      outs = [];
    })
    (listed one_task 2 (Some (run 5)))
