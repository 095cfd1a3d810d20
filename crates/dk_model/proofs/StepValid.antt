-- A step of lawful rules keeps a durable world valid, and sends no message whose body is too long.
use Rattle.std.proofs.Common.{◌≡◌, ℕ, ◌+◌, ◌<◌, ◌≤◌, true, false, cond, Option, Some, None, length, Result, Ok, Err, arith}
use Rattle.std.specs.FinMap.{get}
use Rattle.std.proofs.lemmas.List.Elements.{All-nil, All-from_recursion}
use Rattle.dk_types.specs.declared.fault.AppFault.{AppFault}
use Rattle.dk_types.specs.declared.fault.AppFault.TheVariants.{TooLarge}
use Rattle.dk_types.specs.declared.fault.Outcome.TheVariants as outcome
use Rattle.dk_types.specs.declared.number.RunNo.{RunNo}
use Rattle.dk_types.specs.declared.number.TaskKey.{TaskKey}
use Rattle.dk_types.specs.declared.job.Job.{Job}
use Rattle.dk_types.specs.declared.job.Job.TheVariants as job
use Rattle.dk_types.specs.declared.limits.TheConstants.{NUMBERS_END, MOMENT_MOST_MS, MESSAGES_MOST_COUNT}
use Rattle.dk_model.specs.DurableWorlds.{DurableWorld, Task, last_with}
use Rattle.dk_model.specs.Validity.{IsValid, IsCommitted, next_of}
use Rattle.dk_model.specs.Runs.{Run, begun}
use Rattle.dk_model.specs.Steps.{Stepped, step, work, game_part, failed, failed_outs, ended, is_too_large}
use Rattle.dk_model.specs.Events.{Meaning}
use Rattle.dk_model.specs.Finishes.{IsNew}
use Rattle.dk_model.specs.Lawful.{HasShortBody, HaveShortBodies, IsFit, IsJob, AreLawful}
use Rattle.dk_model.proofs.Maps.{not_both}
use Rattle.dk_model.proofs.Works.{IsDueBy, IsOwnKey}
use Rattle.dk_model.proofs.StepLaws.{kept_steady, works, ended_has}

-- what was committed is committed still
pub committed_more : (o : Option RunNo) (run other : RunNo) → IsCommitted o other → IsCommitted (last_with o run) other
committed_more None run other h = absurd h
committed_more (Some last) run other h = omega arith

pub committed_now : (o : Option RunNo) (run : RunNo) → IsCommitted (last_with o run) run
committed_now None run = omega arith
committed_now (Some last) run = omega arith

next_most : (o : Option RunNo) (run : RunNo) → next_of o ≤ NUMBERS_END → run.0 < NUMBERS_END → next_of (last_with o run) ≤ NUMBERS_END
next_most None run h k = omega arith
next_most (Some last) run h k = omega arith

never_none : (o : Option RunNo) (run : RunNo) → last_with o run ≡ None → ⊥
never_none None run e = cc
never_none (Some last) run e = cc

-- A job that may be stepped as this run at this moment: all within limits, its own task due, the run's number nowhere yet, and a number for the commit.
pub record IsReady (j : Job) (run : RunNo) (at : ℕ) (d : DurableWorld) : Type 0 where
  pub job : IsJob j
  pub due : IsDueBy j at
  pub number : run.0 < NUMBERS_END
  pub moment : at ≤ MOMENT_MOST_MS
  pub new : IsNew d run
  pub commits : d.commits + 1 ≤ next_of (last_with d.last run)

-- a run that begins on a valid world is fit
pub begun_fit : (j : Job) (run : RunNo) (at : ℕ) (d : DurableWorld) → IsValid d → IsReady j run at d → IsFit (begun run at d)
begun_fit j run at d v ready = record {
  world = record {
    objects = λ id object e. let o = v.objects id object e in (o.0, committed_more d.last run id.run o.1, o.2);
    names = v.names;
    tasks = λ key task e. let o = v.tasks key task e in (o.0, committed_more d.last run key.run o.1, o.2);
    last = next_most d.last run v.last ready.number;
    commits = ready.commits;
    begun = (λ e. absurd (omega (arith, e)), λ e. absurd (never_none d.last run e));
  };
  number = ready.number;
  committed = committed_now d.last run;
  at = ready.moment;
  few_objects = omega arith;
  few_tasks = omega arith;
  few_messages = omega arith;
  bodies = All-nil (λ o. HasShortBody o.1);
  objects = λ id object e own. not_both _ object e (ready.new.objects id own);
  tasks = λ key task e own. not_both _ task e (ready.new.tasks key own);
}

failed_short : (j : Job) → HaveShortBodies (failed_outs j)
failed_short (job.Login conn name) = All-from_recursion (λ o. HasShortBody o.1) (failed_outs (job.Login conn name)) (omega arith, (omega arith, tt))
failed_short job.Initialize = All-nil (λ o. HasShortBody o.1)
failed_short (job.Message conn name body) = All-nil (λ o. HasShortBody o.1)
failed_short (job.Channel conn name channel body) = All-nil (λ o. HasShortBody o.1)
failed_short (job.Disconnect conn name graceful) = All-nil (λ o. HasShortBody o.1)
failed_short (job.Task key due period kind arg) = All-nil (λ o. HasShortBody o.1)

ended_short : (j : Job) (d : DurableWorld) (start : Run) (r : Result (Unit {0}) AppFault) (t : Run) → HaveShortBodies t.outs → HaveShortBodies (ended j d start (r, t)).outs
ended_short j d start (Ok x) t short =
    elim (is_too_large d t.world) as (λ b. HaveShortBodies (cond {A = Stepped} b (failed j start TooLarge) (record { outcome = outcome.Ok; world = t.world; touched = t.touched; outs = t.outs })).outs) [
      | true ↦ failed_short j
      | false ↦ short
    ]
ended_short j d start (Err fault) t short = failed_short j

few_failed : (j : Job) → length (failed_outs j) ≤ MESSAGES_MOST_COUNT
few_failed (job.Login conn name) = omega arith
few_failed job.Initialize = omega arith
few_failed (job.Message conn name body) = omega arith
few_failed (job.Channel conn name channel body) = omega arith
few_failed (job.Disconnect conn name graceful) = omega arith
few_failed (job.Task key due period kind arg) = omega arith

ended_few : (j : Job) (d : DurableWorld) (start : Run) (r : Result (Unit {0}) AppFault) (t : Run) → length t.outs ≤ MESSAGES_MOST_COUNT → length ((ended j d start (r, t)).outs) ≤ MESSAGES_MOST_COUNT
ended_few j d start (Ok x) t few =
    elim (is_too_large d t.world) as (λ b. length ((cond {A = Stepped} b (failed j start TooLarge) (record { outcome = outcome.Ok; world = t.world; touched = t.touched; outs = t.outs })).outs) ≤ MESSAGES_MOST_COUNT) [
      | true ↦ few_failed j
      | false ↦ few
    ]
ended_few j d start (Err fault) t few = few_failed j

-- a step of lawful rules leaves a valid world
pub step_valid : (rules : Meaning) → AreLawful rules → (j : Job) (run : RunNo) (at : ℕ) (d : DurableWorld) → IsValid d → IsReady j run at d → IsValid (step rules j run at d).world
step_valid rules lawful j run at d v ready =
    let start = begun run at d in
    let end = work (game_part rules) j start in
    let fit = begun_fit j run at d v ready in
    ended_has (λ world touched. IsValid world) j d start end.0 end.1 ((kept_steady j start).fit (ready.job, ready.due) fit).world ((works rules lawful j run at d).fit (ready.job, ready.due) fit).world

-- it sends messages with short bodies
pub step_short : (rules : Meaning) → AreLawful rules → (j : Job) (run : RunNo) (at : ℕ) (d : DurableWorld) → IsValid d → IsReady j run at d → HaveShortBodies (step rules j run at d).outs
step_short rules lawful j run at d v ready =
    let start = begun run at d in
    let end = work (game_part rules) j start in
    ended_short j d start end.0 end.1 ((works rules lawful j run at d).fit (ready.job, ready.due) (begun_fit j run at d v ready)).bodies

-- it sends no more messages than a run may send
pub step_few : (rules : Meaning) → AreLawful rules → (j : Job) (run : RunNo) (at : ℕ) (d : DurableWorld) → IsValid d → IsReady j run at d → length ((step rules j run at d).outs) ≤ MESSAGES_MOST_COUNT
step_few rules lawful j run at d v ready =
    let start = begun run at d in
    let end = work (game_part rules) j start in
    ended_few j d start end.0 end.1 ((works rules lawful j run at d).fit (ready.job, ready.due) (begun_fit j run at d v ready)).few_messages

-- and leaves each task that stands before and after, but for the job's own
pub step_leaves : (rules : Meaning) → AreLawful rules → (j : Job) (run : RunNo) (at : ℕ) (d : DurableWorld) → IsValid d → IsReady j run at d → (key : TaskKey) (before after : Task)
    → (IsOwnKey j key → ⊥) → get d.tasks key ≡ Some before → get (step rules j run at d).world.tasks key ≡ Some after → after ≡ before
step_leaves rules lawful j run at d v ready key before after other e =
    let start = begun run at d in
    let end = work (game_part rules) j start in
    let fit = begun_fit j run at d v ready in
    ended_has (λ world touched. get world.tasks key ≡ Some after → after ≡ before) j d start end.0 end.1
    ((kept_steady j start).leaves (ready.job, ready.due) fit key before after other e) ((works rules lawful j run at d).leaves (ready.job, ready.due) fit key before after other e)
