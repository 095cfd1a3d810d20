-- What a step of lawful rules does to the world.
use Rattle.std.proofs.Common.{◌≡◌, ℕ, ◌+◌, ◌≤◌, true, false, cond, Some, None, List, Result, Ok, Err, sym, subst, ◌∙◌}
use Rattle.std.specs.FinMap.{get}
use Rattle.dk_types.specs.declared.fault.AppFault.{AppFault}
use Rattle.dk_types.specs.declared.fault.AppFault.TheVariants.{TooLarge}
use Rattle.dk_types.specs.declared.fault.Outcome.TheVariants as outcome
use Rattle.dk_types.specs.declared.number.RunNo.{RunNo}
use Rattle.dk_types.specs.declared.number.ObjectId.{ObjectId}
use Rattle.dk_types.specs.declared.number.TaskKey.{TaskKey}
use Rattle.dk_types.specs.declared.object.Object.{Object}
use Rattle.dk_types.specs.declared.item.Item.{Item}
use Rattle.dk_types.specs.declared.item.Item.TheVariants as ask
use Rattle.dk_types.specs.declared.job.Job.{Job}
use Rattle.dk_types.specs.declared.job.Job.TheVariants as job
use Rattle.dk_model.specs.DurableWorlds.{DurableWorld, Task, task_answer, last_with}
use Rattle.dk_model.specs.Runs.{Run, begun}
use Rattle.dk_model.specs.Steps.{Stepped, step, work, game_part, kept_by, failed, ended, is_too_large}
use Rattle.dk_model.specs.Events.{Meaning}
use Rattle.dk_model.specs.Lawful.{Lacks, GoesOn, IsJob, AreLawful}
use Rattle.dk_model.proofs.Maps.{some_is}
use Rattle.dk_model.proofs.Goings.{goes_nowhere}
use Rattle.dk_model.proofs.Works.{SteadyAt, IsDueBy, IsOwnKey, own_steady, work_steady, parts_lawful}

-- a step is one commit of the run: it keeps what it does not list, and what is new is of the run's own
pub record StepGoesOn (d : DurableWorld) (run : RunNo) (s : Stepped) : Type 0 where
  pub commits : s.world.commits ≡ d.commits + 1
  pub last : s.world.last ≡ last_with d.last run
  pub objects : (id : ObjectId) → Lacks s.touched (ask.Object id) → get s.world.objects id ≡ get d.objects id
  pub names : (name : List ℕ) → Lacks s.touched (ask.Bound name) → get s.world.names name ≡ get d.names name
  pub tasks : (key : TaskKey) → Lacks s.touched (ask.Task key) → task_answer (get s.world.tasks key) ≡ task_answer (get d.tasks key)
  pub new_objects : (id : ObjectId) (object : Object) → get d.objects id ≡ None → get s.world.objects id ≡ Some object → id.run ≡ run
  pub new_tasks : (key : TaskKey) (task : Task) → get d.tasks key ≡ None → get s.world.tasks key ≡ Some task → key.run ≡ run

nothing_kept : {Needs : Type 0} {Own : TaskKey → Type 0} (s : Run) → SteadyAt {A = Unit {0}} Needs Own s (Ok tt, s)
nothing_kept s = record { goes = goes_nowhere s; fit = λ n f. f; leaves = λ n f key x y other e g. some_is y x (sym g ∙ e) }

-- what a run leaves of its own task, whatever it does then
pub kept_steady : (j : Job) (s : Run) → SteadyAt {A = Unit {0}} (IsJob j × IsDueBy j s.at) (IsOwnKey j) s (Ok tt, kept_by j s)
kept_steady (job.Task key due period kind arg) s =
    let p = own_steady {Needs = IsJob (job.Task key due period kind arg) × (due ≤ s.at)} key due period s (λ n. (n.0.1.period, n.1)) in
    record { goes = p.goes; fit = p.fit; leaves = p.leaves }
kept_steady job.Initialize s = nothing_kept s
kept_steady (job.Login conn name) s = nothing_kept s
kept_steady (job.Message conn name body) s = nothing_kept s
kept_steady (job.Channel conn name channel body) s = nothing_kept s
kept_steady (job.Disconnect conn name graceful) s = nothing_kept s

-- what lawful rules' part and the platform's do from a run's start
pub works : (rules : Meaning) → AreLawful rules → (j : Job) (run : RunNo) (at : ℕ) (d : DurableWorld) → SteadyAt (IsJob j × IsDueBy j at) (IsOwnKey j) (begun run at d) (work (game_part rules) j (begun run at d))
works rules lawful j run at d = work_steady (game_part rules) j (begun run at d) (λ n. n) (parts_lawful rules lawful)

-- what becomes of a run where it ends, of which it is said already
pub ended_has : (Says : DurableWorld → List Item → Type 0) (j : Job) (d : DurableWorld) (start : Run) (r : Result (Unit {0}) AppFault) (t : Run)
    → Says (kept_by j start).world (kept_by j start).touched → Says t.world t.touched → Says (ended j d start (r, t)).world (ended j d start (r, t)).touched
ended_has Says j d start (Ok x) t kept done =
    elim (is_too_large d t.world) as (λ b. let s = cond {A = Stepped} b (failed j start TooLarge) (record { outcome = outcome.Ok; world = t.world; touched = t.touched; outs = t.outs }) in Says s.world s.touched) [
      | true ↦ kept
      | false ↦ done
    ]
ended_has Says j d start (Err fault) t kept done = kept

-- what is said of a step's world and of what it lists
abbrev Stepping : DurableWorld → RunNo → DurableWorld → List Item → Type 0
Stepping d run world touched =
    (world.commits ≡ d.commits + 1)
    × (world.last ≡ last_with d.last run)
    × ((id : ObjectId) → Lacks touched (ask.Object id) → get world.objects id ≡ get d.objects id)
    × ((name : List ℕ) → Lacks touched (ask.Bound name) → get world.names name ≡ get d.names name)
    × ((key : TaskKey) → Lacks touched (ask.Task key) → task_answer (get world.tasks key) ≡ task_answer (get d.tasks key))
    × ((id : ObjectId) (object : Object) → get d.objects id ≡ None → get world.objects id ≡ Some object → id.run ≡ run)
    × ((key : TaskKey) (task : Task) → get d.tasks key ≡ None → get world.tasks key ≡ Some task → key.run ≡ run)

stepping : (run : RunNo) (at : ℕ) (d : DurableWorld) (t : Run) → GoesOn (begun run at d) t → Stepping d run t.world t.touched
stepping run at d t p = (
  p.commits,
  p.last,
  λ id h. p.objects id (subst (λ xs. Lacks xs (ask.Object id)) p.listed h),
  λ name h. p.names name (subst (λ xs. Lacks xs (ask.Bound name)) p.listed h),
  λ key h. p.tasks key (subst (λ xs. Lacks xs (ask.Task key)) p.listed h),
  λ id object e f. (p.new_objects id object e f).0,
  λ key task e f. (p.new_tasks key task e f).0,
)

-- a step of lawful rules goes on, whatever the world
pub step_goes_on : (rules : Meaning) → AreLawful rules → (j : Job) (run : RunNo) (at : ℕ) (d : DurableWorld) → StepGoesOn d run (step rules j run at d)
step_goes_on rules lawful j run at d =
    let start = begun run at d in
    let end = work (game_part rules) j start in
    let all = ended_has (Stepping d run) j d start end.0 end.1 (stepping run at d (kept_by j start) (kept_steady j start).goes) (stepping run at d end.1 (works rules lawful j run at d).goes) in
    record { commits = all.0; last = all.1; objects = all.2; names = all.3; tasks = all.4; new_objects = all.5; new_tasks = all.6 }
