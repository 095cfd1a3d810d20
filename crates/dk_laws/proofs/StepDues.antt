-- A step of lawful rules changes of a task that stands before and after nothing but its due moment.
use Rattle.std.proofs.Common.{◌≡◌, ℕ, ◌≤◌, ◌==◌, Bool, true, false, cond, if◌then◌else◌, Option, Some, None, Result, Ok, Err, refl, sym, ap, ◌∙◌, arith, inl, inr}
use Rattle.std.specs.FinMap as maps
use Rattle.dk_types.specs.declared.fault.AppFault.{AppFault}
use Rattle.dk_types.specs.declared.number.RunNo.{RunNo}
use Rattle.dk_types.specs.declared.number.TaskKey.{TaskKey}
use Rattle.dk_types.specs.declared.job.Job.{Job}
use Rattle.dk_types.specs.declared.job.Job.TheVariants as job
use Rattle.dk_types.specs.declared.limits.TheConstants.{PERIOD_MOST_MS}
use Rattle.dk_model.specs.DurableWorlds.{DurableWorld, Task}
use Rattle.dk_model.specs.Validity.{IsValid}
use Rattle.dk_model.specs.Runs.{Run, Act, begun, give, and_then, carry_on, with_task}
use Rattle.dk_model.specs.Steps.{next_due, own_found, own_task, step, work, game_part}
use Rattle.dk_model.specs.Events.{Meaning}
use Rattle.dk_model.specs.Lawful.{GoesOn, IsFit, IsMade, IsJob, AreLawful}
use Rattle.dk_model.proofs.Maps.{keys_total, exact_keys, get-insert_cases, get-remove_cases, some_is}
use Rattle.dk_model.proofs.Acts.{Anything, IsLawful, lawful_if, lawful_needs, lawful_done}
use Rattle.dk_model.proofs.Works.{SteadyAt, IsDueBy, IsOwnKey, own_steady, parts_lawful}
use Rattle.dk_model.proofs.StepLaws.{ended_has}
use Rattle.dk_model.proofs.StepValid.{IsReady, begun_fit, step_leaves}
use Rattle.dk_laws.specs.EffectsLaw.{DifferInDue}

-- y is x but for its due moment
abbrev SameButDue : Task → Task → Type 0
SameButDue x y = y ≡ record x { due = y.due }

due_of_same : (x y : Task) → y ≡ x → SameButDue x y
due_of_same x y e = e ∙ ap (λ (n : ℕ). record x { due = n }) (ap (λ (t : Task). t.due) (sym e))

same_at : (o : Option Task) (x y : Task) → o ≡ Some x → o ≡ Some y → SameButDue x y
same_at o x y e f = due_of_same x y (some_is y x (sym f ∙ e))

-- what a run does to its own task
own_differs : (key : TaskKey) (due period : ℕ) (s : Run) (o : Option Task) → maps.get s.world.tasks key ≡ o → (q : TaskKey) (x y : Task)
    → maps.get s.world.tasks q ≡ Some x → maps.get (own_found o key due period s).1.world.tasks q ≡ Some y → SameButDue x y
own_differs key due period s None is q x y e = λ f. same_at _ x y e f
own_differs key due period s (Some task) is q x y e =
    elim (period == 0) as (λ b. maps.get (cond {A = Result Bool AppFault × Run} b (Ok true, with_task s key None) (Ok true, record s { world = record (s.world) { tasks = maps.insert s.world.tasks key (record task { due = next_due due period s.at }) } })).1.world.tasks q ≡ Some y → SameButDue x y) [
      | true ↦ λ f. same_at _ x y e (get-remove_cases keys_total exact_keys s.world.tasks key q y f)
      | false ↦ λ f. elim (get-insert_cases keys_total exact_keys s.world.tasks key (record task { due = next_due due period s.at }) q y f) [
        | inl p ↦
            let had : task ≡ x = some_is task x (sym is ∙ ap (maps.get s.world.tasks) (sym p.0) ∙ e) in
            sym p.1 ∙ (λ i. record (had i) { due = (p.1 i).due })
        | inr there ↦ same_at _ x y e there
      ]
    ]

-- what was taken away does not come back, so what is said of the first step is said of both where the second changes nothing
differs_at : (a b c : Run) → IsFit a → GoesOn a b → GoesOn b c → (key : TaskKey) → ((x y : Task) → maps.get a.world.tasks key ≡ Some x → maps.get b.world.tasks key ≡ Some y → SameButDue x y)
    → ((x y : Task) → maps.get b.world.tasks key ≡ Some x → maps.get c.world.tasks key ≡ Some y → y ≡ x) → (x y : Task) → maps.get a.world.tasks key ≡ Some x → maps.get c.world.tasks key ≡ Some y → SameButDue x y
differs_at a b c f p q key first second x y e g =
    elim (maps.get b.world.tasks key) as (λ o. maps.get b.world.tasks key ≡ o → SameButDue x y) [
      | None ↦ λ none.
          let made : IsMade b.number b.tasks_made c.tasks_made key.run key.k = q.new_tasks key y none g in
          let below = f.tasks key x e (made.0 ∙ p.number) in
          let more = p.more_tasks in absurd (omega (arith, below, more, made.1))
      | Some z ↦ λ some.
          let last : y ≡ z = second z y some g in
          last ∙ first x z e some ∙ (λ i. record x { due = (sym last i).due })
    ] refl

then_differs : {A B Needs : Type 0} {Own : TaskKey → Type 0} {Has : B → Type 0} (s : Run) (r : Result A AppFault) (t : Run) (g : A → Act B) → SteadyAt Needs Own s (r, t) → ((v : A) → IsLawful Needs Has (g v))
    → Needs → IsFit s → (key : TaskKey) → ((x y : Task) → maps.get s.world.tasks key ≡ Some x → maps.get t.world.tasks key ≡ Some y → SameButDue x y)
    → (x y : Task) → maps.get s.world.tasks key ≡ Some x → maps.get (carry_on r g t).1.world.tasks key ≡ Some y → SameButDue x y
then_differs s (Ok v) t g p h n f key first = let q = (h v).at t in differs_at s t ((g v t).1) f p.goes q.goes key first (q.leaves n (p.fit n f) key)
then_differs s (Err fault) t g p h n f key first = first

-- a job's own task and then the game's part
task_differs : {Needs : Type 0} (key : TaskKey) (due period : ℕ) (game : Act (Unit {0})) (s : Run) → (Needs → (period ≤ PERIOD_MOST_MS) × (due ≤ s.at)) → IsLawful Needs Anything game → Needs → IsFit s → (q : TaskKey) (x y : Task)
    → maps.get s.world.tasks q ≡ Some x → maps.get (and_then (own_task key due period) (λ pending. if pending then game else give (Ok tt)) s).1.world.tasks q ≡ Some y → SameButDue x y
unfolding and_then own_task
task_differs key due period game s why p n f q =
    then_differs s ((own_task key due period s).0) ((own_task key due period s).1) (λ pending. if pending then game else give (Ok tt)) (own_steady key due period s why)
    (λ pending. lawful_if pending (lawful_needs (λ m. m.0) p) (lawful_done tt)) n f q (own_differs key due period s (maps.get s.world.tasks key) refl q)

module _ (rules : Meaning) (lawful : AreLawful rules) (run : RunNo) (at : ℕ) (d : DurableWorld) (v : IsValid d) where
  -- a job that has no task of its own leaves each task
  all_same : (j : Job) → IsReady j run at d → ((key : TaskKey) → IsOwnKey j key → ⊥) → DifferInDue d (step rules j run at d).world
  all_same j ready none key x y e f = due_of_same x y (step_leaves rules lawful j run at d v ready key x y (none key) e f)

  pub step_differs : (j : Job) → IsReady j run at d → DifferInDue d (step rules j run at d).world
  unfolding own_task
  step_differs (job.Task key due period kind arg) ready = λ q x y e.
      let j = job.Task key due period kind arg in
      let start = begun run at d in
      let end = work (game_part rules) j start in
      let fit = begun_fit j run at d v ready in
      ended_has (λ world touched. maps.get world.tasks q ≡ Some y → SameButDue x y) j d start end.0 end.1
      (own_differs key due period start (maps.get d.tasks key) refl q x y e)
      (task_differs {Needs = IsJob j × IsDueBy j at} key due period (game_part rules j) start (λ n. (n.0.1.period, n.1)) (lawful_needs (λ n. n.0) (parts_lawful rules lawful j)) (ready.job, ready.due) fit q x y e)
  step_differs job.Initialize ready = all_same job.Initialize ready (λ _ n. n)
  step_differs (job.Login conn name) ready = all_same (job.Login conn name) ready (λ _ n. n)
  step_differs (job.Message conn name body) ready = all_same (job.Message conn name body) ready (λ _ n. n)
  step_differs (job.Channel conn name channel body) ready = all_same (job.Channel conn name channel body) ready (λ _ n. n)
  step_differs (job.Disconnect conn name graceful) ready = all_same (job.Disconnect conn name graceful) ready (λ _ n. n)
