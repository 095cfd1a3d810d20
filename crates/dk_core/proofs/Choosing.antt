-- What is picked by the indexes is what the definitions pick.
use Rattle.std.proofs.Common.{◌≡◌, ℕ, ◌==◌, true, false, if◌then◌else◌, List, [], ◌∷◌, Option, Some, None, IfSome, is_some, length, refl, sym, ap, ◌∙◌, arith, eqb-true}
use Rattle.std.specs.List.{AllByRecursion}
use Rattle.std.specs.Option.{option_or}
use Rattle.std.specs.FinMap.{get, len, entries, len-entries}
use Rattle.dk_types.specs.declared.number.RunNo.{RunNo}
use Rattle.dk_types.specs.declared.number.ConnNo.{ConnNo}
use Rattle.dk_types.specs.declared.number.TaskKey.{TaskKey}
use Rattle.dk_types.specs.declared.job.Job.{Job}
use Rattle.dk_types.specs.declared.job.Job.TheVariants as job
use Rattle.dk_model.specs.Worlds.{Claim}
use Rattle.dk_model.specs.Picks.{mapped, task_job, or_else, first_of_list, first_runs, is_initialize, is_claimed, pick_task, pick_input}
use Rattle.dk_model.proofs.Maps.{runs_total}
use Rattle.dk_laws.proofs.Entries.{all_entries}
use Rattle.dk_laws.proofs.OpenClaims.{TheClaims}
use Rattle.dk_tasks.specs.Tasks.{Kept}
use Rattle.dk_connections.specs.MarkedConnections.{MarkedConnection}
use Rattle.dk_connections.specs.Ready.{first_at, IsReadyAt}
use Rattle.dk_connections.proofs.Turns.{first_there}
use Rattle.dk_core.specs.declared.choice.Choice.{Choice}
use Rattle.dk_core.specs.declared.choice.Choice.TheVariants as choose
use Rattle.dk_core.specs.declared.world.Core.{Core}
use Rattle.dk_core.specs.Cores.{world_of}
use Rattle.dk_core.specs.Picking.{job_of, IsThere, IsPick, IsFirstRun, IsDueTask, IsReadyInput}
use Rattle.dk_core.proofs.Having.{never, has_there, has_which}
use Rattle.dk_core.proofs.Counted.{some_there}

-- a job that is there is one
pub record IsOne (c : Core) (x : Choice) : Type 0 where
  pub job : Job
  pub is : job_of c (Some x) ≡ Some job

task_there : (key : TaskKey) (o : Option Kept) → is_some o ≡ true → (j : Job) × (mapped (λ (t : Kept). task_job (key, t.task)) o ≡ Some j)
task_there key None e = absurd cc
task_there key (Some t) e = (task_job (key, t.task), refl)

input_there : (conn : ConnNo) (o : Option MarkedConnection) → IsReadyAt o → (j : Job) × (first_at conn o ≡ Some j)
input_there conn None r = absurd r
input_there conn (Some l) r = elim (first_at conn (Some l)) as (λ o. first_at conn (Some l) ≡ o → (j : Job) × (first_at conn (Some l) ≡ Some j)) [
  | None ↦ λ e. absurd (first_there conn l r.1 e)
  | Some j ↦ λ e. (j, e)
] refl

pub job_there : (c : Core) (x : Choice) → IsThere c x → IsOne c x
job_there c choose.First t = record { job = job.Initialize; is = refl }
job_there c (choose.Task key) t = let j = task_there key (get c.world.tasks key) t in record { job = j.0; is = j.1 }
job_there c (choose.Input conn) t = let j = input_there conn (get c.connections.connections conn) t in record { job = j.0; is = j.1 }

-- one choice or the other
either_job : (c : Core) (a b : Option Choice) → IfSome a (IsThere c) → or_else (job_of c a) (job_of c b) ≡ job_of c (option_or a b)
either_job c None b t = refl
either_job c (Some x) b t = let j = job_there c x t in ap (λ o. or_else o (job_of c b)) j.is ∙ sym j.is

later : (n : ℕ) → (n ≡ 0 → ⊥) → (n == 0) ≡ false
later n h = elim (n == 0) as (λ b. (n == 0) ≡ b → b ≡ false) [ true ↦ λ e. absurd (h (eqb-true n 0 e)) | false ↦ λ _. refl ] refl

module _ (c : Core) (task input : Option Choice) (due : IsDueTask c task) (ready : IsReadyInput c input) (due_there : IfSome task (IsThere c)) (ready_there : IfSome input (IsThere c)) (some : c.world.commits ≡ 0 → ⊥) where
  -- after a task, an input first
  pub input_first : c.after_task ≡ true → IsPick c (option_or input task)
  input_first after marks =
      (λ i. if later c.world.commits some i then first_of_list (first_runs (world_of c)) else if after i then or_else (pick_input (world_of c)) (pick_task (world_of c)) else or_else (pick_task (world_of c)) (pick_input (world_of c)))
      ∙ (λ i. or_else (ready marks i) (due marks i)) ∙ either_job c input task ready_there

-- where there are no claims, the first run is none of them
pub first_free : (c : Core) → len c.claims.claims ≡ 0 → IsFirstRun c (Some choose.First)
first_free c none zero marks =
    let free : is_claimed is_initialize (world_of c) ≡ false = never _ (λ h. let x = has_which is_initialize c.claims.claims h in let some = some_there c.claims.claims x.run (ap is_some x.there) in omega (arith, none, some)) in
    λ i. first_of_list (if free i then [] else job.Initialize ∷ [])

some_entry : (claims : TheClaims) (es : List (RunNo × Claim)) → AllByRecursion (λ e. get claims e.0 ≡ Some e.1) es → (length es ≡ 0 → ⊥) → (run : RunNo) × (claim : Claim) × (get claims run ≡ Some claim)
some_entry claims [] h n = absurd (n refl)
some_entry claims (x ∷ es) h n = (x.0, x.1, h.0)

-- and where there are, it is one
pub first_taken : (c : Core) → (len c.claims.claims ≡ 0 → ⊥) → IsFirstRun c None
first_taken c some zero marks =
    let x = some_entry c.claims.claims (entries c.claims.claims) (all_entries runs_total (λ e. get c.claims.claims e.0 ≡ Some e.1) c.claims.claims (λ k x e. e)) (λ n. some (len-entries c.claims.claims ∙ n)) in
    let taken : is_claimed is_initialize (world_of c) ≡ true = has_there is_initialize c.claims.claims x.0 x.1 x.2 (ap is_initialize (marks.first zero x.0 x.1 x.2)) in
    λ i. first_of_list (if taken i then [] else job.Initialize ∷ [])
