-- A once-task is no longer pending after a run of it.
use Rattle.std.proofs.Common.{◌≡◌, ℕ, Bool, if◌then◌else◌, Option, Some, None, List, Result, Ok, Err, refl, ◌∙◌}
use Rattle.std.specs.FinMap.{get}
use Rattle.dk_types.specs.declared.fault.AppFault.{AppFault}
use Rattle.dk_types.specs.declared.number.RunNo.{RunNo}
use Rattle.dk_types.specs.declared.number.TaskKey.{TaskKey}
use Rattle.dk_types.specs.declared.job.Job.{Job}
use Rattle.dk_types.specs.declared.job.Job.TheVariants as job
use Rattle.dk_model.specs.DurableWorlds.{DurableWorld, Task}
use Rattle.dk_model.specs.Runs.{Run, Act, begun, give, and_then, carry_on}
use Rattle.dk_model.specs.Steps.{step, work, game_part, own_found, own_task}
use Rattle.dk_model.specs.Events.{Meaning}
use Rattle.dk_model.specs.Lawful.{GoesOn, AlwaysGoesOn, AreLawful}
use Rattle.dk_model.proofs.Maps.{keys_total, get-remove_here}
use Rattle.dk_model.proofs.Goings.{goes_nowhere}
use Rattle.dk_model.proofs.Acts.{Anything, IsLawful, goes_on_of, lawful_done, lawful_if, lawful_needs}
use Rattle.dk_model.proofs.Works.{parts_lawful, own_steady}
use Rattle.dk_model.proofs.StepLaws.{ended_has}

own_gone_at : (key : TaskKey) (due : ℕ) (s : Run) (o : Option Task) → get s.world.tasks key ≡ o → get (own_found o key due 0 s).1.world.tasks key ≡ None
own_gone_at key due s None e = e
own_gone_at key due s (Some task) e = get-remove_here keys_total s.world.tasks key

own_gone : (key : TaskKey) (due : ℕ) (s : Run) → get (own_task key due 0 s).1.world.tasks key ≡ None
unfolding own_task
own_gone key due s = own_gone_at key due s (get s.world.tasks key) refl

carried_on : {A B : Type 0} (r : Result A AppFault) (t : Run) (g : A → Act B) → ((x : A) → AlwaysGoesOn (g x)) → GoesOn t (carry_on r g t).1
carried_on (Ok x) t g h = h x t
carried_on (Err fault) t g h = goes_nowhere t

-- what is gone does not come back, but under a number of the run's own
stays_gone : (t u : Run) (key : TaskKey) → GoesOn t u → (key.run ≡ t.number → ⊥) → get t.world.tasks key ≡ None → get u.world.tasks key ≡ None
stays_gone t u key goes apart none = elim (get u.world.tasks key) as (λ o. get u.world.tasks key ≡ o → o ≡ None) [
  | None ↦ λ _. refl
  | Some task ↦ λ e. absurd (apart (goes.new_tasks key task none e).0)
] refl

never : (game : Act (Unit {0})) → AlwaysGoesOn game → IsLawful ⊥ Anything game
never game goes = record { at = λ s. record { goes = goes s; fit = λ n. absurd n; leaves = λ n. absurd n; has = λ n. absurd n } }

worked_gone : (key : TaskKey) (due : ℕ) (game : Act (Unit {0})) (s : Run) → AlwaysGoesOn game → (key.run ≡ s.number → ⊥)
    → get (and_then (own_task key due 0) (λ pending. if pending then game else give (Ok tt)) s).1.world.tasks key ≡ None
unfolding and_then
worked_gone key due game s goes apart =
    let own = own_steady {Needs = ⊥} key due 0 s (λ n. absurd n) in
    let act : (pending : Bool) → IsLawful ⊥ Anything (if pending then game else give (Ok tt)) = λ pending. lawful_if pending (lawful_needs (λ n. n.0) (never game goes)) (lawful_done tt) in
    stays_gone ((own_task key due 0 s).1) _ key (carried_on ((own_task key due 0 s).0) ((own_task key due 0 s).1) (λ pending. if pending then game else give (Ok tt)) (λ pending. goes_on_of (act pending)))
    (λ e. apart (e ∙ own.goes.number)) (own_gone key due s)

-- once a run of it was stepped, a once-task is not pending, if its key is not of the run's own
pub once_gone : (rules : Meaning) → AreLawful rules → (key : TaskKey) (due kind : ℕ) (arg : List ℕ) (run : RunNo) (at : ℕ) (d : DurableWorld) → (key.run ≡ run → ⊥)
    → get (step rules (job.Task key due 0 kind arg) run at d).world.tasks key ≡ None
once_gone rules lawful key due kind arg run at d apart =
    let j : Job = job.Task key due 0 kind arg in
    let start = begun run at d in
    let game = game_part rules in
    let end = work game j start in
    ended_has (λ world touched. get world.tasks key ≡ None) j d start end.0 end.1 (own_gone key due start) (worked_gone key due (game j) start (goes_on_of (parts_lawful rules lawful j)) apart)
