-- What a run tells at its end.
use Rattle.std.proofs.Common.{◌≡◌, ℕ, Bool, true, false, nat_lt, if◌then◌else◌, Some, is_some, List, Result, Ok, Err, IfOk, refl, sym, ap, subst, ◌∙◌}
use Rattle.std.specs.FinMap as map
use Rattle.dk_types.specs.declared.number.TaskKey.{TaskKey}
use Rattle.dk_types.specs.declared.item.Item.TheVariants as ask
use Rattle.dk_types.specs.declared.job.Job.{Job}
use Rattle.dk_types.specs.declared.job.Job.TheVariants as job
use Rattle.dk_types.specs.declared.fault.AppFault.{AppFault}
use Rattle.dk_types.specs.declared.fault.AppFault.TheVariants.{TooLarge}
use Rattle.dk_types.specs.declared.fault.Outcome.TheVariants as outcome
use Rattle.dk_types.specs.declared.limits.TheConstants.{EFFECTS_MOST_BYTES}
use Rattle.dk_model.specs.Keys.{key_cmp}
use Rattle.dk_model.specs.DurableWorlds.{DurableWorld, Task, Agrees}
use Rattle.dk_model.specs.Runs.{Run, begun}
use Rattle.dk_model.specs.Effects.{effects, effects_length}
use Rattle.dk_model.specs.Steps.{own_task, failed, failed_outs, kept_by, is_too_large}
use Rattle.dk_overlay.specs.declared.change.TaskChange.TheVariants.{Moved}
use Rattle.dk_txn.specs.declared.finished.Finished.{Finished}
use Rattle.dk_overlay.specs.Asked.{IsAsked}
use Rattle.dk_overlay.specs.Changes.{task_now}
use Rattle.dk_txn.specs.Layers.{layered}
use Rattle.dk_overlay.specs.ReadsAndWrites.{ReadsAndWrites, nothing_done, without_changes}
use Rattle.dk_txn.specs.Current.{current, passing_own}
use Rattle.dk_txn.specs.Knowing.{MovesStand, MovesOwn, OwnIsAsked, Fits}
use Rattle.dk_model.specs.Finishes.{step_report}
use Rattle.dk_txn.specs.Finishes.{MayBeIn, IsLogOf, IsKeptIn, IsKept, TellsFailed, TellsEnd}
use Rattle.dk_overlay.specs.NetChanges.{net_changes}
use Rattle.dk_overlay.proofs.Keys.{keys_total, keys_same}
use Rattle.dk_txn.proofs.Layers.{layered-empty, at_empty}
use Rattle.dk_txn.proofs.Sound.{nothing_known}
use Rattle.dk_txn.proofs.Owning.{current_start, own_passed, own_absent, knows_passed, moves_passed, moves_stand}
use Rattle.dk_txn.proofs.Nets.{net-effects}

no_moves : (t : ReadsAndWrites) (d : DurableWorld) → MovesStand (nothing_done t.run t.at) d
no_moves t d = λ k from to h. at_empty key_cmp (λ _ _. (task : Task) → map.get d.tasks k ≡ Some task → task.due ≡ from) k (Moved from to) h

-- a failed run keeps nothing of a job that is no task
pub kept_nothing : (t : ReadsAndWrites) (j : Job) → ((d : DurableWorld) → kept_by j (begun t.run t.at d) ≡ begun t.run t.at d) → IsKept t j (nothing_done t.run t.at)
kept_nothing t j same = λ set d may. record { is = current_start t.run t.at d ∙ sym (same d); knows = nothing_known t.run t.at d; moves = no_moves t d }

module _ (t : ReadsAndWrites) (key : TaskKey) (due period kind : ℕ) (arg : List ℕ) where
  -- whether the task is pending under no changes
  bare : (d : DurableWorld) (b : Bool) → is_some (map.get d.tasks key) ≡ b → is_some (map.get (layered task_now (nothing_done t.run t.at).tasks d.tasks) key) ≡ b
  bare d b h = ap (λ m. is_some (map.get m key)) (layered-empty keys_total keys_same task_now d.tasks) ∙ h

  -- nor of its own task, where that is not pending
  pub kept_absent : (IsAsked t.reads (ask.Task key) → (d : DurableWorld) → Agrees d t.reads → is_some (map.get d.tasks key) ≡ false) → IsKept t (job.Task key due period kind arg) (nothing_done t.run t.at)
  kept_absent none = λ set d may. record {
    is = ap (λ p. p.1) (sym (own_absent (nothing_done t.run t.at) d key due period (bare d false (none set.asked d may.agrees)))) ∙ ap (λ s. (own_task key due period s).1) (current_start t.run t.at d);
    knows = nothing_known t.run t.at d;
    moves = no_moves t d;
  }

  -- it keeps that its own task was passed, where it is pending
  pub kept_passed : (k : ReadsAndWrites) → (IsAsked t.reads (ask.Task key) → (d : DurableWorld) → Agrees d t.reads → is_some (map.get d.tasks key) ≡ true)
      → (Fits due period → k ≡ passing_own (nothing_done t.run t.at) key due period) → IsKept t (job.Task key due period kind arg) k
  kept_passed k there is = λ set d may.
      let pending = bare d true (there set.asked d may.agrees) in
      let start = nothing_done t.run t.at in
      subst (λ k. IsKeptIn t (job.Task key due period kind arg) k d) (sym (is set.fits)) (record {
        is = ap (λ p. p.1) (sym (own_passed start d key due period pending)) ∙ ap (λ s. (own_task key due period s).1) (current_start t.run t.at d);
        knows = knows_passed start d key due period (nothing_known t.run t.at d) pending;
        moves = λ q from to h task e.
            moves_passed (λ q from. (task : Task) → map.get d.tasks q ≡ Some task → task.due ≡ from) start key due period
            (λ task e. ap (λ (x : Task). x.due) (may.stands task e))
            (λ q from to h. at_empty key_cmp (λ _ _. (task : Task) → map.get d.tasks q ≡ Some task → task.due ≡ from) q (Moved from to) h)
            q from to h task e;
      })

-- a failed run tells what it keeps
pub tells_failed : (t : ReadsAndWrites) (j : Job) (fault : AppFault) (k : ReadsAndWrites) (f : Finished) → IsKept t j k
    → f.outcome ≡ outcome.Fail fault → f.effects ≡ net_changes k → f.touched.items ≡ k.touched → f.outs.items ≡ failed_outs j → TellsFailed t j fault f
tells_failed t j fault k f kept end written touched outs = λ set d may.
    let w = kept set d may in
    λ i. record {
      outcome = end i;
      effects = (written ∙ net-effects k d w.knows w.moves ∙ ap (λ (s : Run). effects d s.world) w.is) i;
      touched = (touched ∙ ap (λ (s : Run). s.touched) w.is) i;
      outs = outs i;
    }

module _ (t : ReadsAndWrites) (j : Job) (set : IsLogOf t j) (d : DurableWorld) (may : MayBeIn t j d) where
  net : net_changes t ≡ effects d (current t d).world
  net = net-effects t d (set.sound.knows d may.agrees may.new) (moves_stand j t d set.own may.stands)

  size : nat_lt EFFECTS_MOST_BYTES (effects_length (net_changes t)) ≡ is_too_large d (current t d).world
  unfolding is_too_large
  size = ap (λ e. nat_lt EFFECTS_MOST_BYTES (effects_length e)) net

-- a run that came to its end tells all that it did
pub tells_done : (t : ReadsAndWrites) (j : Job) (f : Finished) → nat_lt EFFECTS_MOST_BYTES (effects_length (net_changes t)) ≡ false
    → f.outcome ≡ outcome.Ok → f.effects ≡ net_changes t → f.touched.items ≡ t.touched → f.outs.items ≡ t.outs → TellsEnd t j (Ok tt) f
tells_done t j f small end written touched outs = λ set d may.
    (λ i. record { outcome = end i; effects = (written ∙ net t j set d may) i; touched = touched i; outs = outs i })
    ∙ ap (λ b. step_report d (if b then failed j (begun t.run t.at d) TooLarge else record { outcome = outcome.Ok; world = (current t d).world; touched = t.touched; outs = t.outs }))
    (sym (sym (size t j set d may) ∙ small))

-- whether the run asked for its own task does not depend on its changes
asked_without : (j : Job) (t : ReadsAndWrites) → OwnIsAsked j t → OwnIsAsked j (without_changes t)
asked_without job.Initialize t h = h
asked_without (job.Login conn name) t h = h
asked_without (job.Message conn name body) t h = h
asked_without (job.Channel conn name channel body) t h = h
asked_without (job.Disconnect conn name graceful) t h = h
asked_without (job.Task key due period kind arg) t h = h

-- without changes no task is moved
own_without : (j : Job) (t : ReadsAndWrites) → MovesOwn j (without_changes t)
own_without job.Initialize t = λ k from to h. at_empty key_cmp (λ _ _. ⊥) k (Moved from to) h
own_without (job.Login conn name) t = λ k from to h. at_empty key_cmp (λ _ _. ⊥) k (Moved from to) h
own_without (job.Message conn name body) t = λ k from to h. at_empty key_cmp (λ _ _. ⊥) k (Moved from to) h
own_without (job.Channel conn name channel body) t = λ k from to h. at_empty key_cmp (λ _ _. ⊥) k (Moved from to) h
own_without (job.Disconnect conn name graceful) t = λ k from to h. at_empty key_cmp (λ _ _. ⊥) k (Moved from to) h
own_without (job.Task key due period kind arg) t = λ k from to h. at_empty key_cmp (λ _ _. (k ≡ key) × (from ≡ due)) k (Moved from to) h

log_without : (t : ReadsAndWrites) (j : Job) → IsLogOf t j → IsLogOf (without_changes t) j
log_without t j log = record {
  sound = record {
    knows = λ d agrees new. let k = nothing_known t.run t.at d in record { objects = k.objects; names = k.names; tasks = k.tasks };
  };
  asked = asked_without j t log.asked;
  own = own_without j t;
  fits = log.fits;
}

-- what a failed run tells depends on its reads, its number and its moment alone
pub tells_without : (t r : ReadsAndWrites) (j : Job) (fault : AppFault) (f : Finished) → r ≡ without_changes t → TellsFailed r j fault f → TellsFailed t j fault f
tells_without t r j fault f is tells =
    let bare : TellsFailed (without_changes t) j fault f = subst (λ r. TellsFailed r j fault f) is tells in
    λ log d may. bare (log_without t j log) d (record { agrees = may.agrees; new = may.new; stands = may.stands })

-- one whose effects are too large fails
pub tells_large : (t : ReadsAndWrites) (j : Job) (f : Finished) → nat_lt EFFECTS_MOST_BYTES (effects_length (net_changes t)) ≡ true → TellsFailed t j TooLarge f → TellsEnd t j (Ok tt) f
tells_large t j f large tells = λ set d may.
    tells set d may
    ∙ ap (λ b. step_report d (if b then failed j (begun t.run t.at d) TooLarge else record { outcome = outcome.Ok; world = (current t d).world; touched = t.touched; outs = t.outs }))
    (sym (sym (size t j set d may) ∙ large))

-- a failed run keeps nothing of a job that is none of a task
pub kept_default : (t : ReadsAndWrites) (j : Job) → ((key : TaskKey) (due period kind : ℕ) (arg : List ℕ) → j ≡ job.Task key due period kind arg → ⊥) → IsKept t j (nothing_done t.run t.at)
kept_default t job.Initialize isnt = kept_nothing t job.Initialize (λ d. refl)
kept_default t (job.Login conn name) isnt = kept_nothing t (job.Login conn name) (λ d. refl)
kept_default t (job.Message conn name body) isnt = kept_nothing t (job.Message conn name body) (λ d. refl)
kept_default t (job.Channel conn name channel body) isnt = kept_nothing t (job.Channel conn name channel body) (λ d. refl)
kept_default t (job.Disconnect conn name graceful) isnt = kept_nothing t (job.Disconnect conn name graceful) (λ d. refl)
kept_default t (job.Task key due period kind arg) isnt = absurd (isnt key due period kind arg refl)

-- what an answer tells, in other words
pub if_ok : {E : Type 0} {P Q : Finished → Type 0} (r : Result Finished E) → IfOk r P → ((f : Finished) → P f → Q f) → IfOk r Q
if_ok (Ok f) p k = k f p
if_ok (Err e) p k = tt
