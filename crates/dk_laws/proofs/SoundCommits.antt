-- A commit by lawful rules leaves the world sound.
use Rattle.std.proofs.Common.{◌≡◌, ℕ, ◌+◌, ◌<◌, ◌≤◌, max, Option, Some, None, refl, sym, ap, subst, ◌∙◌, arith}
use Rattle.std.specs.FinMap.{get, remove}
use Rattle.dk_types.specs.declared.number.RunNo.{RunNo}
use Rattle.dk_types.specs.declared.number.TaskKey.{TaskKey}
use Rattle.dk_types.specs.declared.job.Job.{Job}
use Rattle.dk_types.specs.declared.job.Job.TheVariants as job
use Rattle.dk_model.specs.DurableWorlds.{DurableWorld, Task, last_with}
use Rattle.dk_model.specs.Validity.{next_of}
use Rattle.dk_model.specs.Worlds.{World, Claim}
use Rattle.dk_model.specs.Events.{Meaning, committed, step_of}
use Rattle.dk_model.specs.Finishes.{HasOwnTask}
use Rattle.dk_model.specs.Lawful.{AreLawful}
use Rattle.dk_model.proofs.Maps.{runs_total, exact_runs, get-remove_cases, get-remove_here, not_both}
use Rattle.dk_model.proofs.Works.{IsOwnKey}
use Rattle.dk_model.proofs.StepLaws.{StepGoesOn, step_goes_on}
use Rattle.dk_model.proofs.StepValid.{IsReady, step_valid, step_short, step_leaves}
use Rattle.dk_laws.proofs.NumberedMaps.{one_run}
use Rattle.dk_laws.proofs.OpenClaims.{TheClaims, open_below, next_of_with, commit_counted}
use Rattle.dk_laws.proofs.Sound.{IsSpent, IsSound}
use Rattle.dk_laws.proofs.SoundConnections.{delivered_sound}
use Rattle.dk_laws.proofs.SoundClaims.{spent_remove}

-- a job's own task stands as the job has it, where each that stands under its key stood so before
own_kept : (d after : DurableWorld) (j : Job) → HasOwnTask d j → ((key : TaskKey) (task : Task) → IsOwnKey j key → get after.tasks key ≡ Some task → get d.tasks key ≡ Some task) → HasOwnTask after j
own_kept d after (job.Task key due period kind arg) own before = λ task e. own task (before key task refl e)
own_kept d after job.Initialize own before = tt
own_kept d after (job.Login conn name) own before = tt
own_kept d after (job.Message conn name body) own before = tt
own_kept d after (job.Channel conn name channel body) own before = tt
own_kept d after (job.Disconnect conn name graceful) own before = tt

-- the number of a claim that goes is spent
pub gone_spent : (claims : TheClaims) (run : RunNo) (next : ℕ) → run.0 < next → IsSpent (remove claims run) next run.0
gone_spent claims run next lt = record {
  drawn = lt;
  closed = λ q c e is. not_both _ c e (ap (get (remove claims run)) (one_run q run is) ∙ get-remove_here runs_total claims run);
}

module _ (w : World) (run : RunNo) (claim : Claim) (s : IsSound w) (held : get w.claims run ≡ Some claim) where
  -- nothing has the number of a claimed run
  absent : {X : Type 0} (o : Option X) (n : RunNo) → n ≡ run → ((x : X) → o ≡ Some x → IsSpent w.claims w.next n.0) → o ≡ None
  absent None n is h = refl
  absent (Some x) n is h = absurd ((h x refl).closed run claim held (ap (λ (r : RunNo). r.0) (sym is)))

  -- a claimed job may be stepped
  pub claim_ready : IsReady claim.job run claim.at w.durable
  claim_ready =
      let c = s.claims run claim held in
      let number = c.number in
      let numbers = s.numbers in
      let counted = commit_counted w.claims run claim w.durable.last w.durable.commits held s.counted in record {
        job = c.job;
        due = c.due;
        number = omega arith;
        moment = c.moment;
        new = record {
          objects = λ id own. absent (get w.durable.objects id) id.run own (λ x e. s.objects id x e);
          tasks = λ key own. absent (get w.durable.tasks key) key.run own (λ x e. s.tasks key x e);
        };
        commits = omega (arith, counted);
      }

  module _ (rules : Meaning) (lawful : AreLawful rules) where
    goes : StepGoesOn w.durable run (step_of rules w run claim)
    goes = step_goes_on rules lawful claim.job run claim.at w.durable

    spent_after : {X : Type 0} (o : Option X) (n : RunNo) → (o ≡ None → n ≡ run) → ((x : X) → o ≡ Some x → IsSpent w.claims w.next n.0) → IsSpent (remove w.claims run) w.next n.0
    spent_after None n new old = subst (λ (r : RunNo). IsSpent (remove w.claims run) w.next r.0) (sym (new refl)) (gone_spent w.claims run w.next (s.claims run claim held).number)
    spent_after (Some x) n new old = spent_remove w.claims run w.next n.0 (old x refl)

    -- what stands under another claim's own key stood so before
    stood : (q : RunNo) (c : Claim) → get (remove w.claims run) q ≡ Some c → (key : TaskKey) (task : Task) → IsOwnKey c.job key → get (step_of rules w run claim).world.tasks key ≡ Some task → get w.durable.tasks key ≡ Some task
    stood q c e key task own f =
        let there = get-remove_cases runs_total exact_runs w.claims run q c e in
        let other : IsOwnKey claim.job key → ⊥ = λ its.
        let same : q ≡ run = (s.claims run claim held).alone key q c its there own in not_both _ c e (ap (get (remove w.claims run)) same ∙ get-remove_here runs_total w.claims run) in
        elim (get w.durable.tasks key) as (λ o. get w.durable.tasks key ≡ o → get w.durable.tasks key ≡ Some task) [
          | None ↦ λ none. absurd (((s.claims q c there).spent key own).closed run claim held (ap (λ (r : RunNo). r.0) (sym (goes.new_tasks key task none f))))
          | Some x ↦ λ some. some ∙ ap Some (sym (step_leaves rules lawful claim.job run claim.at w.durable s.valid claim_ready key x task other some f))
        ] refl

    -- the claimed run is committed
    pub sound_commit : IsSound (committed w run claim.job (step_of rules w run claim))
    sound_commit =
        let number = (s.claims run claim held).number in
        let last = s.last in
        let next : next_of (step_of rules w run claim).world.last ≡ max (next_of w.durable.last) (run.0 + 1) = ap next_of goes.last ∙ next_of_with w.durable.last run in record {
          valid = step_valid rules lawful claim.job run claim.at w.durable s.valid claim_ready;
          moment = s.moment;
          numbers = s.numbers;
          last = omega (arith, next);
          counted = subst (λ (o : Option RunNo). (step_of rules w run claim).world.commits + open_below (remove w.claims run) (next_of o) ≤ next_of o) (sym goes.last)
              (subst (λ n. n + open_below (remove w.claims run) (next_of (last_with w.durable.last run)) ≤ next_of (last_with w.durable.last run)) (sym goes.commits)
              (commit_counted w.claims run claim w.durable.last w.durable.commits held s.counted));
          objects = λ id object e. spent_after (get w.durable.objects id) id.run (λ none. goes.new_objects id object none e) (λ x f. s.objects id x f);
          tasks = λ key task e. spent_after (get w.durable.tasks key) key.run (λ none. goes.new_tasks key task none e) (λ x f. s.tasks key x f);
          claims = λ q c e.
              let is = s.claims q c (get-remove_cases runs_total exact_runs w.claims run q c e) in record {
                number = is.number;
                job = is.job;
                due = is.due;
                moment = is.moment;
                own = own_kept w.durable (step_of rules w run claim).world c.job is.own (stood q c e);
                spent = λ key own. spent_remove w.claims run w.next key.run.0 (is.spent key own);
                alone = λ key other o own f its. is.alone key other o own (get-remove_cases runs_total exact_runs w.claims run other o f) its;
              };
          connections = delivered_sound claim.job (step_of rules w run claim).outs w.connections (step_short rules lawful claim.job run claim.at w.durable s.valid claim_ready) s.connections;
        }
