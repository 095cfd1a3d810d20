-- A run over a look at a host is honest where the look ends.
use Rattle.std.proofs.Common.{◌≡◌, ℕ, ◌≤◌, Result, Ok, Err, IfOk, sym, ap, subst, ◌∙◌}
use Rattle.std.specs.List.{AllByRecursion}
use Rattle.dk_types.specs.declared.event.Event.{Event}
use Rattle.dk_types.specs.declared.fault.NoMemory.{NoMemory}
use Rattle.dk_types.specs.declared.job.Job.{Job}
use Rattle.dk_types.specs.declared.limits.TheConstants.{MOMENT_MOST_MS}
use Rattle.dk_types.specs.declared.number.RunNo.{RunNo}
use Rattle.dk_model.specs.Events.{Meaning}
use Rattle.dk_model.specs.Finishes.{KeepsLaw}
use Rattle.dk_model.specs.Lawful.{AreLawful}
use Rattle.dk_model.specs.Legal.{Opened, opening_of, IsFront, IsLegal}
use Rattle.dk_model.specs.Sights.{IsHonestRead}
use Rattle.dk_laws.proofs.LaterOn.{claims_stand, claimed_within}
use Rattle.dk_txn.specs.declared.finished.Finished.{Finished}
use Rattle.dk_txn.specs.Finishes.{report}
use Rattle.dk_txn.specs.Knowing.{HasTaskLimits}
use Rattle.dk_game.proofs.Lent.{job_fits}
use Rattle.dk_core.specs.declared.claimed.Claimed.{Claimed}
use Rattle.dk_turn.specs.Fronts.{Known}
use Rattle.dk_host.specs.Calls.{IsClaimOf, IsHonestAt}
use Rattle.dk_host.specs.Looks.{Looking, LooksOn, IsGiven}

-- a pass's claim is within its limits
pub claim_within : (o : Opened) (p : Known Event) (c : Claimed) → AreLawful o.rules → IsClaimOf o p c → HasTaskLimits c.job × (c.at ≤ MOMENT_MOST_MS)
claim_within o p c lawful claim =
    let within = claimed_within o p.front claim.legal c.run (record { pass = c.pass; job = c.job; at = c.at }) claim.stands lawful in (job_fits c.job within.0, within.1)

-- a claim stands wherever its pass's front goes on
pub claim_goes : (o : Opened) (c : Claimed) (old new : Known Event) → new.number ≡ old.number → IsFront old.number old.front new.front → IsLegal o new.front → IsClaimOf o old c → IsClaimOf o new c
claim_goes o c old new number goes legal claim = record {
  pass = claim.pass ∙ sym number;
  legal = legal;
  stands = claims_stand o old.front new.front c.run (record { pass = c.pass; job = c.job; at = c.at }) (subst (λ n. IsFront n old.front new.front) (sym claim.pass) goes) legal claim.stands;
}

-- from a look as it was begun to the pass as it is had back
module _ (o : Opened) (c : Claimed) (old new : Known Event) (a b : Looking) (began : a.pass ≡ old) (ends : b.pass ≡ new) (g : LooksOn o a b) where
  pub number_stays : new.number ≡ old.number
  number_stays = ap (λ (p : Known Event). p.number) (sym ends) ∙ g.number ∙ ap (λ (p : Known Event). p.number) began

  pub front_goes : IsFront old.number old.front new.front
  front_goes = subst (λ (p : Known Event). IsFront p.number p.front new.front) began (subst (λ (q : Known Event). IsFront a.pass.number a.pass.front q.front) ends g.front)

  -- the claim stands there still
  pub claim_stays : IsClaimOf o old c → IsClaimOf o new c
  claim_stays claim =
      let legal : IsLegal o new.front = subst (λ (q : Known Event). IsLegal o q.front) ends (g.legal (subst (λ (p : Known Event). IsLegal o p.front) (sym began) claim.legal)) in
      claim_goes o c old new number_stays front_goes legal claim

-- the pass of a claim has the number that the claim has
pub one_number : (o : Opened) (c : Claimed) (old new : Known Event) → IsClaimOf o old c → IsClaimOf o new c → new.number ≡ old.number
one_number o c old new before now = sym now.pass ∙ before.pass

-- the front went on, of the pass whose claim stands
pub front_of_claim : (o : Opened) (c : Claimed) (old new : Known Event) → IsClaimOf o new c → (a b : Looking) → a.pass ≡ old → b.pass ≡ new → LooksOn o a b → IsFront old.number old.front new.front
front_of_claim o c old new claim a b began ends g = front_goes o c old new a b began ends g

-- a run that keeps the law of the host's rules, and read what the look gave, is honest
pub honest_by : (o : Opened) (rules : Meaning) → o.rules ≡ rules → (new : Known Event) (c : Claimed) → IsClaimOf o new c → (b : Looking) → b.pass ≡ new → b.run ≡ c.run
    → (j : Job) (run : RunNo) (at : ℕ) → j ≡ c.job → run ≡ c.run → at ≡ c.at → (r : Result Finished NoMemory)
    → IfOk r (λ f. KeepsLaw rules j run at f.reads.items (report f)) → IfOk r (λ f. AllByRecursion (λ x. IsGiven o b x.0 x.1) f.reads.items)
    → IfOk r (IsHonestAt o new.front c)
honest_by o rules same new c claim b ends is j run at same_job same_run same_at (Ok f) law given = record {
  law = subst (λ m. KeepsLaw m c.job c.run c.at f.reads.items (report f)) (sym same)
      (subst (λ x. KeepsLaw rules x c.run c.at f.reads.items (report f)) same_job
      (subst (λ x. KeepsLaw rules j x c.at f.reads.items (report f)) same_run (subst (λ x. KeepsLaw rules j run x f.reads.items (report f)) same_at law)));
  honest = subst (λ (p : Known Event). AllByRecursion (λ x. IsHonestRead o.rules (opening_of o) p.front c.run x.0 x.1) f.reads.items) ends
      (subst (λ n. AllByRecursion (λ x. IsHonestRead o.rules (opening_of o) b.pass.front n x.0 x.1) f.reads.items) is given);
}
honest_by o rules same new c claim b ends is j run at same_job same_run same_at (Err e) law given = tt
