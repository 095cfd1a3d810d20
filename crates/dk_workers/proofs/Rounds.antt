-- How the claims of a worker, and what it did of each, go together.
use Rattle.std.proofs.Common.{◌≡◌, ℕ, ◌<◌, List, [], ◌∷◌, ◌++◌, Result, Ok, Err, refl, ap, subst, ◌∙◌, append_assoc, inl, inr}
use Rattle.std.specs.List.{All}
use Rattle.std.proofs.lemmas.Grind.{flat_map-append}
use Rattle.dk_types.specs.declared.event.ClaimReply.{ClaimReply}
use Rattle.dk_types.specs.declared.event.ClaimReply.TheVariants as reply
use Rattle.dk_types.specs.declared.event.Event.{Event}
use Rattle.dk_types.specs.declared.event.Event.TheVariants as event
use Rattle.dk_model.specs.Legal.{Opened, pass_of}
use Rattle.dk_core.specs.declared.claimed.Claimed.{Claimed}
use Rattle.dk_turn.specs.Fronts.{Known}
use Rattle.dk_core.specs.declared.answers.ClaimRefused.{ClaimRefused}
use Rattle.dk_core.specs.declared.answers.ClaimRefused.TheVariants as claim_refused
use Rattle.dk_host.specs.Calls.{Entered, claim_events}
use Rattle.dk_host.specs.Passes.{Enters}
use Rattle.dk_host.proofs.Entering.{enters_none, enters_one, enters_then, enters_as}
use Rattle.dk_workers.specs.Refused.{HasCause, unclaimed_by}
use Rattle.dk_workers.specs.Tries.{EndsClaim}
use Rattle.dk_workers.specs.Working.{claim_of, commit_of}
use Rattle.dk_workers.specs.Workers.{committed, EndsBy, EndsWithClaim, EndsWithRelease, HasWorked, Works, WorksNext}
use Rattle.dk_workers.specs.declared.working.Ran.{Ran}
use Rattle.dk_workers.specs.declared.worked.Worked.{Worked}
use Rattle.dk_workers.specs.declared.worked.Worked.TheVariants as worked

committed_then : (pass : ℕ) (first second : List Ran) → committed pass (first ++ second) ≡ committed pass first ++ committed pass second
committed_then pass first second = flat_map-append (λ ran. claim_of pass ran ∷ commit_of pass ran ∷ []) first second

module _ (o : Opened) (count : ℕ) where
  -- nothing was done yet
  pub worked_none : (p : Known Event) → HasWorked o count p p
  worked_none p = record { number = refl; rans = []; enters = enters_none o count p.number p.front }

  -- runs, and then others
  pub worked_then : (p q r : Known Event) → HasWorked o count p q → HasWorked o count q r → HasWorked o count p r
  worked_then p q r a b = record {
    number = b.number ∙ a.number;
    rans = a.rans ++ b.rans;
    enters = enters_as o count p.number (committed p.number a.rans ++ committed p.number b.rans) (committed p.number (a.rans ++ b.rans)) p.front r.front (committed_then p.number a.rans b.rans)
        (enters_then o count p.number (committed p.number a.rans) (committed p.number b.rans) p.front q.front r.front a.enters (subst (λ n. Enters o count n (committed n b.rans) q.front r.front) a.number b.enters));
  }

  -- runs, and then the end
  pub works_then : (end : Worked) (p q r : Known Event) → HasWorked o count p q → Works o count end q r → Works o count end p r
  works_then end p q r a b = record {
    number = b.number ∙ a.number;
    rans = a.rans ++ b.rans;
    tail = b.tail;
    enters = enters_as o count p.number (committed p.number a.rans ++ (committed p.number b.rans ++ b.tail)) (committed p.number (a.rans ++ b.rans) ++ b.tail) p.front r.front
        (ap (λ es. es ++ b.tail) (committed_then p.number a.rans b.rans) ∙ append_assoc (committed p.number a.rans) (committed p.number b.rans) b.tail)
        (enters_then o count p.number (committed p.number a.rans) (committed p.number b.rans ++ b.tail) p.front q.front r.front a.enters (subst (λ n. Enters o count n (committed n b.rans ++ b.tail) q.front r.front) a.number b.enters));
    ends = subst (λ n. EndsBy o n end b.tail r.front) a.number b.ends;
    legal = b.legal;
    named = b.named;
  }

  -- one call that was the end
  pub works_at_once : (end : Worked) (tail : List Event) (p q : Known Event) → q.number ≡ p.number → Entered o p.number tail p.front q.front → All (λ e. pass_of e < count) q.front → EndsBy o p.number end tail q.front → Works o count end p q
  works_at_once end tail p q number e named ends = record {
    number = number;
    rans = [];
    tail = tail;
    enters = enters_one o count p.number tail p.front q.front e named;
    ends = ends;
    legal = e.legal;
    named = named;
  }

  -- the answer of a claim ends the front
  pub claim_last : (pass : ℕ) (answer : ClaimReply) (old new : List Event) → Entered o pass (event.Claim pass answer ∷ []) old new → EndsWithClaim pass answer (event.Claim pass answer ∷ []) new
  claim_last pass answer old new e = record { claim = refl; before = e.before; last = e.front }

  -- so where nothing was granted
  pub unclaimed_ends : (pass : ℕ) (refused : ClaimRefused) (old new : List Event) → Entered o pass (claim_events pass (Err refused)) old new → EndsBy o pass (unclaimed_by refused) (claim_events pass (Err refused)) new
  unclaimed_ends pass (claim_refused.Spent granted) old new e = claim_last pass (reply.Spent granted) old new e
  unclaimed_ends pass (claim_refused.Exhausted next) old new e = claim_last pass (reply.Exhausted next) old new e
  unclaimed_ends pass claim_refused.NoMemory old new e = inl refl

  -- a claim that was granted, and what was done of it
  module _ (p m q : Known Event) (c : Claimed) (m_is : m.number ≡ p.number) (q_is : q.number ≡ m.number) (claim : Entered o p.number (event.Claim p.number (reply.Granted c.run c.at c.job) ∷ []) p.front m.front)
      (m_named : All (λ e. pass_of e < count) m.front) (q_named : All (λ e. pass_of e < count) q.front) where
    enters_both : (e : Event) → Entered o p.number (e ∷ []) m.front q.front → Enters o count p.number (event.Claim p.number (reply.Granted c.run c.at c.job) ∷ e ∷ []) p.front q.front
    enters_both e h = enters_then o count p.number (event.Claim p.number (reply.Granted c.run c.at c.job) ∷ []) (e ∷ []) p.front m.front q.front (enters_one o count p.number _ p.front m.front claim m_named) (enters_one o count p.number _ m.front q.front h q_named)

    released : (end : Worked) → HasCause o c end q.front → EndsWithRelease o p.number end (event.Claim p.number (reply.Granted c.run c.at c.job) ∷ event.Release p.number c.run ∷ []) q.front
    released end cause = record { claimed = c; events = refl; cause = cause }

    by_release : (end : Worked) → HasCause o c end q.front → EndsBy o p.number end (event.Claim p.number (reply.Granted c.run c.at c.job) ∷ event.Release p.number c.run ∷ []) q.front
    by_release worked.Idle cause = absurd cause
    by_release (worked.Spent granted) cause = absurd cause
    by_release (worked.Exhausted next) cause = absurd cause
    by_release worked.DiskFault cause = released worked.DiskFault cause
    by_release (worked.Stopped faults) cause = released (worked.Stopped faults) cause
    by_release (worked.JournalFull length) cause = released (worked.JournalFull length) cause
    by_release worked.NoMemory cause = inr (released worked.NoMemory cause)

    pub works_next : (r : Result (Unit {0}) Worked) → EndsClaim o m.number c r m.front q.front → WorksNext o count r p q
    works_next (Ok done) h = record {
      number = q_is ∙ m_is;
      rans = record { run = c.run; at = c.at; job = c.job; seq = h.seq; outcome = h.outcome } ∷ [];
      enters = enters_both (event.Commit p.number c.run h.seq h.outcome) (subst (λ n. Entered o n (event.Commit n c.run h.seq h.outcome ∷ []) m.front q.front) m_is h.entered);
    }
    works_next (Err end) h = record {
      number = q_is ∙ m_is;
      rans = [];
      tail = event.Claim p.number (reply.Granted c.run c.at c.job) ∷ event.Release p.number c.run ∷ [];
      enters = enters_both (event.Release p.number c.run) (subst (λ n. Entered o n (event.Release n c.run ∷ []) m.front q.front) m_is h.entered);
      ends = by_release end h.cause;
      legal = h.entered.legal;
      named = q_named;
    }
