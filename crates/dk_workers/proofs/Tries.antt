-- How the calls of a try go together.
use Rattle.std.proofs.Common.{◌≡◌, ◌≢◌, ℕ, cond, List, [], ◌∷◌, ◌++◌, Some, None, Ok, Err, refl, sym, ap, subst, ◌∙◌, ne_eqb, append_assoc}
use Rattle.std.specs.List.{AllByRecursion}
use Rattle.std.proofs.lemmas.List.{append-nil}
use mathlib.Core.List.{IsPrefix}
use Rattle.dk_types.specs.declared.event.Event.{Event}
use Rattle.dk_types.specs.declared.event.Event.TheVariants as event
use Rattle.dk_model.specs.Legal.{Opened, opening_of, IsFront, pass_of}
use Rattle.dk_laws.proofs.LaterOn.{front_on, honest_on}
use Rattle.dk_txn.specs.declared.finished.Finished.{Finished}
use Rattle.dk_txn.specs.Finishes.{report}
use Rattle.dk_core.specs.declared.claimed.Claimed.{Claimed}
use Rattle.dk_turn.specs.Fronts.{Known, own}
use Rattle.dk_turn.proofs.Beginnings.{own-append, prefix_self}
use Rattle.dk_host.specs.Calls.{Entered, IsClaimOf, IsHonestAt}
use Rattle.dk_host.specs.Refusals.{IsBackAt, commit_events}
use Rattle.dk_host.specs.declared.refused.CommitRefused.{CommitRefused}
use Rattle.dk_host.specs.declared.refused.Why.{Why}
use Rattle.dk_host.specs.declared.refused.Why.TheVariants as why
use Rattle.dk_host.proofs.Looking.{front_goes}
use Rattle.dk_workers.specs.Refused.{WasRefused, HasCause, end_by}
use Rattle.dk_workers.specs.Tries.{IsCommitted, IsGivenUp, EndsTry, EndsRefused}
use Rattle.dk_workers.specs.declared.trying.Tried.{Tried}
use Rattle.dk_workers.specs.declared.trying.Tried.TheVariants as tried
use Rattle.dk_workers.specs.declared.worked.Worked.{Worked}
use Rattle.dk_workers.specs.declared.worked.Worked.TheVariants as worked
use Rattle.dk_workers.proofs.HonestRuns.{claim_goes}

none_own : (pass : ℕ) (events : List Event) → AllByRecursion (λ e. pass_of e ≢ pass) events → own pass_of pass events ≡ []
none_own pass [] h = refl
none_own pass (e ∷ events) h = ap (λ b. cond b (e ∷ own pass_of pass events) (own pass_of pass events)) (ne_eqb (pass_of e) pass h.0) ∙ none_own pass events h.1

own_of_front : (pass : ℕ) (front log : List Event) → IsFront pass front log → own pass_of pass log ≡ own pass_of pass front
own_of_front pass front log f =
    ap (own pass_of pass) f.all ∙ (own-append pass_of pass front f.later ∙ (ap (λ es. own pass_of pass front ++ es) (none_own pass f.later f.others) ∙ append-nil (own pass_of pass front)))

-- a call behind others that entered nothing
pub entered_behind : (o : Opened) (pass : ℕ) (events old mid new : List Event) → IsFront pass old mid → Entered o pass events mid new → Entered o pass events old new
entered_behind o pass events old mid new f e = record {
  before = e.before;
  continues = front_on pass old mid e.before f e.continues;
  front = e.front;
  by = e.by;
  own_events = e.own_events ∙ ap (λ es. es ++ events) (own_of_front pass old mid f);
  legal = e.legal;
}

-- what a pass had seen, its front begins with after a call
pub begins_by : (o : Opened) (pass : ℕ) (events old new : List Event) → Entered o pass events old new → IsPrefix old new
begins_by o pass events old new e = (e.continues.later ++ events, sym (append_assoc old e.continues.later events) ∙ (ap (λ es. es ++ events) (sym e.continues.all) ∙ sym e.front))

prefix_then : {A : Type 0} (xs ys zs : List A) → IsPrefix xs ys → IsPrefix ys zs → IsPrefix xs zs
prefix_then xs ys zs p q = (p.0 ++ q.0, sym (append_assoc xs p.0 q.0) ∙ (ap (λ w. w ++ q.0) p.1 ∙ q.1))

-- what was refused at a front was so at one that the later front begins with
refused_on : (o : Opened) (c : Claimed) (cause : Why) (front later : List Event) → IsPrefix front later → WasRefused o c cause front → WasRefused o c cause later
refused_on o c cause front later p w = record { finished = w.finished; seen = w.seen; begins = prefix_then w.seen front later w.begins p; honest = w.honest; holds = w.holds }

the_end : (a b : Worked) → Some a ≡ Some b → a ≡ b
the_end a b same = cc

-- a worker's end has the cause of its refusal
pub cause_by : (o : Opened) (c : Claimed) (cause : Why) (end : Worked) (front later : List Event) → IsPrefix front later → WasRefused o c cause front → end_by cause ≡ Some end → HasCause o c end later
cause_by o c (why.Retry item found now) end front later p w is = let none : None ≡ Some end = is in cc
cause_by o c (why.Stopped faults) end front later p w is = subst (λ e. HasCause o c e later) (the_end (worked.Stopped faults) end is) (refused_on o c (why.Stopped faults) front later p w)
cause_by o c (why.JournalFull length) end front later p w is = subst (λ e. HasCause o c e later) (the_end (worked.JournalFull length) end is) (refused_on o c (why.JournalFull length) front later p w)
cause_by o c why.DiskFault end front later p w is = subst (λ e. HasCause o c e later) (the_end worked.DiskFault end is) (refused_on o c why.DiskFault front later p w)
cause_by o c why.NoMemory end front later p w is = subst (λ e. HasCause o c e later) (the_end worked.NoMemory end is) tt

-- tries behind one another
module _ (o : Opened) (first mid : Known Event) (c back : Claimed) where
  pub given_behind : (end : Worked) (last : List Event) → mid.number ≡ first.number → back ≡ c → IsFront first.number first.front mid.front → IsGivenUp o mid.number back end mid.front last → IsGivenUp o first.number c end first.front last
  given_behind end last number same front h = record {
    entered = entered_behind o first.number (event.Release first.number c.run ∷ []) first.front mid.front last front
        (subst (λ (x : Claimed). Entered o first.number (event.Release first.number x.run ∷ []) mid.front last) same (subst (λ n. Entered o n (event.Release n back.run ∷ []) mid.front last) number h.entered));
    cause = subst (λ x. HasCause o x end last) same h.cause;
  }

  pub committed_behind : (last : List Event) → mid.number ≡ first.number → back ≡ c → IsFront first.number first.front mid.front → IsCommitted o mid.number back mid.front last → IsCommitted o first.number c first.front last
  committed_behind last number same front h = record {
    seq = h.seq;
    outcome = h.outcome;
    entered = entered_behind o first.number (event.Commit first.number c.run h.seq h.outcome ∷ []) first.front mid.front last front
        (subst (λ (x : Claimed). Entered o first.number (event.Commit first.number x.run h.seq h.outcome ∷ []) mid.front last) same (subst (λ n. Entered o n (event.Commit n back.run h.seq h.outcome ∷ []) mid.front last) number h.entered));
  }

-- a commit that was refused
module _ (o : Opened) (c : Claimed) (f : Finished) (old new : Known Event) (number : new.number ≡ old.number) (claim : IsClaimOf o old c) (honest : IsHonestAt o old.front c f)
    (r : CommitRefused) (e : Entered o old.number [] old.front new.front) (back : IsBackAt o new.front c f (Err r)) where
  goes : IsFront old.number old.front new.front
  goes = front_goes o c.run old new number e

  pub refused_claim : IsClaimOf o new r.claimed
  refused_claim = subst (IsClaimOf o new) (sym back.0) (claim_goes o c old new number goes e.legal claim)

  pub refused_cause : WasRefused o r.claimed r.why new.front
  refused_cause = subst (λ x. WasRefused o x r.why new.front) (sym back.0) record {
    finished = f;
    seen = new.front;
    begins = prefix_self new.front;
    honest = subst (λ es. IsHonestAt o es c f) (sym goes.all) (honest_on o.rules (opening_of o) old.front goes.later c.job c.run c.at f.reads.items (report f) honest);
    holds = back.1;
  }

  -- and what comes of it
  pub refused_ends : (first last : Known Event) → old.number ≡ first.number → IsFront first.number first.front old.front → (t : Tried) → EndsRefused o r.claimed t new last → EndsTry o c t first last
  refused_ends first last same front tried.Committed h = absurd h
  refused_ends first last same front (tried.Again b) h = record {
    same = h.0 ∙ back.0;
    claim = subst (λ (p : Known Event). IsClaimOf o p b) (sym h.1) (subst (IsClaimOf o new) (sym h.0) refused_claim);
    goes = subst (λ (p : Known Event). IsFront first.number first.front p.front) (sym h.1) (front_on first.number first.front old.front new.front front (subst (λ n. IsFront n old.front new.front) same goes));
  }
  refused_ends first last same front (tried.GivenUp end) h =
      given_behind o first new c r.claimed end last.front (number ∙ same) back.0 (front_on first.number first.front old.front new.front front (subst (λ n. IsFront n old.front new.front) same goes)) h

-- a run that was committed behind one that read
pub run_committed : (o : Opened) (old mid new : Known Event) (c : Claimed) (f : Finished) (seq : ℕ) → mid.number ≡ old.number → IsFront old.number old.front mid.front
    → Entered o mid.number (commit_events mid.number c f (Ok seq)) mid.front new.front → IsCommitted o old.number c old.front new.front
run_committed o old mid new c f seq number front e = committed_behind o old mid c c new.front number refl front (record { seq = seq; outcome = f.outcome; entered = e })

-- a claim that was given back since there was no memory for its run
pub run_given_up : (o : Opened) (old mid new : Known Event) (c : Claimed) → mid.number ≡ old.number → IsFront old.number old.front mid.front
    → Entered o mid.number (event.Release mid.number c.run ∷ []) mid.front new.front → IsGivenUp o old.number c worked.NoMemory old.front new.front
run_given_up o old mid new c number front e = given_behind o old mid c c worked.NoMemory new.front number refl front (record { entered = e; cause = tt })
