-- What a refused commit leaves.
use Rattle.std.proofs.Common.{◌≡◌, ℕ, ◌<◌, ◌^◌, List, [], ◌++◌, Err, refl, sym, ap, subst, ◌∙◌}
use Rattle.std.proofs.lemmas.List.{append-nil}
use Rattle.dk_types.specs.declared.event.Event.{Event}
use Rattle.dk_model.specs.Lawful.{AreLawful}
use Rattle.dk_model.specs.Legal.{Opened, opening_of, IsFront, IsLegal, pass_of}
use Rattle.dk_model.specs.Retries.{Stale, IsFirstStale}
use Rattle.dk_laws.proofs.LaterOn.{front_self, front_on, claims_stand, honest_on}
use Rattle.dk_laws.proofs.StaleReads.{stale_tells}
use Rattle.dk_core.specs.Changes.{stale_of}
use Rattle.dk_journal.specs.declared.refused.JournalRefused.{JournalRefused}
use Rattle.dk_journal.specs.declared.refused.JournalRefused.TheVariants as journal_refused
use Rattle.dk_journal.specs.Refusals.{IsAppendFault}
use Rattle.dk_txn.specs.declared.finished.Finished.{Finished}
use Rattle.dk_txn.specs.Finishes.{report}
use Rattle.dk_core.specs.declared.claimed.Claimed.{Claimed}
use Rattle.dk_core.specs.declared.prepared.Prepared.{Prepared}
use Rattle.dk_core.specs.declared.answers.PrepareRefused.{PrepareRefused}
use Rattle.dk_core.specs.declared.answers.PrepareRefused.TheVariants as prepare_refused
use Rattle.dk_turn.specs.Fronts.{Known, own}
use Rattle.dk_host.specs.declared.refused.Why.{Why}
use Rattle.dk_host.specs.Calls.{Entered, IsClaimOf, IsHonestAt}
use Rattle.dk_host.specs.Refusals.{IsRetry, IsCauseAt, IsWhyOfLook, IsWhyOfAppend}
use Rattle.dk_host.specs.Stores.{Stored, Appends, FindsNext}
use Rattle.dk_host.proofs.Stepping.{all_none}

-- a call that enters nothing and sees nothing
pub entered_none : (o : Opened) (pass : ℕ) (front : List Event) → IsLegal o front → Entered o pass [] front front
entered_none o pass front legal = record {
  before = front;
  continues = front_self pass front;
  front = sym (append-nil front);
  by = all_none pass;
  own_events = sym (append-nil (own pass_of pass front));
  legal = legal;
}

-- two calls, the first of which enters nothing
pub entered_then : (o : Opened) (pass : ℕ) (events old mid new : List Event) → Entered o pass [] old mid → Entered o pass events mid new → Entered o pass events old new
entered_then o pass events old mid new a b = record {
  before = b.before;
  continues = front_on pass old mid b.before (subst (λ es. IsFront pass old es) (sym (a.front ∙ append-nil a.before)) a.continues) b.continues;
  front = b.front;
  by = b.by;
  own_events = b.own_events ∙ ap (λ es. es ++ events) (a.own_events ∙ append-nil (own pass_of pass old));
  legal = b.legal;
}

-- after a call that enters nothing the claim stands, and the run is honest
module _ (o : Opened) (old new : Known Event) (claimed : Claimed) (f : Finished) (number : new.number ≡ old.number) (a : Entered o old.number [] old.front new.front) (claim : IsClaimOf o old claimed) where
  goes : IsFront old.number old.front new.front
  goes = subst (λ es. IsFront old.number old.front es) (sym (a.front ∙ append-nil a.before)) a.continues

  pub claim_on : IsClaimOf o new claimed
  claim_on = record {
    pass = claim.pass ∙ sym number;
    legal = a.legal;
    stands = claims_stand o old.front new.front claimed.run (record { pass = claimed.pass; job = claimed.job; at = claimed.at }) (subst (λ n. IsFront n old.front new.front) (sym claim.pass) goes) a.legal claim.stands;
  }

  pub honest_still : IsHonestAt o old.front claimed f → IsHonestAt o new.front claimed f
  honest_still honest = subst (λ es. IsHonestAt o es claimed f) (sym goes.all) (honest_on o.rules (opening_of o) old.front goes.later claimed.job claimed.run claimed.at f.reads.items (report f) honest)

-- where a read is stale, there was a commit since the claim
pub retry : (o : Opened) (front : List Event) (claimed : Claimed) (f : Finished) (stale : Stale) → AreLawful o.rules → IsHonestAt o front claimed f → IsFirstStale o.rules (opening_of o) front f.reads.items stale → IsRetry o front claimed f stale
retry o front claimed f stale lawful honest first = record { first = first; since = stale_tells o.rules (opening_of o) front claimed.run f.reads.items stale lawful honest.honest first }

-- the cause of a look that was refused
pub look_cause : (o : Opened) (front : List Event) (claimed : Claimed) (f : Finished) (room : ℕ) (refused : PrepareRefused) (w : Why) → AreLawful o.rules → IsHonestAt o front claimed f → FindsNext o front claimed f room (Err refused) → IsWhyOfLook refused w → IsCauseAt o front claimed f w
look_cause o front claimed f room (prepare_refused.Retry c) w lawful honest finds is = subst (IsCauseAt o front claimed f) (sym is) (retry o front claimed f (stale_of c) lawful honest finds)
look_cause o front claimed f room prepare_refused.NoMemory w lawful honest finds is = subst (IsCauseAt o front claimed f) (sym is) tt

-- the cause of an append that was refused
pub append_cause : (o : Opened) (front : List Event) (claimed : Claimed) (f : Finished) (refused : JournalRefused) (w : Why) → IsAppendFault refused → IsWhyOfAppend refused w → ((n : ℕ) → refused ≡ journal_refused.Full n → 2 ^ 40 < n) → IsCauseAt o front claimed f w
append_cause o front claimed f journal_refused.DiskFault w may is long = subst (IsCauseAt o front claimed f) (sym is) tt
append_cause o front claimed f (journal_refused.Full n) w may is long = subst (IsCauseAt o front claimed f) (sym is) (long n refl)
append_cause o front claimed f (journal_refused.NotAStore at) w may is long = absurd may
append_cause o front claimed f (journal_refused.Damaged at) w may is long = absurd may
append_cause o front claimed f journal_refused.NoMemory w may is long = absurd may

-- an append is refused for its own causes alone
pub append_fault : (old new : Stored) (p : Prepared) (refused : JournalRefused) → Appends old new p (Err refused) → IsAppendFault refused
append_fault old new p journal_refused.DiskFault h = tt
append_fault old new p (journal_refused.Full n) h = tt
append_fault old new p (journal_refused.NotAStore at) h = absurd h
append_fault old new p (journal_refused.Damaged at) h = absurd h
append_fault old new p journal_refused.NoMemory h = absurd h
