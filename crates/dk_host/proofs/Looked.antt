-- What the store's look for a commit tells.
use Rattle.std.proofs.Common.{◌≡◌, ℕ, Bool, List, [], ◌++◌, Option, None, Result, Ok, Err, IfOk, refl, sym, ap, subst, ◌∙◌}
use Rattle.std.proofs.lemmas.List.{append-nil}
use Rattle.dk_types.specs.declared.event.Event.{Event}
use Rattle.dk_types.specs.declared.durable.Entry.{Entry}
use Rattle.dk_disk.specs.DiskHistories.{DiskHistory}
use Rattle.dk_disk.specs.Opening.{Opening}
use Rattle.dk_model.specs.Legal.{Opened, opening_of, IsLegal, commits_of, pass_of}
use Rattle.dk_model.specs.Retries.{IsFirstStale}
use Rattle.dk_journal.specs.declared.journal.Journal.{Journal}
use Rattle.dk_txn.specs.declared.finished.Finished.{Finished}
use Rattle.dk_core.specs.declared.claimed.Claimed.{Claimed}
use Rattle.dk_core.specs.declared.prepared.Prepared.{Prepared}
use Rattle.dk_core.specs.declared.answers.PrepareRefused.{PrepareRefused}
use Rattle.dk_core.specs.declared.answers.PrepareRefused.TheVariants as prepare_refused
use Rattle.dk_core.specs.Changes.{stale_of}
use Rattle.dk_core.specs.Rooms.{places_of}
use Rattle.dk_turn.specs.Fronts.{Known, Begins, Called}
use Rattle.dk_host.specs.Calls.{Entered, IsClaimOf, Stands}
use Rattle.dk_host.specs.Commits.{Finds, IsPreparedAt}
use Rattle.dk_host.specs.Steps.{PreparesBy, TellsStep, places_for}
use Rattle.dk_host.specs.Stores.{IsStored, LooksNext}
use Rattle.dk_host.proofs.Calling.{entered_by, may_end}
use Rattle.dk_host.proofs.Nexts.{next_commit}
use Rattle.dk_host.proofs.Storing.{store_on}

module _ (o : Opened) (began : DiskHistory) (tells : Bool) (past : DiskHistory) (opening : Opening) (game : List ℕ) (journal : Journal) (base : Option ℕ) (front : List Event) (commits places : ℕ) (faults : Option ℕ) (s : IsStored o began tells past opening game journal base front commits places None faults)
    (claimed : Claimed) (f : Finished) (p : Known Event) (new : List Event) (lent : ℕ) (whole : lent ≡ commits) (commits_after room parts others : ℕ) (r : Result Prepared PrepareRefused)
    (c : Called pass_of p.number (λ before added. Begins front before × ((parts ≡ 1) × (others ≡ 1) × (commits_after ≡ lent) × PreparesBy o claimed f lent room before r added)) p.front new) where
  abbrev by : PreparesBy o claimed f lent room c.before r c.added
  by = c.given.1.3

  before_is : new ≡ c.before
  before_is = c.front ∙ ap (λ es. c.before ++ es) by.adds.same ∙ append-nil c.before

  goes : new ≡ front ++ c.given.0.0
  goes = before_is ∙ sym c.given.0.1

  legal : IsLegal o new
  legal = subst (IsLegal o) (sym c.front) by.adds.legal

  pub looked_stored : IsStored o began tells past opening game journal base new commits_after room None faults
  looked_stored =
      let on = store_on o began tells past opening game journal base front c.given.0.0 commits places faults s (ap commits_of (c.given.0.1) ∙ by.counted ∙ whole) (subst (IsLegal o) goes legal) room in
      subst (λ n. IsStored o began tells past opening game journal base new n room None faults) (sym (c.given.1.2 ∙ whole)) (subst (λ es. IsStored o began tells past opening game journal base es commits room None faults) (sym goes) on)

  pub looked_entered : Entered o p.number [] p.front new
  looked_entered = entered_by o p.number [] p.front new c by.adds

  module _ (claim : IsClaimOf o p claimed) where
    stands : Stands o new claimed
    stands = subst (λ es. Stands o es claimed) (sym before_is) ((may_end o p claimed c.before claim c.continues).1 (subst (IsLegal o) before_is legal))

    found : (q : Result Prepared PrepareRefused) → r ≡ q → LooksNext o new claimed f room q
    found (Ok q) is =
        let finds : IsPreparedAt o c.before claimed f q = subst (Finds o c.before claimed f) is by.finds in
        let tells_it : TellsStep o c.before claimed f = tells_of is in
        let prepared = subst (λ es. IsPreparedAt o es claimed f q) (sym before_is) finds in (
          next_commit o new claimed f q s.lawful legal stands (subst (λ es. TellsStep o es claimed f) (sym before_is) tells_it) prepared,
          by.kept ∙ ap places_for is ∙ ap (λ (e : Entry). places_of e.effects) prepared.entry,
        )
      where
        tells_of : r ≡ Ok q → TellsStep o c.before claimed f
        tells_of is = subst (λ x. IfOk x (λ _. TellsStep o c.before claimed f)) is by.tells
    found (Err (prepare_refused.Retry changed)) is = subst (λ es. IsFirstStale o.rules (opening_of o) es f.reads.items (stale_of changed)) (sym before_is) (subst (Finds o c.before claimed f) is by.finds)
    found (Err prepare_refused.NoMemory) is = tt

    pub looked_next : LooksNext o new claimed f room r
    looked_next = found r refl
