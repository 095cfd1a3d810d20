-- What a publish of the store tells.
use Rattle.std.proofs.Common.{◌≡◌, ℕ, ◌+◌, Bool, List, [], ◌∷◌, ◌++◌, Option, Some, None, sym, ap, subst, ◌∙◌, arith}
use Rattle.dk_types.specs.declared.event.Event.{Event}
use Rattle.dk_types.specs.declared.event.Event.TheVariants as event
use Rattle.dk_disk.specs.DiskHistories.{DiskHistory}
use Rattle.dk_disk.specs.Opening.{Opening}
use Rattle.dk_model.specs.Legal.{Opened, world_after, IsLegal, commits_of, pass_of}
use Rattle.dk_laws.proofs.Between.{commits_of-append}
use Rattle.dk_laws.proofs.LaterOn.{fronts_legal}
use Rattle.dk_journal.specs.declared.journal.Journal.{Journal}
use Rattle.dk_txn.specs.declared.finished.Finished.{Finished}
use Rattle.dk_core.specs.declared.claimed.Claimed.{Claimed}
use Rattle.dk_core.specs.declared.prepared.Prepared.{Prepared}
use Rattle.dk_core.specs.Rooms.{places_of}
use Rattle.dk_turn.specs.Fronts.{Known, Begins, Continues, Called}
use Rattle.dk_host.specs.Calls.{Entered, IsClaimOf, IsHonestAt, Stands}
use Rattle.dk_host.specs.Commits.{IsPreparedAt}
use Rattle.dk_host.specs.Steps.{MayPublish, PublishesBy}
use Rattle.dk_host.specs.Stores.{Stored, IsStored, IsNextCommit, WaitsOf}
use Rattle.dk_model.proofs.Maps.{some_is}
use Rattle.dk_host.proofs.Calling.{entered_by, may_end, honest_later}
use Rattle.dk_host.proofs.Nexts.{prepared_on}
use Rattle.dk_host.proofs.Storing.{store_published}

module _ (o : Opened) (began : DiskHistory) (tells : Bool) (past : DiskHistory) (opening : Opening) (game : List ℕ) (journal : Journal) (base : Option ℕ) (front : List Event) (commits places : ℕ) (faults : Option ℕ) (claimed : Claimed) (f : Finished) (p : Prepared)
    (s : IsStored o began tells past opening game journal base front commits places (Some p) faults) (next : IsNextCommit o front claimed f p) (q : Known Event) (claim : IsClaimOf o q claimed) where
  -- wherever the history goes on from both fronts, the run may be published
  pub may_publish : IsHonestAt o q.front claimed f → (log : List Event) → Continues pass_of q.number q.front log → Begins front log → (amount room : ℕ) → amount ≡ commits → room ≡ places_of f.effects
      → MayPublish o q.number log claimed f p amount room
  may_publish honest log goes other amount room same kept = record {
    ends = may_end o q claimed log claim goes;
    honest = honest_later o q claimed f log honest goes;
    prepared = λ is.
        let both = commits_of-append front other.0 in
        let none : commits_of other.0 ≡ 0 = (let long = ap commits_of other.1 in omega (arith, both, long, is, same, s.counted)) in
        subst (λ es. IsPreparedAt o es claimed f p) other.1 (prepared_on o front other.0 claimed f p s.lawful none next.prepared);
    kept = kept;
  }

  module _ (new : List Event) (lent : ℕ) (is_whole : lent ≡ commits) (commits_after room parts others seq : ℕ)
      (c : Called pass_of q.number (λ before added. Begins front before × ((parts ≡ 1) × (others ≡ 1) × (room ≡ 0) × (commits_after ≡ lent + 1) × PublishesBy o q.number claimed f lent before seq added)) q.front new) where
    abbrev by : PublishesBy o q.number claimed f lent c.before seq c.added
    by = c.given.1.4

    abbrev e : Event
    e = event.Commit q.number claimed.run seq f.outcome

    whole : front ++ c.given.0.0 ≡ c.before
    whole = c.given.0.1

    legal : IsLegal o (c.before ++ e ∷ [])
    legal = subst (λ es. IsLegal o (c.before ++ es)) by.adds.same by.adds.legal

    stands : Stands o c.before claimed
    stands = (may_end o q claimed c.before claim c.continues).1 (fronts_legal o c.before (e ∷ []) legal)

    pub published_stored : IsStored o began tells past opening game journal base new commits_after room None faults
    published_stored =
        let on = store_published o began tells past opening game journal base front c.given.0.0 commits places faults claimed f p s next (ap commits_of whole ∙ by.counted ∙ is_whole) q.number seq claim.pass
        (by.number ∙ ap (λ es. (world_after o es).durable.commits + 1) (sym whole)) (subst (λ es. IsLegal o (es ++ e ∷ [])) (sym whole) legal) (subst (λ es. Stands o es claimed) (sym whole) stands) room in
        let is : new ≡ (front ++ c.given.0.0) ++ e ∷ [] = c.front ∙ ap (λ es. c.before ++ es) by.adds.same ∙ ap (λ es. es ++ e ∷ []) (sym whole) in
        subst (λ n. IsStored o began tells past opening game journal base new n room None faults) (sym (c.given.1.3 ∙ ap (λ n. n + 1) is_whole)) (subst (λ es. IsStored o began tells past opening game journal base es (commits + 1) room None faults) (sym is) on)

    pub published_entered : Entered o q.number (e ∷ []) q.front new
    published_entered = entered_by o q.number (e ∷ []) q.front new c by.adds

-- the record that waits is that of the run
pub waits_next : (o : Opened) (v : Stored) (claimed : Claimed) (f : Finished) (w : WaitsOf o v claimed f) (q : Prepared) (front : List Event) → v.waiting ≡ Some q → v.watcher.front ≡ front → IsNextCommit o front claimed f q
waits_next o v claimed f w q front some same =
    let one : w.0 ≡ q = some_is w.0 q (sym w.1.0 ∙ some) in
    subst (λ (p : Prepared). IsNextCommit o front claimed f p) one (subst (λ es. IsNextCommit o es claimed f w.0) same w.1.1.0)
