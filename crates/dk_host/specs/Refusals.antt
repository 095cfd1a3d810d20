-- Why a commit is refused, and what stands then.
use Rattle.std.specs.Prelude.{◌≡◌, ℕ, ◌<◌, ◌^◌, List, [], ◌∷◌, None, Some, Result, Ok, Err}
use Rattle.dk_types.specs.Faults.{HasRisen}
use Rattle.dk_types.specs.declared.event.Event.{Event}
use Rattle.dk_types.specs.declared.event.Event.TheVariants as event
use Rattle.dk_model.specs.Legal.{Opened, opening_of}
use Rattle.dk_model.specs.Retries.{Stale, IsFirstStale}
use Rattle.dk_laws.specs.FrontsLaw.{HasCommitSince}
use Rattle.dk_journal.specs.declared.refused.JournalRefused.{JournalRefused}
use Rattle.dk_journal.specs.declared.refused.JournalRefused.TheVariants as journal_refused
use Rattle.dk_txn.specs.declared.finished.Finished.{Finished}
use Rattle.dk_core.specs.declared.claimed.Claimed.{Claimed}
use Rattle.dk_core.specs.declared.answers.PrepareRefused.{PrepareRefused}
use Rattle.dk_core.specs.declared.answers.PrepareRefused.TheVariants as prepare_refused
use Rattle.dk_host.specs.declared.refused.CommitRefused.{CommitRefused}
use Rattle.dk_host.specs.declared.refused.Why.{Why}
use Rattle.dk_host.specs.declared.refused.Why.TheVariants as why
use Rattle.dk_host.specs.Stores.{Stored}

-- the event of a commit that was answered; one that was refused enters none
abbrev pub commit_events : ℕ → Claimed → Finished → Result ℕ CommitRefused → List Event
commit_events pass claimed f (Ok seq) = event.Commit pass claimed.run seq f.outcome ∷ []
commit_events pass claimed f (Err refused) = []

-- the first stale read at this front, where there was a commit since the claim
pub record IsRetry (o : Opened) (front : List Event) (claimed : Claimed) (f : Finished) (stale : Stale) : Type 0 where
  pub first : IsFirstStale o.rules (opening_of o) front f.reads.items stale
  pub since : HasCommitSince claimed.run front

-- what a cause says of the front
abbrev pub IsCauseAt : Opened → List Event → Claimed → Finished → Why → Type 0
IsCauseAt o front claimed f (why.Stopped faults) = Unit {0}
IsCauseAt o front claimed f (why.Retry item found now) = IsRetry o front claimed f (record { item = item; found = found; now = now })
IsCauseAt o front claimed f (why.JournalFull length) = 2 ^ 40 < length
IsCauseAt o front claimed f why.DiskFault = Unit {0}
IsCauseAt o front claimed f why.NoMemory = Unit {0}

-- where a commit is refused the claim comes back, and the cause holds at this front
abbrev pub IsBackAt : Opened → List Event → Claimed → Finished → Result ℕ CommitRefused → Type 0
IsBackAt o front claimed f (Ok seq) = Unit {0}
IsBackAt o front claimed f (Err refused) = (refused.claimed ≡ claimed) × IsCauseAt o front claimed f refused.why

-- what a refusal leaves of the store: it is stopped by a fault of the disk alone, with the home's count, and says so from then on. Every other refusal leaves that count
abbrev pub IsLeftBy : Why → Stored → Stored → Type 0
IsLeftBy (why.Stopped faults) old new = (old.faults ≡ Some faults) × (new ≡ old)
IsLeftBy (why.Retry item found now) old new = (old.faults ≡ None) × (new.faults ≡ None) × (new.counted ≡ old.counted)
IsLeftBy (why.JournalFull length) old new = (old.faults ≡ None) × (new.faults ≡ None) × (new.counted ≡ old.counted)
IsLeftBy why.DiskFault old new = (old.faults ≡ None) × (new.faults ≡ Some new.counted) × HasRisen old.counted new.counted
IsLeftBy why.NoMemory old new = (old.faults ≡ None) × (new.faults ≡ None) × (new.counted ≡ old.counted)

-- what a commit leaves of the store: at Ok it goes on
abbrev pub Leaves : Stored → Stored → Result ℕ CommitRefused → Type 0
Leaves old new (Ok seq) = (old.faults ≡ None) × (new.faults ≡ None) × (new.counted ≡ old.counted)
Leaves old new (Err refused) = IsLeftBy refused.why old new

-- a store whose lock is free has no record that waits, unless it is stopped
abbrev pub IsFree : Stored → Type 0
IsFree s = s.faults ≡ None → s.waiting ≡ None

-- the cause of a look that was refused, and of an append
abbrev pub IsWhyOfLook : PrepareRefused → Why → Type 0
IsWhyOfLook (prepare_refused.Retry c) w = w ≡ why.Retry c.item c.found c.now
IsWhyOfLook prepare_refused.NoMemory w = w ≡ why.NoMemory

-- the cause of an append that was refused
abbrev pub IsWhyOfAppend : JournalRefused → Why → Type 0
IsWhyOfAppend journal_refused.DiskFault w = w ≡ why.DiskFault
IsWhyOfAppend (journal_refused.Full length) w = w ≡ why.JournalFull length
IsWhyOfAppend (journal_refused.NotAStore at) w = Unit {0}
IsWhyOfAppend (journal_refused.Damaged at) w = Unit {0}
IsWhyOfAppend journal_refused.NoMemory w = Unit {0}
