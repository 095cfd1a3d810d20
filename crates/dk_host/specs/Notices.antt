-- What the board of a host says of its store, and what a notice of it shows of a refusal.
use Rattle.std.specs.Prelude.{◌≡◌, ◌⊎◌, ℕ, ◌<◌, true, None, Some, Result, Ok, Err}
use Rattle.dk_types.specs.Faults.{COUNT_END}
use Rattle.dk_notice.specs.declared.told.Told.{Told}
use Rattle.dk_notice.specs.Notices.{BoardName, Said}
use Rattle.dk_host.specs.declared.refused.CheckpointRefused.{CheckpointRefused}
use Rattle.dk_host.specs.declared.refused.CheckpointRefused.TheVariants as checkpoint
use Rattle.dk_host.specs.declared.refused.TailRefused.{TailRefused}
use Rattle.dk_host.specs.declared.refused.TailRefused.TheVariants as tail
use Rattle.dk_host.specs.declared.refused.Why.{Why}
use Rattle.dk_host.specs.declared.refused.Why.TheVariants as why
use Rattle.dk_host.specs.declared.shown.Shown.{Shown}
use Rattle.dk_host.specs.Stores.{Stored, HasRisenSince}

-- an answer without what shows it
abbrev pub plain : {A E : Type 0} → Result A (Shown E) → Result A E
plain (Ok value) = Ok value
plain (Err shown) = Err shown.refused

-- what is told of a store: its home's count of faults, and the one at which it was stopped
abbrev pub told_of : Stored → Told
told_of s = record { counted = s.counted; stopped = s.faults }

-- a notice that was given with a refusal: it says what is told of the store now, and is that of its count where that was not told before
pub record IsNoticeOf (board : BoardName) (before : Told) (now : Stored) (notice : Said) : Type 0 where
  pub named : notice.board ≡ board
  pub told : notice.told ≡ told_of now
  pub first : before.counted < now.counted → notice.first ≡ true

-- THE FAULT WAS COUNTED IN THIS CALL: of all notices of its count this one alone is that of the count; but a count that has come to its end tells no more faults apart
abbrev pub IsOfThisCall : Said → Type 0
IsOfThisCall notice = (notice.first ≡ true) ⊎ (notice.told.counted ≡ COUNT_END)

-- THE HOST IS STOPPED, at this count: its board says so, and the home had failed since the host was opened, when its count was so much
pub record ShowsStop (board : BoardName) (begun n : ℕ) (notice : Said) : Type 0 where
  pub named : notice.board ≡ board
  pub stopped : notice.told.stopped ≡ Some n
  pub risen : HasRisenSince begun notice.told.counted

-- THE HOME FAILED since the host was opened, which was not stopped by it
pub record ShowsFault (board : BoardName) (begun : ℕ) (notice : Said) : Type 0 where
  pub named : notice.board ≡ board
  pub running : notice.told.stopped ≡ None
  pub risen : HasRisenSince begun notice.told.counted

-- the host was not stopped
pub record ShowsNone (board : BoardName) (notice : Said) : Type 0 where
  pub named : notice.board ≡ board
  pub running : notice.told.stopped ≡ None

-- what is shown with the cause of a commit that was refused
abbrev pub commit_shows : BoardName → ℕ → Why → Said → Type 0
commit_shows board begun (why.Stopped faults) notice = ShowsStop board begun faults notice
commit_shows board begun (why.Retry item found now) notice = ShowsNone board notice
commit_shows board begun (why.JournalFull length) notice = ShowsNone board notice
commit_shows board begun why.DiskFault notice = IsOfThisCall notice × ((n : ℕ) × ShowsStop board begun n notice)
commit_shows board begun why.NoMemory notice = ShowsNone board notice

-- with that of a checkpoint
abbrev pub checkpoint_shows : BoardName → ℕ → CheckpointRefused → Said → Type 0
checkpoint_shows board begun (checkpoint.Stopped faults) notice = ShowsStop board begun faults notice
checkpoint_shows board begun checkpoint.DiskFault notice = IsOfThisCall notice × ((n : ℕ) × ShowsStop board begun n notice)
checkpoint_shows board begun (checkpoint.TooLarge length) notice = ShowsNone board notice
checkpoint_shows board begun (checkpoint.EpochEnd epoch) notice = ShowsNone board notice
checkpoint_shows board begun checkpoint.NoMemory notice = ShowsNone board notice

-- and with that of entries that were not read back
abbrev pub reading_shows : BoardName → ℕ → TailRefused → Said → Type 0
reading_shows board begun (tail.Stopped faults) notice = ShowsStop board begun faults notice
reading_shows board begun (tail.Older first) notice = ShowsNone board notice
reading_shows board begun tail.DiskFault notice = IsOfThisCall notice × ShowsFault board begun notice
reading_shows board begun tail.NoMemory notice = ShowsNone board notice
reading_shows board begun (tail.Damaged at) notice = ShowsNone board notice
