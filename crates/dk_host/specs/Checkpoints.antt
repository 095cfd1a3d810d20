-- What a checkpoint of a host is answered, and what it leaves of its store.
use Rattle.std.specs.Prelude.{◌≡◌, ℕ, ◌+◌, ◌<◌, ◌≤◌, ◌^◌, List, length, Option, None, Some, Result, Ok, Err}
use Rattle.dk_types.specs.Faults.{HasRisen}
use Rattle.dk_types.specs.declared.event.Event.{Event}
use Rattle.dk_types.specs.declared.limits.TheConstants.{NUMBERS_END}
use Rattle.dk_types.specs.declared.side.Side.{Side}
use Rattle.dk_model.specs.Images.{image_spelling, world_lists}
use Rattle.dk_model.specs.Legal.{Opened, world_after}
use Rattle.dk_journal.specs.declared.journal.Journal.{Journal}
use Rattle.dk_checkpoint.specs.declared.refused.CheckpointRefused.{CheckpointRefused as NotWritten}
use Rattle.dk_checkpoint.specs.declared.refused.CheckpointRefused.TheVariants as not_written
use Rattle.dk_host.specs.declared.refused.CheckpointRefused.{CheckpointRefused}
use Rattle.dk_host.specs.declared.refused.CheckpointRefused.TheVariants as refused
use Rattle.dk_host.specs.Stores.{Stored}

-- the image of the durable world after these events
abbrev pub image_after : Opened → List Event → List ℕ
image_after o events = image_spelling (world_lists (world_after o events).durable)

-- WHAT IT IS ANSWERED, at this front and in this epoch: the image's length is looked at first, and then the epoch
abbrev pub AnswersAt : Opened → List Event → ℕ → Result (Unit {0}) CheckpointRefused → Type 0
AnswersAt o front epoch (Ok done) = (length (image_after o front) < 2 ^ 32) × (epoch + 1 < NUMBERS_END)
AnswersAt o front epoch (Err (refused.Stopped faults)) = Unit {0}
AnswersAt o front epoch (Err refused.DiskFault) = (length (image_after o front) < 2 ^ 32) × (epoch + 1 < NUMBERS_END)
AnswersAt o front epoch (Err (refused.TooLarge n)) = (n ≡ length (image_after o front)) × (2 ^ 32 ≤ n)
AnswersAt o front epoch (Err (refused.EpochEnd n)) = (n ≡ epoch) × (NUMBERS_END ≤ n + 1) × (length (image_after o front) < 2 ^ 32)
AnswersAt o front epoch (Err refused.NoMemory) = Unit {0}

-- the store goes on as it was, on the same journal
pub record GoesOn (old new : Stored) : Type 0 where
  pub ran : old.faults ≡ None
  pub runs : new.faults ≡ None
  pub counted : new.counted ≡ old.counted
  pub epoch : new.epoch ≡ old.epoch
  pub journal_length : new.journal_length ≡ old.journal_length

-- WHAT IT LEAVES of the store: at `Ok` the next epoch; it is stopped by a fault of the disk alone, with the home's count; every other refusal leaves it in its epoch
abbrev pub Rewrites : Stored → Stored → Result (Unit {0}) CheckpointRefused → Type 0
Rewrites old new (Ok done) = (old.faults ≡ None) × (new.faults ≡ None) × (new.epoch ≡ old.epoch + 1) × (new.counted ≡ old.counted)
Rewrites old new (Err (refused.Stopped faults)) = (old.faults ≡ Some faults) × (new ≡ old)
Rewrites old new (Err refused.DiskFault) = (old.faults ≡ None) × (new.faults ≡ Some new.counted) × HasRisen old.counted new.counted × (new.epoch ≡ old.epoch)
Rewrites old new (Err (refused.TooLarge n)) = GoesOn old new
Rewrites old new (Err (refused.EpochEnd n)) = GoesOn old new
Rewrites old new (Err refused.NoMemory) = GoesOn old new

-- why a store that was not written anew is refused to who asked its host
abbrev pub refusal_of : NotWritten → CheckpointRefused
refusal_of not_written.DiskFault = refused.DiskFault
refusal_of (not_written.TooLarge n) = refused.TooLarge n
refusal_of (not_written.EpochEnd n) = refused.EpochEnd n
refusal_of not_written.NoMemory = refused.NoMemory

-- the home's count of faults, where a checkpoint stopped the store
abbrev pub faults_after : Result (Journal × Side) NotWritten → ℕ → Option ℕ
faults_after (Ok made) n = None
faults_after (Err not_written.DiskFault) n = Some n
faults_after (Err (not_written.TooLarge m)) n = None
faults_after (Err (not_written.EpochEnd m)) n = None
faults_after (Err not_written.NoMemory) n = None
