-- What is read back of a host's commits.
use Rattle.std.specs.Prelude.{◌≡◌, ℕ, ◌+◌, min, List, Result, Ok, Err, None, Some}
use Rattle.dk_types.specs.Faults.{HasRisen}
use Rattle.dk_types.specs.declared.durable.Entry.{Entry}
use Rattle.dk_types.specs.declared.event.Event.{Event}
use Rattle.dk_model.specs.DurableWorlds.{DurableWorld}
use Rattle.dk_model.specs.Legal.{Opened, world_after}
use Rattle.dk_model.specs.Recovered.{Follow}
use Rattle.dk_commit_log.specs.Ranges.{between}
use Rattle.dk_commit_log.specs.declared.refused.LogRefused.{LogRefused}
use Rattle.dk_commit_log.specs.declared.refused.LogRefused.TheVariants as log
use Rattle.dk_host.specs.Logs.{AreOfCommits}
use Rattle.dk_host.specs.Stores.{Stored}
use Rattle.dk_host.specs.declared.refused.TailRefused.{TailRefused}
use Rattle.dk_host.specs.declared.refused.TailRefused.TheVariants as tail

-- the number of the last entry that is wanted: so many behind this one, but none that is not there
abbrev pub last_wanted : Opened → List Event → ℕ → ℕ → ℕ
last_wanted o front after most = min (world_after o front).durable.commits (after + most)

-- THE LOG: entries lead from some world to the durable world at this front, and each that is numbered behind the opened world's commits is of a commit of the front
pub record IsLog (o : Opened) (front : List Event) (first : DurableWorld) (all : List Entry) : Type 0 where
  pub follow : Follow first all (world_after o front).durable
  pub of_commits : AreOfCommits o front all

-- these are the entries of the log whose numbers are behind one and up to another
pub record IsLogPart (o : Opened) (front : List Event) (after last : ℕ) (entries : List Entry) : Type 0 where
  pub first : DurableWorld
  pub all : List Entry
  pub log : IsLog o front first all
  pub part : entries ≡ between after last all

-- the log begins with the entry of this number
pub record BeginsAt (o : Opened) (front : List Event) (n : ℕ) : Type 0 where
  pub first : DurableWorld
  pub all : List Entry
  pub log : IsLog o front first all
  pub number : n ≡ first.commits + 1

-- what a refusal leaves of the store: nothing is written, and a fault of the disk does not stop it
abbrev pub IsLeftReading : TailRefused → Stored → Stored → Type 0
IsLeftReading (tail.Stopped faults) old new = (old.faults ≡ Some faults) × (new ≡ old)
IsLeftReading (tail.Older first) old new = (old.faults ≡ None) × (new.faults ≡ None) × (new.counted ≡ old.counted)
IsLeftReading tail.DiskFault old new = (old.faults ≡ None) × (new.faults ≡ None) × HasRisen old.counted new.counted
IsLeftReading tail.NoMemory old new = (old.faults ≡ None) × (new.faults ≡ None) × (new.counted ≡ old.counted)
IsLeftReading (tail.Damaged at) old new = (old.faults ≡ None) × (new.faults ≡ None) × (new.counted ≡ old.counted)

-- what reading leaves of the store
abbrev pub LeavesRead : {A : Type 0} → Stored → Stored → Result A TailRefused → Type 0
LeavesRead old new (Ok entries) = (old.faults ≡ None) × (new.faults ≡ None) × (new.counted ≡ old.counted)
LeavesRead old new (Err refused) = IsLeftReading refused old new

-- why a log is not read, to who asked its host
abbrev pub refusal_of : LogRefused → TailRefused
refusal_of log.DiskFault = tail.DiskFault
refusal_of log.NoMemory = tail.NoMemory
refusal_of (log.Damaged at) = tail.Damaged at
