-- What a server leaves, and why it came to an end that it was not to come to.
use Rattle.std.specs.Prelude.{◌≡◌, ◌⊎◌, ℕ, ◌+◌, ◌<◌, ◌^◌, Bool, IsTrue, List, Option, Some, None, Result, Ok, Err, IfOk, IfErr}
use Rattle.dk_types.specs.Faults.{HasRisen}
use Rattle.dk_types.specs.declared.limits.TheConstants.{NUMBERS_END}
use Rattle.dk_types.specs.declared.durable.Durable.{Durable}
use Rattle.dk_types.specs.declared.event.Event.{Event}
use Rattle.dk_disk.specs.DiskHistories.{DiskHistory}
use Rattle.dk_edge.specs.Listening.{Listening}
use Rattle.dk_edge.specs.declared.listener.Binding.TheVariants.{Bound}
use Rattle.dk_model.specs.Events.{Meaning}
use Rattle.dk_model.specs.Legal.{Opened, IsLegal}
use Rattle.dk_core.specs.Listings.{world_of}
use Rattle.dk_host.specs.Stores.{CountsOn, EndsAs}
use Rattle.dk_pump.specs.Arrivals.{AreAll}
use Rattle.dk_workers.specs.declared.worked.Worked.{Worked}
use Rattle.dk_workers.specs.declared.worked.Worked.TheVariants as worked
use Rattle.dk_workers.specs.declared.play.fault.PlayFault.{PlayFault}
use Rattle.dk_workers.specs.declared.play.fault.PlayFault.TheVariants as playing
use Rattle.darkstar.specs.declared.serve.verdict.ServeFault.{ServeFault}
use Rattle.darkstar.specs.declared.serve.verdict.ServeFault.TheVariants as fault

-- what the host of a server is opened with: no budget
abbrev pub served_on : Meaning → Durable → Opened
served_on rules durable = record { rules = rules; durable = world_of durable; budget = None }

-- the end of the journal, or of the numbers, is one
pub record IsSound (told : Option ServeFault) : Type 0 where
  pub full : (length : ℕ) → told ≡ Some (fault.JournalFull length) → 2 ^ 40 < length
  pub ended : (next : ℕ) → told ≡ Some (fault.Exhausted next) → next ≡ NUMBERS_END

-- what a worker's answer says beside
abbrev pub HasWorkCause : Worked → Type 0
HasWorkCause worked.Idle = Unit {0}
HasWorkCause (worked.Spent granted) = Unit {0}
HasWorkCause (worked.Exhausted next) = next ≡ NUMBERS_END
HasWorkCause worked.DiskFault = Unit {0}
HasWorkCause (worked.Stopped faults) = Unit {0}
HasWorkCause (worked.JournalFull length) = 2 ^ 40 < length
HasWorkCause worked.NoMemory = Unit {0}

-- what the end of the first jobs says beside
abbrev pub IsSoundDrain : Result (Unit {0}) PlayFault → Type 0
IsSoundDrain (Ok done) = Unit {0}
IsSoundDrain (Err (playing.Budget granted)) = Unit {0}
IsSoundDrain (Err (playing.Exhausted next)) = next ≡ NUMBERS_END
IsSoundDrain (Err playing.DiskFault) = Unit {0}
IsSoundDrain (Err (playing.JournalFull length)) = 2 ^ 40 < length
IsSoundDrain (Err playing.NoMemory) = Unit {0}

-- how many links are to be served, or 0 where there is no end
abbrev pub links_of : Option ℕ → ℕ
links_of None = 0
links_of (Some most) = most

-- why a server came to an end: the count of the device rose, the journal is full, or the numbers have come to their end
abbrev pub IsCauseOfFault : ℕ → ℕ → ℕ → ℕ → ℕ → ℕ → ServeFault → Type 0
IsCauseOfFault disk disk' net net' crews crews' fault.NoMemory = Unit {0}
IsCauseOfFault disk disk' net net' crews crews' fault.DiskFault = HasRisen disk disk'
IsCauseOfFault disk disk' net net' crews crews' (fault.JournalFull length) = 2 ^ 40 < length
IsCauseOfFault disk disk' net net' crews crews' fault.NetFault = HasRisen net net' ⊎ HasRisen crews crews'
IsCauseOfFault disk disk' net net' crews crews' (fault.Exhausted next) = next ≡ NUMBERS_END

-- all links that the listener gave were served, and they are as many as there were to be; or it said that no more come
pub record IsAllServed (first most served : ℕ) (now : Listening) : Type 0 where
  pub links : now.given ≡ first + served
  pub all : AreAll most served now

-- it listens at this port
abbrev pub IsBoundAt : ℕ → Listening → Type 0
IsBoundAt port now = now.binding ≡ Bound port

-- what the first fault of a server is to who asked for it: it is told as it is, one of a device where its count rose; without a fault and on a store that was not stopped all is well
abbrev pub IsOutcome : Option ServeFault → Option ℕ → ℕ → ℕ → ℕ → ℕ → ℕ → ℕ → Result (Unit {0}) ServeFault → Type 0
IsOutcome first stopped disk disk' net net' crews crews' (Ok done) = (first ≡ None) × (stopped ≡ None)
IsOutcome first stopped disk disk' net net' crews crews' (Err told) = IsCauseOfFault disk disk' net net' crews crews' told

-- A SERVER ON A STORE: its one history is legal, and what a stop leaves at each moment is a beginning of it or all of it and its tail. Where all is well the listener was bound to the port,
-- each link that it gave was served, and they are as many as there were to be, or it said that no more come; and the store was not stopped. Else there is a cause
pub record IsServedOn (o : Opened) (tells : Bool) (began past : DiskHistory) (before after net net' crews crews' port most : ℕ) (old new : Listening) (served : ℕ) (outcome : Result (Unit {0}) ServeFault) : Type 0 where
  pub history : List Event
  pub faults : Option ℕ
  pub epoch : ℕ
  pub legal : IsLegal o history
  pub ended : IsTrue tells → EndsAs o began past history faults epoch
  pub counts : CountsOn before faults after
  pub bound : IfOk outcome (λ done. IsBoundAt port new)
  pub all : IfOk outcome (λ done. IsAllServed old.given most served new)
  pub whole : IfOk outcome (λ done. faults ≡ None)
  pub cause : IfErr outcome (IsCauseOfFault before after net net' crews crews')

-- or there was no memory to open the host, and the home is as it was
pub record IsUnserved {H : Type 0} (before after : H) (served : ℕ) (outcome : Result (Unit {0}) ServeFault) : Type 0 where
  pub home : after ≡ before
  pub none : served ≡ 0
  pub want : outcome ≡ Err fault.NoMemory
