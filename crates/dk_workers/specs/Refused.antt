-- Why no claim was granted, and why one is given back.
use Rattle.std.specs.Prelude.{List, Option, Some, None}
use mathlib.Core.List.{IsPrefix}
use Rattle.dk_types.specs.declared.event.Event.{Event}
use Rattle.dk_model.specs.Legal.{Opened}
use Rattle.dk_txn.specs.declared.finished.Finished.{Finished}
use Rattle.dk_core.specs.declared.claimed.Claimed.{Claimed}
use Rattle.dk_core.specs.declared.answers.ClaimRefused.{ClaimRefused}
use Rattle.dk_core.specs.declared.answers.ClaimRefused.TheVariants as claim_refused
use Rattle.dk_host.specs.Calls.{IsHonestAt}
use Rattle.dk_host.specs.Refusals.{IsCauseAt}
use Rattle.dk_host.specs.declared.refused.Why.{Why}
use Rattle.dk_host.specs.declared.refused.Why.TheVariants as why
use Rattle.dk_workers.specs.declared.worked.Worked.{Worked}
use Rattle.dk_workers.specs.declared.worked.Worked.TheVariants as worked

-- at a front that the pass has seen, the commit of a run of this claim was refused for this cause; the run is honest there
pub record WasRefused (o : Opened) (claimed : Claimed) (cause : Why) (front : List Event) : Type 0 where
  pub finished : Finished
  pub seen : List Event
  pub begins : IsPrefix seen front
  pub honest : IsHonestAt o seen claimed finished
  pub holds : IsCauseAt o seen claimed finished cause

-- what stands behind an answer for which a claim is given back; want of memory may come in the run too
abbrev pub HasCause : Opened → Claimed → Worked → List Event → Type 0
HasCause o claimed worked.DiskFault front = WasRefused o claimed why.DiskFault front
HasCause o claimed (worked.Stopped faults) front = WasRefused o claimed (why.Stopped faults) front
HasCause o claimed (worked.JournalFull length) front = WasRefused o claimed (why.JournalFull length) front
HasCause o claimed worked.NoMemory front = Unit {0}
HasCause o claimed worked.Idle front = ⊥
HasCause o claimed (worked.Spent granted) front = ⊥
HasCause o claimed (worked.Exhausted next) front = ⊥

-- the answer of a worker whose commit was refused for this cause; after a Retry the job is run again
abbrev pub end_by : Why → Option Worked
end_by (why.Retry item found now) = None
end_by (why.Stopped faults) = Some (worked.Stopped faults)
end_by (why.JournalFull length) = Some (worked.JournalFull length)
end_by why.DiskFault = Some worked.DiskFault
end_by why.NoMemory = Some worked.NoMemory

-- the answer of a worker to which no claim was granted
abbrev pub unclaimed_by : ClaimRefused → Worked
unclaimed_by (claim_refused.Spent granted) = worked.Spent granted
unclaimed_by (claim_refused.Exhausted next) = worked.Exhausted next
unclaimed_by claim_refused.NoMemory = worked.NoMemory
