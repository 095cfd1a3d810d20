-- What the step of a worker does to a core.
use Rattle.std.specs.Prelude.{◌≡◌, ◌⊎◌, ℕ, Option, List, [], ◌∷◌, Result, Ok, Err}
use Rattle.std.specs.List.{AllByRecursion}
use Rattle.dk_types.specs.declared.number.RunNo.{RunNo}
use Rattle.dk_types.specs.declared.item.Item.{Item}
use Rattle.dk_types.specs.declared.item.Read.{Read}
use Rattle.dk_types.specs.declared.job.Job.{Job}
use Rattle.dk_types.specs.declared.event.Event.{Event}
use Rattle.dk_types.specs.declared.event.Event.TheVariants as event
use Rattle.dk_types.specs.declared.event.ClaimReply.TheVariants as reply
use Rattle.dk_types.specs.declared.fault.NoMemory.{NoMemory}
use Rattle.dk_model.specs.DurableWorlds.{DurableWorld}
use Rattle.dk_model.specs.Events.{Meaning}
use Rattle.dk_txn.specs.declared.finished.Finished.{Finished}
use Rattle.dk_core.specs.StampedWorlds.{Stamped, read_now}
use Rattle.dk_core.specs.declared.world.Core.{Core}
use Rattle.dk_core.specs.declared.claimed.Claimed.{Claimed}
use Rattle.dk_core.specs.Answers.{Commits}
use Rattle.dk_core.specs.Cores.{Represents, Adds, AddsBy}
use Rattle.dk_workers.specs.declared.working.Ran.{Ran}
use Rattle.dk_workers.specs.declared.working.Step.{Step}
use Rattle.dk_workers.specs.declared.working.Step.TheVariants as step

-- the core stands for some history of these rules
pub record RepresentsSome (rules : Meaning) (c : Core) : Type 0 where
  pub opened : DurableWorld
  pub budget : Option ℕ
  pub events : List Event
  pub stands : Represents rules opened budget events c

-- each read is what the world answers, and what is seen of it
abbrev pub AreReadsNow : Stamped → List (Item × Read) → Type 0
AreReadsNow w reads = AllByRecursion (λ r. r.1 ≡ read_now w r.0) reads

-- the run is committed, or its claim is given back
abbrev pub CommitsOrGivesBack : Core → Core → Claimed → Finished → Result ℕ NoMemory → Type 0
CommitsOrGivesBack old new claimed f (Ok seq) = Commits old new claimed f seq
CommitsOrGivesBack old new claimed f (Err refused) = Adds old new (event.Release claimed.pass claimed.run ∷ [])

-- the commit of a run
abbrev pub commit_of : ℕ → Ran → Event
commit_of pass ran = event.Commit pass ran.run ran.seq ran.outcome

-- its claim
abbrev pub claim_of : ℕ → Ran → Event
claim_of pass ran = event.Claim pass (reply.Granted ran.run ran.at ran.job)

-- the claimed run is committed, or its claim is given back
abbrev pub EndsRun : Meaning → Core → Core → Claimed → Result Ran NoMemory → Type 0
EndsRun rules old new claimed (Ok ran) = (claim_of claimed.pass ran ≡ event.Claim claimed.pass (reply.Granted claimed.run claimed.at claimed.job)) × AddsBy rules old new (commit_of claimed.pass ran ∷ [])
EndsRun rules old new claimed (Err refused) = AddsBy rules old new (event.Release claimed.pass claimed.run ∷ [])

-- the events of one claim: that of a run is followed at once by its commit
abbrev pub events_of : ℕ → Step → List Event
events_of pass (step.Ran ran) = claim_of pass ran ∷ commit_of pass ran ∷ []
events_of pass step.Idle = event.Claim pass reply.Nothing ∷ []
events_of pass (step.Spent granted) = event.Claim pass (reply.Spent granted) ∷ []
events_of pass (step.Exhausted next) = event.Claim pass (reply.Exhausted next) ∷ []

-- a job was claimed and given back
pub record IsGivenBack (rules : Meaning) (old new : Core) (pass : ℕ) : Type 0 where
  pub run : RunNo
  pub at : ℕ
  pub job : Job
  pub goes : AddsBy rules old new (event.Claim pass (reply.Granted run at job) ∷ event.Release pass run ∷ [])

-- what one claim came to; after want of memory nothing happened, or a job was claimed and given back
abbrev pub Works : Meaning → Core → Core → ℕ → Result Step NoMemory → Type 0
Works rules old new pass (Ok s) = AddsBy rules old new (events_of pass s)
Works rules old new pass (Err refused) = (new ≡ old) ⊎ IsGivenBack rules old new pass
