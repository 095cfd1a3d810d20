-- What workers do to the world that they share.
use Rattle.std.specs.Prelude.{◌≡◌, ◌⊎◌, ℕ, ◌<◌, List, [], ◌∷◌, ◌++◌, Result, Ok, Err}
use Rattle.std.specs.List.{All, flat_map}
use Rattle.dk_types.specs.declared.event.ClaimReply.{ClaimReply}
use Rattle.dk_types.specs.declared.event.ClaimReply.TheVariants as reply
use Rattle.dk_types.specs.declared.event.Event.{Event}
use Rattle.dk_types.specs.declared.event.Event.TheVariants as event
use Rattle.dk_model.specs.Legal.{Opened, IsLegal, pass_of}
use Rattle.dk_core.specs.declared.claimed.Claimed.{Claimed}
use Rattle.dk_turn.specs.Fronts.{Known}
use Rattle.dk_host.specs.Passes.{Enters}
use Rattle.dk_workers.specs.Refused.{HasCause}
use Rattle.dk_workers.specs.Rows.{IsServed}
use Rattle.dk_workers.specs.Working.{claim_of, commit_of}
use Rattle.dk_workers.specs.declared.worked.Worked.{Worked}
use Rattle.dk_workers.specs.declared.worked.Worked.TheVariants as worked
use Rattle.dk_workers.specs.declared.working.Ran.{Ran}

-- the claims of these runs, each followed by its commit
abbrev pub committed : ℕ → List Ran → List Event
committed pass rans = flat_map (λ ran. claim_of pass ran ∷ commit_of pass ran ∷ []) rans

-- a claim was answered so, and that is the last event which the pass has seen
pub record EndsWithClaim (pass : ℕ) (answer : ClaimReply) (tail front : List Event) : Type 0 where
  pub claim : tail ≡ event.Claim pass answer ∷ []
  pub before : List Event
  pub last : front ≡ before ++ tail

-- a claim was granted, and given back for the cause that the answer names
pub record EndsWithRelease (o : Opened) (pass : ℕ) (end : Worked) (tail front : List Event) : Type 0 where
  pub claimed : Claimed
  pub events : tail ≡ event.Claim pass (reply.Granted claimed.run claimed.at claimed.job) ∷ event.Release pass claimed.run ∷ []
  pub cause : HasCause o claimed end front

-- what a worker with this answer entered last
abbrev pub EndsBy : Opened → ℕ → Worked → List Event → List Event → Type 0
EndsBy o pass worked.Idle tail front = EndsWithClaim pass reply.Nothing tail front
EndsBy o pass (worked.Spent granted) tail front = EndsWithClaim pass (reply.Spent granted) tail front
EndsBy o pass (worked.Exhausted next) tail front = EndsWithClaim pass (reply.Exhausted next) tail front
EndsBy o pass worked.DiskFault tail front = EndsWithRelease o pass worked.DiskFault tail front
EndsBy o pass (worked.Stopped faults) tail front = EndsWithRelease o pass (worked.Stopped faults) tail front
EndsBy o pass (worked.JournalFull length) tail front = EndsWithRelease o pass (worked.JournalFull length) tail front
EndsBy o pass worked.NoMemory tail front = (tail ≡ []) ⊎ EndsWithRelease o pass worked.NoMemory tail front

-- What a worker did in one call. Its pass entered the claims of these runs, each followed by its commit, and then what its answer says, and nothing else. What the pass has seen is legal, and names passes that were given
pub record Works (o : Opened) (count : ℕ) (end : Worked) (old new : Known Event) : Type 0 where
  pub number : new.number ≡ old.number
  pub rans : List Ran
  pub tail : List Event
  pub enters : Enters o count old.number (committed old.number rans ++ tail) old.front new.front
  pub ends : EndsBy o old.number end tail new.front
  pub legal : IsLegal o new.front
  pub named : All (λ e. pass_of e < count) new.front

-- the same before its end
pub record HasWorked (o : Opened) (count : ℕ) (old new : Known Event) : Type 0 where
  pub number : new.number ≡ old.number
  pub rans : List Ran
  pub enters : Enters o count old.number (committed old.number rans) old.front new.front

-- one more run was committed, or the worker came to its end
abbrev pub WorksNext : Opened → ℕ → Result (Unit {0}) Worked → Known Event → Known Event → Type 0
WorksNext o count (Ok done) old new = HasWorked o count old new
WorksNext o count (Err end) old new = Works o count end old new

-- each pass had one worker, and the answer is the first of theirs, in the order of the passes, that is not Idle, or Idle
abbrev pub WorkAll : Opened → ℕ → Worked → List (Known Event) → List (Known Event) → Type 0
WorkAll o count end olds news = IsServed (λ old one new. Works o count one old new) end olds news
