-- How the tries of a claimed job end.
use Rattle.std.specs.Prelude.{◌≡◌, ℕ, List, [], ◌∷◌, Result, Ok, Err}
use Rattle.dk_types.specs.declared.event.Event.{Event}
use Rattle.dk_types.specs.declared.event.Event.TheVariants as event
use Rattle.dk_types.specs.declared.fault.Outcome.{Outcome}
use Rattle.dk_model.specs.Legal.{Opened, IsFront}
use Rattle.dk_core.specs.declared.claimed.Claimed.{Claimed}
use Rattle.dk_turn.specs.Fronts.{Known}
use Rattle.dk_host.specs.Calls.{Entered, IsClaimOf}
use Rattle.dk_workers.specs.Refused.{HasCause}
use Rattle.dk_workers.specs.declared.trying.Tried.{Tried}
use Rattle.dk_workers.specs.declared.trying.Tried.TheVariants as tried
use Rattle.dk_workers.specs.declared.worked.Worked.{Worked}

-- the run of the claim was committed
pub record IsCommitted (o : Opened) (pass : ℕ) (claimed : Claimed) (old new : List Event) : Type 0 where
  pub seq : ℕ
  pub outcome : Outcome
  pub entered : Entered o pass (event.Commit pass claimed.run seq outcome ∷ []) old new

-- the claim was given back for the cause of this answer
pub record IsGivenUp (o : Opened) (pass : ℕ) (claimed : Claimed) (end : Worked) (old new : List Event) : Type 0 where
  pub entered : Entered o pass (event.Release pass claimed.run ∷ []) old new
  pub cause : HasCause o claimed end new

-- the claim is in hand, and no event of the pass was entered
pub record IsInHand (o : Opened) (claimed back : Claimed) (old new : Known Event) : Type 0 where
  pub same : back ≡ claimed
  pub claim : IsClaimOf o new back
  pub goes : IsFront old.number old.front new.front

-- how one try ends
abbrev pub EndsTry : Opened → Claimed → Tried → Known Event → Known Event → Type 0
EndsTry o claimed tried.Committed old new = IsCommitted o old.number claimed old.front new.front
EndsTry o claimed (tried.Again back) old new = IsInHand o claimed back old new
EndsTry o claimed (tried.GivenUp end) old new = IsGivenUp o old.number claimed end old.front new.front

-- and one whose commit was refused
abbrev pub EndsRefused : Opened → Claimed → Tried → Known Event → Known Event → Type 0
EndsRefused o claimed tried.Committed old new = ⊥
EndsRefused o claimed (tried.Again back) old new = (back ≡ claimed) × (new ≡ old)
EndsRefused o claimed (tried.GivenUp end) old new = IsGivenUp o old.number claimed end old.front new.front

-- how all of them end
abbrev pub EndsClaim : Opened → ℕ → Claimed → Result (Unit {0}) Worked → List Event → List Event → Type 0
EndsClaim o pass claimed (Ok done) old new = IsCommitted o pass claimed old new
EndsClaim o pass claimed (Err end) old new = IsGivenUp o pass claimed end old new
