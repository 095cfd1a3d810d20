-- When a budget of claims is spent, and when the numbers are.
use Rattle.std.specs.Prelude.{◌≡◌, ◌≢◌, ℕ, Some, List, [], ◌∷◌, ◌++◌}
use Rattle.dk_types.specs.declared.event.Event.{Event}
use Rattle.dk_types.specs.declared.event.Event.TheVariants as event
use Rattle.dk_types.specs.declared.event.ConnectReply.TheVariants as connected
use Rattle.dk_types.specs.declared.event.ClaimReply.TheVariants as claimed
use Rattle.dk_model.specs.Legal.{Opened, world_after, IsLegal, commits_of}
use Rattle.dk_model.specs.Picks.{runnable}
use Rattle.dk_play_laws.specs.WorkedLaw.{IsUnclaimed}
use Rattle.dk_types.specs.declared.limits.TheConstants.{NUMBERS_END}

-- so many runs were claimed and committed, the budget has no more, and something can still be run
pub record IsBudgetSpent (o : Opened) (events : List Event) (granted : ℕ) : Type 0 where
  pub all : o.budget ≡ Some granted
  pub committed : commits_of events ≡ granted
  pub unclaimed : IsUnclaimed (world_after o events)
  pub some : runnable (world_after o events) ≢ []

-- a claim is told that the budget is spent where as many runs were committed as it has claims, if none is claimed
abbrev pub SpentBudgetsAreCommitted : Type 0
SpentBudgetsAreCommitted =
    (o : Opened) (most pass granted : ℕ) (events : List Event) → o.budget ≡ Some most → IsLegal o (events ++ event.Claim pass (claimed.Spent granted) ∷ [])
    → IsUnclaimed (world_after o (events ++ event.Claim pass (claimed.Spent granted) ∷ [])) → IsBudgetSpent o (events ++ event.Claim pass (claimed.Spent granted) ∷ []) granted

-- the event tells that no number is left, and which would be the next
abbrev pub TellsExhausted : Event → ℕ → Type 0
TellsExhausted (event.Connect pass name (connected.Exhausted n)) next = next ≡ n
TellsExhausted (event.Claim pass (claimed.Exhausted n)) next = next ≡ n
TellsExhausted _ next = ⊥

-- that is the number at which numbers end
abbrev pub NumbersEndAtOne : Type 0
NumbersEndAtOne = (o : Opened) (events : List Event) (e : Event) (next : ℕ) → TellsExhausted e next → IsLegal o (events ++ e ∷ []) → next ≡ NUMBERS_END
