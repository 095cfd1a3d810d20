-- Phase after phase is played, whatever workers do between.
use Rattle.std.specs.Prelude.{◌≡◌, ℕ, List, [], ◌∷◌, ◌++◌, length, Some}
use Rattle.dk_types.specs.declared.event.Event.{Event}
use Rattle.dk_types.specs.declared.event.ClaimReply.{ClaimReply}
use Rattle.dk_types.specs.declared.event.ClaimReply.TheVariants as claimed
use Rattle.dk_model.specs.declared.script.Line.{Line}
use Rattle.dk_model.specs.Lawful.{AreLawful}
use Rattle.dk_model.specs.Legal.{Opened, IsLegal, pass_of}
use Rattle.dk_turn.specs.Fronts.{Known, Continues}
use Rattle.dk_play_laws.specs.AloneLaw.{AreNamed}
use Rattle.dk_play_laws.specs.BudgetLaw.{IsBudgetSpent}
use Rattle.dk_play_laws.specs.LineEvents.{Said, nothing_said}
use Rattle.dk_play_laws.specs.Phased.{IsBetween, IsDrain, IsDrained, IsPhase, HavePlayed, GoesOn, IsPhaseTo, IsSpentAt}
use Rattle.dk_play_laws.specs.Seen.{AreNumbered, AreBehind, HaveSeen}

-- the passes are behind the main one again, and where none of them has entered anything since, the drain's events are known
pub record DrainTells (reply : ClaimReply) (workers after : List (Known Event)) (old new : Known Event) : Type 0 where
  pub numbered : AreNumbered 0 after
  pub count : length after ≡ length workers
  pub behind : AreBehind after new.front
  pub tells : HaveSeen after new.front → IsDrained reply workers old new

-- a drain ends what was claimed in it
abbrev pub DrainsEndTheirClaims : Type 0
DrainsEndTheirClaims =
    (reply : ClaimReply) (workers after : List (Known Event)) (old new : Known Event) → AreNumbered 0 workers → old.number ≡ length workers → AreBehind workers old.front
    → AreNamed (length workers) new.front → IsDrain reply workers after old new → DrainTells reply workers after old new

-- one phase more is played
abbrev pub PhasesFollow : Type 0
PhasesFollow =
    (o : Opened) (done : List (List Line)) (marks : List ℕ) (lines : List Line) (s t : Said) (mark : ℕ) (workers after : List (Known Event)) (old new : Known Event)
    → AreLawful o.rules → IsBetween o done marks s workers old → IsPhase lines s t mark workers after old new → IsLegal o new.front → AreNamed (length workers) new.front
    → IsBetween o (done ++ lines ∷ []) (marks ++ mark ∷ []) t after new

-- a phase in which the budget is spent ends the play
abbrev pub SpentPhasesEnd : Type 0
SpentPhasesEnd =
    (o : Opened) (most granted : ℕ) (done : List (List Line)) (marks : List ℕ) (lines : List Line) (s t : Said) (mark : ℕ) (workers after : List (Known Event)) (old new : Known Event)
    → o.budget ≡ Some most → IsBetween o done marks s workers old → IsPhaseTo (claimed.Spent granted) lines s t mark workers after old new → IsLegal o new.front → AreNamed (length workers) new.front
    → IsSpentAt o granted after new

-- what stands between two phases stands on where the main pass enters nothing
abbrev pub PlaysStandOn : Type 0
PlaysStandOn =
    (o : Opened) (done : List (List Line)) (marks : List ℕ) (s : Said) (workers : List (Known Event)) (old new : Known Event)
    → IsBetween o done marks s workers old → GoesOn [] old new → AreNamed (length workers) new.front → IsBetween o done marks s workers new

-- the history at the end, of which each pass has seen all that is its own
pub record IsSeenBy (workers : List (Known Event)) (main : Known Event) (log : List Event) : Type 0 where
  pub of_workers : HaveSeen workers log
  pub of_main : Continues pass_of main.number main.front log
  pub named : AreNamed (length workers) log

-- at the end the main pass has seen all
abbrev pub PlaysAreSeen : Type 0
PlaysAreSeen =
    (o : Opened) (done : List (List Line)) (marks : List ℕ) (s : Said) (workers : List (Known Event)) (main : Known Event) (log : List Event)
    → IsBetween o done marks s workers main → IsSeenBy workers main log → HavePlayed o (length workers) done log marks s

-- where the budget is spent, as many runs were claimed and committed as it has, and something can still be run
abbrev pub SpentIsSeen : Type 0
SpentIsSeen =
    (o : Opened) (granted : ℕ) (workers : List (Known Event)) (main : Known Event) (log : List Event) → IsSpentAt o granted workers main → IsSeenBy workers main log → IsBudgetSpent o log granted

-- nothing is played at first
abbrev pub NothingIsPlayed : Type 0
NothingIsPlayed = (o : Opened) (workers : List (Known Event)) (main : Known Event) → AreNumbered 0 workers → main.number ≡ length workers → AreBehind workers main.front → main.front ≡ []
    → IsBetween o [] [] nothing_said workers main
