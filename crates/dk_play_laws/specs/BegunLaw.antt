-- A play that may end before its script does: what its passes have entered for the script.
use Rattle.std.specs.Prelude.{◌≡◌, ℕ, List, [], ◌∷◌, ◌++◌, length}
use Rattle.std.specs.List.{AllByRecursion}
use Rattle.dk_types.specs.declared.event.Event.{Event}
use Rattle.dk_model.specs.declared.script.Line.{Line}
use Rattle.dk_model.specs.Legal.{pass_of}
use Rattle.dk_turn.specs.Fronts.{Known, own}
use Rattle.dk_play_laws.specs.FirstParts.{scripted_of, AreScriptEvents, IsPhaseBegun, IsFirstPart}
use Rattle.dk_play_laws.specs.LineEvents.{Said, nothing_said}
use Rattle.dk_play_laws.specs.Phased.{IsPhase}
use Rattle.dk_play_laws.specs.PhasedLaw.{IsSeenBy}
use Rattle.dk_play_laws.specs.Seen.{AreNumbered, AreBehind, ArePaired}

-- what a pass has entered that is no claim, no commit and no release
abbrev pub entered_by : Known Event → List Event
entered_by p = scripted_of (own pass_of p.number p.front)

-- the pass went on, and entered these events and beside them claims, commits and releases alone
pub record HasEntered (events : List Event) (old new : Known Event) : Type 0 where
  pub number : new.number ≡ old.number
  pub own_events : entered_by new ≡ entered_by old ++ events

-- the passes went on, and entered claims, commits and releases alone
pub record HaveOnlyWorked (workers after : List (Known Event)) (old new : Known Event) : Type 0 where
  pub main : HasEntered [] old new
  pub each : ArePaired (HasEntered []) workers after

-- the main pass behind workers that have entered claims, commits and releases alone
pub record HasWorkers (workers : List (Known Event)) (main : Known Event) : Type 0 where
  pub numbered : AreNumbered 0 workers
  pub number : main.number ≡ length workers
  pub none : AllByRecursion (λ p. entered_by p ≡ []) workers

-- the main pass has entered these phases
pub record HaveEntered (done : List (List Line)) (s : Said) (workers : List (Known Event)) (main : Known Event) : Type 0 where
  pub passes : HasWorkers workers main
  pub whole : AreScriptEvents main.number nothing_said done (entered_by main) s

-- it has entered a first part of the script
pub record HaveBegun (script : List (List Line)) (workers : List (Known Event)) (main : Known Event) : Type 0 where
  pub passes : HasWorkers workers main
  pub first : IsFirstPart main.number script (entered_by main)

-- a phase up to some moment, while workers entered claims, commits and releases alone
pub record HasBegunPhase (lines : List Line) (s : Said) (workers after : List (Known Event)) (old new : Known Event) : Type 0 where
  pub events : List Event
  pub main : HasEntered events old new
  pub each : ArePaired (HasEntered []) workers after
  pub begun : IsPhaseBegun old.number s lines events

-- nothing is entered at first
abbrev pub NothingIsEntered : Type 0
NothingIsEntered = (workers : List (Known Event)) (main : Known Event) → AreNumbered 0 workers → main.number ≡ length workers → AreBehind workers main.front → main.front ≡ []
    → HaveEntered [] nothing_said workers main

-- one phase more is entered
abbrev pub PhasesAreEntered : Type 0
PhasesAreEntered =
    (done : List (List Line)) (lines : List Line) (s t : Said) (mark : ℕ) (workers after : List (Known Event)) (old new : Known Event)
    → HaveEntered done s workers old → IsPhase lines s t mark workers after old new → HaveEntered (done ++ lines ∷ []) t after new

-- phases, and then one that was begun, are a first part of a script
abbrev pub BegunPhasesAreFirst : Type 0
BegunPhasesAreFirst =
    (done left : List (List Line)) (lines : List Line) (s : Said) (workers after : List (Known Event)) (old new : Known Event)
    → HaveEntered done s workers old → HasBegunPhase lines s workers after old new → HaveBegun (done ++ lines ∷ left) after new

-- all phases are a first part of their script
abbrev pub AllPhasesAreFirst : Type 0
AllPhasesAreFirst = (script : List (List Line)) (s : Said) (workers : List (Known Event)) (main : Known Event) → HaveEntered script s workers main → HaveBegun script workers main

-- what was begun stands while passes enter claims, commits and releases alone
abbrev pub BegunStandsOn : Type 0
BegunStandsOn =
    (script : List (List Line)) (workers after : List (Known Event)) (old new : Known Event) → HaveBegun script workers old → HaveOnlyWorked workers after old new → HaveBegun script after new

-- at the end, what the history has beside claims, commits and releases is the main pass's, a first part of the script
abbrev pub BegunIsSeen : Type 0
BegunIsSeen =
    (script : List (List Line)) (workers : List (Known Event)) (main : Known Event) (log : List Event) → HaveBegun script workers main → IsSeenBy workers main log
    → IsFirstPart (length workers) script (scripted_of log)
