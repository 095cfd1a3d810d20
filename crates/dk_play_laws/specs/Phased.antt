-- A play by a main pass and workers, phase by phase: what stands between two phases, and what each part of a phase does.
use Rattle.std.specs.Prelude.{◌≡◌, ℕ, ◌≤◌, None, List, [], ◌∷◌, ◌++◌, length, map}
use Rattle.std.specs.List.{All, AllByRecursion}
use Rattle.std.specs.List.Sorted.{IsNonDecreasing}
use mathlib.Core.List.{IsPrefix}
use Rattle.dk_types.specs.declared.event.Event.{Event}
use Rattle.dk_types.specs.declared.event.Event.TheVariants as event
use Rattle.dk_types.specs.declared.event.ClaimReply.{ClaimReply}
use Rattle.dk_types.specs.declared.event.ClaimReply.TheVariants as claimed
use Rattle.dk_model.specs.declared.script.Line.{Line}
use Rattle.dk_model.specs.Legal.{Opened, opening_of, world_after, pass_of}
use Rattle.dk_model.specs.Orders.{OrderItem, AreInTurn}
use Rattle.dk_model.specs.Phases.{AreSmall, phases_of}
use Rattle.dk_model.specs.Transcripts.{Plays, playing}
use Rattle.dk_turn.specs.Fronts.{Known, own, Continues}
use Rattle.dk_play_laws.specs.BudgetLaw.{IsBudgetSpent}
use Rattle.dk_play_laws.specs.LineEvents.{Said, playing_at, AreLineEvents, AreHandEvents}
use Rattle.dk_play_laws.specs.Seen.{AreNumbered, AreBehind, HaveSeen, ArePaired}
use Rattle.dk_play_laws.specs.Reported.{reported_of, AreKept}
use Rattle.dk_play_laws.specs.Worked.{AreWorked}
use Rattle.dk_play_laws.specs.WorkedLaw.{IsUnclaimed, AllWork}

-- the events by phases are a play of these phases of a script, in some order of claims and commits; with one worker each claim is followed at once by its commit
pub record ArePlayed (o : Opened) (workers : ℕ) (done : List (List Line)) (events : List Event) (marks : List ℕ) (s : Said) : Type 0 where
  pub order : List (List OrderItem)
  pub plays : Plays o.rules (playing (opening_of o)) done order (map reported_of (phases_of events marks)) (playing_at (world_after o events) s)
  pub turns : workers ≡ 1 → AllByRecursion AreInTurn order

-- what stands after these phases: no run is claimed, and where none was given back the events are a play
pub record HavePlayed (o : Opened) (workers : ℕ) (done : List (List Line)) (events : List Event) (marks : List ℕ) (s : Said) : Type 0 where
  pub unclaimed : IsUnclaimed (world_after o events)
  pub places : AllByRecursion (λ mark. mark ≤ length events) marks
  pub ordered : IsNonDecreasing marks
  pub within : All (λ mark. mark ≤ length events) marks
  pub small : AreSmall (phases_of events marks)
  pub played : AreKept events → ArePlayed o workers done events marks s

-- BETWEEN TWO PHASES: the main pass has met each worker, and has seen all that they had seen. Where the workers have entered nothing else, its front is a play so far
pub record IsBetween (o : Opened) (done : List (List Line)) (marks : List ℕ) (s : Said) (workers : List (Known Event)) (main : Known Event) : Type 0 where
  pub numbered : AreNumbered 0 workers
  pub number : main.number ≡ length workers
  pub behind : AreBehind workers main.front
  pub played : HaveSeen workers main.front → HavePlayed o (length workers) done main.front marks s

-- the pass went on to this front, and entered these events of its own on the way
pub record GoesOn (events : List Event) (old new : Known Event) : Type 0 where
  pub number : new.number ≡ old.number
  pub begins : IsPrefix old.front new.front
  pub own_events : own pass_of old.number new.front ≡ own pass_of old.number old.front ++ events

-- a worker met the main pass, whose front went on from the one list to the other in that round
pub record HasMet (from to : List Event) (old new : Known Event) : Type 0 where
  pub number : new.number ≡ old.number
  pub continues : Continues pass_of old.number old.front new.front
  pub begins : IsPrefix from new.front
  pub ends : IsPrefix new.front to

-- a round: the main pass met each worker, one after another
pub record HaveMet (workers after : List (Known Event)) (old new : Known Event) : Type 0 where
  pub main : GoesOn [] old new
  pub each : ArePaired (HasMet old.front new.front) workers after

-- a worker worked, and ended what it claimed
pub record HasWorkedOn (old new : Known Event) : Type 0 where
  pub events : List Event
  pub goes : GoesOn events old new
  pub worked : AreWorked None events None

-- the main pass worked too, and its last claim was answered so
pub record EndsWork (reply : ClaimReply) (old new : Known Event) : Type 0 where
  pub events : List Event
  pub goes : GoesOn (events ++ event.Claim old.number reply ∷ []) old new
  pub worked : AreWorked None (events ++ event.Claim old.number reply ∷ []) None

-- A DRAIN: a round, the workers' work, a round, and the main pass's own work, whose last claim was answered so
pub record IsDrain (reply : ClaimReply) (workers after : List (Known Event)) (old new : Known Event) : Type 0 where
  pub begun : List (Known Event)
  pub ended : List (Known Event)
  pub at_work : Known Event
  pub met : Known Event
  pub first : HaveMet workers begun old at_work
  pub works : ArePaired HasWorkedOn begun ended
  pub second : HaveMet ended after at_work met
  pub last : EndsWork reply met new

-- what a drain entered, where the workers have entered nothing since: each pass ended what it claimed, and the last claim was answered so
pub record IsDrained (reply : ClaimReply) (workers : List (Known Event)) (old new : Known Event) : Type 0 where
  pub events : List Event
  pub all : new.front ≡ old.front ++ (events ++ event.Claim new.number reply ∷ [])
  pub seen : HaveSeen workers old.front
  pub work : AllWork (events ++ event.Claim new.number reply ∷ [])
  pub turns : length workers ≡ 1 → AreWorked None (events ++ event.Claim new.number reply ∷ []) None

-- a phase up to its drain, whose last claim was answered so: the main pass goes on to its mark, and enters the lines before anything is run
pub record IsPhaseTo (reply : ClaimReply) (lines : List Line) (s t : Said) (mark : ℕ) (workers after : List (Known Event)) (old new : Known Event) : Type 0 where
  pub marked : Known Event
  pub entered : Known Event
  pub line_events : List Event
  pub to_mark : GoesOn [] old marked
  pub at_mark : mark ≡ length marked.front
  pub to_lines : GoesOn line_events marked entered
  pub are_lines : AreLineEvents old.number s lines line_events t
  pub drain : IsDrain reply workers after entered new

-- A PHASE: its drain left nothing to run, and then the main pass hands each connection its messages
pub record IsPhase (lines : List Line) (s t : Said) (mark : ℕ) (workers after : List (Known Event)) (old new : Known Event) : Type 0 where
  pub drained : Known Event
  pub hand_events : List Event
  pub to_drain : IsPhaseTo claimed.Nothing lines s t mark workers after old drained
  pub to_hands : GoesOn hand_events drained new
  pub are_hands : AreHandEvents old.number t.opened hand_events

-- WHERE THE BUDGET IS SPENT: the main pass has met each worker; where the workers have entered nothing else, so many runs were committed, and something can still be run
pub record IsSpentAt (o : Opened) (granted : ℕ) (workers : List (Known Event)) (main : Known Event) : Type 0 where
  pub numbered : AreNumbered 0 workers
  pub number : main.number ≡ length workers
  pub behind : AreBehind workers main.front
  pub spent : HaveSeen workers main.front → IsBudgetSpent o main.front granted
