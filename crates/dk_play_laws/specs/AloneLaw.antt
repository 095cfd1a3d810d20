-- What a pass knows that has entered events while all others stood still.
use Rattle.std.specs.Prelude.{◌≡◌, ℕ, ◌+◌, ◌<◌, List, ◌++◌, length}
use Rattle.std.specs.List.{AllByRecursion}
use mathlib.Core.List.{IsPrefix}
use Rattle.dk_types.specs.declared.event.Event.{Event}
use Rattle.dk_model.specs.Legal.{pass_of}
use Rattle.dk_turn.specs.Fronts.{Known, own}
use Rattle.dk_play_laws.specs.Seen.{AreNumbered, AreBehind, HaveSeen}

-- each event is of a pass with a number up to this one
abbrev pub AreNamed : ℕ → List Event → Type 0
AreNamed n events = AllByRecursion (λ e. pass_of e < n + 1) events

-- these events are all that came after the first front, of which the passes have seen all that is theirs
pub record IsAlone (passes : List (Known Event)) (front events after : List Event) : Type 0 where
  pub all : after ≡ front ++ events
  pub seen : HaveSeen passes front

-- ALONE: the pass behind these passes entered these events from the one front to the other. The passes had seen nothing beyond the first, and beyond what they have seen nothing is
-- theirs. So nobody entered anything in between
abbrev pub OnePassIsAlone : Type 0
OnePassIsAlone =
    (passes : List (Known Event)) (front events after : List Event) → AreNumbered 0 passes → AreNamed (length passes) after → AreBehind passes front → HaveSeen passes after
    → IsPrefix front after → own pass_of (length passes) after ≡ own pass_of (length passes) front ++ events → IsAlone passes front events after
