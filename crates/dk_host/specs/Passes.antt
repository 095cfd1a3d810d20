-- How far the calls of one pass brought it.
use Rattle.std.specs.Prelude.{◌≡◌, ℕ, ◌<◌, List, ◌++◌}
use Rattle.std.specs.List.{All}
use mathlib.Core.List.{IsPrefix}
use Rattle.dk_types.specs.declared.event.Event.{Event}
use Rattle.dk_model.specs.Legal.{Opened, IsLegal, pass_of}
use Rattle.dk_turn.specs.Fronts.{own}

-- From the one front to the other the pass entered exactly these events, in this order, whatever other passes entered in between. What was legal stays so, and where each event was of one of so many passes, each still is.
pub record Enters (o : Opened) (count pass : ℕ) (events old new : List Event) : Type 0 where
  pub begins : IsPrefix old new
  pub own_events : own pass_of pass new ≡ own pass_of pass old ++ events
  pub legal : IsLegal o old → IsLegal o new
  pub named : All (λ e. pass_of e < count) old → All (λ e. pass_of e < count) new
