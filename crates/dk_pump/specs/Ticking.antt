-- What a ticker enters.
use Rattle.std.specs.Prelude.{ℕ, List, map}
use Rattle.dk_types.specs.declared.event.Event.{Event}
use Rattle.dk_types.specs.declared.event.Event.TheVariants as event
use Rattle.dk_model.specs.Legal.{Opened}
use Rattle.dk_pump.specs.Passes.{Enters}

-- Ticks to these moments, in their order
abbrev pub ticks : ℕ → List ℕ → List Event
ticks pass moments = map (λ moment. event.Tick pass moment) moments

-- the pass entered Ticks, and nothing else
pub record Ticks (o : Opened) (count pass : ℕ) (front front' : List Event) : Type 0 where
  pub moments : List ℕ
  pub enters : Enters o count pass (ticks pass moments) front front'
