-- Histories: events that happen one after another.
use Rattle.std.specs.Prelude.{◌≡◌, List, [], ◌∷◌}
use Rattle.dk_types.specs.declared.event.Event.{Event}
use Rattle.dk_model.specs.Worlds.{World}
use Rattle.dk_model.specs.Events.{Meaning, Happens}

-- the events happen one after another, from the one world to the other
abbrev pub Leads : Meaning → World → List Event → World → Type 0
Leads rules w [] after = after ≡ w
Leads rules w (e ∷ events) after = (mid : World) × Happens rules w e mid × Leads rules mid events after

-- from the opening world on, the events are a history, and this is the last world
pub record IsHistory (rules : Meaning) (opening : World) (events : List Event) : Type 0 where
  pub last : World
  pub leads : Leads rules opening events last
