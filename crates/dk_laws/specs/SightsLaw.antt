-- Equal sights give equal answers.
use Rattle.std.specs.Prelude.{◌≡◌, List, ◌++◌}
use Rattle.dk_types.specs.declared.item.Item.{Item}
use Rattle.dk_types.specs.declared.event.Event.{Event}
use Rattle.dk_model.specs.DurableWorlds.{answer}
use Rattle.dk_model.specs.Worlds.{World}
use Rattle.dk_model.specs.Events.{Meaning}
use Rattle.dk_model.specs.Histories.{IsHistory}
use Rattle.dk_model.specs.Successors.{after_events}
use Rattle.dk_model.specs.Sights.{seen}
use Rattle.dk_model.specs.Lawful.{AreLawful}

-- where an item is seen alike at two times of a history, it has one answer; of two times one is a front of the other
abbrev pub SightsTell : Type 0
SightsTell =
    (rules : Meaning) (o : World) (earlier later : List Event) → AreLawful rules → IsHistory rules o (earlier ++ later) → (item : Item)
    → seen rules o (earlier ++ later) item ≡ seen rules o earlier item → answer (after_events rules o (earlier ++ later)).durable item ≡ answer (after_events rules o earlier).durable item
