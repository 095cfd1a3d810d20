-- The read that a list has for an item.
use Rattle.std.specs.Prelude.{if◌then◌else◌, None, List, [], ◌∷◌}
use Rattle.dk_types.specs.declared.item.Item.{Item}
use Rattle.dk_types.specs.declared.item.Item.TheVariants as ask
use Rattle.dk_types.specs.declared.item.Answer.TheVariants as said
use Rattle.dk_types.specs.declared.item.Seen.TheVariants as seen
use Rattle.dk_types.specs.declared.item.Read.{Read}
use Rattle.dk_overlay.specs.Items.{equal_items}

-- the absent form of an item's read
abbrev pub absent : Item → Read
absent (ask.Object id) = record { answer = said.NoObject; seen = seen.Absent }
absent (ask.Bound name) = record { answer = said.NoName; seen = seen.Absent }
absent (ask.NextAfter after) = record { answer = said.Next None; seen = seen.Next None }
absent (ask.Task key) = record { answer = said.NoTask; seen = seen.Absent }

-- the first read of the item, or its absent form
abbrev pub read_in : List (Item × Read) → Item → Read
read_in [] item = absent item
read_in (r ∷ reads) item = if equal_items r.0 item then r.1 else read_in reads item
