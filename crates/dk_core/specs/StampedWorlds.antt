-- What the world in its stores is seen as: the durable world with a stamp on each item, and what a read sees of it.
use Rattle.std.specs.Prelude.{◌≡◌, ℕ, Option, Some, None, refl}
use Rattle.std.specs.Option.{option_map}
use Rattle.std.specs.Coded.{Coded, code_by, coded×, coded_ℕ, coded_list, coded_option}
use Rattle.std.specs.FinMap as map
use Rattle.std.specs.FinMap.{FinMap, get}
use Rattle.dk_types.specs.declared.number.RunNo.{RunNo}
use Rattle.dk_types.specs.declared.object.Object.{Object}
use Rattle.dk_types.specs.declared.item.Item.{Item}
use Rattle.dk_types.specs.declared.item.Item.TheVariants as ask
use Rattle.dk_types.specs.declared.item.Seen.{Seen}
use Rattle.dk_types.specs.declared.item.Seen.TheVariants as sight
use Rattle.dk_types.specs.declared.item.Read.{Read}
use Rattle.dk_types.specs.Keys.{id_cmp, key_cmp}
use Rattle.dk_model.specs.DurableWorlds.{DurableWorld, next_name, answer}
use Rattle.dk_model.specs.Sights.{seen_in}
use Rattle.dk_objects.specs.StampedObjects.{id_code, object_code, objects_of}
use Rattle.dk_names.specs.Bindings.{StampedNames, ids_of}
use Rattle.dk_tasks.specs.Tasks.{Kept, key_code, kept_code, durable_tasks}

-- how many more objects, names and tasks fit without memory
pub record Room : Type 0 where
  pub objects : ℕ
  pub names : ℕ
  pub tasks : ℕ

-- the objects, the bound names and the tasks, each with its stamp; the number of commits; the largest committed run; and the
-- room that is made
pub record Stamped : Type 0 where
  pub objects : FinMap id_cmp (Object × ℕ)
  pub names : StampedNames
  pub tasks : FinMap key_cmp Kept
  pub commits : ℕ
  pub last : Option RunNo
  pub room : Room

-- it is stored as the pairs of its fields
abbrev pub room_code : Coded Room
room_code = code_by (ℕ × (ℕ × ℕ)) (coded× coded_ℕ (coded× coded_ℕ coded_ℕ)) (λ r. (r.objects, (r.names, r.tasks))) (λ p. record { objects = p.0; names = p.1.0; tasks = p.1.1 }) (λ _. refl)

-- the largest committed run is stored as its number
abbrev pub last_code : Coded (Option RunNo)
last_code = coded_option (code_by ℕ coded_ℕ (λ r. r.0) (λ n. record { 0 = n }) (λ _. refl))

abbrev StampedParts : Type 0
StampedParts = (FinMap id_cmp (Object × ℕ) × (StampedNames × FinMap key_cmp Kept)) × ((ℕ × Option RunNo) × Room)

-- and the stamped world as the pairs of its fields
abbrev pub stamped_code : Coded Stamped
stamped_code =
    code_by StampedParts
    (coded× (coded× (map.code id_code (coded× object_code coded_ℕ)) (coded× (map.code (coded_list coded_ℕ) (coded× id_code coded_ℕ)) (map.code key_code kept_code))) (coded× (coded× coded_ℕ last_code) room_code))
    (λ w. ((w.objects, (w.names, w.tasks)), ((w.commits, w.last), w.room)))
    (λ p. record { objects = p.0.0; names = p.0.1.0; tasks = p.0.1.1; commits = p.1.0.0; last = p.1.0.1; room = p.1.1 })
    (λ _. refl)

-- nothing at all, and no room
abbrev pub nothing : Stamped
nothing = record { objects = map.empty; names = map.empty; tasks = map.empty; commits = 0; last = None; room = record { objects = 0; names = 0; tasks = 0 } }

-- the same world with other room
abbrev pub with_room : Room → Stamped → Stamped
with_room room w = record w { room = room }

-- the world without its stamps, its claims and its room
abbrev pub durable_of : Stamped → DurableWorld
durable_of w = record { objects = objects_of w.objects; names = ids_of w.names; tasks = durable_tasks w.tasks; commits = w.commits; last = w.last }

-- the stamp of what stands at an item; none where nothing stands there, and for a next name
abbrev pub stamp_in : Stamped → Item → Option ℕ
stamp_in w (ask.Object id) = option_map (λ o. o.1) (get w.objects id)
stamp_in w (ask.Bound name) = option_map (λ b. b.1) (get w.names name)
stamp_in w (ask.NextAfter after) = None
stamp_in w (ask.Task key) = option_map (λ t. t.stamp) (get w.tasks key)

-- what is seen where this stamp stands, or none
abbrev pub sight_of : Option ℕ → Seen
sight_of None = sight.Absent
sight_of (Some stamp) = sight.At stamp

-- what is seen of an item now: its stamp, that it is absent, or the next name
abbrev pub seen_now : Stamped → Item → Seen
seen_now w (ask.Object id) = sight_of (stamp_in w (ask.Object id))
seen_now w (ask.Bound name) = sight_of (stamp_in w (ask.Bound name))
seen_now w (ask.NextAfter after) = sight.Next (next_name (ids_of w.names) after)
seen_now w (ask.Task key) = sight_of (stamp_in w (ask.Task key))

-- what a read gives now
abbrev pub read_now : Stamped → Item → Read
read_now w item = record { answer = answer (durable_of w) item; seen = seen_now w item }

-- a read sees of each item what it sees in the durable world where the items have these stamps
abbrev pub HasStamps : (Item → ℕ) → Stamped → Type 0
HasStamps stamps w = (item : Item) → seen_now w item ≡ seen_in (durable_of w) (stamps item) item
