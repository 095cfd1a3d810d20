-- What SwordWorld keeps: things, the room and players, as the bytes of managed objects.
use Rattle.std.specs.Prelude.{ℕ, ◌==◌, Option, Some, None, List, [], ◌∷◌, ◌++◌, nat_lt, Result, Ok, if◌then◌else◌}
use Rattle.dk_types.specs.declared.number.ObjectId.{ObjectId}
use Rattle.dk_types.specs.Rest.{Rest}
use Rattle.dk_types.specs.Fields.{u8_spelling, name_spelling, id_spelling}
use Rattle.dk_types.specs.Reading.{◌>>=◌}
use Rattle.dk_types.specs.Payload.{next_u8, next_name, next_id, checked}
use Rattle.dk_types.specs.Lists.{list_spelling, list_at}
use Rattle.dk_model.specs.Records.{value_of}
use Rattle.sword_world.specs.declared.things.Room.{Room}
use Rattle.sword_world.specs.declared.things.Thing.{Thing}
use Rattle.sword_world.specs.declared.things.Player.{Player}

-- the kind of a room
abbrev pub ROOM : ℕ
ROOM = 1

-- the kind of a thing
abbrev pub THING : ℕ
THING = 2

-- the kind of a player
abbrev pub PLAYER : ℕ
PLAYER = 3

-- a room is its players, and what lies in it
abbrev pub room_bytes : Room → List ℕ
room_bytes r = list_spelling id_spelling r.players ++ list_spelling id_spelling r.items

-- a room at the front
unfoldable pub next_room : Rest → Result (Room × Rest) ℕ
next_room rest = do
  players ← list_at (λ _. next_id) rest
  items ← list_at (λ _. next_id) players.1
  Ok (record { players = players.0; items = items.0 }, items.1)

-- the room that these bytes are, where they are one
unfoldable pub room_of : List ℕ → Option Room
room_of = value_of next_room

-- a thing is its description
abbrev pub thing_bytes : Thing → List ℕ
thing_bytes t = name_spelling t.description

-- a thing at the front
unfoldable pub next_thing : Rest → Result (Thing × Rest) ℕ
next_thing rest = do
  description ← next_name rest
  Ok (record { description = description.0 }, description.1)

-- the thing that these bytes are, where they are one
unfoldable pub thing_of : List ℕ → Option Thing
thing_of = value_of next_thing

-- what a player carries: 0, or 1 and the thing's id
abbrev pub carried_bytes : Option ObjectId → List ℕ
carried_bytes None = u8_spelling 0
carried_bytes (Some id) = u8_spelling 1 ++ id_spelling id

-- what follows the first byte
abbrev pub next_item : ℕ → Rest → Result (Option ObjectId × Rest) ℕ
next_item flag rest = if flag == 0 then Ok (None, rest) else (do
  id ← next_id rest
  Ok (Some id.0, id.1))

-- what a player carries, at the front
unfoldable pub next_carried : Rest → Result (Option ObjectId × Rest) ℕ
next_carried rest = do
  flag ← checked (λ b. nat_lt b 2) next_u8 rest
  next_item flag.0 flag.1

-- a player is its name, and what it carries
abbrev pub player_bytes : Player → List ℕ
player_bytes p = name_spelling p.name ++ carried_bytes p.carried

-- a player at the front
unfoldable pub next_player : Rest → Result (Player × Rest) ℕ
next_player rest = do
  name ← next_name rest
  carried ← next_carried name.1
  Ok (record { name = name.0; carried = carried.0 }, carried.1)

-- the player that these bytes are, where they are one
unfoldable pub player_of : List ℕ → Option Player
player_of = value_of next_player
