-- What SwordWorld means: what each job does, said on the run in its midst.
use Rattle.std.specs.Prelude.{ℕ, not, Bool, Option, Some, None, List, [], ◌∷◌, ◌++◌, filter, Ok, if◌then◌else◌, codes}
use Rattle.std.specs.FinMap as maps
use Rattle.std.specs.Str.{str_to_ascii_lowercase}
use Rattle.dk_types.specs.declared.number.ConnNo.{ConnNo}
use Rattle.dk_types.specs.declared.number.ObjectId.{ObjectId}
use Rattle.dk_types.specs.declared.job.Job.{Job}
use Rattle.dk_types.specs.declared.job.Job.TheVariants as job
use Rattle.dk_types.specs.declared.job.Out.TheVariants as out
use Rattle.dk_model.specs.Runs.{Act, give, and_then, refuse, create, bound, bind, send, TOO_LONG}
use Rattle.dk_model.specs.Effects.{same_id}
use Rattle.dk_model.specs.References.{get_as, get_for_update_as, save_as}
use Rattle.dk_model.specs.Platforms.{same_name}
use Rattle.dk_model.specs.Records.{is_name_too_long}
use Rattle.sword_world.specs.declared.command.Command.{Command}
use Rattle.sword_world.specs.declared.command.Command.TheVariants as command
use Rattle.sword_world.specs.declared.scene.Scene.{Scene}
use Rattle.sword_world.specs.declared.things.Room.{Room}
use Rattle.sword_world.specs.declared.things.Player.{Player}
use Rattle.sword_world.specs.declared.things.Thing.{Thing}
use Rattle.sword_world.specs.Things.{ROOM, THING, PLAYER, room_bytes, room_of, thing_bytes, thing_of, player_bytes, player_of}
use Rattle.sword_world.specs.Texts.{look_text, already_text, bare_text, take_text, empty_text, drop_text}
use Rattle.sword_world.specs.Labels.{labels}

-- the one thing there is
abbrev pub the_sword : Thing
the_sword = record { description = codes "a shiny sword" }

-- the name that the room is bound to
abbrev pub room_name : List ℕ
room_name = codes "Room"

-- the name that a player's object is bound to
abbrev pub player_name : List ℕ → List ℕ
player_name name = codes "Player." ++ name

-- the room, without players and with the sword, under its name
unfoldable pub furnish : ObjectId → Act (Unit {0})
furnish sword = and_then (create ROOM (room_bytes (record { players = []; items = sword ∷ [] }))) (λ room. bind room_name room)

-- a sword lies in a room without players
unfoldable pub initialize : Act (Unit {0})
initialize = and_then (create THING (thing_bytes the_sword)) furnish

-- a new player, who carries nothing
unfoldable pub new_player : List ℕ → Act ObjectId
new_player name = and_then (create PLAYER (player_bytes (record { name = name; carried = None }))) (λ id. and_then (bind (player_name name) id) (λ _. give (Ok id)))

-- the object that the player's name is bound to, or a new player where it is not bound
abbrev pub player_found : Option ObjectId → List ℕ → Act ObjectId
player_found None name = new_player name
player_found (Some id) name = give (Ok id)

-- the player's object, made where there is none
unfoldable pub known_player : List ℕ → Act ObjectId
known_player name s = player_found (maps.get s.world.names (player_name name)) name s

-- the room and its object
unfoldable pub room_there : Act (ObjectId × Room)
room_there = and_then (bound room_name) (λ id. and_then (get_as ROOM room_of id) (λ room. give (Ok (id, room))))

-- the same where a change follows
unfoldable pub room_to_change : Act (ObjectId × Room)
room_to_change = and_then (bound room_name) (λ id. and_then (get_for_update_as ROOM room_of id) (λ room. give (Ok (id, room))))

-- the player is put last among the room's players
unfoldable pub enter : ObjectId → Act (Unit {0})
enter player = and_then room_to_change (λ place. save_as ROOM place.0 (room_bytes (record (place.1) { players = place.1.players ++ player ∷ [] })))

-- the player enters the room, whether it is new or not
unfoldable pub log_in : List ℕ → Act (Unit {0})
log_in name = and_then (known_player name) enter

-- what is done for a player, unless its name would be too long
abbrev pub named : {A : Type 0} → List ℕ → Act A → Act A
named name act = if is_name_too_long (player_name name) then refuse TOO_LONG else act

-- a login
unfoldable pub login : List ℕ → Act (Unit {0})
login name = named name (log_in name)

-- the player under a name, and its object
unfoldable pub player_under : List ℕ → Act (ObjectId × Player)
player_under key = and_then (bound key) (λ id. and_then (get_as PLAYER player_of id) (λ player. give (Ok (id, player))))

-- the player of this login name, and its object
unfoldable pub player_there : List ℕ → Act (ObjectId × Player)
player_there name = named name (player_under (player_name name))

-- the player and the room, as a command finds them
unfoldable pub scene : List ℕ → Act Scene
scene name = and_then (player_there name) (λ me. and_then room_there (λ place. give (Ok (record { me = me.0; player = me.1; place = place.0; room = place.1 }))))

-- the same for the end of a session, which always changes the room
unfoldable pub last_scene : List ℕ → Act Scene
last_scene name = and_then (player_there name) (λ me. and_then room_to_change (λ place. give (Ok (record { me = me.0; player = me.1; place = place.0; room = place.1 }))))

-- the player carries this, and nothing else
abbrev pub hold : Scene → Option ObjectId → Act (Unit {0})
hold scene carried = save_as PLAYER scene.me (player_bytes (record (scene.player) { carried = carried }))

-- these things lie in the room, and no others
abbrev pub lay : Scene → List ObjectId → Act (Unit {0})
lay scene items = save_as ROOM scene.place (room_bytes (record (scene.room) { items = items }))

-- a thing
abbrev pub thing_at : ObjectId → Act Thing
thing_at item = get_as THING thing_of item

-- the players but for this one
abbrev pub others : ObjectId → List ObjectId → List ObjectId
others me players = filter (λ p. not (same_id p me)) players

-- who else is in the room
abbrev pub names_of_others : Scene → Act (List (List ℕ))
names_of_others scene = labels PLAYER player_of (λ p. p.name) (others scene.me scene.room.players)

-- what lies in the room
abbrev pub things_in : Scene → Act (List (List ℕ))
things_in scene = labels THING thing_of (λ t. t.description) scene.room.items

-- look: who and what is in the room
unfoldable pub look : Scene → Act (List ℕ)
look scene = and_then (names_of_others scene) (λ names. and_then (things_in scene) (λ things. give (Ok (look_text names things))))

-- the thing leaves the room, and the player carries it
unfoldable pub pick_up : Scene → ObjectId → List ObjectId → Act (List ℕ)
pick_up scene item left = and_then (thing_at item) (λ thing. and_then (lay scene left) (λ _. and_then (hold scene (Some item)) (λ _. give (Ok (take_text thing.description)))))

-- take: the first thing in the room, for one who carries nothing
abbrev pub take_from : Scene → Option ObjectId → List ObjectId → Act (List ℕ)
take_from scene (Some item) items = and_then (thing_at item) (λ thing. give (Ok (already_text thing.description)))
take_from scene None [] = give (Ok bare_text)
take_from scene None (item ∷ left) = pick_up scene item left

-- the player takes the first thing of the room, if the hands are free
unfoldable pub take : Scene → Act (List ℕ)
take scene = take_from scene scene.player.carried scene.room.items

-- the thing is put last in the room, and the player carries nothing
unfoldable pub put_down : Scene → ObjectId → Act (List ℕ)
put_down scene item = and_then (thing_at item) (λ thing. and_then (lay scene (scene.room.items ++ item ∷ [])) (λ _. and_then (hold scene None) (λ _. give (Ok (drop_text thing.description)))))

-- drop: what the player carries
abbrev pub drop_what : Scene → Option ObjectId → Act (List ℕ)
drop_what scene None = give (Ok empty_text)
drop_what scene (Some item) = put_down scene item

-- the player drops what is carried, if anything is
unfoldable pub drop : Scene → Act (List ℕ)
drop scene = drop_what scene scene.player.carried

-- what a command does, and the text that it is answered by
abbrev pub obey : Command → Scene → Act (List ℕ)
obey command.Look scene = look scene
obey command.Take scene = take scene
obey command.Drop scene = drop scene

-- a command is answered by one message
unfoldable pub answer : ConnNo → List ℕ → Command → Act (Unit {0})
answer conn name c = and_then (scene name) (λ scene. and_then (obey c scene) (λ text. send conn (out.Message text)))

-- letters of either case stand for the same word
abbrev pub is_word : List ℕ → List ℕ → Bool
is_word word body = same_name (str_to_ascii_lowercase body) word

-- the command that a message is, if it is one
abbrev pub command_of : List ℕ → Option Command
command_of body =
    if is_word (codes "look") body then Some command.Look
    else if is_word (codes "take") body then Some command.Take
    else if is_word (codes "drop") body then Some command.Drop
    else None

-- what is no command does nothing
abbrev pub answer_if : ConnNo → List ℕ → Option Command → Act (Unit {0})
answer_if conn name None = give (Ok tt)
answer_if conn name (Some command) = answer conn name command

-- what a message does: it is answered if it is a command
unfoldable pub message : ConnNo → List ℕ → List ℕ → Act (Unit {0})
message conn name body = answer_if conn name (command_of body)

-- what is carried, as a list of it
abbrev pub carried_items : Option ObjectId → List ObjectId
carried_items None = []
carried_items (Some item) = item ∷ []

-- the room without the player, and with what it carried
abbrev pub room_left : ObjectId → Player → Room → Room
room_left me player room = record { players = others me room.players; items = room.items ++ carried_items player.carried }

-- a player who carried a thing carries nothing
abbrev pub let_go : Scene → Option ObjectId → Act (Unit {0})
let_go scene None = give (Ok tt)
let_go scene (Some item) = hold scene None

-- the player leaves the room, in all its places, and what it carries stays there
unfoldable pub leave : Scene → Act (Unit {0})
leave scene = and_then (save_as ROOM scene.place (room_bytes (room_left scene.me scene.player scene.room))) (λ _. let_go scene scene.player.carried)

-- a session ends
unfoldable pub disconnect : List ℕ → Act (Unit {0})
disconnect name = and_then (last_scene name) leave

-- what each job does
abbrev pub sword_rules : Job → Act (Unit {0})
sword_rules job.Initialize = initialize
sword_rules (job.Login conn name) = login name
sword_rules (job.Message conn name body) = message conn name body
sword_rules (job.Channel conn name channel body) = give (Ok tt)
sword_rules (job.Disconnect conn name graceful) = disconnect name
sword_rules (job.Task key due period kind arg) = give (Ok tt)
