-- SwordWorld's rules keep the sessions: each part of them, in their shape.
use Rattle.std.specs.Prelude.{ℕ, Option, Some, None, List, [], ◌∷◌, ◌++◌, Ok}
use Rattle.std.specs.FinMap as maps
use Rattle.dk_types.specs.declared.number.ConnNo.{ConnNo}
use Rattle.dk_types.specs.declared.number.ObjectId.{ObjectId}
use Rattle.dk_types.specs.declared.job.Job.TheVariants as job
use Rattle.dk_types.specs.declared.job.Out.TheVariants as out
use Rattle.dk_types.specs.declared.mode.Mode.TheVariants.{Game}
use Rattle.dk_model.specs.Runs.{TOO_LONG}
use Rattle.dk_model.specs.Records.{is_name_too_long}
use Rattle.dk_session_laws.specs.Sessions.{Keeps, KeepSessions}
use Rattle.dk_session_laws.proofs.Keeps.{keeps_then, keeps_give, keeps_refuse, keeps_if, keeps_looks, keeps_create, keeps_bound, keeps_bind, keeps_send, keeps_get_as, keeps_get_for_update_as, keeps_save_as}
use Rattle.sword_world.specs.declared.command.Command.{Command}
use Rattle.sword_world.specs.declared.command.Command.TheVariants as command
use Rattle.sword_world.specs.declared.scene.Scene.{Scene}
use Rattle.sword_world.specs.Things.{ROOM, THING, PLAYER, room_bytes, room_of, thing_bytes, thing_of, player_bytes, player_of}
use Rattle.sword_world.specs.Texts.{look_text, already_text, bare_text, take_text, empty_text, drop_text}
use Rattle.sword_world.specs.Labels.{labels_from, labels}
use Rattle.sword_world.specs.Rules as does
use Rattle.sword_world.specs.Rules.{the_sword, room_name, player_name, player_found, hold, lay, thing_at, others, take_from, drop_what, obey, answer_if, command_of, room_left, let_go, sword_rules}

keeps_initialize : Keeps Game does.initialize
unfolding does.initialize does.furnish
keeps_initialize = keeps_then (keeps_create THING (thing_bytes the_sword)) (λ sword. keeps_then (keeps_create ROOM (room_bytes (record { players = []; items = sword ∷ [] }))) (λ room. keeps_bind room_name room))

keeps_new_player : (name : List ℕ) → Keeps Game (does.new_player name)
unfolding does.new_player
keeps_new_player name = keeps_then (keeps_create PLAYER (player_bytes (record { name = name; carried = None }))) (λ id. keeps_then (keeps_bind (player_name name) id) (λ _. keeps_give (Ok id)))

keeps_player_found : (o : Option ObjectId) (name : List ℕ) → Keeps Game (player_found o name)
keeps_player_found None name = keeps_new_player name
keeps_player_found (Some id) name = keeps_give (Ok id)

keeps_known_player : (name : List ℕ) → Keeps Game (does.known_player name)
unfolding does.known_player
keeps_known_player name = keeps_looks (λ s. maps.get s.world.names (player_name name)) (λ o. player_found o name) (λ o. keeps_player_found o name)

keeps_room_there : Keeps Game does.room_there
unfolding does.room_there
keeps_room_there = keeps_then (keeps_bound room_name) (λ id. keeps_then (keeps_get_as ROOM room_of id) (λ room. keeps_give (Ok (id, room))))

keeps_room_to_change : Keeps Game does.room_to_change
unfolding does.room_to_change
keeps_room_to_change = keeps_then (keeps_bound room_name) (λ id. keeps_then (keeps_get_for_update_as ROOM room_of id) (λ room. keeps_give (Ok (id, room))))

keeps_enter : (player : ObjectId) → Keeps Game (does.enter player)
unfolding does.enter
keeps_enter player = keeps_then keeps_room_to_change (λ place. keeps_save_as ROOM place.0 (room_bytes (record (place.1) { players = place.1.players ++ player ∷ [] })))

keeps_login : (name : List ℕ) → Keeps Game (does.login name)
unfolding does.login does.log_in
keeps_login name = keeps_if (is_name_too_long (player_name name)) (λ _. keeps_refuse TOO_LONG) (λ _. keeps_then (keeps_known_player name) (λ player. keeps_enter player))

keeps_player_there : (name : List ℕ) → Keeps Game (does.player_there name)
unfolding does.player_there does.player_under
keeps_player_there name =
    keeps_if (is_name_too_long (player_name name)) (λ _. keeps_refuse TOO_LONG)
    (λ _. keeps_then (keeps_bound (player_name name)) (λ id. keeps_then (keeps_get_as PLAYER player_of id) (λ player. keeps_give (Ok (id, player)))))

keeps_scene : (name : List ℕ) → Keeps Game (does.scene name)
unfolding does.scene
keeps_scene name = keeps_then (keeps_player_there name) (λ me. keeps_then keeps_room_there (λ place. keeps_give _))

keeps_last_scene : (name : List ℕ) → Keeps Game (does.last_scene name)
unfolding does.last_scene
keeps_last_scene name = keeps_then (keeps_player_there name) (λ me. keeps_then keeps_room_to_change (λ place. keeps_give _))

keeps_hold : (scene : Scene) (carried : Option ObjectId) → Keeps Game (hold scene carried)
keeps_hold scene carried = keeps_save_as PLAYER scene.me (player_bytes (record (scene.player) { carried = carried }))

keeps_lay : (scene : Scene) (items : List ObjectId) → Keeps Game (lay scene items)
keeps_lay scene items = keeps_save_as ROOM scene.place (room_bytes (record (scene.room) { items = items }))

keeps_thing : (item : ObjectId) → Keeps Game (thing_at item)
keeps_thing item = keeps_get_as THING thing_of item

keeps_labels_from : {A : Type 0} (kind : ℕ) (read : List ℕ → Option A) (label : A → List ℕ) (so_far : List (List ℕ)) (ids : List ObjectId) → Keeps Game (labels_from kind read label so_far ids)
keeps_labels_from kind read label so_far [] = keeps_give (Ok so_far)
keeps_labels_from kind read label so_far (id ∷ ids) = keeps_then (keeps_get_as kind read id) (λ x. keeps_labels_from kind read label (so_far ++ label x ∷ []) ids)

keeps_labels : {A : Type 0} (kind : ℕ) (read : List ℕ → Option A) (label : A → List ℕ) (ids : List ObjectId) → Keeps Game (labels kind read label ids)
unfolding labels
keeps_labels kind read label ids = keeps_labels_from kind read label [] ids

keeps_look : (scene : Scene) → Keeps Game (does.look scene)
unfolding does.look
keeps_look scene =
    keeps_then (keeps_labels PLAYER player_of (λ p. p.name) (others scene.me scene.room.players))
    (λ names. keeps_then (keeps_labels THING thing_of (λ t. t.description) scene.room.items) (λ things. keeps_give (Ok (look_text names things))))

keeps_pick_up : (scene : Scene) (item : ObjectId) (left : List ObjectId) → Keeps Game (does.pick_up scene item left)
unfolding does.pick_up
keeps_pick_up scene item left = keeps_then (keeps_thing item) (λ thing. keeps_then (keeps_lay scene left) (λ _. keeps_then (keeps_hold scene (Some item)) (λ _. keeps_give (Ok (take_text thing.description)))))

keeps_take_from : (scene : Scene) (carried : Option ObjectId) (items : List ObjectId) → Keeps Game (take_from scene carried items)
keeps_take_from scene (Some item) items = keeps_then (keeps_thing item) (λ thing. keeps_give (Ok (already_text thing.description)))
keeps_take_from scene None [] = keeps_give (Ok bare_text)
keeps_take_from scene None (item ∷ left) = keeps_pick_up scene item left

keeps_put_down : (scene : Scene) (item : ObjectId) → Keeps Game (does.put_down scene item)
unfolding does.put_down
keeps_put_down scene item =
    keeps_then (keeps_thing item) (λ thing. keeps_then (keeps_lay scene (scene.room.items ++ item ∷ [])) (λ _. keeps_then (keeps_hold scene None) (λ _. keeps_give (Ok (drop_text thing.description)))))

keeps_drop_what : (scene : Scene) (carried : Option ObjectId) → Keeps Game (drop_what scene carried)
keeps_drop_what scene None = keeps_give (Ok empty_text)
keeps_drop_what scene (Some item) = keeps_put_down scene item

keeps_obey : (c : Command) (scene : Scene) → Keeps Game (obey c scene)
unfolding does.take does.drop
keeps_obey command.Look scene = keeps_look scene
keeps_obey command.Take scene = keeps_take_from scene scene.player.carried scene.room.items
keeps_obey command.Drop scene = keeps_drop_what scene scene.player.carried

keeps_answer_if : (conn : ConnNo) (name : List ℕ) (c : Option Command) → Keeps Game (answer_if conn name c)
unfolding does.answer
keeps_answer_if conn name None = keeps_give (Ok tt)
keeps_answer_if conn name (Some command) = keeps_then (keeps_scene name) (λ scene. keeps_then (keeps_obey command scene) (λ text. keeps_send conn (out.Message text)))

keeps_message : (conn : ConnNo) (name body : List ℕ) → Keeps Game (does.message conn name body)
unfolding does.message
keeps_message conn name body = keeps_answer_if conn name (command_of body)

keeps_let_go : (scene : Scene) (carried : Option ObjectId) → Keeps Game (let_go scene carried)
keeps_let_go scene None = keeps_give (Ok tt)
keeps_let_go scene (Some item) = keeps_hold scene None

keeps_leave : (scene : Scene) → Keeps Game (does.leave scene)
unfolding does.leave
keeps_leave scene = keeps_then (keeps_save_as ROOM scene.place (room_bytes (room_left scene.me scene.player scene.room))) (λ _. keeps_let_go scene scene.player.carried)

keeps_disconnect : (name : List ℕ) → Keeps Game (does.disconnect name)
unfolding does.disconnect
keeps_disconnect name = keeps_then (keeps_last_scene name) (λ scene. keeps_leave scene)

-- the rules keep the sessions
pub sword_keeps : KeepSessions sword_rules
sword_keeps job.Initialize is = keeps_initialize
sword_keeps (job.Login conn name) is = keeps_login name
sword_keeps (job.Message conn name body) is = keeps_message conn name body
sword_keeps (job.Channel conn name channel body) is = keeps_give (Ok tt)
sword_keeps (job.Disconnect conn name graceful) is = keeps_disconnect name
sword_keeps (job.Task key due period kind arg) is = keeps_give (Ok tt)
