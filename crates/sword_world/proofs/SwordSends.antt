-- The game sends at most one message in each job, and schedules and cancels no task.
use Rattle.std.proofs.Common.{ℕ, Option, Some, None, List, [], ◌∷◌, arith}
use Rattle.std.specs.FinMap as maps
use Rattle.dk_types.specs.declared.number.ConnNo.{ConnNo}
use Rattle.dk_types.specs.declared.number.ObjectId.{ObjectId}
use Rattle.dk_types.specs.declared.job.Job.TheVariants as job
use Rattle.dk_model.specs.Runs.{TOO_LONG}
use Rattle.dk_model.specs.Records.{is_name_too_long}
use Rattle.dk_model.specs.Sendings.{SendsAtMost, SendsOneAtMost}
use Rattle.dk_model.proofs.Sendings.{sends_more, either_sends, each_few, few_sends, then_sends, give_sends, refuse_sends, create_sends, bound_sends, bind_sends, get_as_sends, get_for_update_as_sends, save_as_sends, send_sends}
use Rattle.sword_world.specs.declared.command.Command.{Command}
use Rattle.sword_world.specs.declared.command.Command.TheVariants as command
use Rattle.sword_world.specs.declared.scene.Scene.{Scene}
use Rattle.sword_world.specs.Things.{ROOM, THING, PLAYER, room_of, thing_of, player_of}
use Rattle.sword_world.specs.Labels.{labels_from, labels}
use Rattle.sword_world.specs.Rules.{room_name, player_name, furnish, initialize, new_player, player_found, known_player, room_there, room_to_change, enter, log_in, login, player_under, player_there, scene, last_scene, hold, lay, thing_at, look, pick_up, take_from, take, put_down, drop_what, drop, obey, answer, answer_if, command_of, message, let_go, leave, disconnect, sword_rules}

-- labels are read and nothing sent
labels_from_sends : {A : Type 0} (kind : ℕ) (read : List ℕ → Option A) (label : A → List ℕ) (so_far : List (List ℕ)) (ids : List ObjectId) → SendsAtMost 0 (labels_from kind read label so_far ids)
labels_from_sends kind read label so_far [] = give_sends _
labels_from_sends kind read label so_far (id ∷ ids) = then_sends (get_as_sends kind read id) (λ x. labels_from_sends kind read label _ ids)

-- so for a whole list
labels_sends : {A : Type 0} (kind : ℕ) (read : List ℕ → Option A) (label : A → List ℕ) (ids : List ObjectId) → SendsAtMost 0 (labels kind read label ids)
unfolding labels
labels_sends kind read label ids = labels_from_sends kind read label [] ids

-- the room is made and nothing sent
furnish_sends : (sword : ObjectId) → SendsAtMost 0 (furnish sword)
unfolding furnish
furnish_sends sword = then_sends (create_sends _ _) (λ room. bind_sends _ room)

-- so for the whole first run
initialize_sends : SendsAtMost 0 initialize
unfolding initialize
initialize_sends = then_sends (create_sends _ _) furnish_sends

-- a player is made and nothing sent
new_player_sends : (name : List ℕ) → SendsAtMost 0 (new_player name)
unfolding new_player
new_player_sends name = then_sends (create_sends _ _) (λ id. then_sends (bind_sends _ id) (λ _. give_sends _))

-- whether or not the player is there
player_found_sends : (o : Option ObjectId) (name : List ℕ) → SendsAtMost 0 (player_found o name)
player_found_sends None name = new_player_sends name
player_found_sends (Some id) name = give_sends _

-- whoever the player is
known_player_sends : (name : List ℕ) → SendsAtMost 0 (known_player name)
unfolding known_player
known_player_sends name = each_few (λ s. few_sends s (player_found_sends (maps.get s.world.names (player_name name)) name))

-- the room is read and nothing sent
room_there_sends : SendsAtMost 0 room_there
unfolding room_there
room_there_sends = then_sends (bound_sends room_name) (λ id. then_sends (get_as_sends ROOM room_of id) (λ room. give_sends _))

-- also for a change
room_to_change_sends : SendsAtMost 0 room_to_change
unfolding room_to_change
room_to_change_sends = then_sends (bound_sends room_name) (λ id. then_sends (get_for_update_as_sends ROOM room_of id) (λ room. give_sends _))

-- nothing is sent as a player enters
enter_sends : (player : ObjectId) → SendsAtMost 0 (enter player)
unfolding enter
enter_sends player = then_sends room_to_change_sends (λ place. save_as_sends ROOM place.0 _)

-- the game's part of a login sends nothing
login_sends : (name : List ℕ) → SendsAtMost 0 (login name)
unfolding login log_in
login_sends name = either_sends (is_name_too_long (player_name name)) (refuse_sends TOO_LONG) (then_sends (known_player_sends name) enter_sends)

-- the player is read and nothing sent
player_there_sends : (name : List ℕ) → SendsAtMost 0 (player_there name)
unfolding player_there player_under
player_there_sends name =
    either_sends (is_name_too_long (player_name name)) (refuse_sends TOO_LONG)
    (then_sends (bound_sends (player_name name)) (λ id. then_sends (get_as_sends PLAYER player_of id) (λ player. give_sends _)))

-- so is what a command finds
scene_sends : (name : List ℕ) → SendsAtMost 0 (scene name)
unfolding scene
scene_sends name = then_sends (player_there_sends name) (λ me. then_sends room_there_sends (λ place. give_sends _))

-- and what the end of a session finds
last_scene_sends : (name : List ℕ) → SendsAtMost 0 (last_scene name)
unfolding last_scene
last_scene_sends name = then_sends (player_there_sends name) (λ me. then_sends room_to_change_sends (λ place. give_sends _))

-- nothing is sent as what is carried changes
hold_sends : (scene : Scene) (carried : Option ObjectId) → SendsAtMost 0 (hold scene carried)
hold_sends scene carried = save_as_sends PLAYER scene.me _

-- nor as what lies in the room does
lay_sends : (scene : Scene) (items : List ObjectId) → SendsAtMost 0 (lay scene items)
lay_sends scene items = save_as_sends ROOM scene.place _

-- nor as a thing is read
thing_sends : (item : ObjectId) → SendsAtMost 0 (thing_at item)
thing_sends item = get_as_sends THING thing_of item

-- nor as the room is looked at
look_sends : (scene : Scene) → SendsAtMost 0 (look scene)
unfolding look
look_sends scene = then_sends (labels_sends PLAYER player_of _ _) (λ names. then_sends (labels_sends THING thing_of _ _) (λ things. give_sends _))

-- nor as a thing is taken
pick_up_sends : (scene : Scene) (item : ObjectId) (left : List ObjectId) → SendsAtMost 0 (pick_up scene item left)
unfolding pick_up
pick_up_sends scene item left = then_sends (thing_sends item) (λ thing. then_sends (lay_sends scene left) (λ _. then_sends (hold_sends scene (Some item)) (λ _. give_sends _)))

-- whether or not there is one to take
take_from_sends : (scene : Scene) (carried : Option ObjectId) (items : List ObjectId) → SendsAtMost 0 (take_from scene carried items)
take_from_sends scene (Some item) items = then_sends (thing_sends item) (λ thing. give_sends _)
take_from_sends scene None [] = give_sends _
take_from_sends scene None (item ∷ left) = pick_up_sends scene item left

-- nor as a thing is dropped
put_down_sends : (scene : Scene) (item : ObjectId) → SendsAtMost 0 (put_down scene item)
unfolding put_down
put_down_sends scene item = then_sends (thing_sends item) (λ thing. then_sends (lay_sends scene _) (λ _. then_sends (hold_sends scene None) (λ _. give_sends _)))

-- whether or not there is one to drop
drop_what_sends : (scene : Scene) (carried : Option ObjectId) → SendsAtMost 0 (drop_what scene carried)
drop_what_sends scene None = give_sends _
drop_what_sends scene (Some item) = put_down_sends scene item

-- whichever the command is
obey_sends : (c : Command) (scene : Scene) → SendsAtMost 0 (obey c scene)
unfolding take drop
obey_sends command.Look scene = look_sends scene
obey_sends command.Take scene = take_from_sends scene scene.player.carried scene.room.items
obey_sends command.Drop scene = drop_what_sends scene scene.player.carried

-- a command is answered by one message
answer_sends : (conn : ConnNo) (name : List ℕ) (c : Command) → SendsAtMost 1 (answer conn name c)
unfolding answer
answer_sends conn name c = then_sends (scene_sends name) (λ scene. then_sends (obey_sends c scene) (λ text. send_sends conn _))

-- and what is none by no message
answer_if_sends : (conn : ConnNo) (name : List ℕ) (c : Option Command) → SendsAtMost 1 (answer_if conn name c)
answer_if_sends conn name None = sends_more 1 (omega arith) (give_sends _)
answer_if_sends conn name (Some command) = answer_sends conn name command

-- so a message is answered by one at most
message_sends : (conn : ConnNo) (name body : List ℕ) → SendsAtMost 1 (message conn name body)
unfolding message
message_sends conn name body = answer_if_sends conn name (command_of body)

-- nothing is sent as what was carried is let go
let_go_sends : (scene : Scene) (carried : Option ObjectId) → SendsAtMost 0 (let_go scene carried)
let_go_sends scene None = give_sends _
let_go_sends scene (Some item) = hold_sends scene None

-- nor as a session ends
disconnect_sends : (name : List ℕ) → SendsAtMost 0 (disconnect name)
unfolding disconnect leave
disconnect_sends name = then_sends (last_scene_sends name) (λ scene. then_sends (save_as_sends ROOM scene.place _) (λ _. let_go_sends scene scene.player.carried))

-- a command is answered by one message, and no other job of the game sends any
pub sword-is_terse : SendsOneAtMost sword_rules
sword-is_terse job.Initialize = sends_more 1 (omega arith) initialize_sends
sword-is_terse (job.Login conn name) = sends_more 1 (omega arith) (login_sends name)
sword-is_terse (job.Message conn name body) = message_sends conn name body
sword-is_terse (job.Channel conn name channel body) = sends_more 1 (omega arith) (give_sends _)
sword-is_terse (job.Disconnect conn name graceful) = sends_more 1 (omega arith) (disconnect_sends name)
sword-is_terse (job.Task key due period kind arg) = sends_more 1 (omega arith) (give_sends _)
