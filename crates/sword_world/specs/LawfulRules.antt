-- SwordWorld's rules are lawful: each part of them, in their shape. The impl of `Rules` names the last lemma, so it stands here.
use Rattle.std.proofs.Common.{◌≡◌, ℕ, false, Option, Some, None, List, [], ◌∷◌, ◌++◌, codes, refl, lit<}
use Rattle.std.specs.FinMap as maps
use Rattle.dk_types.specs.declared.number.ConnNo.{ConnNo}
use Rattle.dk_types.specs.declared.number.ObjectId.{ObjectId}
use Rattle.dk_types.specs.declared.job.Job.{Job}
use Rattle.dk_types.specs.declared.job.Job.TheVariants as job
use Rattle.dk_types.specs.declared.job.Out.TheVariants as out
use Rattle.dk_types.specs.Names.{IsName}
use Rattle.dk_types.specs.Fields.{u8_spelling, name_spelling, id_spelling}
use Rattle.dk_types.specs.Lists.{list_spelling}
use Rattle.dk_model.specs.Runs.{TOO_LONG}
use Rattle.dk_model.specs.Records.{is_name_too_long}
use Rattle.dk_model.specs.Lawful.{IsForGame, AreLawful}
use Rattle.dk_model.proofs.Acts.{Anything, AreBytes, IsLawful, lawful_rules, lawful_then, lawful_give, lawful_done, lawful_refuse, lawful_if, lawful_looks}
use Rattle.dk_model.proofs.Operations.{lawful_create, lawful_bound, lawful_bind, lawful_send}
use Rattle.dk_model.proofs.ReferenceActs.{lawful_get_as, lawful_get_for_update_as, lawful_save_as}
use Rattle.dk_model.proofs.PlatformActs.{IsSomeId, bound_says}
use Rattle.dk_model.proofs.Readings.{yields_exact, value_fits}
use Rattle.dk_model.proofs.Bytes.{bytes_append, bytes_nil, bytes_cons, bytes_of_id, bytes_of_list, bytes_of_name, name_of_ascii, name_after}
use Rattle.sword_world.specs.declared.command.Command.{Command}
use Rattle.sword_world.specs.declared.command.Command.TheVariants as command
use Rattle.sword_world.specs.declared.scene.Scene.{Scene}
use Rattle.sword_world.specs.declared.things.Room.{Room}
use Rattle.sword_world.specs.declared.things.Player.{Player}
use Rattle.sword_world.specs.Things.{ROOM, THING, PLAYER, room_bytes, room_of, thing_bytes, thing_of, carried_bytes, player_bytes, player_of, next_player}
use Rattle.sword_world.specs.ThingLaws.{IsPlayer, each_player_exact}
use Rattle.sword_world.specs.Texts.{look_text, already_text, bare_text, take_text, empty_text, drop_text}
use Rattle.sword_world.specs.Labels.{labels_from, labels}
use Rattle.sword_world.specs.Rules as does
use Rattle.sword_world.specs.Rules.{the_sword, room_name, player_name, player_found, hold, lay, thing_at, others, take_from, drop_what, obey, answer_if, command_of, room_left, let_go, sword_rules}

bytes_of_ids : (ids : List ObjectId) → AreBytes (list_spelling id_spelling ids)
bytes_of_ids ids = bytes_of_list id_spelling ids (λ k d lt. bytes_of_id _)

bytes_of_room : (room : Room) → AreBytes (room_bytes room)
bytes_of_room room = bytes_append (list_spelling id_spelling room.players) (list_spelling id_spelling room.items) (bytes_of_ids room.players) (bytes_of_ids room.items)

bytes_of_sword : AreBytes (thing_bytes the_sword)
bytes_of_sword = bytes_of_name (codes "a shiny sword") (name_of_ascii (codes "a shiny sword") refl refl refl)

bytes_of_carried : (carried : Option ObjectId) → AreBytes (carried_bytes carried)
unfolding u8_spelling
bytes_of_carried None = bytes_cons 0 [] (lit< tt) bytes_nil
bytes_of_carried (Some id) = bytes_append (u8_spelling 1) (id_spelling id) (bytes_cons 1 [] (lit< tt) bytes_nil) (bytes_of_id id)

bytes_of_player : (player : Player) → IsName player.name → AreBytes (player_bytes player)
bytes_of_player player is = bytes_append (name_spelling player.name) (carried_bytes player.carried) (bytes_of_name player.name is) (bytes_of_carried player.carried)

room_named : IsName room_name
room_named = name_of_ascii room_name refl refl refl

-- a name of a player is a name, where it is not too long
abbrev Named : List ℕ → Type 0
Named name = IsName name × (is_name_too_long (player_name name) ≡ false)

-- a player that is read from bytes has a name
player_fits : (bytes : List ℕ) (player : Player) → AreBytes bytes → player_of bytes ≡ Some player → IsPlayer player
unfolding player_of
player_fits bytes player each e = value_fits IsPlayer next_player (yields_exact IsPlayer player_bytes next_player (each_player_exact None)) bytes player each e

lawful_furnish : {Needs : Type 0} (sword : ObjectId) → IsLawful Needs Anything (does.furnish sword)
unfolding does.furnish
lawful_furnish sword =
    lawful_then (lawful_create ROOM (room_bytes (record { players = []; items = sword ∷ [] })) (λ _. (lit< tt, bytes_of_room (record { players = []; items = sword ∷ [] }))))
    (λ room. lawful_bind room_name room (λ n. (room_named, n.1)))

lawful_initialize : {Needs : Type 0} → IsLawful Needs Anything does.initialize
unfolding does.initialize
lawful_initialize = lawful_then (lawful_create THING (thing_bytes the_sword) (λ _. (lit< tt, bytes_of_sword))) (λ sword. lawful_furnish sword)

lawful_new_player : {Needs : Type 0} (name : List ℕ) → (Needs → Named name) → IsLawful Needs Anything (does.new_player name)
unfolding does.new_player
lawful_new_player name why =
    lawful_then (lawful_create PLAYER (player_bytes (record { name = name; carried = None })) (λ n. (lit< tt, bytes_of_player (record { name = name; carried = None }) (why n).0)))
    (λ id. lawful_then (lawful_bind (player_name name) id (λ n. (name_after (codes "Player.") name refl (why n.0).0 (why n.0).1, n.1))) (λ _. lawful_done id))

lawful_player_found : {Needs : Type 0} (o : Option ObjectId) (name : List ℕ) → (Needs → Named name) → IsLawful Needs Anything (player_found o name)
lawful_player_found None name why = lawful_new_player name why
lawful_player_found (Some id) name why = lawful_done id

lawful_known_player : {Needs : Type 0} (name : List ℕ) → (Needs → Named name) → IsLawful Needs Anything (does.known_player name)
unfolding does.known_player
lawful_known_player name why =
    lawful_looks (λ s. maps.get s.world.names (player_name name)) (λ o. player_found o name) IsSomeId (λ s f. bound_says s (player_name name) f) (λ o. lawful_player_found o name (λ n. why n.0))

lawful_room_there : {Needs : Type 0} → IsLawful Needs Anything does.room_there
unfolding does.room_there
lawful_room_there = lawful_then (lawful_bound room_name) (λ id. lawful_then (lawful_get_as {Has = Anything} ROOM room_of id (λ _ _ _ _. tt)) (λ room. lawful_done (id, room)))

lawful_room_to_change : {Needs : Type 0} → IsLawful Needs Anything does.room_to_change
unfolding does.room_to_change
lawful_room_to_change = lawful_then (lawful_bound room_name) (λ id. lawful_then (lawful_get_for_update_as {Has = Anything} ROOM room_of id (λ _ _ _ _. tt)) (λ room. lawful_done (id, room)))

lawful_enter : {Needs : Type 0} (player : ObjectId) → IsLawful Needs Anything (does.enter player)
unfolding does.enter
lawful_enter player = lawful_then lawful_room_to_change (λ place. lawful_save_as ROOM place.0 (room_bytes (record (place.1) { players = place.1.players ++ player ∷ [] })) (λ _. bytes_of_room (record (place.1) { players = place.1.players ++ player ∷ [] })))

lawful_login : {Needs : Type 0} (name : List ℕ) → (Needs → IsName name) → IsLawful Needs Anything (does.login name)
unfolding does.login does.log_in
lawful_login name named =
    lawful_if (is_name_too_long (player_name name)) (lawful_refuse TOO_LONG) (lawful_then (lawful_known_player name (λ n. (named n.0, n.1))) (λ player. lawful_enter player))

-- the player has a name
abbrev Played : ObjectId × Player → Type 0
Played me = IsPlayer me.1

lawful_player_there : {Needs : Type 0} (name : List ℕ) → IsLawful Needs Played (does.player_there name)
unfolding does.player_there does.player_under
lawful_player_there name =
    lawful_if (is_name_too_long (player_name name)) (lawful_refuse TOO_LONG)
    (lawful_then (lawful_bound (player_name name)) (λ id. lawful_then (lawful_get_as PLAYER player_of id player_fits) (λ player. lawful_give (id, player) (λ n. n.1))))

-- so has the player in a scene
abbrev Staged : Scene → Type 0
Staged scene = IsPlayer scene.player

lawful_scene : {Needs : Type 0} (name : List ℕ) → IsLawful Needs Staged (does.scene name)
unfolding does.scene
lawful_scene name = lawful_then (lawful_player_there name) (λ me. lawful_then lawful_room_there (λ place. lawful_give _ (λ n. n.0.1)))

lawful_last_scene : {Needs : Type 0} (name : List ℕ) → IsLawful Needs Staged (does.last_scene name)
unfolding does.last_scene
lawful_last_scene name = lawful_then (lawful_player_there name) (λ me. lawful_then lawful_room_to_change (λ place. lawful_give _ (λ n. n.0.1)))

lawful_hold : {Needs : Type 0} (scene : Scene) (carried : Option ObjectId) → (Needs → Staged scene) → IsLawful Needs Anything (hold scene carried)
lawful_hold scene carried why =
    lawful_save_as PLAYER scene.me (player_bytes (record (scene.player) { carried = carried })) (λ n. bytes_of_player (record (scene.player) { carried = carried }) (why n).name)

lawful_lay : {Needs : Type 0} (scene : Scene) (items : List ObjectId) → IsLawful Needs Anything (lay scene items)
lawful_lay scene items = lawful_save_as ROOM scene.place (room_bytes (record (scene.room) { items = items })) (λ _. bytes_of_room (record (scene.room) { items = items }))

lawful_thing : {Needs : Type 0} (item : ObjectId) → IsLawful Needs Anything (thing_at item)
lawful_thing item = lawful_get_as THING thing_of item (λ _ _ _ _. tt)

lawful_labels_from : {A Needs : Type 0} (kind : ℕ) (read : List ℕ → Option A) (label : A → List ℕ) (so_far : List (List ℕ)) (ids : List ObjectId) → IsLawful Needs Anything (labels_from kind read label so_far ids)
lawful_labels_from kind read label so_far [] = lawful_done so_far
lawful_labels_from kind read label so_far (id ∷ ids) = lawful_then (lawful_get_as {Has = Anything} kind read id (λ _ _ _ _. tt)) (λ x. lawful_labels_from kind read label (so_far ++ label x ∷ []) ids)

lawful_labels : {A Needs : Type 0} (kind : ℕ) (read : List ℕ → Option A) (label : A → List ℕ) (ids : List ObjectId) → IsLawful Needs Anything (labels kind read label ids)
unfolding labels
lawful_labels kind read label ids = lawful_labels_from kind read label [] ids

lawful_look : {Needs : Type 0} (scene : Scene) → IsLawful Needs Anything (does.look scene)
unfolding does.look
lawful_look scene =
    lawful_then (lawful_labels PLAYER player_of (λ p. p.name) (others scene.me scene.room.players))
    (λ names. lawful_then (lawful_labels THING thing_of (λ t. t.description) scene.room.items) (λ things. lawful_done (look_text names things)))

lawful_pick_up : {Needs : Type 0} (scene : Scene) (item : ObjectId) (left : List ObjectId) → (Needs → Staged scene) → IsLawful Needs Anything (does.pick_up scene item left)
unfolding does.pick_up
lawful_pick_up scene item left why =
    lawful_then (lawful_thing item) (λ thing. lawful_then (lawful_lay scene left) (λ _. lawful_then (lawful_hold scene (Some item) (λ n. why n.0.0)) (λ _. lawful_done (take_text thing.description))))

lawful_take_from : {Needs : Type 0} (scene : Scene) (carried : Option ObjectId) (items : List ObjectId) → (Needs → Staged scene) → IsLawful Needs Anything (take_from scene carried items)
lawful_take_from scene (Some item) items why = lawful_then (lawful_thing item) (λ thing. lawful_done (already_text thing.description))
lawful_take_from scene None [] why = lawful_done bare_text
lawful_take_from scene None (item ∷ left) why = lawful_pick_up scene item left why

lawful_put_down : {Needs : Type 0} (scene : Scene) (item : ObjectId) → (Needs → Staged scene) → IsLawful Needs Anything (does.put_down scene item)
unfolding does.put_down
lawful_put_down scene item why =
    lawful_then (lawful_thing item) (λ thing. lawful_then (lawful_lay scene (scene.room.items ++ item ∷ [])) (λ _. lawful_then (lawful_hold scene None (λ n. why n.0.0)) (λ _. lawful_done (drop_text thing.description))))

lawful_drop_what : {Needs : Type 0} (scene : Scene) (carried : Option ObjectId) → (Needs → Staged scene) → IsLawful Needs Anything (drop_what scene carried)
lawful_drop_what scene None why = lawful_done empty_text
lawful_drop_what scene (Some item) why = lawful_put_down scene item why

lawful_obey : {Needs : Type 0} (c : Command) (scene : Scene) → (Needs → Staged scene) → IsLawful Needs Anything (obey c scene)
unfolding does.take does.drop
lawful_obey command.Look scene why = lawful_look scene
lawful_obey command.Take scene why = lawful_take_from scene scene.player.carried scene.room.items why
lawful_obey command.Drop scene why = lawful_drop_what scene scene.player.carried why

lawful_answer : {Needs : Type 0} (conn : ConnNo) (name : List ℕ) (c : Command) → IsLawful Needs Anything (does.answer conn name c)
unfolding does.answer
lawful_answer conn name c = lawful_then (lawful_scene name) (λ scene. lawful_then (lawful_obey c scene (λ n. n.1)) (λ text. lawful_send conn (out.Message text)))

lawful_answer_if : {Needs : Type 0} (conn : ConnNo) (name : List ℕ) (c : Option Command) → IsLawful Needs Anything (answer_if conn name c)
lawful_answer_if conn name None = lawful_done tt
lawful_answer_if conn name (Some command) = lawful_answer conn name command

lawful_message : {Needs : Type 0} (conn : ConnNo) (name body : List ℕ) → IsLawful Needs Anything (does.message conn name body)
unfolding does.message
lawful_message conn name body = lawful_answer_if conn name (command_of body)

lawful_let_go : {Needs : Type 0} (scene : Scene) (carried : Option ObjectId) → (Needs → Staged scene) → IsLawful Needs Anything (let_go scene carried)
lawful_let_go scene None why = lawful_done tt
lawful_let_go scene (Some item) why = lawful_hold scene None why

lawful_leave : {Needs : Type 0} (scene : Scene) → (Needs → Staged scene) → IsLawful Needs Anything (does.leave scene)
unfolding does.leave
lawful_leave scene why = lawful_then (lawful_save_as ROOM scene.place (room_bytes (room_left scene.me scene.player scene.room)) (λ _. bytes_of_room (room_left scene.me scene.player scene.room))) (λ _. lawful_let_go scene scene.player.carried (λ n. why n.0))

lawful_disconnect : {Needs : Type 0} (name : List ℕ) → IsLawful Needs Anything (does.disconnect name)
unfolding does.disconnect
lawful_disconnect name = lawful_then (lawful_last_scene name) (λ scene. lawful_leave scene (λ n. n.1))

lawful_job : (j : Job) → IsLawful (IsForGame j) Anything (sword_rules j)
lawful_job job.Initialize = lawful_initialize
lawful_job (job.Login conn name) = lawful_login name (λ n. n)
lawful_job (job.Message conn name body) = lawful_message conn name body
lawful_job (job.Channel conn name channel body) = lawful_done tt
lawful_job (job.Disconnect conn name graceful) = lawful_disconnect name
lawful_job (job.Task key due period kind arg) = lawful_done tt

-- SwordWorld's rules are lawful
pub sword_lawful : AreLawful sword_rules
sword_lawful = lawful_rules lawful_job
