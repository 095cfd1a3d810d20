-- The runs of SwordWorld.
use Rattle.std.proofs.Common.{◌≡◌, true, Ok, Some, None, [], ◌∷◌, codes, refl, ap, ◌∙◌}
use Rattle.std.specs.FinMap.{empty, insert, remove, from_entries}
use Rattle.std.specs.Str.{is_utf8, chars}
use Rattle.std.specs.Str.Lossy.{utf8_valid_len}
use lib.Utf8.{encode}
use Rattle.dk_types.specs.declared.job.Job.TheVariants as job
use Rattle.dk_types.specs.declared.job.Out.TheVariants as out
use Rattle.dk_types.specs.declared.item.Item.TheVariants as ask
use Rattle.dk_types.specs.Fields.{u8_spelling, u16_spelling, u64_spelling, u32_spelling, name_spelling, id_spelling, blob_spelling}
use Rattle.dk_types.specs.Payload.{next_u8, next_u32, next_name, next_id, next_end}
use Rattle.dk_types.specs.Reading.{u8_at, u32_at, name_at, id_at, end_at}
use Rattle.dk_types.specs.Lists.{list_spelling, items_at, list_at}
use Rattle.dk_types.specs.declared.mode.Mode.TheVariants.{Game}
use Rattle.dk_model.specs.DurableWorlds.{DurableWorld}
use Rattle.dk_model.specs.Runs.{Run, begun, give, and_then, carry_on, within, get, create, mark, save, remove as remove_object, bound, bind, unbind, send}
use Rattle.dk_model.specs.References.{get_as, get_for_update_as, save_as}
use Rattle.dk_model.specs.Steps.{of_session, displace_recorded, admit, game_part, work}
use Rattle.dk_model.specs.Platforms.{is_connected, find_session, open_record, new_record, close_record}
use Rattle.sword_world.specs.Things.{room_of, next_room, thing_of, next_thing, player_of, next_player, next_carried}
use Rattle.sword_world.specs.Labels.{labels}
use Rattle.sword_world.specs.Rules.{sword_rules, furnish, initialize, new_player, known_player, room_there, room_to_change, enter, log_in, login, player_under, player_there, scene, last_scene, look, pick_up, take, put_down, drop, answer, message, leave, disconnect}
use Rattle.dk_examples.specs.Worked.{run, conn, id, listed, nothing}
use Rattle.dk_examples.specs.SessionRows.{alice, alice_record, session_object}
use Rattle.sword_examples.specs.SwordRows.{SwordBegins, SwordLogin, SwordLook, SwordLookInOtherLetters, SwordDance, SwordLookAround, SwordTake, SwordTakeAgain, SwordDrop, SwordDropNothing, SwordLeave, SwordLoginAgain, DisplacingLength, SwordLengths, room, sword_object, room_object, alice_player, bob_player, alice_is, furnished, alice_entered, both_entered, sight, bare_object, alice_armed, taken, alice_left, alice_once, alice_twice}
use Rattle.dk_examples.proofs.SessionRuns.{session_read}
use Rattle.dk_examples.proofs.Running.{runs_ok, looks, puts, at_end}

pub sword_begins : SwordBegins
unfolding within and_then give create bind initialize furnish u64_spelling u32_spelling list_spelling name_spelling id_spelling
sword_begins = runs_ok sword_rules job.Initialize (run 0) 0 nothing furnished 0 None
    (at_end (record (listed nothing 1 (Some (run 0))) { objects = insert (insert empty (id 0 0) sword_object) (id 0 1) (room_object 0 []); names = insert empty room (id 0 1) })
    (ask.Object (id 0 0) ∷ ask.Object (id 0 1) ∷ ask.Bound room ∷ []) [] (run 0) 0 2 0)
    record { objects = refl; names = refl; tasks = refl } refl
    record { objects = simp puts; names = simp puts; tasks = simp puts; sorted = record { objects = refl; names = refl; tasks = refl } } refl

empty_room : room_of (room_object 0 []).bytes ≡ Some (record { players = []; items = id 0 0 ∷ [] })
unfolding room_of next_room list_at items_at list_spelling next_u32 u32_at next_id id_at next_end end_at
empty_room = refl

room_of_one : room_of (room_object 1 (id 2 1 ∷ [])).bytes ≡ Some (record { players = id 2 1 ∷ []; items = id 0 0 ∷ [] })
unfolding room_of next_room list_at items_at list_spelling next_u32 u32_at next_id id_at next_end end_at
room_of_one = refl

room_of_two : room_of (room_object 2 (id 3 1 ∷ id 4 1 ∷ [])).bytes ≡ Some (record { players = id 3 1 ∷ id 4 1 ∷ []; items = id 0 0 ∷ [] })
unfolding room_of next_room list_at items_at list_spelling next_u32 u32_at next_id id_at next_end end_at
room_of_two = refl

a_sword : thing_of sword_object.bytes ≡ Some (record { description = codes "a shiny sword" })
unfolding thing_of next_thing next_name name_at u8_at next_end end_at utf8_valid_len is_utf8 chars encode
a_sword = refl

a_player : player_of alice_player.bytes ≡ Some (record { name = alice; carried = None })
unfolding player_of next_player next_carried next_u8 u8_at next_name name_at next_end end_at utf8_valid_len is_utf8 chars encode
a_player = refl

bob_plays : player_of bob_player.bytes ≡ Some (record { name = codes "bob"; carried = None })
unfolding player_of next_player next_carried next_u8 u8_at next_name name_at next_end end_at utf8_valid_len is_utf8 chars encode
bob_plays = refl

pub sword_login : SwordLogin
unfolding within and_then give get get_as get_for_update_as mark save_as create save bound bind send open_record new_record login log_in known_player new_player room_to_change enter u8_spelling u64_spelling u32_spelling list_spelling name_spelling id_spelling
sword_login = runs_ok sword_rules (job.Login (conn 1) alice) (run 2) 0 furnished alice_entered 1 (Some (run 0))
    (at_end
    (record (listed furnished 2 (Some (run 2))) {
      objects = insert (insert (insert (insert (from_entries furnished.objects) (id 2 0) (session_object 1)) (id 2 1) alice_player) (id 0 1) (room_object 0 [])) (id 0 1) (room_object 1 (id 2 1 ∷ []));
      names = insert (insert (from_entries furnished.names) alice_record (id 2 0)) alice_is (id 2 1);
    })
    (ask.Object (id 2 0) ∷ ask.Bound alice_record ∷ ask.Object (id 2 1) ∷ ask.Bound alice_is ∷ ask.Object (id 0 1) ∷ ask.Object (id 0 1) ∷ []) ((conn 1, out.Accepted) ∷ []) (run 2) 0 2 0)
    record { objects = refl; names = refl; tasks = refl } (simp (looks, empty_room))
    record { objects = simp puts; names = simp puts; tasks = simp puts; sorted = record { objects = refl; names = refl; tasks = refl } } refl

pub sword_look : SwordLook
unfolding within and_then give get get_as bound send is_connected message answer scene player_there player_under room_there look labels
sword_look = runs_ok sword_rules (job.Message (conn 1) alice (codes "look")) (run 3) 0 alice_entered alice_entered 2 (Some (run 2))
    (at_end (listed alice_entered 3 (Some (run 3))) [] ((conn 1, out.Message sight) ∷ []) (run 3) 0 0 0)
    record { objects = refl; names = refl; tasks = refl } (simp (looks, session_read, a_player, room_of_one, a_sword))
    record { objects = simp puts; names = simp puts; tasks = simp puts; sorted = record { objects = refl; names = refl; tasks = refl } } refl

pub sword_look_in_other_letters : SwordLookInOtherLetters
unfolding within and_then give get get_as bound send is_connected message answer scene player_there player_under room_there look labels
sword_look_in_other_letters = runs_ok sword_rules (job.Message (conn 1) alice (codes "LooK")) (run 3) 0 alice_entered alice_entered 2 (Some (run 2))
    (at_end (listed alice_entered 3 (Some (run 3))) [] ((conn 1, out.Message sight) ∷ []) (run 3) 0 0 0)
    record { objects = refl; names = refl; tasks = refl } (simp (looks, session_read, a_player, room_of_one, a_sword))
    record { objects = simp puts; names = simp puts; tasks = simp puts; sorted = record { objects = refl; names = refl; tasks = refl } } refl

pub sword_dance : SwordDance
unfolding within and_then give get get_as is_connected message
sword_dance = runs_ok sword_rules (job.Message (conn 1) alice (codes "dance")) (run 4) 0 alice_entered alice_entered 3 (Some (run 3))
    (begun (run 4) 0 (listed alice_entered 3 (Some (run 3))))
    record { objects = refl; names = refl; tasks = refl } (simp (looks, session_read))
    record { objects = simp puts; names = simp puts; tasks = simp puts; sorted = record { objects = refl; names = refl; tasks = refl } } refl

pub sword_look_around : SwordLookAround
unfolding within and_then give get get_as bound send is_connected message answer scene player_there player_under room_there look labels
sword_look_around = runs_ok sword_rules (job.Message (conn 1) alice (codes "look")) (run 5) 0 both_entered both_entered 3 (Some (run 4))
    (at_end (listed both_entered 4 (Some (run 5))) [] ((conn 1, out.Message (codes "You are in a plain room.\nAlso in here: bob.\nOn the floor: a shiny sword.\n")) ∷ []) (run 5) 0 0 0)
    record { objects = refl; names = refl; tasks = refl } (simp (looks, session_read, a_player, bob_plays, room_of_two, a_sword))
    record { objects = simp puts; names = simp puts; tasks = simp puts; sorted = record { objects = refl; names = refl; tasks = refl } } refl

bare_room : room_of (bare_object 1 (id 2 1 ∷ [])).bytes ≡ Some (record { players = id 2 1 ∷ []; items = [] })
unfolding room_of next_room list_at items_at list_spelling next_u32 u32_at next_id id_at next_end end_at
bare_room = refl

armed : player_of alice_armed.bytes ≡ Some (record { name = alice; carried = Some (id 0 0) })
unfolding player_of next_player next_carried next_u8 u8_at next_id id_at next_name name_at next_end end_at utf8_valid_len is_utf8 chars encode
armed = refl

pub sword_take : SwordTake
unfolding within and_then give get get_as save_as save bound send is_connected message answer scene player_there player_under room_there take pick_up u8_spelling u64_spelling u32_spelling list_spelling name_spelling id_spelling
sword_take = runs_ok sword_rules (job.Message (conn 1) alice (codes "take")) (run 4) 0 alice_entered taken 2 (Some (run 2))
    (at_end (record (listed alice_entered 3 (Some (run 4))) { objects = insert (insert (from_entries alice_entered.objects) (id 0 1) (bare_object 1 (id 2 1 ∷ []))) (id 2 1) alice_armed })
    (ask.Object (id 0 1) ∷ ask.Object (id 2 1) ∷ []) ((conn 1, out.Message (codes "You take a shiny sword.")) ∷ []) (run 4) 0 0 0)
    record { objects = refl; names = refl; tasks = refl } (simp (looks, session_read, a_player, room_of_one, a_sword))
    record { objects = simp puts; names = simp puts; tasks = simp puts; sorted = record { objects = refl; names = refl; tasks = refl } } refl

pub sword_take_again : SwordTakeAgain
unfolding within and_then give get get_as bound send is_connected message answer scene player_there player_under room_there take
sword_take_again = runs_ok sword_rules (job.Message (conn 1) alice (codes "take")) (run 5) 0 taken taken 3 (Some (run 4))
    (at_end (listed taken 4 (Some (run 5))) [] ((conn 1, out.Message (codes "You already carry a shiny sword.")) ∷ []) (run 5) 0 0 0)
    record { objects = refl; names = refl; tasks = refl } (simp (looks, session_read, armed, bare_room, a_sword))
    record { objects = simp puts; names = simp puts; tasks = simp puts; sorted = record { objects = refl; names = refl; tasks = refl } } refl

pub sword_drop : SwordDrop
unfolding within and_then give get get_as save_as save bound send is_connected message answer scene player_there player_under room_there drop put_down u8_spelling u64_spelling u32_spelling list_spelling name_spelling id_spelling
sword_drop = runs_ok sword_rules (job.Message (conn 1) alice (codes "drop")) (run 5) 0 taken alice_entered 3 (Some (run 4))
    (at_end (record (listed taken 4 (Some (run 5))) { objects = insert (insert (from_entries taken.objects) (id 0 1) (room_object 1 (id 2 1 ∷ []))) (id 2 1) alice_player })
    (ask.Object (id 0 1) ∷ ask.Object (id 2 1) ∷ []) ((conn 1, out.Message (codes "You drop a shiny sword.")) ∷ []) (run 5) 0 0 0)
    record { objects = refl; names = refl; tasks = refl } (simp (looks, session_read, armed, bare_room, a_sword))
    record { objects = simp puts; names = simp puts; tasks = simp puts; sorted = record { objects = refl; names = refl; tasks = refl } } refl

pub sword_drop_nothing : SwordDropNothing
unfolding within and_then give get get_as bound send is_connected message answer scene player_there player_under room_there drop
sword_drop_nothing = runs_ok sword_rules (job.Message (conn 1) alice (codes "drop")) (run 3) 0 alice_entered alice_entered 2 (Some (run 2))
    (at_end (listed alice_entered 3 (Some (run 3))) [] ((conn 1, out.Message (codes "You carry nothing.")) ∷ []) (run 3) 0 0 0)
    record { objects = refl; names = refl; tasks = refl } (simp (looks, session_read, a_player, room_of_one))
    record { objects = simp puts; names = simp puts; tasks = simp puts; sorted = record { objects = refl; names = refl; tasks = refl } } refl

-- the room and the player as the game leaves them
left_world : DurableWorld
left_world = record (listed taken 4 (Some (run 5))) {
  objects = insert (insert (insert (from_entries taken.objects) (id 0 1) (bare_object 1 (id 2 1 ∷ []))) (id 0 1) (room_object 0 [])) (id 2 1) alice_player;
}

-- the game's part of the end
alice_leaves : disconnect alice (record (begun (run 5) 0 (listed taken 3 (Some (run 4)))) { mode = Game })
    ≡ (Ok tt, record (at_end left_world (ask.Object (id 0 1) ∷ ask.Object (id 0 1) ∷ ask.Object (id 2 1) ∷ []) [] (run 5) 0 0 0) { mode = Game })
unfolding left_world and_then give get get_as get_for_update_as mark save_as save bound disconnect last_scene player_there player_under room_to_change leave u8_spelling u64_spelling u32_spelling list_spelling name_spelling id_spelling
alice_leaves = simp (looks, armed, bare_room)

pub sword_leave : SwordLeave
unfolding left_world within and_then give get get_as is_connected unbind remove_object close_record
sword_leave = runs_ok sword_rules (job.Disconnect (conn 1) alice true) (run 5) 0 taken alice_left 3 (Some (run 4))
    (at_end (record left_world { objects = remove left_world.objects (id 2 0); names = remove (from_entries taken.names) alice_record })
    (ask.Object (id 0 1) ∷ ask.Object (id 0 1) ∷ ask.Object (id 2 1) ∷ ask.Bound alice_record ∷ ask.Object (id 2 0) ∷ []) [] (run 5) 0 0 0)
    record { objects = refl; names = refl; tasks = refl } (simp (looks, session_read, alice_leaves))
    record { objects = simp puts; names = simp puts; tasks = simp puts; sorted = record { objects = refl; names = refl; tasks = refl } } refl

room_of_alice : room_of (room_object 1 (id 3 1 ∷ [])).bytes ≡ Some (record { players = id 3 1 ∷ []; items = id 0 0 ∷ [] })
unfolding room_of next_room list_at items_at list_spelling next_u32 u32_at next_id id_at next_end end_at
room_of_alice = refl

-- the room as the game leaves it where alice is displaced
cleared_world : DurableWorld
cleared_world = record (listed alice_once 3 (Some (run 4))) {
  objects = insert (insert (from_entries alice_once.objects) (id 0 1) (room_object 1 (id 3 1 ∷ []))) (id 0 1) (room_object 0 []);
}

-- the game's part of that
alice_makes_room : disconnect alice (record (begun (run 4) 0 (listed alice_once 2 (Some (run 3)))) { mode = Game })
    ≡ (Ok tt, record (at_end cleared_world (ask.Object (id 0 1) ∷ ask.Object (id 0 1) ∷ []) [] (run 4) 0 0 0) { mode = Game })
unfolding cleared_world and_then give get get_as get_for_update_as mark save_as save bound disconnect last_scene player_there player_under room_to_change leave u8_spelling u64_spelling u32_spelling list_spelling name_spelling id_spelling
alice_makes_room = simp (looks, a_player, room_of_alice)

-- once she is displaced
displaced_end : Run
displaced_end = at_end (record cleared_world { objects = remove cleared_world.objects (id 3 0); names = remove (from_entries alice_once.names) alice_record })
    (ask.Object (id 0 1) ∷ ask.Object (id 0 1) ∷ ask.Bound alice_record ∷ ask.Object (id 3 0) ∷ []) ((conn 1, out.Close) ∷ []) (run 4) 0 0 0

alice_displaced : displace_recorded alice (game_part sword_rules) (begun (run 4) 0 (listed alice_once 2 (Some (run 3)))) ≡ (Ok tt, displaced_end)
unfolding cleared_world displaced_end within and_then give get get_as send find_session unbind remove_object close_record
alice_displaced = simp (looks, session_read, alice_makes_room)

-- and once she is in again
again_end : Run
again_end = at_end
    (record cleared_world {
      objects = insert (insert (insert (remove cleared_world.objects (id 3 0)) (id 4 0) (session_object 2)) (id 0 1) (room_object 0 [])) (id 0 1) (room_object 1 (id 3 1 ∷ []));
      names = insert (remove (from_entries alice_once.names) alice_record) alice_record (id 4 0);
    })
    (ask.Object (id 0 1) ∷ ask.Object (id 0 1) ∷ ask.Bound alice_record ∷ ask.Object (id 3 0) ∷ ask.Object (id 4 0) ∷ ask.Bound alice_record ∷ ask.Object (id 0 1) ∷ ask.Object (id 0 1) ∷ [])
    ((conn 1, out.Close) ∷ (conn 2, out.Accepted) ∷ []) (run 4) 0 1 0

alice_admitted : admit (of_session (conn 2) alice) (game_part sword_rules (job.Login (conn 2) alice)) displaced_end ≡ (Ok tt, again_end)
unfolding cleared_world displaced_end again_end within and_then give get get_as get_for_update_as mark save_as create save bound bind send open_record new_record login log_in known_player room_to_change enter u8_spelling u64_spelling u32_spelling list_spelling name_spelling id_spelling
alice_admitted = simp (looks, empty_room)

logged_in_again : work (game_part sword_rules) (job.Login (conn 2) alice) (begun (run 4) 0 (listed alice_once 2 (Some (run 3)))) ≡ (Ok tt, again_end)
unfolding and_then
logged_in_again = ap (λ p. carry_on p.0 (λ _. admit (of_session (conn 2) alice) (game_part sword_rules (job.Login (conn 2) alice))) p.1) alice_displaced ∙ alice_admitted

pub sword_login_again : SwordLoginAgain
unfolding cleared_world again_end
sword_login_again = runs_ok sword_rules (job.Login (conn 2) alice) (run 4) 0 alice_once alice_twice 2 (Some (run 3)) again_end
    record { objects = refl; names = refl; tasks = refl } logged_in_again
    record { objects = simp puts; names = simp puts; tasks = simp puts; sorted = record { objects = refl; names = refl; tasks = refl } } refl

pub displacing_length : DisplacingLength
unfolding u64_spelling u32_spelling list_spelling name_spelling id_spelling u8_spelling u16_spelling blob_spelling
displacing_length = refl

pub sword_lengths : SwordLengths
sword_lengths = (refl, refl, refl, refl)
