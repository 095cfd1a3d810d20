-- The runs of channels.
use Rattle.std.proofs.Common.{◌≡◌, ℕ, Bool, true, false, Some, None, List, [], ◌∷◌, ◌++◌, codes, Ok, refl}
use Rattle.std.specs.FinMap.{FinMap, empty, insert, remove, from_entries}
use Rattle.dk_types.specs.declared.fault.AppFault.TheVariants as fault
use Rattle.dk_types.specs.declared.job.Session.{Session}
use Rattle.dk_types.specs.declared.job.Job.TheVariants as job
use Rattle.dk_types.specs.declared.job.Out.TheVariants as out
use Rattle.dk_types.specs.declared.item.Item.{Item}
use Rattle.dk_types.specs.declared.item.Item.TheVariants as ask
use Rattle.std.specs.Str.{is_utf8, chars}
use Rattle.std.specs.Str.Lossy.{utf8_valid_len}
use lib.Utf8.{encode}
use Rattle.dk_types.specs.declared.object.Object.{Object}
use Rattle.dk_types.specs.Fields.{u8_spelling, u64_spelling, u32_spelling, name_spelling}
use Rattle.dk_types.specs.Payload.{next_u8, next_u32, next_u64, next_name, next_end}
use Rattle.dk_types.specs.Reading.{u8_at, u32_at, u64_at, name_at, end_at}
use Rattle.dk_model.specs.declared.records.ChannelRecord.{ChannelRecord}
use Rattle.dk_model.specs.declared.records.Delivery.TheVariants.{Reliable}
use Rattle.dk_types.specs.declared.mode.Mode.TheVariants.{Platform, Game}
use Rattle.dk_model.specs.Keys.{id_cmp}
use Rattle.dk_model.specs.Runs.{Run, begun, give, and_then, within, get, create, remove as remove_object, bind, unbind, send}
use Rattle.dk_model.specs.Records.{session_of, next_session, channel_of, next_channel, next_member}
use Rattle.dk_types.specs.Lists.{list_spelling, items_at, list_at}
use Rattle.dk_model.specs.References.{get_as}
use Rattle.dk_model.specs.Platforms.{is_connected, open_record, new_record, close_record, create_channel, new_channel, join, leave, channel_send}
use Rattle.dk_examples.specs.Worked.{run, conn, id, object, in_eight, in_four, listed, nothing}
use Rattle.dk_examples.specs.SessionRows.{alice, alice_record, session_object}
use Rattle.dk_examples.specs.ChannelGame.{channel_rules, foo, bar}
use Rattle.dk_examples.specs.ChannelRows.{ChannelsBegin, LoginJoins, UnheardGoesToAll, HeardGoesToTheGame, NoChannelIsNothing, JoinOfNoChannelFails, DisconnectLeaves, bob_alone, channel_names, bob, foo_record, bar_record, channel_object, alice_member, bob_member, joined_object, two_channels, one_member, two_members}
use Rattle.dk_examples.proofs.SessionRuns.{session_read}
use Rattle.dk_examples.proofs.Memberships.{joins, leaves}
use Rattle.dk_examples.proofs.Running.{runs_ok, runs_failed, looks, puts, at_end}

pub channels_begin : ChannelsBegin
unfolding within and_then give create bind create_channel new_channel u32_spelling list_spelling u8_spelling
channels_begin = runs_ok channel_rules job.Initialize (run 0) 0 nothing two_channels 0 None
    (at_end
    (record (listed nothing 1 (Some (run 0))) {
      objects = insert (insert empty (id 0 0) (channel_object 0 0 [])) (id 0 1) (channel_object 1 0 []);
      names = insert (insert empty foo_record (id 0 0)) bar_record (id 0 1);
    })
    (ask.Object (id 0 0) ∷ ask.Bound foo_record ∷ ask.Object (id 0 1) ∷ ask.Bound bar_record ∷ []) [] (run 0) 0 2 0)
    record { objects = refl; names = refl; tasks = refl } (simp looks)
    record { objects = simp puts; names = simp puts; tasks = simp puts; sorted = record { objects = refl; names = refl; tasks = refl } } refl

-- who is on a channel
abbrev members_are : List Session → Bool → ChannelRecord
members_are members listener = record { listener = listener; delivery = Reliable; members = members }

abbrev alice_session : Session
alice_session = record { name = alice; conn = conn 1 }

abbrev bob_session : Session
bob_session = record { name = bob; conn = conn 2 }

-- the record of a session on one channel
one_object : ℕ → List ℕ → Object
one_object number channel = object 0xFF01 (in_eight number ++ in_four 1 ++ (3 ∷ channel))

foo_empty : channel_of (channel_object 0 0 []).bytes ≡ Some (members_are [] false)
unfolding channel_of next_channel next_u8 u8_at list_at items_at list_spelling next_u32 u32_at next_end end_at
foo_empty = refl

bar_empty : channel_of (channel_object 1 0 []).bytes ≡ Some (members_are [] true)
unfolding channel_of next_channel next_u8 u8_at list_at items_at list_spelling next_u32 u32_at next_end end_at
bar_empty = refl

foo_two : channel_of (channel_object 0 2 (alice_member ++ bob_member)).bytes ≡ Some (members_are (alice_session ∷ bob_session ∷ []) false)
unfolding channel_of next_channel next_u8 u8_at list_at items_at list_spelling next_u32 u32_at next_end end_at next_member next_name name_at next_u64 u64_at utf8_valid_len is_utf8 chars encode
foo_two = refl

bar_two : channel_of (channel_object 1 2 (alice_member ++ bob_member)).bytes ≡ Some (members_are (alice_session ∷ bob_session ∷ []) true)
unfolding channel_of next_channel next_u8 u8_at list_at items_at list_spelling next_u32 u32_at next_end end_at next_member next_name name_at next_u64 u64_at utf8_valid_len is_utf8 chars encode
bar_two = refl

-- and which channels a session is on
alice_on_both : session_of (joined_object 1).bytes ≡ Some (record { conn = conn 1; channels = foo ∷ bar ∷ [] })
unfolding session_of next_session u8_at list_at items_at list_spelling next_u32 u32_at next_end end_at next_name name_at next_u64 u64_at utf8_valid_len is_utf8 chars encode
alice_on_both = refl

alice_on_foo : session_of (one_object 1 foo).bytes ≡ Some (record { conn = conn 1; channels = foo ∷ [] })
unfolding session_of next_session u8_at list_at items_at list_spelling next_u32 u32_at next_end end_at next_name name_at next_u64 u64_at utf8_valid_len is_utf8 chars encode one_object
alice_on_foo = refl

-- alice's login: her record and its binding are written, and then records of both kinds
abbrev entered : FinMap id_cmp Object → List Item → Run
entered objects written = record {
  world = record (listed two_channels 2 (Some (run 3))) { objects = objects; names = insert (from_entries channel_names) alice_record (id 3 0) };
  touched = ask.Object (id 3 0) ∷ ask.Bound alice_record ∷ written;
  outs = (conn 1, out.Accepted) ∷ [];
  number = run 3;
  at = 0;
  objects_made = 1;
  tasks_made = 0;
  mode = Game;
}

abbrev opened_objects : FinMap id_cmp Object
opened_objects = insert (from_entries two_channels.objects) (id 3 0) (session_object 1)

abbrev on_foo_objects : FinMap id_cmp Object
on_foo_objects = insert (insert opened_objects (id 0 0) (channel_object 0 1 alice_member)) (id 3 0) (one_object 1 foo)

abbrev on_both_objects : FinMap id_cmp Object
on_both_objects = insert (insert on_foo_objects (id 0 1) (channel_object 1 1 alice_member)) (id 3 0) (joined_object 1)

join_foo : join foo alice_session (entered opened_objects []) ≡ (Ok tt, entered on_foo_objects (ask.Object (id 0 0) ∷ ask.Object (id 3 0) ∷ []))
unfolding u8_spelling u32_spelling u64_spelling name_spelling list_spelling one_object
join_foo = joins foo alice_session (entered opened_objects []) (id 0 0) (id 3 0) _ _ (channel_object 0 0 []).bytes (session_object 1).bytes (channel_object 0 1 alice_member).bytes (one_object 1 foo).bytes
    record { channel_bound = simp looks; channel_there = simp looks; channel_read = foo_empty; session_bound = simp looks; session_there = simp looks; session_read = session_read; same = refl }
    (simp looks) refl refl refl refl refl

join_bar : join bar alice_session (entered on_foo_objects (ask.Object (id 0 0) ∷ ask.Object (id 3 0) ∷ []))
    ≡ (Ok tt, entered on_both_objects (ask.Object (id 0 0) ∷ ask.Object (id 3 0) ∷ ask.Object (id 0 1) ∷ ask.Object (id 3 0) ∷ []))
unfolding u8_spelling u32_spelling u64_spelling name_spelling list_spelling one_object
join_bar = joins bar alice_session (entered on_foo_objects (ask.Object (id 0 0) ∷ ask.Object (id 3 0) ∷ [])) (id 0 1) (id 3 0) _ _ (channel_object 1 0 []).bytes (one_object 1 foo).bytes (channel_object 1 1 alice_member).bytes (joined_object 1).bytes
    record { channel_bound = simp looks; channel_there = simp looks; channel_read = bar_empty; session_bound = simp looks; session_there = simp looks; session_read = alice_on_foo; same = refl }
    (simp looks) refl refl refl refl refl

pub login_joins : LoginJoins
unfolding within and_then give create bind send open_record new_record u64_spelling u32_spelling list_spelling
login_joins = runs_ok channel_rules (job.Login (conn 1) alice) (run 3) 0 two_channels one_member 1 (Some (run 0))
    (record (entered on_both_objects (ask.Object (id 0 0) ∷ ask.Object (id 3 0) ∷ ask.Object (id 0 1) ∷ ask.Object (id 3 0) ∷ [])) { mode = Platform })
    record { objects = refl; names = refl; tasks = refl } (simp (looks, join_foo, join_bar))
    record { objects = simp puts; names = simp puts; tasks = simp puts; sorted = record { objects = refl; names = refl; tasks = refl } } refl

pub unheard_goes_to_all : UnheardGoesToAll
unfolding within and_then give get get_as is_connected channel_send
unheard_goes_to_all = runs_ok channel_rules (job.Channel (conn 1) alice foo (codes "hi")) (run 5) 0 two_members two_members 3 (Some (run 4))
    (at_end (listed two_members 4 (Some (run 5))) [] ((conn 1, out.Channel foo (codes "hi")) ∷ (conn 2, out.Channel foo (codes "hi")) ∷ []) (run 5) 0 0 0)
    record { objects = refl; names = refl; tasks = refl } (simp (looks, foo_two, alice_on_both))
    record { objects = simp puts; names = simp puts; tasks = simp puts; sorted = record { objects = refl; names = refl; tasks = refl } } refl

pub heard_goes_to_the_game : HeardGoesToTheGame
unfolding within and_then give get get_as is_connected channel_send
heard_goes_to_the_game = runs_ok channel_rules (job.Channel (conn 1) alice bar (codes "hi")) (run 6) 0 two_members two_members 4 (Some (run 5))
    (at_end (listed two_members 5 (Some (run 6))) [] ((conn 1, out.Channel bar (codes "heard: hi")) ∷ (conn 2, out.Channel bar (codes "heard: hi")) ∷ []) (run 6) 0 0 0)
    record { objects = refl; names = refl; tasks = refl } (simp (looks, bar_two, alice_on_both))
    record { objects = simp puts; names = simp puts; tasks = simp puts; sorted = record { objects = refl; names = refl; tasks = refl } } refl

pub no_channel_is_nothing : NoChannelIsNothing
unfolding within and_then give get get_as is_connected
no_channel_is_nothing = runs_ok channel_rules (job.Channel (conn 1) alice (codes "Baz") (codes "hi")) (run 7) 0 two_members two_members 5 (Some (run 6))
    (begun (run 7) 0 (listed two_members 5 (Some (run 6))))
    record { objects = refl; names = refl; tasks = refl } (simp (looks, alice_on_both))
    record { objects = simp puts; names = simp puts; tasks = simp puts; sorted = record { objects = refl; names = refl; tasks = refl } } refl

pub join_of_no_channel_fails : JoinOfNoChannelFails
unfolding within and_then give get get_as is_connected join
join_of_no_channel_fails =
    let start = begun (run 8) 0 (listed two_members 6 (Some (run 7))) in
    runs_failed channel_rules (job.Message (conn 1) alice (codes "Nope")) (run 8) 0 two_members two_members 6 (Some (run 7)) start (fault.Refused 1)
    record { objects = refl; names = refl; tasks = refl } (simp (looks, alice_on_both)) start refl
    record { objects = simp puts; names = simp puts; tasks = simp puts; sorted = record { objects = refl; names = refl; tasks = refl } }

alice_on_bar : session_of (one_object 1 bar).bytes ≡ Some (record { conn = conn 1; channels = bar ∷ [] })
unfolding session_of next_session u8_at list_at items_at list_spelling next_u32 u32_at next_end end_at next_name name_at next_u64 u64_at utf8_valid_len is_utf8 chars encode one_object
alice_on_bar = refl

-- alice's end: she leaves Foo and then Bar, and her record goes
abbrev leaving : FinMap id_cmp Object → List Item → Run
leaving objects written = record {
  world = record (listed two_members 8 (Some (run 9))) { objects = objects };
  touched = written;
  outs = [];
  number = run 9;
  at = 0;
  objects_made = 0;
  tasks_made = 0;
  mode = Platform;
}

abbrev off_foo_objects : FinMap id_cmp Object
off_foo_objects = insert (insert (from_entries two_members.objects) (id 0 0) (channel_object 0 1 bob_member)) (id 3 0) (one_object 1 bar)

abbrev off_both_objects : FinMap id_cmp Object
off_both_objects = insert (insert off_foo_objects (id 0 1) (channel_object 1 1 bob_member)) (id 3 0) (session_object 1)

leave_foo : leave foo alice_session (leaving (from_entries two_members.objects) []) ≡ (Ok tt, leaving off_foo_objects (ask.Object (id 0 0) ∷ ask.Object (id 3 0) ∷ []))
unfolding u8_spelling u32_spelling u64_spelling name_spelling list_spelling one_object
leave_foo = leaves foo alice_session (leaving (from_entries two_members.objects) []) (id 0 0) (id 3 0) _ _ (channel_object 0 2 (alice_member ++ bob_member)).bytes (joined_object 1).bytes (channel_object 0 1 bob_member).bytes (one_object 1 bar).bytes
    record { channel_bound = simp looks; channel_there = simp looks; channel_read = foo_two; session_bound = simp looks; session_there = simp looks; session_read = alice_on_both; same = refl }
    (simp looks) refl refl refl refl refl

leave_bar : leave bar alice_session (leaving off_foo_objects (ask.Object (id 0 0) ∷ ask.Object (id 3 0) ∷ []))
    ≡ (Ok tt, leaving off_both_objects (ask.Object (id 0 0) ∷ ask.Object (id 3 0) ∷ ask.Object (id 0 1) ∷ ask.Object (id 3 0) ∷ []))
unfolding u8_spelling u32_spelling u64_spelling name_spelling list_spelling one_object
leave_bar = leaves bar alice_session (leaving off_foo_objects (ask.Object (id 0 0) ∷ ask.Object (id 3 0) ∷ [])) (id 0 1) (id 3 0) _ _ (channel_object 1 2 (alice_member ++ bob_member)).bytes (one_object 1 bar).bytes (channel_object 1 1 bob_member).bytes (session_object 1).bytes
    record { channel_bound = simp looks; channel_there = simp looks; channel_read = bar_two; session_bound = simp looks; session_there = simp looks; session_read = alice_on_bar; same = refl }
    (simp looks) refl refl refl refl refl

pub disconnect_leaves : DisconnectLeaves
unfolding within and_then give get get_as is_connected unbind remove_object close_record
disconnect_leaves = runs_ok channel_rules (job.Disconnect (conn 1) alice true) (run 9) 0 two_members bob_alone 7 (Some (run 8))
    (record (leaving (remove off_both_objects (id 3 0)) (ask.Object (id 0 0) ∷ ask.Object (id 3 0) ∷ ask.Object (id 0 1) ∷ ask.Object (id 3 0) ∷ ask.Bound alice_record ∷ ask.Object (id 3 0) ∷ [])) {
      world = record (listed two_members 8 (Some (run 9))) { objects = remove off_both_objects (id 3 0); names = remove (from_entries two_members.names) alice_record };
    })
    record { objects = refl; names = refl; tasks = refl } (simp (looks, leave_foo, leave_bar, alice_on_both, session_read))
    record { objects = simp puts; names = simp puts; tasks = simp puts; sorted = record { objects = refl; names = refl; tasks = refl } } refl
