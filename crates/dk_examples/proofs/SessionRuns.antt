-- The runs of sessions.
use Rattle.std.proofs.Common.{◌≡◌, ℕ, true, false, Some, None, [], ◌∷◌, codes, replicate, refl}
use Rattle.std.specs.FinMap.{empty, insert, remove, from_entries}
use Rattle.dk_types.specs.declared.fault.AppFault.TheVariants as fault
use Rattle.dk_types.specs.declared.job.Job.TheVariants as job
use Rattle.dk_types.specs.declared.job.Out.TheVariants as out
use Rattle.dk_types.specs.declared.item.Item.TheVariants as ask
use Rattle.dk_types.specs.Fields.{u64_spelling, u32_spelling}
use Rattle.dk_types.specs.Payload.{next_u32, next_u64, next_end}
use Rattle.dk_types.specs.Reading.{u32_at, u64_at, end_at}
use Rattle.dk_model.specs.Runs.{Run, begun, give, and_then, within, get, create, remove as remove_object, bind, unbind, schedule, send}
use Rattle.dk_model.specs.Records.{session_of, next_session}
use Rattle.dk_types.specs.Lists.{list_spelling, items_at, list_at}
use Rattle.dk_model.specs.References.{get_as}
use Rattle.dk_model.specs.Platforms.{is_connected, find_session, open_record, new_record, close_record}
use Rattle.dk_examples.specs.Worked.{run, conn, id, key, object, accepting, giving_up, turning_away, making, made_task, listed, nothing}
use Rattle.dk_examples.specs.SessionRows.{FirstRunAccepts, LoginIsAccepted, SecondLoginDisplaces, CountsGoOn, TurnedAwayLoginStays, LoginOverNoRecordFails, LongLoginFails, GivenUpLoginFails, StrangeMessageIsNothing, DisconnectEnds, StopEnds, alice, alice_record, session_object, with_alice, with_alice_again, counted_again, with_strange}
use Rattle.dk_examples.proofs.Running.{runs_ok, runs_failed, looks, puts, at_end}

-- alice's record is read back
pub session_read : session_of (session_object 1).bytes ≡ Some (record { conn = conn 1; channels = [] })
unfolding session_of next_session next_u64 u64_at list_at items_at list_spelling next_u32 u32_at next_end end_at
session_read = refl

pub first_run_accepts : FirstRunAccepts
unfolding within give
first_run_accepts = runs_ok accepting job.Initialize (run 0) 0 nothing nothing 0 None (begun (run 0) 0 (listed nothing 0 None))
    record { objects = refl; names = refl; tasks = refl } refl
    record { objects = simp puts; names = simp puts; tasks = simp puts; sorted = record { objects = refl; names = refl; tasks = refl } } refl

accepted_end : Run
accepted_end = at_end
    (record (listed nothing 2 (Some (run 2))) { objects = insert empty (id 2 0) (session_object 1); names = insert empty alice_record (id 2 0) })
    (ask.Object (id 2 0) ∷ ask.Bound alice_record ∷ []) ((conn 1, out.Accepted) ∷ []) (run 2) 0 1 0

pub login_is_accepted : LoginIsAccepted
unfolding within and_then give open_record new_record create bind send u64_spelling u32_spelling list_spelling accepted_end
login_is_accepted = runs_ok accepting (job.Login (conn 1) alice) (run 2) 0 nothing with_alice 1 (Some (run 0)) accepted_end
    record { objects = refl; names = refl; tasks = refl } (simp looks)
    record { objects = simp puts; names = simp puts; tasks = simp puts; sorted = record { objects = refl; names = refl; tasks = refl } } refl

displaced_end : Run
displaced_end = at_end
    (record (listed with_alice 3 (Some (run 4))) {
      objects = insert (remove (from_entries with_alice.objects) (id 2 0)) (id 4 0) (session_object 3);
      names = insert (remove (from_entries with_alice.names) alice_record) alice_record (id 4 0);
    })
    (ask.Bound alice_record ∷ ask.Object (id 2 0) ∷ ask.Object (id 4 0) ∷ ask.Bound alice_record ∷ []) ((conn 1, out.Close) ∷ (conn 3, out.Accepted) ∷ []) (run 4) 0 1 0

pub second_login_displaces : SecondLoginDisplaces
unfolding within and_then give get get_as find_session unbind remove_object close_record open_record new_record create bind send u64_spelling u32_spelling list_spelling displaced_end
second_login_displaces = runs_ok accepting (job.Login (conn 3) alice) (run 4) 0 with_alice with_alice_again 2 (Some (run 2)) displaced_end
    record { objects = refl; names = refl; tasks = refl } (simp (looks, session_read))
    record { objects = simp puts; names = simp puts; tasks = simp puts; sorted = record { objects = refl; names = refl; tasks = refl } } refl

counted_end : Run
counted_end = at_end
    (record (listed with_alice 3 (Some (run 4))) {
      objects = insert (insert (remove (insert (from_entries with_alice.objects) (id 4 0) (object 7 [])) (id 2 0)) (id 4 1) (session_object 3)) (id 4 2) (object 7 []);
      names = insert (remove (from_entries with_alice.names) alice_record) alice_record (id 4 1);
      tasks = insert (insert empty (key 4 0) made_task) (key 4 1) made_task;
    })
    (ask.Object (id 4 0) ∷ ask.Task (key 4 0) ∷ ask.Bound alice_record ∷ ask.Object (id 2 0) ∷ ask.Object (id 4 1) ∷ ask.Bound alice_record ∷ ask.Object (id 4 2) ∷ ask.Task (key 4 1) ∷ [])
    ((conn 9, out.Message []) ∷ (conn 1, out.Close) ∷ (conn 3, out.Accepted) ∷ (conn 9, out.Message []) ∷ []) (run 4) 0 3 2

pub counts_go_on : CountsGoOn
unfolding within and_then give get get_as find_session unbind remove_object close_record open_record new_record create bind schedule send u64_spelling u32_spelling list_spelling counted_end
counts_go_on = runs_ok making (job.Login (conn 3) alice) (run 4) 0 with_alice counted_again 2 (Some (run 2)) counted_end
    record { objects = refl; names = refl; tasks = refl } (simp (looks, session_read))
    record { objects = simp puts; names = simp puts; tasks = simp puts; sorted = record { objects = refl; names = refl; tasks = refl } } refl

pub turned_away_login_stays : TurnedAwayLoginStays
unfolding within and_then give get get_as find_session unbind remove_object close_record open_record new_record create bind send u64_spelling u32_spelling list_spelling displaced_end
turned_away_login_stays =
    let start = begun (run 4) 0 (listed with_alice 2 (Some (run 2))) in
    runs_failed turning_away (job.Login (conn 3) alice) (run 4) 0 with_alice with_alice 2 (Some (run 2)) displaced_end (fault.Game 7)
    record { objects = refl; names = refl; tasks = refl } (simp (looks, session_read)) start refl
    record { objects = simp puts; names = simp puts; tasks = simp puts; sorted = record { objects = refl; names = refl; tasks = refl } }

no_record : session_of [] ≡ None
unfolding session_of next_session next_u64 u64_at list_at items_at list_spelling next_u32 u32_at next_end end_at
no_record = refl

pub login_over_no_record_fails : LoginOverNoRecordFails
unfolding within and_then give get get_as find_session
login_over_no_record_fails = (
  λ rules.
      let start = begun (run 4) 0 (listed (with_strange []) 2 (Some (run 2))) in
      runs_failed rules (job.Login (conn 3) alice) (run 4) 0 (with_strange []) (with_strange []) 2 (Some (run 2)) start (fault.Refused 2)
      record { objects = refl; names = refl; tasks = refl } (simp looks) start refl
      record { objects = simp puts; names = simp puts; tasks = simp puts; sorted = record { objects = refl; names = refl; tasks = refl } },
  λ rules.
      let there = with_strange ((id 2 0, object 1 []) ∷ []) in
      let start = begun (run 4) 0 (listed there 2 (Some (run 2))) in
      runs_failed rules (job.Login (conn 3) alice) (run 4) 0 there there 2 (Some (run 2)) start (fault.Refused 3)
      record { objects = refl; names = refl; tasks = refl } (simp looks) start refl
      record { objects = simp puts; names = simp puts; tasks = simp puts; sorted = record { objects = refl; names = refl; tasks = refl } },
  λ rules.
      let there = with_strange ((id 2 0, object 0xFF01 []) ∷ []) in
      let start = begun (run 4) 0 (listed there 2 (Some (run 2))) in
      runs_failed rules (job.Login (conn 3) alice) (run 4) 0 there there 2 (Some (run 2)) start (fault.Refused 10)
      record { objects = refl; names = refl; tasks = refl } (simp (looks, no_record)) start refl
      record { objects = simp puts; names = simp puts; tasks = simp puts; sorted = record { objects = refl; names = refl; tasks = refl } },
)

pub long_login_fails : LongLoginFails
unfolding within and_then give open_record new_record
long_login_fails rules =
    let start = begun (run 2) 0 (listed nothing 1 (Some (run 0))) in
    runs_failed rules (job.Login (conn 1) (replicate 255 97)) (run 2) 0 nothing nothing 1 (Some (run 0)) start (fault.Refused 4)
    record { objects = refl; names = refl; tasks = refl } refl start refl
    record { objects = simp puts; names = simp puts; tasks = simp puts; sorted = record { objects = refl; names = refl; tasks = refl } }

pub given_up_login_fails : GivenUpLoginFails
unfolding within and_then give open_record new_record create bind send u64_spelling u32_spelling list_spelling accepted_end
given_up_login_fails =
    let start = begun (run 2) 0 (listed nothing 1 (Some (run 0))) in
    runs_failed giving_up (job.Login (conn 1) alice) (run 2) 0 nothing nothing 1 (Some (run 0)) accepted_end (fault.Game 7)
    record { objects = refl; names = refl; tasks = refl } (simp looks) start refl
    record { objects = simp puts; names = simp puts; tasks = simp puts; sorted = record { objects = refl; names = refl; tasks = refl } }

pub strange_message_is_nothing : StrangeMessageIsNothing
unfolding within and_then give get get_as is_connected
strange_message_is_nothing rules = runs_ok rules (job.Message (conn 3) alice (codes "look")) (run 5) 0 with_alice with_alice 2 (Some (run 2)) (begun (run 5) 0 (listed with_alice 2 (Some (run 2))))
    record { objects = refl; names = refl; tasks = refl } (simp (looks, session_read))
    record { objects = simp puts; names = simp puts; tasks = simp puts; sorted = record { objects = refl; names = refl; tasks = refl } } refl

-- the run that has taken the record away
ended_end : ℕ → Run
ended_end number = at_end
    (record (listed with_alice 3 (Some (run number))) { objects = remove (from_entries with_alice.objects) (id 2 0); names = remove (from_entries with_alice.names) alice_record })
    (ask.Bound alice_record ∷ ask.Object (id 2 0) ∷ []) [] (run number) 0 0 0

pub disconnect_ends : DisconnectEnds
unfolding within and_then give get get_as is_connected unbind remove_object close_record ended_end
disconnect_ends = runs_ok accepting (job.Disconnect (conn 1) alice true) (run 5) 0 with_alice nothing 2 (Some (run 2)) (ended_end 5)
    record { objects = refl; names = refl; tasks = refl } (simp (looks, session_read))
    record { objects = simp puts; names = simp puts; tasks = simp puts; sorted = record { objects = refl; names = refl; tasks = refl } } refl

pub stop_ends : StopEnds
unfolding within and_then give get get_as is_connected unbind remove_object close_record ended_end
stop_ends = runs_ok accepting (job.Disconnect (conn 1) alice false) (run 3) 0 with_alice nothing 2 (Some (run 2)) (ended_end 3)
    record { objects = refl; names = refl; tasks = refl } (simp (looks, session_read))
    record { objects = simp puts; names = simp puts; tasks = simp puts; sorted = record { objects = refl; names = refl; tasks = refl } } refl
