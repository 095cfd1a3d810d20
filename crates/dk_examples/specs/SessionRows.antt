-- Sessions: logins that are accepted, that displace another session and that fail, and what follows for one that is not connected.
use Rattle.std.specs.Prelude.{ℕ, true, false, Some, None, List, [], ◌∷◌, ◌++◌, codes, replicate}
use Rattle.dk_types.specs.declared.job.Job.TheVariants as job
use Rattle.dk_types.specs.declared.job.Out.TheVariants as out
use Rattle.dk_types.specs.declared.item.Item.TheVariants as ask
use Rattle.dk_types.specs.declared.number.ObjectId.{ObjectId}
use Rattle.dk_types.specs.declared.object.Object.{Object}
use Rattle.dk_types.specs.declared.fault.AppFault.TheVariants as fault
use Rattle.dk_types.specs.declared.fault.Outcome.TheVariants as outcome
use Rattle.dk_model.specs.Effects.{pending_of}
use Rattle.dk_model.specs.Events.{Meaning}
use Rattle.dk_model.specs.Finishes.{Report}
use Rattle.dk_examples.specs.Worked.{run, conn, id, key, object, in_eight, in_four, accepting, giving_up, turning_away, making, made_task, Lists, listed, nothing, no_effects, does_nothing, Runs}

-- a login name
abbrev pub alice : List ℕ
alice = codes "alice"

-- the name of alice's record
abbrev pub alice_record : List ℕ
alice_record = codes "$s.alice"

-- the record of a session with this connection, below 256, which is on no channel
abbrev pub session_object : ℕ → Object
session_object number = object 0xFF01 (in_eight number ++ in_four 0)

-- alice is recorded by run 2 with connection 1
abbrev pub with_alice : Lists
with_alice = record { objects = (id 2 0, session_object 1) ∷ []; names = (alice_record, id 2 0) ∷ []; tasks = [] }

-- the first run of a game that has nothing to make
abbrev pub FirstRunAccepts : Type 0
FirstRunAccepts = Runs accepting job.Initialize (run 0) 0 (listed nothing 0 None) does_nothing (listed nothing 1 (Some (run 0)))

-- a login is recorded as object 2.0 and accepted
abbrev pub LoginIsAccepted : Type 0
LoginIsAccepted = Runs accepting (job.Login (conn 1) alice) (run 2) 0 (listed nothing 1 (Some (run 0)))
    (record {
      outcome = outcome.Ok;
      effects = record no_effects { written = (id 2 0, session_object 1) ∷ []; bound = (alice_record, id 2 0) ∷ [] };
      touched = ask.Object (id 2 0) ∷ ask.Bound alice_record ∷ [];
      outs = (conn 1, out.Accepted) ∷ [];
    })
    (listed with_alice 2 (Some (run 2)))

-- alice is recorded by run 4 with connection 3
abbrev pub with_alice_again : Lists
with_alice_again = record { objects = (id 4 0, session_object 3) ∷ []; names = (alice_record, id 4 0) ∷ []; tasks = [] }

-- a login of a connected name ends the old session, whose connection is closed, and is recorded and accepted as any other
abbrev pub SecondLoginDisplaces : Type 0
SecondLoginDisplaces = Runs accepting (job.Login (conn 3) alice) (run 4) 0 (listed with_alice 2 (Some (run 2)))
    (record {
      outcome = outcome.Ok;
      effects = record no_effects { written = (id 4 0, session_object 3) ∷ []; removed = id 2 0 ∷ []; bound = (alice_record, id 4 0) ∷ [] };
      touched = ask.Bound alice_record ∷ ask.Object (id 2 0) ∷ ask.Object (id 4 0) ∷ ask.Bound alice_record ∷ [];
      outs = (conn 1, out.Close) ∷ (conn 3, out.Accepted) ∷ [];
    })
    (listed with_alice_again 3 (Some (run 4)))

-- alice's session ended and another recorded, where the game makes an object and a task in each of its two parts
abbrev pub counted_again : Lists
counted_again = record {
  objects = (id 4 0, object 7 []) ∷ (id 4 1, session_object 3) ∷ (id 4 2, object 7 []) ∷ [];
  names = (alice_record, id 4 1) ∷ [];
  tasks = (key 4 0, made_task) ∷ (key 4 1, made_task) ∷ [];
}

-- the numbers of what is made go on over both parts of the game, and so do the messages
abbrev pub CountsGoOn : Type 0
CountsGoOn = Runs making (job.Login (conn 3) alice) (run 4) 0 (listed with_alice 2 (Some (run 2)))
    (record {
      outcome = outcome.Ok;
      effects = record no_effects {
        written = counted_again.objects;
        removed = id 2 0 ∷ [];
        bound = (alice_record, id 4 1) ∷ [];
        added = pending_of (key 4 0, made_task) ∷ pending_of (key 4 1, made_task) ∷ [];
      };
      touched =
          ask.Object (id 4 0) ∷ ask.Task (key 4 0) ∷ ask.Bound alice_record ∷ ask.Object (id 2 0)
          ∷ ask.Object (id 4 1) ∷ ask.Bound alice_record ∷ ask.Object (id 4 2) ∷ ask.Task (key 4 1) ∷ [];
      outs = (conn 9, out.Message []) ∷ (conn 1, out.Close) ∷ (conn 3, out.Accepted) ∷ (conn 9, out.Message []) ∷ [];
    })
    (listed counted_again 3 (Some (run 4)))

-- a login that the game turns away, though it let the old session end, changes nothing: the old session stays, and the new connection alone is told
abbrev pub TurnedAwayLoginStays : Type 0
TurnedAwayLoginStays = Runs turning_away (job.Login (conn 3) alice) (run 4) 0 (listed with_alice 2 (Some (run 2)))
    (record { outcome = outcome.Fail (fault.Game 7); effects = no_effects; touched = []; outs = (conn 3, out.Refused) ∷ (conn 3, out.Close) ∷ [] })
    (listed with_alice 3 (Some (run 4)))

-- what stands under the name of alice's record
abbrev pub with_strange : List (ObjectId × Object) → Lists
with_strange objects = record { objects = objects; names = (alice_record, id 2 0) ∷ []; tasks = [] }

-- a login over what is no session's record fails so, and changes nothing
abbrev LoginOverFails : List (ObjectId × Object) → ℕ → Type 0
LoginOverFails objects number =
    (rules : Meaning)
    → Runs rules (job.Login (conn 3) alice) (run 4) 0 (listed (with_strange objects) 2 (Some (run 2)))
    (record { outcome = outcome.Fail (fault.Refused number); effects = no_effects; touched = []; outs = (conn 3, out.Refused) ∷ (conn 3, out.Close) ∷ [] })
    (listed (with_strange objects) 3 (Some (run 4)))

-- over a name that is bound to no object, to one of another kind, and to bytes that are no record, whatever the game
abbrev pub LoginOverNoRecordFails : Type 0
LoginOverNoRecordFails = LoginOverFails [] 2 × LoginOverFails ((id 2 0, object 1 []) ∷ []) 3 × LoginOverFails ((id 2 0, object 0xFF01 []) ∷ []) 10

-- a name of 255 bytes has no record's name: its login fails, is refused and closed, whatever the game
abbrev pub LongLoginFails : Type 0
LongLoginFails =
    (rules : Meaning)
    → Runs rules (job.Login (conn 1) (replicate 255 97)) (run 2) 0 (listed nothing 1 (Some (run 0)))
    (record { outcome = outcome.Fail (fault.Refused 4); effects = no_effects; touched = []; outs = (conn 1, out.Refused) ∷ (conn 1, out.Close) ∷ [] })
    (listed nothing 2 (Some (run 2)))

-- a login that the game gives up is refused and closed, and not recorded
abbrev pub GivenUpLoginFails : Type 0
GivenUpLoginFails = Runs giving_up (job.Login (conn 1) alice) (run 2) 0 (listed nothing 1 (Some (run 0)))
    (record { outcome = outcome.Fail (fault.Game 7); effects = no_effects; touched = []; outs = (conn 1, out.Refused) ∷ (conn 1, out.Close) ∷ [] })
    (listed nothing 2 (Some (run 2)))

-- a message of a name whose record has another connection's number does nothing, whatever the game
abbrev pub StrangeMessageIsNothing : Type 0
StrangeMessageIsNothing =
    (rules : Meaning)
    → Runs rules (job.Message (conn 3) alice (codes "look")) (run 5) 0 (listed with_alice 2 (Some (run 2))) does_nothing (listed with_alice 3 (Some (run 5)))

-- a run that takes alice's record away
abbrev pub takes_away : Report
takes_away = record {
  outcome = outcome.Ok;
  effects = record no_effects { removed = id 2 0 ∷ []; unbound = alice_record ∷ [] };
  touched = ask.Bound alice_record ∷ ask.Object (id 2 0) ∷ [];
  outs = [];
}

-- the end of a session takes its record away
abbrev pub DisconnectEnds : Type 0
DisconnectEnds = Runs accepting (job.Disconnect (conn 1) alice true) (run 5) 0 (listed with_alice 2 (Some (run 2))) takes_away (listed nothing 3 (Some (run 5)))

-- so does the end that a stop left
abbrev pub StopEnds : Type 0
StopEnds = Runs accepting (job.Disconnect (conn 1) alice false) (run 3) 0 (listed with_alice 2 (Some (run 2))) takes_away (listed nothing 3 (Some (run 3)))
