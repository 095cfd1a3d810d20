-- SwordWorld: the first run, a login, the commands, and the end of a session.
use Rattle.std.specs.Prelude.{◌≡◌, ℕ, true, Some, None, List, [], ◌∷◌, ◌++◌, length, codes}
use Rattle.dk_types.specs.declared.number.ObjectId.{ObjectId}
use Rattle.dk_types.specs.declared.object.Object.{Object}
use Rattle.dk_types.specs.declared.durable.Effects.{Effects}
use Rattle.dk_types.specs.declared.job.Job.TheVariants as job
use Rattle.dk_types.specs.declared.job.Out.TheVariants as out
use Rattle.dk_types.specs.declared.item.Item.TheVariants as ask
use Rattle.dk_types.specs.declared.fault.Outcome.TheVariants as outcome
use Rattle.dk_model.specs.Effects.{effects_length}
use Rattle.dk_model.specs.Entries.{entry_spelling}
use Rattle.sword_world.specs.Rules.{sword_rules}
use Rattle.dk_examples.specs.Worked.{run, conn, id, object, in_eight, in_four, Lists, listed, nothing, no_effects, does_nothing, Runs}
use Rattle.dk_examples.specs.SessionRows.{alice, alice_record, session_object}
use Rattle.dk_examples.specs.ChannelRows.{bob, bob_record}

-- the name of the room
abbrev pub room : List ℕ
room = codes "Room"

-- a list of ids whose numbers are below 256
abbrev pub ids : List ObjectId → List ℕ
ids [] = []
ids (i ∷ rest) = in_eight i.run.0 ++ (in_four i.k ++ ids rest)

-- a thing, by its description of 13 bytes; a room, by how many players and things are in it, and these; a player who carries nothing
abbrev pub sword_object : Object
sword_object = object 2 (13 ∷ codes "a shiny sword")

-- the room with these players and the sword
abbrev pub room_object : ℕ → List ObjectId → Object
room_object players who = object 1 (in_four players ++ (ids who ++ (in_four 1 ++ ids (id 0 0 ∷ []))))

-- a player who carries nothing
abbrev pub alice_player : Object
alice_player = object 3 (5 ∷ alice ++ 0 ∷ [])

-- a player who carries nothing
abbrev pub bob_player : Object
bob_player = object 3 (3 ∷ bob ++ 0 ∷ [])

-- the name of a player's object
abbrev pub alice_is : List ℕ
alice_is = codes "Player.alice"

-- the name of a player's object
abbrev pub bob_is : List ℕ
bob_is = codes "Player.bob"

-- a sword in a room without players
abbrev pub furnished : Lists
furnished = record { objects = (id 0 0, sword_object) ∷ (id 0 1, room_object 0 []) ∷ []; names = (room, id 0 1) ∷ []; tasks = [] }

-- the effects of the first run
abbrev pub furnishing : Effects
furnishing = record no_effects { written = furnished.objects; bound = furnished.names }

-- the first run makes the sword as 0.0 and the room as 0.1
abbrev pub SwordBegins : Type 0
SwordBegins = Runs sword_rules job.Initialize (run 0) 0 (listed nothing 0 None)
    (record {
      outcome = outcome.Ok;
      effects = furnishing;
      touched = ask.Object (id 0 0) ∷ ask.Object (id 0 1) ∷ ask.Bound room ∷ [];
      outs = [];
    })
    (listed furnished 1 (Some (run 0)))

-- alice in the room, as run 2 logged her in at connection 1
abbrev pub alice_entered : Lists
alice_entered = record {
  objects = (id 0 0, sword_object) ∷ (id 0 1, room_object 1 (id 2 1 ∷ [])) ∷ (id 2 0, session_object 1) ∷ (id 2 1, alice_player) ∷ [];
  names = (alice_record, id 2 0) ∷ (alice_is, id 2 1) ∷ (room, id 0 1) ∷ [];
  tasks = [];
}

-- the effects of the first login
abbrev pub entering : Effects
entering = record no_effects {
  written = (id 0 1, room_object 1 (id 2 1 ∷ [])) ∷ (id 2 0, session_object 1) ∷ (id 2 1, alice_player) ∷ [];
  bound = (alice_record, id 2 0) ∷ (alice_is, id 2 1) ∷ [];
}

-- a login makes the session's record as 2.0 and the player as 2.1, who enters the room; the room is written as it is, and then saved
abbrev pub SwordLogin : Type 0
SwordLogin = Runs sword_rules (job.Login (conn 1) alice) (run 2) 0 (listed furnished 1 (Some (run 0)))
    (record {
      outcome = outcome.Ok;
      effects = entering;
      touched = ask.Object (id 2 0) ∷ ask.Bound alice_record ∷ ask.Object (id 2 1) ∷ ask.Bound alice_is ∷ ask.Object (id 0 1) ∷ ask.Object (id 0 1) ∷ [];
      outs = (conn 1, out.Accepted) ∷ [];
    })
    (listed alice_entered 2 (Some (run 2)))

-- what a player sees who is alone with the sword
abbrev pub sight : List ℕ
sight = codes "You are in a plain room.\nOn the floor: a shiny sword.\n"

-- a look tells the room and changes nothing
abbrev pub SwordLook : Type 0
SwordLook = Runs sword_rules (job.Message (conn 1) alice (codes "look")) (run 3) 0 (listed alice_entered 2 (Some (run 2)))
    (record does_nothing { outs = (conn 1, out.Message sight) ∷ [] }) (listed alice_entered 3 (Some (run 3)))

-- letters of either case stand for the command
abbrev pub SwordLookInOtherLetters : Type 0
SwordLookInOtherLetters = Runs sword_rules (job.Message (conn 1) alice (codes "LooK")) (run 3) 0 (listed alice_entered 2 (Some (run 2)))
    (record does_nothing { outs = (conn 1, out.Message sight) ∷ [] }) (listed alice_entered 3 (Some (run 3)))

-- what is no command does nothing
abbrev pub SwordDance : Type 0
SwordDance = Runs sword_rules (job.Message (conn 1) alice (codes "dance")) (run 4) 0 (listed alice_entered 3 (Some (run 3)))
    does_nothing (listed alice_entered 4 (Some (run 4)))

-- alice in the room and bob after her, as runs 3 and 4 logged them in at connections 1 and 2
abbrev pub both_entered : Lists
both_entered = record {
  objects =
      (id 0 0, sword_object) ∷ (id 0 1, room_object 2 (id 3 1 ∷ id 4 1 ∷ []))
      ∷ (id 3 0, session_object 1) ∷ (id 3 1, alice_player) ∷ (id 4 0, session_object 2) ∷ (id 4 1, bob_player) ∷ [];
  names = (alice_record, id 3 0) ∷ (bob_record, id 4 0) ∷ (alice_is, id 3 1) ∷ (bob_is, id 4 1) ∷ (room, id 0 1) ∷ [];
  tasks = [];
}

-- a look names the others
abbrev pub SwordLookAround : Type 0
SwordLookAround = Runs sword_rules (job.Message (conn 1) alice (codes "look")) (run 5) 0 (listed both_entered 3 (Some (run 4)))
    (record does_nothing { outs = (conn 1, out.Message (codes "You are in a plain room.\nAlso in here: bob.\nOn the floor: a shiny sword.\n")) ∷ [] })
    (listed both_entered 4 (Some (run 5)))

-- a room where nothing lies, by how many players are in it, and these; alice, who carries the sword
abbrev pub bare_object : ℕ → List ObjectId → Object
bare_object players who = object 1 (in_four players ++ (ids who ++ in_four 0))

-- a player who carries the sword
abbrev pub alice_armed : Object
alice_armed = object 3 (5 ∷ alice ++ (1 ∷ ids (id 0 0 ∷ [])))

-- alice in the room with the sword in her hand, as run 4 gave it to her
abbrev pub taken : Lists
taken = record {
  objects = (id 0 0, sword_object) ∷ (id 0 1, bare_object 1 (id 2 1 ∷ [])) ∷ (id 2 0, session_object 1) ∷ (id 2 1, alice_armed) ∷ [];
  names = (alice_record, id 2 0) ∷ (alice_is, id 2 1) ∷ (room, id 0 1) ∷ [];
  tasks = [];
}

-- a take saves the room and the player
abbrev pub SwordTake : Type 0
SwordTake = Runs sword_rules (job.Message (conn 1) alice (codes "take")) (run 4) 0 (listed alice_entered 2 (Some (run 2)))
    (record {
      outcome = outcome.Ok;
      effects = record no_effects { written = (id 0 1, bare_object 1 (id 2 1 ∷ [])) ∷ (id 2 1, alice_armed) ∷ [] };
      touched = ask.Object (id 0 1) ∷ ask.Object (id 2 1) ∷ [];
      outs = (conn 1, out.Message (codes "You take a shiny sword.")) ∷ [];
    })
    (listed taken 3 (Some (run 4)))

-- a second take saves nothing
abbrev pub SwordTakeAgain : Type 0
SwordTakeAgain = Runs sword_rules (job.Message (conn 1) alice (codes "take")) (run 5) 0 (listed taken 3 (Some (run 4)))
    (record does_nothing { outs = (conn 1, out.Message (codes "You already carry a shiny sword.")) ∷ [] }) (listed taken 4 (Some (run 5)))

-- a drop puts the sword back
abbrev pub SwordDrop : Type 0
SwordDrop = Runs sword_rules (job.Message (conn 1) alice (codes "drop")) (run 5) 0 (listed taken 3 (Some (run 4)))
    (record {
      outcome = outcome.Ok;
      effects = record no_effects { written = (id 0 1, room_object 1 (id 2 1 ∷ [])) ∷ (id 2 1, alice_player) ∷ [] };
      touched = ask.Object (id 0 1) ∷ ask.Object (id 2 1) ∷ [];
      outs = (conn 1, out.Message (codes "You drop a shiny sword.")) ∷ [];
    })
    (listed alice_entered 4 (Some (run 5)))

-- a drop of nothing saves nothing
abbrev pub SwordDropNothing : Type 0
SwordDropNothing = Runs sword_rules (job.Message (conn 1) alice (codes "drop")) (run 3) 0 (listed alice_entered 2 (Some (run 2)))
    (record does_nothing { outs = (conn 1, out.Message (codes "You carry nothing.")) ∷ [] }) (listed alice_entered 3 (Some (run 3)))

-- the room with the sword and without alice, who carries nothing
abbrev pub alice_left : Lists
alice_left = record {
  objects = (id 0 0, sword_object) ∷ (id 0 1, room_object 0 []) ∷ (id 2 1, alice_player) ∷ [];
  names = (alice_is, id 2 1) ∷ (room, id 0 1) ∷ [];
  tasks = [];
}

-- the end of a session leaves the room, and the sword there; the platform then takes the session's record away
abbrev pub SwordLeave : Type 0
SwordLeave = Runs sword_rules (job.Disconnect (conn 1) alice true) (run 5) 0 (listed taken 3 (Some (run 4)))
    (record {
      outcome = outcome.Ok;
      effects = record no_effects { written = (id 0 1, room_object 0 []) ∷ (id 2 1, alice_player) ∷ []; removed = id 2 0 ∷ []; unbound = alice_record ∷ [] };
      touched = ask.Object (id 0 1) ∷ ask.Object (id 0 1) ∷ ask.Object (id 2 1) ∷ ask.Bound alice_record ∷ ask.Object (id 2 0) ∷ [];
      outs = [];
    })
    (listed alice_left 4 (Some (run 5)))

-- alice in the room, as run 3 logged her in at connection 1
abbrev pub alice_once : Lists
alice_once = record {
  objects = (id 0 0, sword_object) ∷ (id 0 1, room_object 1 (id 3 1 ∷ [])) ∷ (id 3 0, session_object 1) ∷ (id 3 1, alice_player) ∷ [];
  names = (alice_record, id 3 0) ∷ (alice_is, id 3 1) ∷ (room, id 0 1) ∷ [];
  tasks = [];
}

-- and as run 4 logged her in again, at connection 2
abbrev pub alice_twice : Lists
alice_twice = record {
  objects = (id 0 0, sword_object) ∷ (id 0 1, room_object 1 (id 3 1 ∷ [])) ∷ (id 3 1, alice_player) ∷ (id 4 0, session_object 2) ∷ [];
  names = (alice_record, id 4 0) ∷ (alice_is, id 3 1) ∷ (room, id 0 1) ∷ [];
  tasks = [];
}

-- the effects of a login that displaces another
abbrev pub displacing : Effects
displacing = record no_effects { written = (id 4 0, session_object 2) ∷ []; removed = id 3 0 ∷ []; bound = (alice_record, id 4 0) ∷ [] }

-- a login of a connected name: the player leaves the room and enters it again, which is then as it was, and the record alone is another
abbrev pub SwordLoginAgain : Type 0
SwordLoginAgain = Runs sword_rules (job.Login (conn 2) alice) (run 4) 0 (listed alice_once 2 (Some (run 3)))
    (record {
      outcome = outcome.Ok;
      effects = displacing;
      touched =
          ask.Object (id 0 1) ∷ ask.Object (id 0 1) ∷ ask.Bound alice_record ∷ ask.Object (id 3 0)
          ∷ ask.Object (id 4 0) ∷ ask.Bound alice_record ∷ ask.Object (id 0 1) ∷ ask.Object (id 0 1) ∷ [];
      outs = (conn 1, out.Close) ∷ (conn 2, out.Accepted) ∷ [];
    })
    (listed alice_twice 3 (Some (run 4)))

-- how many bytes these effects are written in
abbrev pub SwordLengths : Type 0
SwordLengths = (effects_length no_effects ≡ 28) × (effects_length furnishing ≡ 115) × (effects_length entering ≡ 179) × (effects_length displacing ≡ 91)

-- an object of 30 bytes written, one of 12 removed and a name of 21 bound: with its number and its run the entry has 107 bytes
abbrev pub DisplacingLength : Type 0
DisplacingLength = length (entry_spelling (record { seq = 3; run = run 4; effects = displacing })) ≡ 107
