-- Channels: who joins, and where a message on a channel goes, with a listener and without.
use Rattle.std.specs.Prelude.{ℕ, true, Some, None, List, [], ◌∷◌, ◌++◌, codes}
use Rattle.dk_types.specs.declared.job.Job.TheVariants as job
use Rattle.dk_types.specs.declared.job.Out.TheVariants as out
use Rattle.dk_types.specs.declared.item.Item.TheVariants as ask
use Rattle.dk_types.specs.declared.number.ObjectId.{ObjectId}
use Rattle.dk_types.specs.declared.object.Object.{Object}
use Rattle.dk_types.specs.declared.fault.AppFault.TheVariants as fault
use Rattle.dk_types.specs.declared.fault.Outcome.TheVariants as outcome
use Rattle.dk_examples.specs.Worked.{run, conn, id, object, in_eight, in_four, Lists, listed, nothing, no_effects, does_nothing, Runs}
use Rattle.dk_examples.specs.ChannelGame.{channel_rules, foo, bar}
use Rattle.dk_examples.specs.SessionRows.{alice, alice_record}

-- a login name
abbrev pub bob : List ℕ
bob = codes "bob"

-- the name of a session's record
abbrev pub bob_record : List ℕ
bob_record = codes "$s.bob"

-- the name of a channel's record
abbrev pub foo_record : List ℕ
foo_record = codes "$c.Foo"

-- the name of a channel's record
abbrev pub bar_record : List ℕ
bar_record = codes "$c.Bar"

-- a channel's record: whether a game listens, reliable delivery, how many members, and these
abbrev pub channel_object : ℕ → ℕ → List ℕ → Object
channel_object listener count members = object 0xFF02 (listener ∷ 0 ∷ in_four count ++ members)

-- a member as bytes
abbrev pub alice_member : List ℕ
alice_member = 5 ∷ alice ++ in_eight 1

-- a member as bytes
abbrev pub bob_member : List ℕ
bob_member = 3 ∷ bob ++ in_eight 2

-- the record of a session on both channels
abbrev pub joined_object : ℕ → Object
joined_object number = object 0xFF01 (in_eight number ++ in_four 2 ++ (3 ∷ foo ++ 3 ∷ bar))

-- the channels' records by name
abbrev pub channel_names : List (List ℕ × ObjectId)
channel_names = (bar_record, id 0 1) ∷ (foo_record, id 0 0) ∷ []

-- Foo without a listener and Bar with one, and no member
abbrev pub two_channels : Lists
two_channels = record { objects = (id 0 0, channel_object 0 0 []) ∷ (id 0 1, channel_object 1 0 []) ∷ []; names = channel_names; tasks = [] }

-- alice has joined both
abbrev pub one_member : Lists
one_member = record {
  objects = (id 0 0, channel_object 0 1 alice_member) ∷ (id 0 1, channel_object 1 1 alice_member) ∷ (id 3 0, joined_object 1) ∷ [];
  names = channel_names ++ (alice_record, id 3 0) ∷ [];
  tasks = [];
}

-- and bob after her
abbrev pub two_members : Lists
two_members = record {
  objects =
      (id 0 0, channel_object 0 2 (alice_member ++ bob_member)) ∷ (id 0 1, channel_object 1 2 (alice_member ++ bob_member))
      ∷ (id 3 0, joined_object 1) ∷ (id 4 0, joined_object 2) ∷ [];
  names = channel_names ++ (alice_record, id 3 0) ∷ (bob_record, id 4 0) ∷ [];
  tasks = [];
}

-- the first run makes 0.0 and 0.1
abbrev pub ChannelsBegin : Type 0
ChannelsBegin = Runs channel_rules job.Initialize (run 0) 0 (listed nothing 0 None)
    (record {
      outcome = outcome.Ok;
      effects = record no_effects { written = two_channels.objects; bound = channel_names };
      touched = ask.Object (id 0 0) ∷ ask.Bound foo_record ∷ ask.Object (id 0 1) ∷ ask.Bound bar_record ∷ [];
      outs = [];
    })
    (listed two_channels 1 (Some (run 0)))

-- a login joins both: its record and theirs are written
abbrev pub LoginJoins : Type 0
LoginJoins = Runs channel_rules (job.Login (conn 1) alice) (run 3) 0 (listed two_channels 1 (Some (run 0)))
    (record {
      outcome = outcome.Ok;
      effects = record no_effects { written = one_member.objects; bound = (alice_record, id 3 0) ∷ [] };
      touched =
          ask.Object (id 3 0) ∷ ask.Bound alice_record ∷ ask.Object (id 0 0) ∷ ask.Object (id 3 0) ∷ ask.Object (id 0 1) ∷ ask.Object (id 3 0) ∷ [];
      outs = (conn 1, out.Accepted) ∷ [];
    })
    (listed one_member 2 (Some (run 3)))

-- a message on Foo, to which no game listens, goes to each member in joining order, the sender among them
abbrev pub UnheardGoesToAll : Type 0
UnheardGoesToAll = Runs channel_rules (job.Channel (conn 1) alice foo (codes "hi")) (run 5) 0 (listed two_members 3 (Some (run 4)))
    (record does_nothing { outs = (conn 1, out.Channel foo (codes "hi")) ∷ (conn 2, out.Channel foo (codes "hi")) ∷ [] })
    (listed two_members 4 (Some (run 5)))

-- one on Bar goes to the game alone, which tells the members what it heard
abbrev pub HeardGoesToTheGame : Type 0
HeardGoesToTheGame = Runs channel_rules (job.Channel (conn 1) alice bar (codes "hi")) (run 6) 0 (listed two_members 4 (Some (run 5)))
    (record does_nothing { outs = (conn 1, out.Channel bar (codes "heard: hi")) ∷ (conn 2, out.Channel bar (codes "heard: hi")) ∷ [] })
    (listed two_members 5 (Some (run 6)))

-- one on a channel that is not there goes nowhere
abbrev pub NoChannelIsNothing : Type 0
NoChannelIsNothing = Runs channel_rules (job.Channel (conn 1) alice (codes "Baz") (codes "hi")) (run 7) 0 (listed two_members 5 (Some (run 6)))
    does_nothing (listed two_members 6 (Some (run 7)))

-- a game that joins such a channel is refused
abbrev pub JoinOfNoChannelFails : Type 0
JoinOfNoChannelFails = Runs channel_rules (job.Message (conn 1) alice (codes "Nope")) (run 8) 0 (listed two_members 6 (Some (run 7)))
    (record does_nothing { outcome = outcome.Fail (fault.Refused 1) })
    (listed two_members 7 (Some (run 8)))

-- bob alone is left
abbrev pub bob_alone : Lists
bob_alone = record {
  objects = (id 0 0, channel_object 0 1 bob_member) ∷ (id 0 1, channel_object 1 1 bob_member) ∷ (id 4 0, joined_object 2) ∷ [];
  names = channel_names ++ (bob_record, id 4 0) ∷ [];
  tasks = [];
}

-- the end of a session leaves its channels before its record goes
abbrev pub DisconnectLeaves : Type 0
DisconnectLeaves = Runs channel_rules (job.Disconnect (conn 1) alice true) (run 9) 0 (listed two_members 7 (Some (run 8)))
    (record {
      outcome = outcome.Ok;
      effects = record no_effects {
        written = (id 0 0, channel_object 0 1 bob_member) ∷ (id 0 1, channel_object 1 1 bob_member) ∷ [];
        removed = id 3 0 ∷ [];
        unbound = alice_record ∷ [];
      };
      touched =
          ask.Object (id 0 0) ∷ ask.Object (id 3 0) ∷ ask.Object (id 0 1) ∷ ask.Object (id 3 0) ∷ ask.Bound alice_record ∷ ask.Object (id 3 0) ∷ [];
      outs = [];
    })
    (listed bob_alone 8 (Some (run 9)))
