-- What a join and a leave ask for.
use Rattle.std.specs.Prelude.{◌≡◌, ◌⊎◌, ℕ, Some, List}
use Rattle.dk_types.specs.declared.item.Item.{Item}
use Rattle.dk_types.specs.declared.job.Session.{Session}
use Rattle.dk_model.specs.declared.records.ChannelRecord.{ChannelRecord}
use Rattle.dk_model.specs.DurableWorlds.{DurableWorld, Agrees}
use Rattle.dk_model.specs.Records.{CHANNEL_KIND, channel_of, channel_name, session_name}
use Rattle.dk_overlay.specs.ReadsAndWrites.{ReadsAndWrites}
use Rattle.dk_txn.specs.Current.{current}
use Rattle.dk_refs.specs.RecordAsks.{IsOfRecord}
use Rattle.dk_refs.specs.Telling.{kind_under, value_under}

-- a world has this record of the channel
pub record HasRecord (name : List ℕ) (c : ChannelRecord) (world : DurableWorld) : Type 0 where
  pub kind : kind_under (channel_name name) world ≡ Some CHANNEL_KIND
  pub value : value_under channel_of (channel_name name) world ≡ Some c

-- the channel had a record before, in every agreeing world
abbrev pub HadRecord : ReadsAndWrites → ReadsAndWrites → List ℕ → Type 0
HadRecord before after name = (c : ChannelRecord) × ((d : DurableWorld) → Agrees d after.reads → HasRecord name c (current before d).world)

-- an item of the channel's record, or, where the channel had one, of the session's
abbrev pub IsOfBoth : ReadsAndWrites → ReadsAndWrites → List ℕ → Session → Item → Type 0
IsOfBoth before after name session q = IsOfRecord before after (channel_name name) q ⊎ (HadRecord before after name × IsOfRecord before after (session_name session.name) q)
