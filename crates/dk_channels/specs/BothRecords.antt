-- What the refusals of a join or a leave tell: of the channel's record, or of the session's.
use Rattle.std.specs.Prelude.{ℕ, ◌==◌, Option, Some, None, List, [], ◌∷◌, ◌++◌, if◌then◌else◌}
use Rattle.dk_types.specs.declared.job.Session.{Session}
use Rattle.dk_model.specs.declared.records.SessionRecord.{SessionRecord}
use Rattle.dk_model.specs.declared.records.ChannelRecord.{ChannelRecord}
use Rattle.dk_model.specs.DurableWorlds.{DurableWorld}
use Rattle.dk_model.specs.Runs.{is_too_long}
use Rattle.dk_model.specs.Records.{CHANNEL_KIND, channel_bytes, channel_of, channel_name, session_bytes, session_of, session_name}
use Rattle.dk_model.specs.Platforms.{without_member, without_channel}
use Rattle.dk_refs.specs.Telling.{kind_under, value_under}

-- the kind of the one, or where that is a channel's, of the other
abbrev pub other_kind : Option ℕ → Option ℕ → Option ℕ
other_kind None second = None
other_kind (Some first) second = if first == CHANNEL_KIND then second else Some first

-- the kind of a channel's record, or where that is one, of a session's
abbrev pub kind_of_records : List ℕ → Session → DurableWorld → Option ℕ
kind_of_records name session world = other_kind (kind_under (channel_name name) world) (kind_under (session_name session.name) world)

-- the bytes of the one where they are too long, and else those of the other
abbrev pub too_long_of : List ℕ → List ℕ → List ℕ
too_long_of first second = if is_too_long first then first else second

-- the bytes of the two records as a join would leave them
abbrev pub joined : List ℕ → Session → ChannelRecord → SessionRecord → List ℕ
joined name session c r = too_long_of (channel_bytes (record c { members = c.members ++ session ∷ [] })) (session_bytes (record r { channels = r.channels ++ name ∷ [] }))

-- the same of a leave
abbrev pub left : List ℕ → Session → ChannelRecord → SessionRecord → List ℕ
left name session c r = too_long_of (channel_bytes (record c { members = without_member session c.members })) (session_bytes (record r { channels = without_channel name r.channels }))

-- where both records are there
abbrev pub of_both : (ChannelRecord → SessionRecord → List ℕ) → Option ChannelRecord → Option SessionRecord → List ℕ
of_both after None own = []
of_both after (Some c) None = []
of_both after (Some c) (Some r) = after c r

-- the bytes of the records in a world as a call would leave them
abbrev pub records_after : (List ℕ → Session → ChannelRecord → SessionRecord → List ℕ) → List ℕ → Session → DurableWorld → List ℕ
records_after after name session world = of_both (after name session) (value_under channel_of (channel_name name) world) (value_under session_of (session_name session.name) world)
