-- The calls that answer a channel: the platform's own, with the channel that they are of.
use Rattle.std.specs.Prelude.{ℕ, Bool, Option, List, [], Ok}
use Rattle.dk_model.specs.declared.records.Delivery.{Delivery}
use Rattle.dk_model.specs.Runs.{Act, and_then, give, create, bind}
use Rattle.dk_model.specs.Platforms as platform
use Rattle.dk_types.specs.declared.number.ObjectId.{ObjectId}
use Rattle.dk_model.specs.Records.{CHANNEL_KIND, channel_bytes, channel_name}
use Rattle.dk_channels.specs.declared.channel.Channel.{Channel}

-- the channel that was made
abbrev pub create_channel : List ℕ → Bool → Delivery → Act Channel
create_channel name listener delivery = and_then (platform.create_channel name listener delivery) (λ _. give (Ok (record { name = name })))

-- the channel that is there
abbrev pub get_channel : List ℕ → Act Channel
get_channel name = and_then (platform.get_channel name) (λ _. give (Ok (record { name = name })))

-- the id of a channel's record, where there is one
unfoldable pub recorded : List ℕ → Act (Option ObjectId)
recorded name s = (Ok (platform.platform_bound s (channel_name name)), s)

-- a record without members, under a name
abbrev pub recording : List ℕ → Bool → Delivery → Act (Unit {0})
recording key listener delivery = and_then (create CHANNEL_KIND (channel_bytes (record { listener = listener; delivery = delivery; members = [] }))) (λ id. bind key id)
