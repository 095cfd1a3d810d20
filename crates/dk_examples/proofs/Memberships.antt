-- What a join and a leave do, where both records are there.
use Rattle.std.proofs.Common.{◌≡◌, ℕ, true, false, nat_eq, Some, List, [], ◌∷◌, ◌++◌, Ok}
use Rattle.std.specs.FinMap.{insert, get as map_get}
use Rattle.dk_types.specs.declared.number.ObjectId.{ObjectId}
use Rattle.dk_types.specs.declared.object.Object.{Object}
use Rattle.dk_types.specs.declared.job.Session.{Session}
use Rattle.dk_model.specs.declared.records.SessionRecord.{SessionRecord}
use Rattle.dk_model.specs.declared.records.ChannelRecord.{ChannelRecord}
use Rattle.dk_model.specs.Runs.{Run, give, and_then, within, get, save, is_too_long, with_object}
use Rattle.dk_model.specs.Records.{SESSION_KIND, CHANNEL_KIND, session_of, session_bytes, channel_of, channel_bytes, session_name, channel_name}
use Rattle.dk_model.specs.References.{get_as}
use Rattle.dk_model.specs.Platforms.{platform_bound, join, leave, is_member, without_member, without_channel}

abbrev pub session_at : List ℕ → Object
session_at bytes = record { kind = SESSION_KIND; bytes = bytes }

abbrev pub channel_at : List ℕ → Object
channel_at bytes = record { kind = CHANNEL_KIND; bytes = bytes }

-- the records of a channel and of a session stand under their names
pub record Stand (name : List ℕ) (session : Session) (s : Run) (cid rid : ObjectId) (c : ChannelRecord) (r : SessionRecord) (cb rb : List ℕ) : Type 0 where
  pub channel_bound : platform_bound s (channel_name name) ≡ Some cid
  pub channel_there : map_get s.world.objects cid ≡ Some (channel_at cb)
  pub channel_read : channel_of cb ≡ Some c
  pub session_bound : platform_bound s (session_name session.name) ≡ Some rid
  pub session_there : map_get s.world.objects rid ≡ Some (session_at rb)
  pub session_read : session_of rb ≡ Some r
  pub same : nat_eq r.conn.0 session.conn.0 ≡ true

module _ (name : List ℕ) (session : Session) (s : Run) (cid rid : ObjectId) (c : ChannelRecord) (r : SessionRecord) (cb rb x y : List ℕ) (there : Stand name session s cid rid c r cb rb)
    (apart : map_get (insert s.world.objects cid (channel_at x)) rid ≡ Some (session_at rb)) (short_x : is_too_long x ≡ false) (short_y : is_too_long y ≡ false) where
  -- a join of one who is no member
  pub joins : is_member session c.members ≡ false → channel_bytes (record c { members = c.members ++ session ∷ [] }) ≡ x → session_bytes (record r { channels = r.channels ++ name ∷ [] }) ≡ y
      → join name session s ≡ (Ok tt, with_object (with_object s cid (Some (channel_at x))) rid (Some (session_at y)))
  unfolding within and_then give get get_as save join
  joins none is_x is_y = simp (there.channel_bound, there.channel_there, there.channel_read, there.session_bound, there.session_there, there.session_read, there.same, apart, short_x, short_y, none, is_x, is_y)

  -- a leave of a member
  pub leaves : is_member session c.members ≡ true → channel_bytes (record c { members = without_member session c.members }) ≡ x → session_bytes (record r { channels = without_channel name r.channels }) ≡ y
      → leave name session s ≡ (Ok tt, with_object (with_object s cid (Some (channel_at x))) rid (Some (session_at y)))
  unfolding within and_then give get get_as save leave
  leaves one is_x is_y = simp (there.channel_bound, there.channel_there, there.channel_read, there.session_bound, there.session_there, there.session_read, there.same, apart, short_x, short_y, one, is_x, is_y)
