-- The records of sessions and channels are read exactly.
use Rattle.std.specs.Prelude.{None}
use Rattle.dk_model.specs.Records.{session_bytes, session_of, next_session, channel_bytes, channel_of, next_channel}
use Rattle.dk_records.specs.RecordLaws.{IsSessionRecord, IsChannelRecord, each_session_exact, each_channel_exact}
use Rattle.dk_refs.specs.Managing.{ReadsExactly, reads_exactly}

-- a session's record is read back from its bytes, and from nothing else
pub session_reads : ReadsExactly IsSessionRecord session_bytes session_of
unfolding session_of
session_reads = reads_exactly IsSessionRecord session_bytes next_session (each_session_exact None)

-- the same of a channel's record
pub channel_reads : ReadsExactly IsChannelRecord channel_bytes channel_of
unfolding channel_of
channel_reads = reads_exactly IsChannelRecord channel_bytes next_channel (each_channel_exact None)
