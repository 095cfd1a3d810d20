-- Frames: how the messages between a client and the server are spelled on a link, and what a client's bytes are.
--
-- A client's stream is one LOGIN, then any number of MESSAGE and CHANNEL frames, then at most one LOGOUT. Bytes behind
-- a LOGOUT are not looked at.
use Rattle.std.specs.Prelude.{◌≡◌, ℕ, ◌+◌, ◌<◌, ◌≤◌, ◌⊎◌, List, [], ◌∷◌, ◌++◌, length}
use Rattle.std.specs.List.{flat_map}
use Rattle.dk_types.specs.Names.{IsName}
use Rattle.dk_types.specs.declared.job.Out.{Out}
use Rattle.dk_types.specs.declared.job.Out.TheVariants as out
use Rattle.dk_types.specs.Fields.{IsU32, u32_spelling, name_spelling}

-- the most bytes of a body
abbrev pub body_most : ℕ
body_most = 1048576

-- the greatest length that a frame states: an opcode, a name and a body
abbrev pub length_most : ℕ
length_most = 1048833

-- a length, and the opcode and the fields that it counts
unfoldable pub spelled : ℕ → List ℕ → List ℕ
spelled opcode fields = u32_spelling (1 + length fields) ++ opcode ∷ fields

-- what a client sends
pub data Frame : Type 0 where
  Login : (name : List ℕ) → Frame
  Message : (body : List ℕ) → Frame
  Channel : (channel body : List ℕ) → Frame
  Logout : Frame

-- the opcode of a client's frame
abbrev pub opcode_of : Frame → ℕ
opcode_of (Login name) = 1
opcode_of (Message body) = 2
opcode_of (Channel channel body) = 3
opcode_of Logout = 4

-- the bytes of a client's frame behind its opcode
abbrev pub fields_of : Frame → List ℕ
fields_of (Login name) = name_spelling name
fields_of (Message body) = body
fields_of (Channel channel body) = name_spelling channel ++ body
fields_of Logout = []

-- the bytes of a client's frame
abbrev pub frame_spelling : Frame → List ℕ
frame_spelling f = spelled (opcode_of f) (fields_of f)

-- names are names, and bodies are within their limit
abbrev pub IsFrame : Frame → Type 0
IsFrame (Login name) = IsName name
IsFrame (Message body) = length body ≤ body_most
IsFrame (Channel channel body) = IsName channel × (length body ≤ body_most)
IsFrame Logout = Unit {0}

-- what the server sends
abbrev pub out_opcode : Out → ℕ
out_opcode out.Accepted = 0x81
out_opcode out.Refused = 0x82
out_opcode (out.Message body) = 0x83
out_opcode (out.Channel channel body) = 0x84
out_opcode out.Close = 0x85

-- the bytes of a server's frame behind its opcode
abbrev pub out_fields : Out → List ℕ
out_fields out.Accepted = []
out_fields out.Refused = []
out_fields (out.Message body) = body
out_fields (out.Channel channel body) = name_spelling channel ++ body
out_fields out.Close = []

-- the bytes of a server's frame
abbrev pub out_spelling : Out → List ℕ
out_spelling o = spelled (out_opcode o) (out_fields o)

-- its body is within the limit
abbrev pub HasBodyWithin : Out → Type 0
HasBodyWithin out.Accepted = Unit {0}
HasBodyWithin out.Refused = Unit {0}
HasBodyWithin (out.Message body) = length body ≤ body_most
HasBodyWithin (out.Channel channel body) = length body ≤ body_most
HasBodyWithin out.Close = Unit {0}

-- a message as a program holds one: the name of its channel is a name
abbrev pub IsOut : Out → Type 0
IsOut out.Accepted = Unit {0}
IsOut out.Refused = Unit {0}
IsOut (out.Message body) = length body ≤ body_most
IsOut (out.Channel channel body) = IsName channel × (length body ≤ body_most)
IsOut out.Close = Unit {0}

-- how far a client's stream has come: before the LOGIN, behind it, and behind the LOGOUT
pub data Stage : Type 0 where
  AtLogin : Stage
  InSession : Stage
  LoggedOut : Stage

-- the opcodes that may come next
abbrev pub MayCome : Stage → ℕ → Type 0
MayCome AtLogin opcode = opcode ≡ 1
MayCome InSession opcode = (2 ≤ opcode) × (opcode ≤ 4)
MayCome LoggedOut opcode = ⊥

-- the stage of a session after this frame
abbrev pub stage_behind : Frame → Stage
stage_behind (Login name) = InSession
stage_behind (Message body) = InSession
stage_behind (Channel channel body) = InSession
stage_behind Logout = LoggedOut

-- the stage behind all these frames, from this stage on
abbrev pub stage_after : Stage → List Frame → Stage
stage_after stage [] = stage
stage_after stage (f ∷ frames) = stage_after (stage_behind f) frames

-- each frame is one, and may come where it stands
abbrev pub AreInTurn : Stage → List Frame → Type 0
AreInTurn stage [] = Unit {0}
AreInTurn stage (f ∷ frames) = MayCome stage (opcode_of f) × IsFrame f × AreInTurn (stage_behind f) frames

-- the bytes of these frames
abbrev pub stream_of : List Frame → List ℕ
stream_of = flat_map frame_spelling

-- the bytes state this length, and these stand behind it
pub record States (bytes : List ℕ) (len : ℕ) (behind : List ℕ) : Type 0 where
  pub fits : IsU32 len
  pub parts : bytes ≡ u32_spelling len ++ behind

-- the bytes state a length that a frame may have
pub record Begins (bytes : List ℕ) (len : ℕ) (behind : List ℕ) : Type 0 where
  pub states : States bytes len behind
  pub some : 0 < len
  pub most : len ≤ length_most

-- Less than a frame: fewer bytes than a length has, or a length that a frame may have and no opcode, or an opcode that may come and fewer bytes than the length counts.
abbrev pub IsPartial : Stage → List ℕ → Type 0
IsPartial stage bytes =
    (length bytes < 4)
    ⊎ ((len : ℕ) × Begins bytes len [])
    ⊎ ((len opcode : ℕ) × (fields : List ℕ) × Begins bytes len (opcode ∷ fields) × MayCome stage opcode × (1 + length fields < len))

-- what is wrong with a frame
pub data Fault : Type 0 where
  BadLength : Fault
  BadOpcode : Fault
  BadField : Fault

-- A length that no frame may have; an opcode that may not come, behind a length that a frame may have; or both as they may be and as many bytes as the length counts, but these are no frame's.
abbrev pub IsBad : Stage → List ℕ → Fault → Type 0
IsBad stage bytes BadLength = (len : ℕ) × (behind : List ℕ) × States bytes len behind × ((len ≡ 0) ⊎ (length_most < len))
IsBad stage bytes BadOpcode = (len opcode : ℕ) × (fields : List ℕ) × Begins bytes len (opcode ∷ fields) × ¬ MayCome stage opcode
IsBad stage bytes BadField =
    (len opcode : ℕ) × (fields : List ℕ) × Begins bytes len (opcode ∷ fields) × MayCome stage opcode × (len ≤ 1 + length fields)
    × ((f : Frame) (behind : List ℕ) → IsFrame f → bytes ≡ frame_spelling f ++ behind → ⊥)

-- what follows the whole frames: nothing, a begun frame, or a bad frame, with the place of its first byte
pub data Following : Type 0 where
  Nothing : Following
  Begun : (at : ℕ) → Following
  Bad : (at : ℕ) (fault : Fault) → Following

-- what follows is told of the bytes that stand at this place
abbrev pub Tells : Stage → ℕ → List ℕ → Following → Type 0
Tells stage at bytes Nothing = bytes ≡ []
Tells stage at bytes (Begun place) = (place ≡ at) × (0 < length bytes) × IsPartial stage bytes
Tells stage at bytes (Bad place fault) = (place ≡ at) × IsBad stage bytes fault

-- the same, but that bytes behind a LOGOUT are not looked at
abbrev pub Follows : Stage → ℕ → List ℕ → Following → Type 0
Follows AtLogin at bytes next = Tells AtLogin at bytes next
Follows InSession at bytes next = Tells InSession at bytes next
Follows LoggedOut at bytes next = next ≡ Nothing

-- the stream begins with these whole frames, and this follows them
pub record IsStream (stream : List ℕ) (frames : List Frame) (next : Following) : Type 0 where
  pub in_turn : AreInTurn AtLogin frames
  pub rest : List ℕ
  pub whole : stream ≡ stream_of frames ++ rest
  pub follows : Follows (stage_after AtLogin frames) (length (stream_of frames)) rest next
