-- How a session is read: what its client's frames enter, and how reading ends.
--
-- A session's stream is what its source gave. The decoder stands for it: `HasDecoded` says which whole frames it begins
-- with and what follows them. Everything that a session enters is told by these frames.
use Rattle.std.specs.Prelude.{◌≡◌, ◌⊎◌, ℕ, ◌<◌, ◌≤◌, Bool, true, false, List, [], ◌∷◌, ◌++◌, map, Option, Some, None, Result, Ok, Err}
use Rattle.std.specs.List.{flat_map}
use mathlib.Core.List.{IsPrefix}
use Rattle.std.specs.Io.KnownBytes.{Consumes}
use Rattle.dk_types.specs.Faults.{HasRisen}
use Rattle.dk_types.specs.declared.limits.TheConstants.{NUMBERS_END}
use Rattle.dk_types.specs.declared.number.ConnNo.{ConnNo}
use Rattle.dk_types.specs.declared.job.Input.{Input}
use Rattle.dk_types.specs.declared.job.Input.TheVariants as input
use Rattle.dk_types.specs.declared.event.Event.{Event}
use Rattle.dk_types.specs.declared.event.Event.TheVariants as event
use Rattle.dk_types.specs.declared.event.ConnectReply.TheVariants as connected
use Rattle.dk_types.specs.declared.event.PostReply.{PostReply}
use Rattle.dk_types.specs.declared.event.PostReply.TheVariants as posted
use Rattle.dk_model.specs.Frames.{Frame, Login, Message, Channel, Logout, InSession, Nothing, Begun, Bad, stage_behind, stage_after}
use Rattle.dk_model.specs.Lawful.{IsInput}
use Rattle.dk_model.specs.Events.{is_open}
use Rattle.dk_model.specs.Legal.{Opened, world_after}
use Rattle.dk_connections.specs.declared.answers.PostRefused.{PostRefused}
use Rattle.dk_connections.specs.declared.answers.PostRefused.TheVariants as refused
use Rattle.dk_frame.specs.Meanings.{frame_of, fault_of}
use Rattle.dk_frame.specs.Decoding.{Decoding, HasDecoded, following}
use Rattle.dk_pump.specs.declared.limits.TheConstants.{SESSION_MOST_BYTES}
use Rattle.dk_pump.specs.declared.ends.SessionEnd.{SessionEnd}
use Rattle.dk_pump.specs.declared.ends.SessionEnd.TheVariants as ends
use Rattle.dk_pump.specs.declared.greeting.Greeted.{Greeted}
use Rattle.dk_pump.specs.declared.posting.Progress.{Progress}
use Rattle.dk_pump.specs.declared.posting.Progress.TheVariants as progress
use Rattle.dk_pump.specs.Passes.{Enters}

-- ---- what frames enter

-- what a frame puts into its session's queue; a LOGIN and a LOGOUT put nothing there
abbrev pub inputs_in : Frame → List Input
inputs_in (Login name) = []
inputs_in (Message body) = input.Message body ∷ []
inputs_in (Channel channel body) = input.Channel channel body ∷ []
inputs_in Logout = []

-- the inputs of the MESSAGE and CHANNEL frames, in order
abbrev pub inputs_of : List Frame → List Input
inputs_of = flat_map inputs_in

-- the posts of these inputs, in order, each of which was taken
abbrev pub taken : ℕ → ConnNo → List Input → List Event
taken pass conn inputs = map (λ i. event.Post pass conn i posted.Taken) inputs

-- the inputs were posted up to the first that was not taken, which got this answer
pub record StopsAt (pass : ℕ) (conn : ConnNo) (inputs : List Input) (reply : PostReply) (events : List Event) : Type 0 where
  pub before : List Input
  pub at : Input
  pub after : List Input
  pub parts : inputs ≡ before ++ at ∷ after
  pub posts : events ≡ taken pass conn before ++ event.Post pass conn at reply ∷ []

-- the first of the inputs were posted and taken
pub record TakesFirst (pass : ℕ) (conn : ConnNo) (inputs : List Input) (events : List Event) : Type 0 where
  pub before : List Input
  pub after : List Input
  pub parts : inputs ≡ before ++ after
  pub posts : events ≡ taken pass conn before

-- this is what a frame in a session asks for
pub record IsAsked (f : Frame) (asked : Input) : Type 0 where
  pub input : inputs_in f ≡ asked ∷ []
  pub goes_on : stage_behind f ≡ InSession
  pub within : IsInput asked

-- How the posting of frames in order may end: all were posted, and none was a LOGOUT; or a LOGOUT is the last of them; or they were posted up to the post that was refused.
abbrev pub Posts : ℕ → ConnNo → List Frame → Result Progress PostRefused → List Event → Type 0
Posts pass conn frames (Ok progress.All) events = (events ≡ taken pass conn (inputs_of frames)) × (stage_after InSession frames ≡ InSession)
Posts pass conn frames (Ok progress.ToLogout) events = (before : List Frame) × (frames ≡ before ++ Logout ∷ []) × (events ≡ taken pass conn (inputs_of frames))
Posts pass conn frames (Err refused.Closed) events = StopsAt pass conn (inputs_of frames) posted.Closed events
Posts pass conn frames (Err (refused.QueueFull waiting)) events = StopsAt pass conn (inputs_of frames) (posted.QueueFull waiting) events
Posts pass conn frames (Err refused.NoMemory) events = TakesFirst pass conn (inputs_of frames) events

-- the pass entered such posts, and no more
pub record PostsFrames (o : Opened) (count pass : ℕ) (conn : ConnNo) (frames : List Frame) (r : Result Progress PostRefused) (front front' : List Event) : Type 0 where
  pub events : List Event
  pub posts : Posts pass conn frames r events
  pub enters : Enters o count pass events front front'

-- ---- what is read

-- these bytes were taken from what was left, and fed to the decoder, which gave these frames of them
pub record IsRead (left left' : Option (List ℕ)) (old new : Decoding) (bytes : List ℕ) (frames : List Frame) : Type 0 where
  pub consumed : Consumes left left' bytes
  pub fed : (stream : List ℕ) (given : List Frame) → HasDecoded old stream given → HasDecoded new (stream ++ bytes) (given ++ frames)

-- the bytes are all that was left, where that is told
abbrev pub IsWhole : Option (List ℕ) → List ℕ → Type 0
IsWhole None bytes = Unit {0}
IsWhole (Some left) bytes = left ≡ bytes

-- Why reading ended, from what was left at its begin, the bytes that were read, and what the decoder then is. The budget ends a session before it looks for more, and all that looks for more is within it. Where no number was left, numbers have come to their end.
abbrev pub IsCause : SessionEnd → Option (List ℕ) → List ℕ → Decoding → Type 0
IsCause ends.Logout left bytes d = Unit {0}
IsCause (ends.End at) left bytes d = (following d ≡ Nothing) × (at ≡ d.fed) × IsWhole left bytes × (d.fed < SESSION_MOST_BYTES)
IsCause (ends.Truncated at) left bytes d = (following d ≡ Begun at) × IsWhole left bytes × (d.fed < SESSION_MOST_BYTES)
IsCause (ends.Bad bad) left bytes d = following d ≡ Bad bad.at (fault_of bad.why)
IsCause ends.ReadFault left bytes d = d.fed < SESSION_MOST_BYTES
IsCause (ends.Flood waiting) left bytes d = Unit {0}
IsCause ends.Closed left bytes d = Unit {0}
IsCause (ends.Exhausted next) left bytes d = next ≡ NUMBERS_END
IsCause (ends.Budget bytes_read) left bytes d = (bytes_read ≡ SESSION_MOST_BYTES) × (d.fed ≡ SESSION_MOST_BYTES)
IsCause ends.NoMemory left bytes d = Unit {0}

-- the ends that a read alone may come to
abbrev pub IsOfRead : SessionEnd → Type 0
IsOfRead ends.Logout = ⊥
IsOfRead (ends.End at) = Unit {0}
IsOfRead (ends.Truncated at) = Unit {0}
IsOfRead (ends.Bad bad) = Unit {0}
IsOfRead ends.ReadFault = Unit {0}
IsOfRead (ends.Flood waiting) = ⊥
IsOfRead ends.Closed = ⊥
IsOfRead (ends.Exhausted next) = ⊥
IsOfRead (ends.Budget bytes) = Unit {0}
IsOfRead ends.NoMemory = Unit {0}

-- the source's count of faults rose in a read fault, and else stayed
abbrev pub Counts : SessionEnd → ℕ → ℕ → Type 0
Counts ends.ReadFault before after = HasRisen before after
Counts _ before after = after ≡ before

-- want of memory alone may lose bytes that were read
abbrev pub Loses : SessionEnd → List ℕ → Type 0
Loses ends.NoMemory lost = Unit {0}
Loses _ lost = lost ≡ []

-- the decoder stands for some stream
pub record HasStream (d : Decoding) : Type 0 where
  pub stream : List ℕ
  pub given : List Frame
  pub stands : HasDecoded d stream given

-- one more piece was read, and these frames came of it
pub record IsNextRead (frames : List Frame) (left left' : Option (List ℕ)) (old new : Decoding) (counted counted' : ℕ) : Type 0 where
  pub bytes : List ℕ
  pub read : IsRead left left' old new bytes frames
  pub more : old.fed < new.fed
  pub counts : counted' ≡ counted

-- reading ended, and no further frame came
pub record IsNextEnd (end : SessionEnd) (left left' : Option (List ℕ)) (old new : Decoding) (counted counted' : ℕ) : Type 0 where
  pub bytes : List ℕ
  pub lost : List ℕ
  pub loses : Loses end lost
  pub consumed : Consumes left left' (bytes ++ lost)
  pub fed : (stream : List ℕ) (given : List Frame) → HasDecoded old stream given → HasDecoded new (stream ++ bytes) given
  pub of_read : IsOfRead end
  pub cause : IsCause end left bytes new
  pub counts : Counts end counted counted'

-- ---- a session's begin

-- the first frames came, of these bytes
pub record IsFirstRead (frames : List Frame) (left left' : Option (List ℕ)) (new : Decoding) (counted counted' : ℕ) : Type 0 where
  pub bytes : List ℕ
  pub consumed : Consumes left left' bytes
  pub stands : HasDecoded new bytes frames
  pub counts : counted' ≡ counted

-- reading ended, and no frame had come
pub record IsFirstEnd (end : SessionEnd) (left left' : Option (List ℕ)) (new : Decoding) (counted counted' : ℕ) : Type 0 where
  pub bytes : List ℕ
  pub lost : List ℕ
  pub loses : Loses end lost
  pub consumed : Consumes left left' (bytes ++ lost)
  pub stands : HasDecoded new bytes []
  pub of_read : IsOfRead end
  pub cause : IsCause end left bytes new
  pub counts : Counts end counted counted'

-- the decoder gave a LOGIN and then these frames, within the budget of a session
pub record IsGreeted (d : Decoding) (rest : List Frame) : Type 0 where
  pub stream : List ℕ
  pub name : List ℕ
  pub stands : HasDecoded d stream (Login name ∷ rest)
  pub few : d.fed ≤ SESSION_MOST_BYTES

-- what greeting entered once the LOGIN frame was whole
abbrev pub ConnectsBy : ℕ → List Frame → Result Greeted SessionEnd → List Event → Type 0
ConnectsBy pass frames (Ok greeted) events =
    (name : List ℕ) × (frames ≡ Login name ∷ map frame_of greeted.rest.items) × (events ≡ event.Connect pass name (connected.Number greeted.conn) ∷ [])
ConnectsBy pass frames (Err (ends.Exhausted next)) events =
    (name : List ℕ) × (rest : List Frame) × (frames ≡ Login name ∷ rest) × (events ≡ event.Connect pass name (connected.Exhausted next) ∷ [])
ConnectsBy pass frames (Err ends.NoMemory) events = events ≡ []
ConnectsBy pass frames (Err (ends.End at)) events = (frames ≡ []) × (events ≡ [])
ConnectsBy pass frames (Err (ends.Truncated at)) events = (frames ≡ []) × (events ≡ [])
ConnectsBy pass frames (Err (ends.Bad bad)) events = (frames ≡ []) × (events ≡ [])
ConnectsBy pass frames (Err ends.ReadFault) events = (frames ≡ []) × (events ≡ [])
ConnectsBy pass frames (Err (ends.Budget bytes)) events = (frames ≡ []) × (events ≡ [])
ConnectsBy pass frames (Err ends.Logout) events = ⊥
ConnectsBy pass frames (Err (ends.Flood waiting)) events = ⊥
ConnectsBy pass frames (Err ends.Closed) events = ⊥

-- what holds of an end that stands in an answer
abbrev pub OfEnd : {T : Type 0} → Result T SessionEnd → (SessionEnd → Type 0) → Type 0 → Type 0
OfEnd (Ok value) of_end else_ = else_
OfEnd (Err end) of_end else_ = of_end end

-- Greeting read these bytes, of which these whole frames came, and entered these events of its own.
pub record Greets (o : Opened) (count pass : ℕ) (r : Result Greeted SessionEnd) (left left' : Option (List ℕ)) (new : Decoding) (counted counted' : ℕ) (front front' : List Event) : Type 0 where
  pub bytes : List ℕ
  pub lost : List ℕ
  pub frames : List Frame
  pub events : List Event
  pub consumed : Consumes left left' (bytes ++ lost)
  pub loses : OfEnd r (λ end. Loses end lost) (lost ≡ [])
  pub stands : HasDecoded new bytes frames
  pub few : new.fed ≤ SESSION_MOST_BYTES
  pub connects : ConnectsBy pass frames r events
  pub cause : OfEnd r (λ end. IsCause end left bytes new) (Unit {0})
  pub counts : OfEnd r (λ end. Counts end counted counted') (counted' ≡ counted)
  pub enters : Enters o count pass events front front'

-- ---- a session's posts

-- What is posted of the frames behind the LOGIN, by how reading ends: all of their inputs, or those up to the post that was refused; and a LOGOUT is the last of them exactly where the session ends by it.
abbrev pub IsPosted : ℕ → ConnNo → List Frame → SessionEnd → List Event → Type 0
IsPosted pass conn frames ends.Logout events = (before : List Frame) × (frames ≡ before ++ Logout ∷ []) × (events ≡ taken pass conn (inputs_of frames))
IsPosted pass conn frames (ends.End at) events = (stage_after InSession frames ≡ InSession) × (events ≡ taken pass conn (inputs_of frames))
IsPosted pass conn frames (ends.Truncated at) events = (stage_after InSession frames ≡ InSession) × (events ≡ taken pass conn (inputs_of frames))
IsPosted pass conn frames (ends.Bad bad) events = (stage_after InSession frames ≡ InSession) × (events ≡ taken pass conn (inputs_of frames))
IsPosted pass conn frames ends.ReadFault events = (stage_after InSession frames ≡ InSession) × (events ≡ taken pass conn (inputs_of frames))
IsPosted pass conn frames (ends.Budget bytes) events = (stage_after InSession frames ≡ InSession) × (events ≡ taken pass conn (inputs_of frames))
IsPosted pass conn frames (ends.Flood waiting) events = StopsAt pass conn (inputs_of frames) (posted.QueueFull waiting) events
IsPosted pass conn frames ends.Closed events = StopsAt pass conn (inputs_of frames) posted.Closed events
IsPosted pass conn frames (ends.Exhausted next) events = ⊥
IsPosted pass conn frames ends.NoMemory events = TakesFirst pass conn (inputs_of frames) events

-- Behind the frames `rest`, which greeting left, reading went on to this end: it read these bytes, which gave the frames `later`, and entered these events.
pub record ReadsTo (o : Opened) (count pass : ℕ) (conn : ConnNo) (end : SessionEnd) (rest : List Frame) (left left' : Option (List ℕ)) (old new : Decoding) (counted counted' : ℕ) (front front' : List Event) : Type 0 where
  pub bytes : List ℕ
  pub lost : List ℕ
  pub later : List Frame
  pub events : List Event
  pub consumed : Consumes left left' (bytes ++ lost)
  pub loses : Loses end lost
  pub fed : (stream : List ℕ) (given : List Frame) → HasDecoded old stream given → HasDecoded new (stream ++ bytes) (given ++ later)
  pub posted : IsPosted pass conn (rest ++ later) end events
  pub cause : IsCause end left bytes new
  pub counts : Counts end counted counted'
  pub enters : Enters o count pass events front front'

-- a Disconnect has always a place
abbrev pub HasPlace : PostReply → Type 0
HasPlace posted.Taken = Unit {0}
HasPlace posted.Closed = Unit {0}
HasPlace (posted.QueueFull waiting) = ⊥

-- one Disconnect was posted; it was taken, or the connection was closed
pub record IsDisconnect (pass : ℕ) (conn : ConnNo) (graceful : Bool) (e : Event) : Type 0 where
  pub reply : PostReply
  pub place : HasPlace reply
  pub is : e ≡ event.Post pass conn (input.Disconnect graceful) reply

-- one event, and it is such a Disconnect
abbrev pub IsOneDisconnect : ℕ → ConnNo → Bool → List Event → Type 0
IsOneDisconnect pass conn graceful events = (e : Event) × (events ≡ e ∷ []) × IsDisconnect pass conn graceful e

-- the connection was not open at a time that the front has seen
pub record WasShut (o : Opened) (conn : ConnNo) (front : List Event) : Type 0 where
  pub at : List Event
  pub seen : IsPrefix at front
  pub shut : is_open (world_after o at) conn ≡ false

-- a session ends by one Disconnect; where events are kept it may be none, since there was no memory to keep it, but the connection was closed then
abbrev pub EndsSession : Opened → Bool → ℕ → ConnNo → Bool → List Event → List Event → Type 0
EndsSession o keeps pass conn graceful front events = IsOneDisconnect pass conn graceful events ⊎ ((events ≡ []) × ((keeps ≡ true) × WasShut o conn front))

-- the pass entered that, and no more
pub record Disconnects (o : Opened) (keeps : Bool) (count pass : ℕ) (conn : ConnNo) (graceful : Bool) (front front' : List Event) : Type 0 where
  pub events : List Event
  pub ends : EndsSession o keeps pass conn graceful front' events
  pub enters : Enters o count pass events front front'

-- what a session's reader enters last: its end, graceful exactly after a LOGOUT; nothing where a post found the connection closed
abbrev pub Closes : Opened → Bool → ℕ → ConnNo → SessionEnd → List Event → List Event → Type 0
Closes o keeps pass conn ends.Closed front events = events ≡ []
Closes o keeps pass conn ends.Logout front events = EndsSession o keeps pass conn true front events
Closes o keeps pass conn _ front events = EndsSession o keeps pass conn false front events

-- the pass entered that, and no more
pub record IsClosed (o : Opened) (keeps : Bool) (count pass : ℕ) (conn : ConnNo) (end : SessionEnd) (front front' : List Event) : Type 0 where
  pub events : List Event
  pub closes : Closes o keeps pass conn end front' events
  pub enters : Enters o count pass events front front'

-- The whole of a session's reading: to this end, and then its Disconnect.
pub record ReadsSession (o : Opened) (keeps : Bool) (count pass : ℕ) (conn : ConnNo) (end : SessionEnd) (rest : List Frame) (left left' : Option (List ℕ)) (old new : Decoding) (counted counted' : ℕ) (front front' : List Event) : Type 0 where
  pub mid : List Event
  pub closing : List Event
  pub reads : ReadsTo o count pass conn end rest left left' old new counted counted' front mid
  pub closes : Closes o keeps pass conn end front' closing
  pub enters : Enters o count pass (reads.events ++ closing) front front'
