-- How a session is written: what its writer is handed, what of it comes to the sink, and how writing ends.
use Rattle.std.specs.Prelude.{◌≡◌, ◌&&◌, ◌||◌, ℕ, Bool, true, false, Option, List, [], ◌∷◌, ◌++◌, Result, Ok, Err}
use Rattle.std.specs.List.{flat_map, filter, list_any, AllByRecursion}
use Rattle.std.specs.Io.KnownBytes.{Appends}
use Rattle.dk_types.specs.Faults.{HasRisen}
use Rattle.dk_types.specs.declared.number.ConnNo.{ConnNo}
use Rattle.dk_types.specs.declared.job.Out.{Out}
use Rattle.dk_types.specs.declared.event.Event.{Event}
use Rattle.dk_types.specs.declared.event.Event.TheVariants as event
use Rattle.dk_model.specs.Frames.{out_spelling}
use Rattle.dk_model.specs.Legal.{Opened, opening_of}
use Rattle.dk_model.specs.Messages.{same_conn, messages, handed}
use Rattle.dk_edge.specs.Streams.{AppendsPrefix}
use Rattle.dk_pump.specs.declared.ends.WriteEnd.{WriteEnd}
use Rattle.dk_pump.specs.declared.ends.WriteEnd.TheVariants as ends
use Rattle.dk_pump.specs.declared.putting.PutRefused.{PutRefused}
use Rattle.dk_pump.specs.declared.putting.PutRefused.TheVariants as refused
use Rattle.dk_pump.specs.Passes.{Enters}
use Rattle.dk_pump.specs.Reading.{EndsSession}

-- the bytes of these messages' frames, in order
abbrev pub frames_of : List Out → List ℕ
frames_of = flat_map out_spelling

-- a Hand of this connection by this pass, and events that are such Hands
abbrev pub IsHand : ℕ → ConnNo → Event → Type 0
IsHand pass conn e = (most : ℕ) × (outs : List Out) × (end : Bool) × (e ≡ event.Hand pass conn most outs end)

-- each event is a Hand of this connection by this pass
abbrev pub AreHands : ℕ → ConnNo → List Event → Type 0
AreHands pass conn events = AllByRecursion (IsHand pass conn) events

-- whether an event is a Hand of the connection, and whether it tells that the connection is gone
abbrev pub is_hand_to : ConnNo → Event → Bool
is_hand_to conn (event.Hand pass to most outs end) = same_conn to conn
is_hand_to conn _ = false

-- whether an event is a Hand of this connection that told its end
abbrev pub tells_end : ConnNo → Event → Bool
tells_end conn (event.Hand pass to most outs end) = same_conn to conn && end
tells_end conn _ = false

-- the Hands of a connection in a history, whoever made them
abbrev pub hands_to : ConnNo → List Event → List Event
hands_to conn events = filter (is_hand_to conn) events

-- Hands, of which the last told that the connection is gone
pub record IsHandedOut (pass : ℕ) (conn : ConnNo) (events : List Event) : Type 0 where
  pub hands : AreHands pass conn events
  pub before : List Event
  pub most : ℕ
  pub outs : List Out
  pub last : events ≡ before ++ event.Hand pass conn most outs true ∷ []

-- Hands, and among them the end of the session, which is not graceful
pub record IsGivenUp (o : Opened) (keeps : Bool) (pass : ℕ) (conn : ConnNo) (front events : List Event) : Type 0 where
  pub before : List Event
  pub closing : List Event
  pub after : List Event
  pub parts : events ≡ before ++ (closing ++ after)
  pub hands_before : AreHands pass conn before
  pub hands_after : AreHands pass conn after
  pub ends : EndsSession o keeps pass conn false front closing

-- What a writer enters, by its end. Both ends that are no want of memory come after a Hand that told that the connection is gone.
abbrev pub IsWriter : Opened → Bool → ℕ → ConnNo → WriteEnd → List Event → List Event → Type 0
IsWriter o keeps pass conn ends.Done front events = IsHandedOut pass conn events
IsWriter o keeps pass conn ends.WriteFault front events = IsGivenUp o keeps pass conn front events × (list_any (tells_end conn) events ≡ true)
IsWriter o keeps pass conn ends.NoMemory front events = IsGivenUp o keeps pass conn front events

-- all these bytes were appended, or where writing stopped before, some of them from the first on
abbrev pub IsPut : WriteEnd → Option (List ℕ) → Option (List ℕ) → List ℕ → Type 0
IsPut ends.Done contents contents' bytes = Appends contents contents' bytes
IsPut ends.WriteFault contents contents' bytes = AppendsPrefix contents contents' bytes
IsPut ends.NoMemory contents contents' bytes = AppendsPrefix contents contents' bytes

-- the sink's count of faults rose in a write fault; want of memory may come after one
abbrev pub CountsPut : WriteEnd → ℕ → ℕ → Type 0
CountsPut ends.Done before after = after ≡ before
CountsPut ends.WriteFault before after = HasRisen before after
CountsPut ends.NoMemory before after = Unit {0}

-- where every Hand of the connection at the front was made in these events, what they handed is all that the commits sent to it
abbrev pub IsAll : Opened → ConnNo → WriteEnd → List Event → List Event → Type 0
IsAll o conn ends.Done events front = hands_to conn front ≡ hands_to conn events → handed events conn ≡ messages o.rules (opening_of o) front conn
IsAll o conn _ events front = Unit {0}

-- The whole of a session's writing: the writer entered these events, and put the frames of what they handed, in order.
pub record WritesSession (o : Opened) (keeps : Bool) (count pass : ℕ) (conn : ConnNo) (end : WriteEnd) (contents contents' : Option (List ℕ)) (counted counted' : ℕ) (front front' : List Event) : Type 0 where
  pub events : List Event
  pub is : IsWriter o keeps pass conn end front' events
  pub put : IsPut end contents contents' (frames_of (handed events conn))
  pub counts : CountsPut end counted counted'
  pub all : IsAll o conn end events front'
  pub enters : Enters o count pass events front front'

-- so far the writer entered these Hands, and put the frames of all that they handed
pub record IsWriting (o : Opened) (count pass : ℕ) (conn : ConnNo) (contents contents' : Option (List ℕ)) (counted counted' : ℕ) (front front' : List Event) : Type 0 where
  pub events : List Event
  pub hands : AreHands pass conn events
  pub put : Appends contents contents' (frames_of (handed events conn))
  pub counts : counted' ≡ counted
  pub enters : Enters o count pass events front front'

-- the frames of these messages were put, or a part of them
abbrev pub ArePut : Result (Unit {0}) PutRefused → Option (List ℕ) → Option (List ℕ) → ℕ → ℕ → List Out → Type 0
ArePut (Ok done) contents contents' counted counted' outs = Appends contents contents' (frames_of outs) × (counted' ≡ counted)
ArePut (Err refused.Failed) contents contents' counted counted' outs = AppendsPrefix contents contents' (frames_of outs) × HasRisen counted counted'
ArePut (Err refused.NoMemory) contents contents' counted counted' outs = AppendsPrefix contents contents' (frames_of outs) × (counted' ≡ counted)

-- how handing on without a sink may end, where the connection was known to be gone or not
abbrev pub EndsHands : ConnNo → Bool → WriteEnd → List Event → Type 0
EndsHands conn gone ends.WriteFault events = (gone || list_any (tells_end conn) events) ≡ true
EndsHands conn gone ends.NoMemory events = Unit {0}
EndsHands conn gone ends.Done events = ⊥

-- Hands that went on until the connection was known to be gone, or until want of memory
pub record HandsOn (o : Opened) (count pass : ℕ) (conn : ConnNo) (gone : Bool) (end : WriteEnd) (front front' : List Event) : Type 0 where
  pub events : List Event
  pub hands : AreHands pass conn events
  pub ends : EndsHands conn gone end events
  pub enters : Enters o count pass events front front'
