-- What a session that is polled has done since it began, in its midst and at its end.
--
-- It reads and posts as `greet` and `read_session` do, and hands and puts as `write_session` does, all by one pass and over
-- one link. The pass's events are those of the reading and those of the writing, each in their order.
use Rattle.std.specs.Prelude.{◌≡◌, ◌⊎◌, ℕ, ◌≤◌, Bool, true, false, List, [], ◌∷◌, ◌++◌, Option, Some, None, Result, Ok, Err, IsSome, cond, unwrap_or}
use Rattle.std.specs.List.{list_any}
use Rattle.std.specs.Io.KnownBytes.{Consumes, Appends}
use mathlib.Core.List.{IsPrefix}
use Rattle.futures.specs.declared.task.Poll.{Poll}
use Rattle.futures.specs.declared.task.Poll.TheVariants.{Ready, Pending}
use Rattle.dk_types.specs.Faults.{HasRisen}
use Rattle.dk_types.specs.declared.fault.Failed.{Failed}
use Rattle.dk_types.specs.declared.number.ConnNo.{ConnNo}
use Rattle.dk_types.specs.declared.job.Out.{Out}
use Rattle.dk_types.specs.declared.event.Event.{Event}
use Rattle.dk_types.specs.declared.event.Event.TheVariants as event
use Rattle.dk_types.specs.declared.event.ConnectReply.TheVariants as connected
use Rattle.dk_model.specs.Frames.{Frame, Login, InSession, stage_after}
use Rattle.dk_model.specs.Legal.{Opened}
use Rattle.dk_model.specs.Messages.{handed}
use Rattle.dk_edge.specs.Streams.{AppendsPrefix}
use Rattle.dk_frame.specs.Decoding.{Decoding, HasDecoded}
use Rattle.dk_turn.specs.Fronts.{Known}
use Rattle.dk_pump.specs.declared.limits.TheConstants.{SESSION_MOST_BYTES}
use Rattle.dk_pump.specs.declared.ends.SessionEnd.{SessionEnd}
use Rattle.dk_pump.specs.declared.ends.SessionEnd.TheVariants as ends
use Rattle.dk_pump.specs.declared.ends.WriteEnd.{WriteEnd}
use Rattle.dk_pump.specs.declared.ends.WriteEnd.TheVariants as written
use Rattle.dk_pump.specs.declared.putting.PutRefused.{PutRefused}
use Rattle.dk_pump.specs.declared.putting.PutRefused.TheVariants as refused
use Rattle.dk_pump.specs.declared.course.Course.{Course}
use Rattle.dk_pump.specs.Passes.{Enters}
use Rattle.dk_pump.specs.Reading.{inputs_of, taken, IsRead, IsCause, Counts, Loses, ConnectsBy, IsPosted, Closes, IsClosed}
use Rattle.dk_pump.specs.Writing.{frames_of, AreHands, tells_end, IsHandedOut, IsGivenUp, IsWriter, IsPut, CountsPut, IsAll}

-- ---- a link in a session

-- What is seen of a link: the bytes that are left to take and those that were put, where it tells them, its counts of faults, and how often a poll of taking and one of putting was pending. Each count stays at the end of its type.
pub record LinkState : Type 0 where
  pub left : Option (List ℕ)
  pub contents : Option (List ℕ)
  pub take_counted : ℕ
  pub put_counted : ℕ
  pub take_waits : ℕ
  pub put_waits : ℕ

-- the polls that were pending are counted, and no others
abbrev pub CountsWaits : ℕ → ℕ → Poll (Result ℕ Failed) → Type 0
CountsWaits before after Pending = HasRisen before after
CountsWaits before after (Ready result) = after ≡ before

-- the direction of putting is as it was
pub record KeepsPut (old new : LinkState) : Type 0 where
  pub contents : new.contents ≡ old.contents
  pub counted : new.put_counted ≡ old.put_counted
  pub waits : new.put_waits ≡ old.put_waits

-- the direction of taking is as it was
pub record KeepsTake (old new : LinkState) : Type 0 where
  pub left : new.left ≡ old.left
  pub counted : new.take_counted ≡ old.take_counted
  pub waits : new.take_waits ≡ old.take_waits

-- ---- one poll of a direction

-- one more piece was read, or nothing, and these frames came of it
pub record IsPolledRead (frames : List Frame) (left left' : Option (List ℕ)) (old new : Decoding) (counted counted' : ℕ) : Type 0 where
  pub bytes : List ℕ
  pub read : IsRead left left' old new bytes frames
  pub counts : counted' ≡ counted

-- Of these bytes some were put and the others are left; or the link failed with a part of them put; or there was no memory, and none were put; or it was not ready, and none were put.
abbrev pub ArePolled : Poll (Result (Unit {0}) PutRefused) → Option (List ℕ) → Option (List ℕ) → ℕ → ℕ → List ℕ → List ℕ → Type 0
ArePolled (Ready (Ok done)) contents contents' counted counted' old new = (bytes : List ℕ) × (old ≡ bytes ++ new) × Appends contents contents' bytes × (counted' ≡ counted)
ArePolled (Ready (Err refused.Failed)) contents contents' counted counted' old new = AppendsPrefix contents contents' old × HasRisen counted counted'
ArePolled (Ready (Err refused.NoMemory)) contents contents' counted counted' old new = (new ≡ old) × (contents' ≡ contents) × (counted' ≡ counted)
ArePolled Pending contents contents' counted counted' old new = (new ≡ old) × Appends contents contents' [] × (counted' ≡ counted)

-- a poll that waits was pending at the link
abbrev pub WaitsToPut : Poll (Result (Unit {0}) PutRefused) → ℕ → ℕ → Type 0
WaitsToPut Pending before after = HasRisen before after
WaitsToPut (Ready result) before after = after ≡ before

-- what is kept of a Hand: its frames are still to be put, where the link did not fail, and reading has ended where it told that the connection is gone
abbrev pub with_handed : Course → List Out → Bool → Course
with_handed c outs gone = record c { outgoing = cond c.failed c.outgoing (frames_of outs); gone = gone; end = cond gone (Some (unwrap_or c.end ends.Closed)) c.end }

-- Reading ends so, with its Disconnect where there is a connection. Without one writing ends too.
abbrev pub EndsReading : Opened → Bool → ℕ → Option ConnNo → SessionEnd → Known Event → Course → Known Event → Course → Type 0
EndsReading o keeps count None end pass c pass' c' = (pass' ≡ pass) × (c' ≡ record c { end = Some end; write = Some written.Done })
EndsReading o keeps count (Some conn) end pass c pass' c' = (c' ≡ record c { end = Some end }) × (pass'.number ≡ pass.number) × IsClosed o keeps count pass.number conn end pass.front pass'.front

-- ---- two orders in one

-- the events are those of a reader and those of a writer, each in their order
abbrev pub AreOfBoth : List Event → List Event → List Event → Type 0
AreOfBoth reads writes [] = (reads ≡ []) × (writes ≡ [])
AreOfBoth reads writes (e ∷ events) =
    ((rest : List Event) × (reads ≡ e ∷ rest) × AreOfBoth rest writes events)
    ⊎ ((rest : List Event) × (writes ≡ e ∷ rest) × AreOfBoth reads rest events)

-- ---- reading

-- The LOGIN was connected with its name, and of the frames behind it all but those that are pending were posted and taken. None of these is a LOGOUT.
pub record IsInSession (pass : ℕ) (conn : ConnNo) (frames pending : List Frame) (reads : List Event) : Type 0 where
  pub name : List ℕ
  pub done : List Frame
  pub parts : frames ≡ Login name ∷ (done ++ pending)
  pub stage : stage_after InSession done ≡ InSession
  pub posts : reads ≡ event.Connect pass name (connected.Number conn) ∷ taken pass conn (inputs_of done)

-- reading ended as `read_session` ends it, with its Disconnect, at a front that the pass has seen
pub record EndsAsRead (o : Opened) (keeps : Bool) (pass : ℕ) (conn : ConnNo) (rest : List Frame) (end : SessionEnd) (front posts : List Event) : Type 0 where
  pub at : List Event
  pub seen : IsPrefix at front
  pub before : List Event
  pub closing : List Event
  pub parts : posts ≡ before ++ closing
  pub posted : IsPosted pass conn rest end before
  pub closes : Closes o keeps pass conn end at closing

-- a Hand told that the connection is gone, and reading ended as closed: all inputs were posted, and no Disconnect
pub record IsCutOff (pass : ℕ) (conn : ConnNo) (rest : List Frame) (end : SessionEnd) (writes posts : List Event) : Type 0 where
  pub closed : end ≡ ends.Closed
  pub told : list_any (tells_end conn) writes ≡ true
  pub stage : stage_after InSession rest ≡ InSession
  pub posted : posts ≡ taken pass conn (inputs_of rest)

-- the LOGIN was connected with its name, and reading ended behind these frames
pub record IsReadOut (o : Opened) (keeps : Bool) (pass : ℕ) (conn : ConnNo) (frames : List Frame) (end : SessionEnd) (front writes reads : List Event) : Type 0 where
  pub name : List ℕ
  pub rest : List Frame
  pub posts : List Event
  pub parts : frames ≡ Login name ∷ rest
  pub connects : reads ≡ event.Connect pass name (connected.Number conn) ∷ posts
  pub ended : EndsAsRead o keeps pass conn rest end front posts ⊎ IsCutOff pass conn rest end writes posts

-- What was entered of the frames that were read, by whether there is a connection and how reading ended. Before it ends all was entered but what is pending; without a connection nothing was, or what `greet` enters.
abbrev pub AreReads : Opened → Bool → ℕ → Option ConnNo → Option SessionEnd → List Event → List Frame → List Frame → List Event → List Event → Type 0
AreReads o keeps pass None None front frames pending writes reads = (frames ≡ pending) × (reads ≡ [])
AreReads o keeps pass None (Some end) front frames pending writes reads = ConnectsBy pass frames (Err end) reads
AreReads o keeps pass (Some conn) None front frames pending writes reads = IsInSession pass conn frames pending reads
AreReads o keeps pass (Some conn) (Some end) front frames pending writes reads = IsReadOut o keeps pass conn frames end front writes reads

-- reading goes on and has lost nothing; or it ended for this cause
abbrev pub StopsBy : Option SessionEnd → Option (List ℕ) → List ℕ → List ℕ → Decoding → ℕ → ℕ → Type 0
StopsBy None left bytes lost d counted counted' = (lost ≡ []) × (counted' ≡ counted)
StopsBy (Some end) left bytes lost d counted counted' = Loses end lost × IsCause end left bytes d × Counts end counted counted'

-- These bytes were read and decoded, which gave these frames, and what is due was entered of them.
pub record HasRead (o : Opened) (keeps : Bool) (pass : ℕ) (conn : Option ConnNo) (end : Option SessionEnd) (d : Decoding) (left left' : Option (List ℕ)) (counted counted' : ℕ) (front : List Event) (pending : List Frame) (writes reads : List Event) : Type 0 where
  pub bytes : List ℕ
  pub lost : List ℕ
  pub frames : List Frame
  pub consumed : Consumes left left' (bytes ++ lost)
  pub stands : HasDecoded d bytes frames
  pub few : d.fed ≤ SESSION_MOST_BYTES
  pub stops : StopsBy end left bytes lost d counted counted'
  pub entered : AreReads o keeps pass conn end front frames pending writes reads

-- ---- writing

-- Hands so far, of whose frames these bytes were put and the others are left to put. Where the last Hand told that the connection is gone, all that was sent to it was handed, and reading has ended.
pub record IsPutting (o : Opened) (pass : ℕ) (conn : ConnNo) (gone : Bool) (unput : List ℕ) (end : Option SessionEnd) (contents contents' : Option (List ℕ)) (counted counted' : ℕ) (front writes : List Event) : Type 0 where
  pub put : List ℕ
  pub hands : AreHands pass conn writes
  pub parts : frames_of (handed writes conn) ≡ put ++ unput
  pub appended : Appends contents contents' put
  pub counts : counted' ≡ counted
  pub last : gone ≡ true → IsHandedOut pass conn writes × IsAll o conn written.Done writes front × IsSome end

-- The link failed with a part of the frames put. A Disconnect was posted, and Hands go on whose frames are not put, until one tells that the connection is gone.
pub record IsGoingWithout (o : Opened) (keeps : Bool) (pass : ℕ) (conn : ConnNo) (gone : Bool) (end : Option SessionEnd) (contents contents' : Option (List ℕ)) (counted counted' : ℕ) (front writes : List Event) : Type 0 where
  pub given_up : IsGivenUp o keeps pass conn front writes
  pub put : AppendsPrefix contents contents' (frames_of (handed writes conn))
  pub counts : HasRisen counted counted'
  pub last : gone ≡ true → (list_any (tells_end conn) writes ≡ true) × IsSome end

-- writing ended as `write_session` ends it, and so did reading
pub record IsWrittenOut (o : Opened) (keeps : Bool) (pass : ℕ) (conn : ConnNo) (write : WriteEnd) (end : Option SessionEnd) (contents contents' : Option (List ℕ)) (counted counted' : ℕ) (front writes : List Event) : Type 0 where
  pub is : IsWriter o keeps pass conn write front writes
  pub put : IsPut write contents contents' (frames_of (handed writes conn))
  pub counts : CountsPut write counted counted'
  pub all : IsAll o conn write writes front
  pub ended : IsSome end

-- Without a connection nothing is entered or put, and writing ends where reading ends.
pub record IsUnwritten (c : Course) (contents contents' : Option (List ℕ)) (counted counted' : ℕ) (writes : List Event) : Type 0 where
  pub going : c.end ≡ None → (c.write ≡ None) × (c.outgoing ≡ []) × (c.failed ≡ false) × (c.gone ≡ false)
  pub over : IsSome c.end → c.write ≡ Some written.Done
  pub none : writes ≡ []
  pub put : Appends contents contents' []
  pub counts : counted' ≡ counted

-- how writing stands with a connection: it ended, or goes on, or goes on without the link
abbrev pub IsWritten : Opened → Bool → ℕ → ConnNo → Option WriteEnd → Bool → Course → Option (List ℕ) → Option (List ℕ) → ℕ → ℕ → List Event → List Event → Type 0
IsWritten o keeps pass conn (Some write) failed c contents contents' counted counted' front writes = IsWrittenOut o keeps pass conn write c.end contents contents' counted counted' front writes
IsWritten o keeps pass conn None false c contents contents' counted counted' front writes = IsPutting o pass conn c.gone c.outgoing c.end contents contents' counted counted' front writes
IsWritten o keeps pass conn None true c contents contents' counted counted' front writes = IsGoingWithout o keeps pass conn c.gone c.end contents contents' counted counted' front writes

-- how writing stands
abbrev pub HasWritten : Opened → Bool → ℕ → Option ConnNo → Course → Option (List ℕ) → Option (List ℕ) → ℕ → ℕ → List Event → List Event → Type 0
HasWritten o keeps pass None c contents contents' counted counted' front writes = IsUnwritten c contents contents' counted counted' writes
HasWritten o keeps pass (Some conn) c contents contents' counted counted' front writes = IsWritten o keeps pass conn c.write c.failed c contents contents' counted counted' front writes

-- ---- the whole

-- What a session did, from this pass and this link as it was given them to the pass and the link as they are now, where it has come so far and these frames are still to be posted.
pub record IsSession (o : Opened) (keeps : Bool) (count : ℕ) (began : Known Event) (given : LinkState) (pass : Known Event) (link : LinkState) (course : Course) (pending : List Frame) : Type 0 where
  pub number : pass.number ≡ began.number
  pub reads : List Event
  pub writes : List Event
  pub events : List Event
  pub read : HasRead o keeps began.number course.conn course.end course.decoder given.left link.left given.take_counted link.take_counted pass.front pending writes reads
  pub written : HasWritten o keeps began.number course.conn course given.contents link.contents given.put_counted link.put_counted pass.front writes
  pub both : AreOfBoth reads writes events
  pub enters : Enters o count began.number events began.front pass.front

-- whatever a session began with, what it did goes on
abbrev pub GoesOn : Opened → Bool → ℕ → Known Event → LinkState → Course → List Frame → Known Event → LinkState → Course → List Frame → Type 0
GoesOn o keeps count pass link course pending pass' link' course' pending' =
    (began : Known Event) (given : LinkState) → IsSession o keeps count began given pass link course pending → IsSession o keeps count began given pass' link' course' pending'

-- this is a session, whatever it began with
abbrev pub IsMidst : Opened → Bool → ℕ → Known Event → LinkState → Course → List Frame → Type 0
IsMidst o keeps count pass link course pending = ∥ ((began : Known Event) × (given : LinkState) × IsSession o keeps count began given pass link course pending) ∥₁

-- what is seen of a session in its midst: the pass and the link that it began with, and those that it has now
pub record Midst : Type 0 where
  pub began : Known Event
  pub given : LinkState
  pub pass : Known Event
  pub link : LinkState
  pub course : Course

-- what is seen of a session that has ended
pub record Ended : Type 0 where
  pub end : SessionEnd
  pub write : WriteEnd
  pub began : Known Event
  pub given : LinkState
  pub pass : Known Event
  pub link : LinkState

-- A session that has ended so did this, from its begin on.
pub record HasEnded (o : Opened) (keeps : Bool) (count : ℕ) (e : Ended) : Type 0 where
  pub course : Course
  pub reading : course.end ≡ Some e.end
  pub writing : course.write ≡ Some e.write
  pub whole : IsSession o keeps count e.began e.given e.pass e.link course []
