-- What stands at the front of bytes.
use Rattle.std.specs.Prelude.{◌≡◌, ℕ, ◌+◌, ◌≤◌, List, [], ◌++◌, length, drop, map, Option, Some, None, option_map}
use Rattle.dk_model.specs.Frames.{Frame, Message, Stage, AtLogin, InSession, LoggedOut, Fault, IsFrame, MayCome, AreInTurn, IsPartial, IsBad, opcode_of, frame_spelling, stage_after, stream_of}
use Rattle.dk_frame.specs.declared.front.Front.{Front}
use Rattle.dk_frame.specs.declared.front.Front.TheVariants.{Whole, Partial, Bad}
use Rattle.dk_frame.specs.declared.frame.FrameFault.{FrameFault}
use Rattle.dk_frame.specs.declared.frame.FrameRefused.{FrameRefused}
use Rattle.dk_frame.specs.declared.frame.FrameRefused.TheVariants.{BadFrame}
use Rattle.dk_frame.specs.Meanings.{frame_of, fault_of, stage_of}
use Rattle.dk_frame.specs.declared.frames.Frames.{Frames}

-- this frame stands at the front, and may come there; it takes so many bytes
pub record IsWhole (stage : Stage) (bytes : List ℕ) (f : Frame) (taken : ℕ) : Type 0 where
  pub may_come : MayCome stage (opcode_of f)
  pub is_frame : IsFrame f
  pub parts : bytes ≡ frame_spelling f ++ drop taken bytes
  pub takes : taken ≡ length (frame_spelling f)

-- what was told of the front of these bytes holds
abbrev pub IsFront : Stage → List ℕ → Front → Type 0
IsFront stage bytes (Whole frame taken) = IsWhole stage bytes (frame_of frame) taken
IsFront stage bytes Partial = IsPartial stage bytes
IsFront stage bytes (Bad why) = IsBad stage bytes (fault_of why)

-- the frames at the front of these bytes take so many of them
pub record AreTaken (start : Stage) (bytes : List ℕ) (frames : List Frame) (taken : ℕ) (stage : Stage) : Type 0 where
  pub in_turn : AreInTurn start frames
  pub comes_to : stage ≡ stage_after start frames
  pub parts : bytes ≡ stream_of frames ++ drop taken bytes
  pub takes : taken ≡ length (stream_of frames)
  pub within : taken ≤ length bytes

-- a message with this body stands at the front, and this behind it
pub record IsMessage (bytes body behind : List ℕ) : Type 0 where
  pub whole : IsWhole InSession bytes (Message body) (5 + length body)
  pub behind_is : behind ≡ drop (5 + length body) bytes

-- frames of this stage at the front of these bytes, which take so many of them, were put behind others
pub record AddsTaken (stage : Stage) (bytes : List ℕ) (old new : List Frame) (taken : ℕ) : Type 0 where
  pub more : List Frame
  pub now : new ≡ old ++ more
  pub are : AreTaken stage bytes more taken stage

-- no whole frame follows: less than a frame does, or this bad frame, or the stream is over
abbrev pub Stops : Stage → List ℕ → Option Fault → Type 0
Stops AtLogin bytes None = IsPartial AtLogin bytes
Stops AtLogin bytes (Some fault) = IsBad AtLogin bytes fault
Stops InSession bytes None = IsPartial InSession bytes
Stops InSession bytes (Some fault) = IsBad InSession bytes fault
Stops LoggedOut bytes fault = fault ≡ None

-- all whole frames at the front of these bytes, and what stops them
pub record IsRead (start : Stage) (bytes : List ℕ) (read : Frames) : Type 0 where
  pub taken : AreTaken start bytes (map frame_of read.frames.items) read.taken (stage_of read.stage)
  pub stops : Stops (stage_of read.stage) (drop read.taken bytes) (option_map fault_of read.fault)

-- the frames at the front of these bytes were read, behind others whose bytes were taken whole
abbrev pub IsReadOn : Frames → List ℕ → Frames → Type 0
IsReadOn old bytes read =
    (start : Stage) (before : List ℕ) → AreTaken start before (map frame_of old.frames.items) old.taken (stage_of old.stage) → old.taken ≡ length before → IsRead start (before ++ bytes) read

-- no frame was read, and the bad frame that follows, at this place, is told
pub record IsReportedFault (read : Frames) (at : ℕ) (refused : FrameRefused) : Type 0 where
  pub why : FrameFault
  pub is : refused ≡ BadFrame at why
  pub fault : read.fault ≡ Some why
  pub none : read.frames.items ≡ []
