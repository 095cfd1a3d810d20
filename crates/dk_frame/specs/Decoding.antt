-- What a decoder has come to.
use Rattle.std.specs.Prelude.{◌≡◌, ℕ, ◌+◌, List, [], ◌∷◌, ◌++◌, length, drop, Option, Some, None}
use Rattle.dk_model.specs.Frames.{Frame, Stage, AtLogin, InSession, LoggedOut, Fault, Following, Nothing, Begun, Bad, IsStream, stage_after, stream_of}
use Rattle.dk_frame.specs.declared.frame.FrameRefused.{FrameRefused}
use Rattle.dk_frame.specs.declared.frame.FrameRefused.TheVariants.{BadFrame, NoMemory}
use Rattle.dk_frame.specs.Meanings.{fault_of}

-- how many bytes it was fed, where the whole frames end, how far the stream has come, what it holds of a begun frame, and what is wrong with the next frame, if something is
pub record Decoding : Type 0 where
  pub fed : ℕ
  pub at : ℕ
  pub stage : Stage
  pub held : List ℕ
  pub fault : Option Fault

-- what follows whole frames that end at this place, where so much is held behind them
abbrev pub following_at : ℕ → List ℕ → Option Fault → Following
following_at at held (Some fault) = Bad at fault
following_at at [] None = Nothing
following_at at (b ∷ held) None = Begun at

-- what follows the frames that it gave
abbrev pub following : Decoding → Following
following d = following_at d.at d.held d.fault

-- what is held of the bytes behind the whole frames: those of a begun frame
abbrev pub kept : Stage → Option Fault → List ℕ → List ℕ
kept stage (Some fault) rest = []
kept AtLogin None rest = rest
kept InSession None rest = rest
kept LoggedOut None rest = []

-- It was fed this stream and gave these frames. They are the whole frames of the stream, and what it holds is what follows them.
pub record HasDecoded (d : Decoding) (stream : List ℕ) (frames : List Frame) : Type 0 where
  pub is : IsStream stream frames (following d)
  pub fed : d.fed ≡ length stream
  pub at : d.at ≡ length (stream_of frames)
  pub stage : d.stage ≡ stage_after AtLogin frames
  pub held : d.held ≡ kept d.stage d.fault is.rest

-- What stands after a refused piece. Want of memory leaves the decoder as it was. A bad frame is that of the bytes fed, with which no frame comes.
abbrev pub Refuses : Decoding → List ℕ → Decoding → FrameRefused → Type 0
Refuses old piece new NoMemory = new ≡ old
Refuses old piece new (BadFrame at why) =
    (following new ≡ Bad at (fault_of why))
    × ((stream : List ℕ) (given : List Frame) → HasDecoded old stream given → HasDecoded new (stream ++ piece) given)

-- no frame is begun
abbrev pub IsNotBegun : Following → Type 0
IsNotBegun Nothing = Unit {0}
IsNotBegun (Begun at) = ⊥
IsNotBegun (Bad at fault) = Unit {0}

-- behind so many of the bytes that are held
abbrev pub passed : Decoding → ℕ → Stage → Option Fault → Decoding
passed d taken stage fault = record { fed = d.fed; at = d.at + taken; stage = stage; held = kept stage fault (drop taken d.held); fault = fault }
