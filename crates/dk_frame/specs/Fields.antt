-- Which frame has these fields.
use Rattle.std.specs.Prelude.{◌≡◌, ℕ, List, ◌++◌}
use Rattle.dk_types.specs.Names.{IsName}
use Rattle.dk_types.specs.Fields.{name_spelling}
use Rattle.dk_model.specs.Frames.{Frame, IsFrame, opcode_of, fields_of}
use Rattle.dk_frame.specs.declared.frame.ClientFrame.{ClientFrame}
use Rattle.dk_frame.specs.Meanings.{frame_of}

-- this one is a frame, and has this opcode and these fields
pub record Has (opcode : ℕ) (fields : List ℕ) (f : Frame) : Type 0 where
  pub is_frame : IsFrame f
  pub opcode_is : opcode_of f ≡ opcode
  pub fields_are : fields_of f ≡ fields

-- the same of a frame as the code has it
abbrev pub IsFrameOf : ℕ → List ℕ → ClientFrame → Type 0
IsFrameOf opcode fields frame = Has opcode fields (frame_of frame)

-- no frame has
abbrev pub HasNoFrame : ℕ → List ℕ → Type 0
HasNoFrame opcode fields = (f : Frame) → Has opcode fields f → ⊥

-- no name stands at the front
abbrev pub BeginsWithNoName : List ℕ → Type 0
BeginsWithNoName fields = (name behind : List ℕ) → IsName name → fields ≡ name_spelling name ++ behind → ⊥
