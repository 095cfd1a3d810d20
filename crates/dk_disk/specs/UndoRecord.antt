-- What takes the calls on a home back, as the code has it.
use Rattle.std.specs.Prelude.{◌≡◌, ℕ, ◌+◌, ◌≤◌, ◌<◌, ◌^◌, ⊤, Bool, true, false, List, [], ◌∷◌, ◌++◌, length, take, drop}
use Rattle.dk_types.specs.declared.side.Side.{Side}
use Rattle.dk_disk.specs.declared.step.Step.{Step}
use Rattle.dk_disk.specs.declared.step.Step.TheVariants as step
use Rattle.dk_disk.specs.declared.undo_record.Trace.{Trace}
use Rattle.dk_disk.specs.declared.undo_record.Trace.TheVariants as trace
use Rattle.dk_disk.specs.declared.undo_record.Undoing.{Undoing}
use Rattle.dk_disk.specs.declared.undo_record.UndoEntry.{UndoEntry}

-- a call by its number, its file, what it was to do, the bytes that it kept, and whether it succeeded
pub record Undo : Type 0 where
  pub number : ℕ
  pub side : Side
  pub trace : Trace
  pub bytes : List ℕ
  pub is_made : Bool

-- one for each call, and room for so many more and so many bytes
pub record Undos : Type 0 where
  pub undos : List Undo
  pub spare_calls : ℕ
  pub spare_bytes : ℕ

-- that of an entry, whose bytes stand in this list
abbrev pub undo_of : List ℕ → UndoEntry → Undo
undo_of bytes entry = record { number = entry.number; side = entry.side; trace = entry.trace; bytes = take entry.size (drop entry.start bytes); is_made = entry.is_made }

-- the one that is to be recorded
abbrev pub as_undo : Undoing → Undo
as_undo undo = record { number = undo.number; side = undo.side; trace = undo.trace; bytes = undo.bytes.now; is_made = undo.is_made }

-- its range is one of numbers that 64 bits hold, and has no fewer bytes than it kept
abbrev pub IsTraced : Trace → ℕ → Type 0
IsTraced (trace.Write at count) size = (at + count < 2 ^ 64) × (size ≤ count)
IsTraced (trace.Cut to) size = ⊤
IsTraced trace.Sync size = ⊤

-- the same of all of them, and their bytes stand in a list of this length
abbrev pub AreTraced : ℕ → List UndoEntry → Type 0
AreTraced size [] = ⊤
AreTraced size (entry ∷ entries) = ((entry.start + entry.size ≤ size) × IsTraced entry.trace entry.size) × AreTraced size entries

-- what a step is to do, but for its bytes
abbrev pub traced : Step → Trace
traced (step.Write at bytes) = trace.Write at (length bytes.now)
traced (step.Cut to) = trace.Cut to
traced step.Sync = trace.Sync

-- the bytes that a call keeps, on a file with these bytes
abbrev pub kept_of : Step → Bool → List ℕ → List ℕ
kept_of (step.Write at bytes) true file = take (length bytes.now) (drop at file)
kept_of (step.Write at bytes) false file = bytes.now
kept_of (step.Cut to) true file = drop to file
kept_of (step.Cut to) false file = []
kept_of step.Sync is_made file = []

-- what takes a call back, on a file with these bytes
abbrev pub undo_for : ℕ → Side → Step → Bool → List ℕ → Undo
undo_for number side step is_made file = record { number = number; side = side; trace = traced step; bytes = kept_of step is_made file; is_made = is_made }

-- room for so many more calls and bytes
pub record HasSpare (record_ : Undos) (calls bytes : ℕ) : Type 0 where
  pub calls_fit : calls ≤ record_.spare_calls
  pub bytes_fit : bytes ≤ record_.spare_bytes

-- the calls stay, and there is no less room
pub record IsSpared (old new : Undos) : Type 0 where
  pub same : new.undos ≡ old.undos
  pub calls_fit : old.spare_calls ≤ new.spare_calls
  pub bytes_fit : old.spare_bytes ≤ new.spare_bytes

-- one more stands last, and took no more than the room of its bytes
pub record IsPushed (old new : Undos) (undo : Undo) : Type 0 where
  pub pushed : new.undos ≡ old.undos ++ undo ∷ []
  pub calls_left : old.spare_calls ≤ new.spare_calls + 1
  pub bytes_left : old.spare_bytes ≤ new.spare_bytes + length undo.bytes
