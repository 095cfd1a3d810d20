-- What the files held at first and which calls came since, from the files and what takes the calls back.
use Rattle.std.specs.Prelude.{ℕ, Bool, true, false, List, [], ◌∷◌, ◌++◌, take, drop}
use Rattle.dk_types.specs.declared.side.Side.{Side}
use Rattle.dk_types.specs.declared.side.Side.TheVariants.{Zero, One}
use Rattle.dk_disk.specs.Record.{Call, Change, Write, Cut, Sync}
use Rattle.dk_disk.specs.UndoRecord.{Undo}
use Rattle.dk_disk.specs.declared.undo_record.Trace.{Trace}
use Rattle.dk_disk.specs.declared.undo_record.Trace.TheVariants as trace

-- both files at some moment, and the calls since
pub record Unwound : Type 0 where
  pub zero : List ℕ
  pub one : List ℕ
  pub calls : List Call

-- a file before a call, which did this and kept these bytes
abbrev pub undone : Trace → Bool → List ℕ → List ℕ → List ℕ
undone (trace.Write at count) true over file = take at file ++ over ++ drop count (drop at file)
undone (trace.Write at count) false bytes file = file
undone (trace.Cut to) is_made tail file = file ++ tail
undone trace.Sync is_made bytes file = file

-- what a call did, whose file then held these bytes
abbrev pub change_behind : Trace → Bool → List ℕ → List ℕ → Change
change_behind (trace.Write at count) true over file = Write at (take count (drop at file))
change_behind (trace.Write at count) false bytes file = Write at bytes
change_behind (trace.Cut to) is_made tail file = Cut to
change_behind trace.Sync is_made bytes file = Sync

-- the call whose file then held these bytes
abbrev pub call_behind : Undo → List ℕ → Call
call_behind undo file = record { number = undo.number; side = undo.side; change = change_behind undo.trace undo.is_made undo.bytes file; is_made = undo.is_made }

-- one call further back, which is one on this side
abbrev pub before : Side → Undo → Unwound → Unwound
before Zero undo past = record { zero = undone undo.trace undo.is_made undo.bytes past.zero; one = past.one; calls = call_behind undo past.zero ∷ past.calls }
before One undo past = record { zero = past.zero; one = undone undo.trace undo.is_made undo.bytes past.one; calls = call_behind undo past.one ∷ past.calls }

-- The moment before all of these calls, where the files hold this after them. The last is taken back first.
abbrev pub unwound : List Undo → List ℕ → List ℕ → Unwound
unwound [] zero one = record { zero = zero; one = one; calls = [] }
unwound (undo ∷ undos) zero one = before undo.side undo (unwound undos zero one)
