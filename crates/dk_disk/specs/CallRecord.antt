-- A list of calls, as the code has it.
use Rattle.std.specs.Prelude.{ℕ, ◌+◌, ◌≤◌, ◌<◌, ◌^◌, ⊤, List, [], ◌∷◌, take, drop}
use Rattle.dk_disk.specs.Record.{Call, Change, Write, Cut, Sync}
use Rattle.dk_disk.specs.Step.{change_of}
use Rattle.dk_disk.specs.declared.call_record.Entry.{Entry}
use Rattle.dk_disk.specs.declared.call_record.Recorded.{Recorded}
use Rattle.dk_disk.specs.declared.call_record.Kept.{Kept}
use Rattle.dk_disk.specs.declared.call_record.Kept.TheVariants as kept

-- what a call was to do, whose bytes stand in this list
abbrev pub change_at : List ℕ → Kept → Change
change_at bytes (kept.Write at start count) = Write at (take count (drop start bytes))
change_at bytes (kept.Cut to) = Cut to
change_at bytes kept.Sync = Sync

-- the call of an entry, whose bytes stand in this list
abbrev pub call_of : List ℕ → Entry → Call
call_of bytes entry = record { number = entry.number; side = entry.side; change = change_at bytes entry.kept; is_made = entry.is_made }

-- the call that is to be recorded
abbrev pub as_call : Recorded → Call
as_call call = record { number = call.number; side = call.side; change = change_of call.step; is_made = call.is_made }

-- its bytes stand in a list of this length, and its range is one of numbers that 64 bits hold
abbrev pub IsWithinRecord : ℕ → Kept → Type 0
IsWithinRecord size (kept.Write at start count) = (start + count ≤ size) × (at + count < 2 ^ 64)
IsWithinRecord size (kept.Cut to) = ⊤
IsWithinRecord size kept.Sync = ⊤

-- the same of all of them
abbrev pub AreWithin : ℕ → List Entry → Type 0
AreWithin size [] = ⊤
AreWithin size (entry ∷ entries) = IsWithinRecord size entry.kept × AreWithin size entries
