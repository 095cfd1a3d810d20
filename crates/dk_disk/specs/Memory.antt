-- A home in memory.
use Rattle.std.specs.Prelude.{◌≡◌, ◌⊎◌, ◌↔◌, ℕ, ◌+◌, ◌-◌, ◌<◌, ◌≤◌, min, nat_le, Bool, true, not, if◌then◌else◌, List, [], ◌∷◌, ◌++◌, length, Result, IsErr, IsTrue}
use Rattle.dk_types.specs.Faults.{COUNT_END}
use Rattle.dk_types.specs.declared.fault.Failed.{Failed}
use Rattle.dk_types.specs.declared.side.Side.{Side}
use Rattle.dk_types.specs.declared.side.Side.TheVariants.{Zero, One}
use Rattle.dk_disk.specs.Disk.{settled}
use Rattle.dk_disk.specs.DiskHistories.{DiskHistory, now}
use Rattle.dk_disk.specs.Opening.{Opening, HomeOpening, opening_of}
use Rattle.dk_disk.specs.MemoryFiles.{Files, file_of, size_of}
use Rattle.dk_disk.specs.UndoRecord.{Undos, HasSpare}
use Rattle.dk_disk.specs.Unwinding.{unwound}
use Rattle.dk_types.specs.FaultPlan.{Plan, fails_next, counted_up, after_call, after_fault}
use Rattle.dk_disk.specs.Record.{Call, Change, AreUpTo, replayed}

-- room for so many more calls in the record, and so many more bytes
pub record Room : Type 0 where
  pub calls : ℕ
  pub bytes : ℕ

-- what the two files held at first, the calls since, which calls fail, whether it was opened, whether that is to fail, and the room
pub record Memory : Type 0 where
  pub zero : List ℕ
  pub one : List ℕ
  pub calls : List Call
  pub plan : Plan
  pub opening : Opening
  pub open_fails : Bool
  pub room : Room

-- what a side held at first
abbrev pub first_of : List ℕ → List ℕ → Side → List ℕ
first_of zero one Zero = zero
first_of zero one One = one

-- its moments are the numbers of its calls
abbrev pub past_of : Memory → DiskHistory
past_of memory = record { clock = memory.plan.calls; disks = λ t side. replayed t side memory.calls (settled (first_of memory.zero memory.one side)) }

-- the next call, and whether it is to fail
abbrev pub next_call : Plan → Side → Change → Call
next_call plan side change = record { number = counted_up plan.calls; side = side; change = change; is_made = not (fails_next plan) }

-- there is room for one more call with so many bytes, and a number for it
pub record HasRoom (memory : Memory) (n : ℕ) : Type 0 where
  pub calls : 1 ≤ memory.room.calls
  pub bytes : n ≤ memory.room.bytes
  pub number : memory.plan.calls < COUNT_END

-- the call was numbered and recorded, and took no more than its own room
pub record IsRecorded (old new : Memory) (side : Side) (change : Change) (n : ℕ) : Type 0 where
  pub memory : new ≡ record { zero = old.zero; one = old.one; calls = old.calls ++ next_call old.plan side change ∷ []; plan = after_call old.plan; opening = old.opening; open_fails = old.open_fails; room = new.room }
  pub calls : old.room.calls ≤ new.room.calls + 1
  pub bytes : old.room.bytes ≤ new.room.bytes + n
  pub number : old.plan.calls < COUNT_END

-- the call found no room, which is a fault and nothing else
pub record IsRefused (old new : Memory) (n : ℕ) : Type 0 where
  pub memory : new ≡ record { zero = old.zero; one = old.one; calls = old.calls; plan = after_fault old.plan; opening = old.opening; open_fails = old.open_fails; room = new.room }
  pub calls : old.room.calls ≤ new.room.calls
  pub bytes : old.room.bytes ≤ new.room.bytes
  pub full : HasRoom old n → ⊥

-- the folder's name was kept, which took no more than its own room; the opening failed where it is to fail
pub record IsOpened (old new : Memory) (dir : List ℕ) : Type 0 where
  pub memory : new ≡ record { zero = old.zero; one = old.one; calls = old.calls; plan = record { failing = old.plan.failing; calls = old.plan.calls; faults = new.plan.faults }; opening = opening_of true (not old.open_fails) dir; open_fails = old.open_fails; room = new.room }
  pub calls : old.room.calls ≤ new.room.calls
  pub bytes : old.room.bytes ≤ new.room.bytes + length dir

-- there was no room for the folder's name, which is a fault and changes nothing else
pub record IsKeptOut (old new : Memory) (dir : List ℕ) : Type 0 where
  pub memory : new ≡ record { zero = old.zero; one = old.one; calls = old.calls; plan = record { failing = old.plan.failing; calls = old.plan.calls; faults = new.plan.faults }; opening = old.opening; open_fails = old.open_fails; room = new.room }
  pub calls : old.room.calls ≤ new.room.calls
  pub bytes : old.room.bytes ≤ new.room.bytes
  pub full : old.room.bytes < length dir

-- an opening fails where that is asked for, or for want of room
abbrev pub Opens : Memory → Memory → List ℕ → Result (Unit {0}) Failed → Type 0
Opens old new dir result = (IsOpened old new dir × (IsErr result ↔ IsTrue old.open_fails)) ⊎ (IsKeptOut old new dir × IsErr result)

-- no less room, and nothing else
pub record IsRoomy (old new : Memory) : Type 0 where
  pub memory : new ≡ record { zero = old.zero; one = old.one; calls = old.calls; plan = old.plan; opening = old.opening; open_fails = old.open_fails; room = new.room }
  pub calls : old.room.calls ≤ new.room.calls
  pub bytes : old.room.bytes ≤ new.room.bytes

-- A call with n bytes fails by its number, or for want of room.
abbrev pub Changes : Memory → Memory → Side → Change → ℕ → Result (Unit {0}) Failed → Type 0
Changes old new side change n result =
    (IsRecorded old new side change n × (IsErr result ↔ IsTrue (fails_next old.plan))) ⊎ (IsRefused old new n × IsErr result)

-- a call that only looks is numbered, and not recorded
abbrev pub looked : Memory → Memory
looked memory = record { zero = memory.zero; one = memory.one; calls = memory.calls; plan = after_call memory.plan; opening = memory.opening; open_fails = memory.open_fails; room = memory.room }

-- what is seen of the parts, where the room for cutting off all that the files hold is not told
abbrev pub memory_of : Files → Undos → Plan → HomeOpening → Memory
memory_of files undos plan entrance = record {
  zero = (unwound undos.undos files.zero.reads files.one.reads).zero;
  one = (unwound undos.undos files.zero.reads files.one.reads).one;
  calls = (unwound undos.undos files.zero.reads files.one.reads).calls;
  plan = plan;
  opening = entrance.opening;
  open_fails = entrance.fails;
  room = record {
    calls = if nat_le (size_of files) undos.spare_bytes then undos.spare_calls else 0;
    bytes = min (min files.zero.room files.one.room) (min (undos.spare_bytes - size_of files) entrance.room);
  };
}

-- the numbers of the calls are those so far, and the files read as after these calls
pub record IsConsistent (memory : Memory) (files : Files) : Type 0 where
  pub numbered : AreUpTo memory.plan.calls memory.calls
  pub reads : (side : Side) → (file_of files side).reads ≡ (now (past_of memory) side).reads

-- the parts have room for one more call with n bytes, and a number for it
pub record IsReady (files : Files) (undos : Undos) (plan : Plan) (side : Side) (n : ℕ) : Type 0 where
  pub place : n ≤ (file_of files side).room
  pub spare : HasSpare undos 1 (size_of files + n)
  pub number : plan.calls < COUNT_END
