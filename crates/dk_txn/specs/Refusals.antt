-- Refusals by their numbers, and what they tell of a run that gives up over them.
use Rattle.std.specs.Prelude.{◌≡◌, ℕ, Option, Some, None, List, length}
use Rattle.dk_types.specs.declared.fault.AppFault.{AppFault}
use Rattle.dk_types.specs.declared.fault.AppFault.TheVariants.{Refused}
use Rattle.dk_model.specs.Runs.{NAME_NOT_BOUND, OBJECT_NOT_FOUND, WRONG_KIND, TOO_LONG, BAD_DELAY, RESERVED, TOO_MANY, NAME_EXISTS, BAD_BYTES}
use Rattle.dk_txn.specs.declared.refusal.Refusal.{Refusal}
use Rattle.dk_txn.specs.declared.refusal.Refusal.TheVariants as refusal

-- the number of want of memory, which no run tells
abbrev pub NO_MEMORY : ℕ
NO_MEMORY = 7

-- the number by which a refusal is told
abbrev pub number_of : Refusal → ℕ
number_of refusal.NameNotBound = NAME_NOT_BOUND
number_of refusal.ObjectNotFound = OBJECT_NOT_FOUND
number_of (refusal.WrongKind found) = WRONG_KIND
number_of (refusal.TooLong len) = TOO_LONG
number_of refusal.BadDelay = BAD_DELAY
number_of refusal.Reserved = RESERVED
number_of refusal.NoMemory = NO_MEMORY
number_of refusal.TooMany = TOO_MANY
number_of refusal.NameExists = NAME_EXISTS
number_of refusal.BadBytes = BAD_BYTES

-- the fault of a run that gives up over a refusal; want of memory is none
abbrev pub refusal_fault : Refusal → Option AppFault
refusal_fault refusal.NameNotBound = Some (Refused NAME_NOT_BOUND)
refusal_fault refusal.ObjectNotFound = Some (Refused OBJECT_NOT_FOUND)
refusal_fault (refusal.WrongKind found) = Some (Refused WRONG_KIND)
refusal_fault (refusal.TooLong len) = Some (Refused TOO_LONG)
refusal_fault refusal.BadDelay = Some (Refused BAD_DELAY)
refusal_fault refusal.Reserved = Some (Refused RESERVED)
refusal_fault refusal.NoMemory = None
refusal_fault refusal.TooMany = Some (Refused TOO_MANY)
refusal_fault refusal.NameExists = Some (Refused NAME_EXISTS)
refusal_fault refusal.BadBytes = Some (Refused BAD_BYTES)

-- a refusal over the length of bytes tells how many they are
abbrev pub TellsLength : List ℕ → Refusal → Type 0
TellsLength bytes (refusal.TooLong len) = len ≡ length bytes
TellsLength bytes refusal.NameNotBound = Unit {0}
TellsLength bytes refusal.ObjectNotFound = Unit {0}
TellsLength bytes (refusal.WrongKind found) = Unit {0}
TellsLength bytes refusal.BadDelay = Unit {0}
TellsLength bytes refusal.Reserved = Unit {0}
TellsLength bytes refusal.NoMemory = Unit {0}
TellsLength bytes refusal.TooMany = Unit {0}
TellsLength bytes refusal.NameExists = Unit {0}
TellsLength bytes refusal.BadBytes = Unit {0}
