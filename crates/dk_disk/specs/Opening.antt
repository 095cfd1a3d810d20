-- Whether a home was opened.
use Rattle.std.specs.Prelude.{⊤, ℕ, List, Bool, if◌then◌else◌}

-- `open` was not called, failed, or answered Ok, with the bytes of the folder's name
pub data Opening : Type 0 where
  NotCalled : Opening
  Refused : (dir : List ℕ) → Opening
  Opened : (dir : List ℕ) → Opening

-- `open` answered Ok
abbrev pub IsOpen : Opening → Type 0
IsOpen NotCalled = ⊥
IsOpen (Refused dir) = ⊥
IsOpen (Opened dir) = ⊤

-- from whether it was called, whether it answered Ok, and the folder
abbrev pub opening_of : Bool → Bool → List ℕ → Opening
opening_of called ok dir = if called then (if ok then Opened dir else Refused dir) else NotCalled

-- the opening of a home in memory, whether it is to fail, and room for a name of so many bytes
pub record HomeOpening : Type 0 where
  pub opening : Opening
  pub fails : Bool
  pub room : ℕ
