-- What is read of a source. A source that does not tell its bytes is not spoken of.
use Rattle.std.specs.Prelude.{◌≡◌, ℕ, ◌+◌, ◌≤◌, List, [], ◌++◌, length, Option, Some, None}
use Rattle.dk_types.specs.declared.limits.TheConstants.{SCRIPT_MOST_BYTES}
use Rattle.dk_streams.specs.declared.reading.TheConstants.{PIECE_BYTES}
use Rattle.dk_model.specs.declared.script.Line.{Line}
use Rattle.dk_model.specs.Scripts.{IsScript}

-- the bytes are a script of some phases
abbrev pub IsPlayable : List ℕ → Type 0
IsPlayable bytes = (phases : List (List Line)) × IsScript bytes phases

-- these are all the bytes that were left, and none is left now
abbrev pub ReadsAll : Option (List ℕ) → Option (List ℕ) → List ℕ → Type 0
ReadsAll None left' bytes = Unit {0}
ReadsAll (Some xs) left' bytes = (bytes ≡ xs) × (left' ≡ Some [])

-- these bytes were read, and the rest is left; it is nothing where they are not more than a script may have
pub record IsFront (xs : List ℕ) (left' : Option (List ℕ)) (bytes : List ℕ) : Type 0 where
  pub rest : List ℕ
  pub parted : xs ≡ bytes ++ rest
  pub left : left' ≡ Some rest
  pub whole : length bytes ≤ SCRIPT_MOST_BYTES → rest ≡ []

-- of a source that tells its bytes, so many were read
abbrev pub ReadsFront : Option (List ℕ) → Option (List ℕ) → List ℕ → Type 0
ReadsFront None left' bytes = Unit {0}
ReadsFront (Some xs) left' bytes = IsFront xs left' bytes

-- at most as many bytes as a script may have were read
pub record IsWithinScript (xs : List ℕ) (left' : Option (List ℕ)) : Type 0 where
  pub bytes : List ℕ
  pub rest : List ℕ
  pub parted : xs ≡ bytes ++ rest
  pub left : left' ≡ Some rest
  pub few : length bytes ≤ SCRIPT_MOST_BYTES

-- of a source that tells its bytes, no more were read than a script may have
abbrev pub ReadsFew : Option (List ℕ) → Option (List ℕ) → Type 0
ReadsFew None left' = Unit {0}
ReadsFew (Some xs) left' = IsWithinScript xs left'

-- so many bytes at most were read, of a script's and one piece
pub record IsNear (xs : List ℕ) (left' : Option (List ℕ)) : Type 0 where
  pub bytes : List ℕ
  pub rest : List ℕ
  pub parted : xs ≡ bytes ++ rest
  pub left : left' ≡ Some rest
  pub near : length bytes ≤ SCRIPT_MOST_BYTES + PIECE_BYTES

-- of a source that tells its bytes, no more were read than a script may have and one piece, and the rest is left
abbrev pub ReadsNear : Option (List ℕ) → Option (List ℕ) → Type 0
ReadsNear None left' = Unit {0}
ReadsNear (Some xs) left' = IsNear xs left'

-- it was read to its end, or further than a script may go
abbrev pub ReadsOut : Option (List ℕ) → Option (List ℕ) → Type 0
ReadsOut left left' = (bytes : List ℕ) × ReadsFront left left' bytes

-- the source was read to its end, and its bytes are a script of these phases
pub record IsReadScript (left left' : Option (List ℕ)) (phases : List (List Line)) : Type 0 where
  pub bytes : List ℕ
  pub all : ReadsAll left left' bytes
  pub script : IsScript bytes phases
