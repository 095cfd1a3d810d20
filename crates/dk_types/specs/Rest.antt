-- What a reader has before it.
use Rattle.std.specs.Prelude.{◌≡◌, ℕ, ◌+◌, ◌<◌, List, ◌++◌, length, drop, slice_index}

-- the bytes that are left, and how many were taken before them
pub record Rest : Type 0 where
  pub at : ℕ
  pub bytes : List ℕ

-- the rest behind the next bytes, this many of them
abbrev pub moved : ℕ → Rest → Rest
moved n r = record { at = r.at + n; bytes = drop n r.bytes }

-- a list of bytes, as each list is that a program holds
abbrev pub IsBytes : List ℕ → Type 0
IsBytes bytes = (i : ℕ) → slice_index bytes i < 256

-- the old rest begins with this text, and the new one is what stands behind it
pub record Takes (old : Rest) (text : List ℕ) (new : Rest) : Type 0 where
  pub parts : old.bytes ≡ text ++ new.bytes
  pub place : new.at ≡ old.at + length text
