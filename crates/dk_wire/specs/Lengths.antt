-- How many bytes a spelling has, without spelling it.
use Rattle.std.specs.Prelude.{ℕ, ◌+◌, List, length}
use Rattle.std.specs.List.{sum_by}

-- a name has a length byte
abbrev pub name_length : List ℕ → ℕ
name_length name = 1 + length name

-- a blob has a length of four bytes
abbrev pub blob_length : List ℕ → ℕ
blob_length blob = 4 + length blob

-- a list has a count of four bytes; `item_length` is that of an item
abbrev pub list_length : {A : Type 0} → (A → ℕ) → List A → ℕ
list_length item_length xs = 4 + sum_by item_length xs
