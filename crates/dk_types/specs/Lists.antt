-- Counted lists: a number of 32 bits, and that many items. An item may have to fit behind the one before it.
use Rattle.std.specs.Prelude.{ℕ, zero, suc, ◌<◌, ◌^◌, List, [], ◌∷◌, ◌++◌, length, Option, Some, None, Result, Ok}
use Rattle.std.specs.List.{flat_map}
use Rattle.dk_types.specs.Rest.{Rest}
use Rattle.dk_types.specs.Fields.{u32_spelling}
use Rattle.dk_types.specs.Reading.{◌>>=◌}
use Rattle.dk_types.specs.Payload.{next_u32}

-- each item fits behind the one before it, the first behind `before`
abbrev pub AreChained : {A : Type 0} → (Option A → A → Type 0) → Option A → List A → Type 0
AreChained Fits before [] = Unit {0}
AreChained Fits before (x ∷ xs) = Fits before x × AreChained Fits (Some x) xs

-- a list that can be counted, of items that fit
pub record IsList {A : Type 0} (Fits : Option A → A → Type 0) (xs : List A) : Type 0 where
  pub count : length xs < 2 ^ 32
  pub each : AreChained Fits None xs

-- a list is the number of its items, and these
unfoldable pub list_spelling : {A : Type 0} → (A → List ℕ) → List A → List ℕ
list_spelling spelling xs = u32_spelling (length xs) ++ flat_map spelling xs

-- so many items, one after another, each read behind the one before it
unfoldable pub items_at : {A : Type 0} → (Option A → Rest → Result (A × Rest) ℕ) → Option A → ℕ → Rest → Result (List A × Rest) ℕ
items_at item before zero r = Ok ([], r)
items_at item before (suc n) r = do
  x ← item before r
  xs ← items_at item (Some x.0) n x.1
  Ok (x.0 ∷ xs.0, xs.1)

-- the count, and that many items
unfoldable pub list_at : {A : Type 0} → (Option A → Rest → Result (A × Rest) ℕ) → Rest → Result (List A × Rest) ℕ
list_at item r = do
  count ← next_u32 r
  items_at item None count.0 count.1
