-- What it means that reading is exact: it undoes a spelling, and reads nothing else.
use Rattle.std.specs.Prelude.{◌≡◌, ℕ, ◌+◌, List, ◌++◌, length, Result, Ok, Err}
use Rattle.dk_types.specs.declared.refused.WireRefused.{WireRefused}
use Rattle.dk_types.specs.declared.refused.WireRefused.TheVariants.{Short, Extra, BadTag, TooLong, NoMemory}
use Rattle.dk_types.specs.Rest.{Rest, IsBytes, Takes}

-- Values that fit, their spelling, and a reading that takes exactly such spellings from the front.
pub record IsExact {A F : Type 0} (Fits : A → Type 0) (spelling : A → List ℕ) (reading : Rest → Result (A × Rest) F) : Type 0 where
  -- what is read fits, and was spelled so
  pub takes : (old : Rest) (x : A) (new : Rest) → IsBytes old.bytes → reading old ≡ Ok (x, new) → Fits x × Takes old (spelling x) new
  -- what fits and is spelled so is read, whatever follows
  pub again : (at : ℕ) (x : A) (behind : List ℕ) → Fits x → reading (record { at = at; bytes = spelling x ++ behind }) ≡ Ok (x, record { at = at + length (spelling x); bytes = behind })

-- each value that fits has a spelling of its own, and no spelling begins another
abbrev pub IsPrefixFree : {A : Type 0} → (A → Type 0) → (A → List ℕ) → Type 0
IsPrefixFree {A} Fits spelling = (x y : A) (behind_x behind_y : List ℕ) → Fits x → Fits y → spelling x ++ behind_x ≡ spelling y ++ behind_y → (x ≡ y) × (behind_x ≡ behind_y)

-- no spelling of a value that fits is at the front
abbrev pub HasNone : {A : Type 0} → (A → Type 0) → (A → List ℕ) → Rest → Type 0
HasNone {A} Fits spelling r = (x : A) (behind : List ℕ) → Fits x → r.bytes ≡ spelling x ++ behind → ⊥

-- What a call took is a spelling at the front, of a value that fits. Where it refused for another cause than memory, there is none.
abbrev pub TakesFront : {A : Type 0} → (A → Type 0) → (A → List ℕ) → Rest → Result A WireRefused → Rest → Type 0
TakesFront Fits spelling old (Ok x) new = Fits x × Takes old (spelling x) new
TakesFront Fits spelling old (Err NoMemory) new = Unit {0}
TakesFront Fits spelling old (Err (Short need have)) new = HasNone Fits spelling old
TakesFront Fits spelling old (Err (Extra at)) new = HasNone Fits spelling old
TakesFront Fits spelling old (Err (BadTag at tag)) new = HasNone Fits spelling old
TakesFront Fits spelling old (Err TooLong) new = HasNone Fits spelling old
