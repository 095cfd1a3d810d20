-- What a call that reads a payload answers: what reading gives, or the place of the first fault.
use Rattle.std.specs.Prelude.{◌≡◌, ℕ, List, Result, Ok, Err}
use Rattle.dk_types.specs.declared.refused.WireRefused.{WireRefused}
use Rattle.dk_types.specs.declared.refused.WireRefused.TheVariants as wire
use Rattle.dk_wire.specs.declared.payload.PayloadRefused.{PayloadRefused}
use Rattle.dk_wire.specs.declared.payload.PayloadRefused.TheVariants.{NotInGrammar, NoMemory}
use Rattle.dk_types.specs.Rest.{Rest}
use Rattle.dk_types.specs.Payload.{whole}

-- what a call tells of a field that was taken at this place
abbrev pub located : {X : Type 0} → ℕ → Result X WireRefused → Result X PayloadRefused
located at (Ok x) = Ok x
located at (Err wire.NoMemory) = Err NoMemory
located at (Err (wire.Short need have)) = Err (NotInGrammar at)
located at (Err (wire.Extra place)) = Err (NotInGrammar at)
located at (Err (wire.BadTag place tag)) = Err (NotInGrammar at)
located at (Err wire.TooLong) = Err (NotInGrammar at)

-- a refusal is the fault of reading, unless memory ran out
abbrev pub Misses : {Y : Type 0} → PayloadRefused → Result Y ℕ → Type 0
Misses NoMemory read = Unit {0}
Misses (NotInGrammar at) read = read ≡ Err at

-- What a call answered, and where it left the reader, is what reading gives, unless memory ran out. A refusal leaves the reader where it stood.
abbrev pub Gives : {A : Type 0} → (Rest → Result (A × Rest) ℕ) → Rest → Result A PayloadRefused → Rest → Type 0
Gives reading old (Ok x) new = reading old ≡ Ok (x, new)
Gives reading old (Err e) new = (new ≡ old) × Misses e (reading old)

-- The same of a call that is given a reader and hands back another behind the value, so that a refusal leaves none.
abbrev pub GivesBack : {A : Type 0} → (Rest → Result (A × Rest) ℕ) → Rest → Result (A × Rest) PayloadRefused → Type 0
GivesBack reading old (Ok x) = reading old ≡ Ok x
GivesBack reading old (Err e) = Misses e (reading old)

-- What a whole payload was decoded to, where reading is exact. Ok: a value that fits, and the payload is its spelling. Refused for another cause than memory: the payload spells no value that fits, and the place is that of the first fault.
abbrev pub Decodes : {A : Type 0} → (A → Type 0) → (A → List ℕ) → (Rest → Result (A × Rest) ℕ) → List ℕ → Result A PayloadRefused → Type 0
Decodes Fits spelling reading payload (Ok x) = Fits x × (payload ≡ spelling x)
Decodes Fits spelling reading payload (Err NoMemory) = Unit {0}
Decodes {A} Fits spelling reading payload (Err (NotInGrammar at)) = (whole reading payload ≡ Err at) × ((x : A) → Fits x → payload ≡ spelling x → ⊥)
