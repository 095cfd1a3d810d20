-- What follows where reading is exact.
use Rattle.std.proofs.Common.{◌≡◌, ℕ, ◌+◌, List, ◌++◌, length, Result, Ok, Err, sym, ap, ◌∙◌}
use Rattle.dk_types.specs.declared.refused.WireRefused.{WireRefused}
use Rattle.dk_types.specs.declared.refused.WireRefused.TheVariants.{Short, Extra, BadTag, TooLong, NoMemory}
use Rattle.dk_types.specs.Rest.{Rest, IsBytes}
use Rattle.dk_types.specs.Reading.{Reads}
use Rattle.dk_types.specs.Exact.{IsExact, IsPrefixFree, HasNone, TakesFront}
use Rattle.dk_types.proofs.Steps.{ok_is}

-- two values that were read alike are one, with one rest
same_read : {A F : Type 0} (r : Result (A × Rest) F) (x y : A) (p q : Rest) → r ≡ Ok (x, p) → r ≡ Ok (y, q) → (x ≡ y) × (p ≡ q)
same_read {A} {F} r x y p q h g =
    let both = ok_is {F = F} (x, p) (y, q) (sym h ∙ g) in
    (ap (λ (s : A × Rest). s.0) both, ap (λ (s : A × Rest). s.1) both)

-- where spellings are read, none begins another
pub prefix_free : {A F : Type 0} (Fits : A → Type 0) (spelling : A → List ℕ) (reading : Rest → Result (A × Rest) F) → IsExact Fits spelling reading → IsPrefixFree Fits spelling
prefix_free Fits spelling reading exact x y behind_x behind_y fits_x fits_y same =
    let first = exact.again 0 x behind_x fits_x in
    let second = exact.again 0 y behind_y fits_y in
    let at_x : reading (record { at = 0; bytes = spelling y ++ behind_y }) ≡ Ok (x, record { at = 0 + length (spelling x); bytes = behind_x }) = ap (λ (bytes : List ℕ). reading (record { at = 0; bytes = bytes })) (sym same) ∙ first in
    let both = same_read (reading (record { at = 0; bytes = spelling y ++ behind_y })) x y _ _ at_x second in
    (both.0, ap (λ (r : Rest). r.bytes) both.1)

-- where reading fails, no spelling is at the front
pub none_at_front : {A F : Type 0} (Fits : A → Type 0) (spelling : A → List ℕ) (reading : Rest → Result (A × Rest) F) → IsExact Fits spelling reading → (old : Rest) (e : F) → reading old ≡ Err e → HasNone Fits spelling old
none_at_front Fits spelling reading exact old e failed x behind fits is =
    let read : reading old ≡ Ok (x, record { at = old.at + length (spelling x); bytes = behind }) = ap (λ (bytes : List ℕ). reading (record { at = old.at; bytes = bytes })) is ∙ exact.again old.at x behind fits in
    absurd cc

-- a call that reads exactly takes exactly the spellings at the front
pub takes_front : {A : Type 0} (Fits : A → Type 0) (spelling : A → List ℕ) (reading : Rest → Result (A × Rest) WireRefused) → IsExact Fits spelling reading → (old : Rest) (result : Result A WireRefused) (new : Rest) → IsBytes old.bytes → Reads reading old result new → TakesFront Fits spelling old result new
takes_front Fits spelling reading exact old (Ok x) new each reads = exact.takes old x new each reads
takes_front Fits spelling reading exact old (Err NoMemory) new each reads = tt
takes_front Fits spelling reading exact old (Err (Short need have)) new each reads = none_at_front Fits spelling reading exact old (Short need have) reads.1
takes_front Fits spelling reading exact old (Err (Extra at)) new each reads = none_at_front Fits spelling reading exact old (Extra at) reads.1
takes_front Fits spelling reading exact old (Err (BadTag at tag)) new each reads = none_at_front Fits spelling reading exact old (BadTag at tag) reads.1
takes_front Fits spelling reading exact old (Err TooLong) new each reads = none_at_front Fits spelling reading exact old TooLong reads.1
