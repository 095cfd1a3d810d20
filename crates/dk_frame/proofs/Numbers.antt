-- The number at the front of bytes.
use Rattle.std.proofs.Common.{◌≡◌, ℕ, ◌<◌, ◌≤◌, false, ltb, List, ◌++◌, length, take, drop, Ok, refl, sym, ap, ◌∙◌, length-append, arith, inl, inr}
use Rattle.std.specs.Int.{w32, from_be_bytes}
use Rattle.std.proofs.lemmas.Bool.{cases_lt, le-ltb}
use Rattle.std.proofs.lemmas.List.{drop_at}
use Rattle.dk_types.specs.declared.refused.WireRefused.{WireRefused}
use Rattle.dk_types.specs.declared.refused.WireRefused.TheVariants.{Short, Extra, BadTag, TooLong, NoMemory}
use Rattle.dk_types.specs.Rest.{Rest, Takes, moved}
use Rattle.dk_types.specs.Fields.{IsU32, u32_spelling}
use Rattle.dk_types.specs.Reading.{Refuses, u32_at}
use Rattle.dk_wire.proofs.LengthLaws.{length-u32}
use Rattle.dk_model.specs.Frames.{States}

-- a number that was taken stands in the first four bytes
pub States-taken : (old : Rest) (bytes : List ℕ) (len : ℕ) (new : Rest) → old.bytes ≡ bytes → IsU32 len → Takes old (u32_spelling len) new → (4 ≤ length bytes) × States bytes len (drop 4 bytes)
States-taken old bytes len new is fits took =
    let parts : bytes ≡ u32_spelling len ++ new.bytes = sym is ∙ took.parts in
    let long : 4 ≤ length bytes = omega (arith, ap length parts, length-append (u32_spelling len) new.bytes, length-u32 len) in
    let behind : drop 4 bytes ≡ new.bytes = ap (drop 4) parts ∙ drop_at (u32_spelling len) new.bytes 4 (length-u32 len) in
    (long, record { fits = fits; parts = parts ∙ ap (λ (b : List ℕ). u32_spelling len ++ b) (sym behind) })

-- four bytes are a number
read_of_four : (r : Rest) → 4 ≤ length r.bytes → u32_at r ≡ Ok (from_be_bytes w32 (take 4 r.bytes), moved 4 r)
unfolding u32_at
read_of_four r long =
    let enough : ltb (length r.bytes) 4 ≡ false = le-ltb _ _ long in
    rw enough refl

-- where no number can be taken, there are fewer than four bytes
pub short_of_number : (r : Rest) (e : WireRefused) → Refuses e (u32_at r) → (e ≡ NoMemory → ⊥) → length r.bytes < 4
short_of_number r NoMemory refuses other = absurd (other refl)
short_of_number r (Short need have) refuses other = elim (cases_lt (length r.bytes) 4) [ inl lt ↦ lt | inr le ↦ let ok = read_of_four r le in absurd cc ]
short_of_number r (Extra at) refuses other = elim (cases_lt (length r.bytes) 4) [ inl lt ↦ lt | inr le ↦ let ok = read_of_four r le in absurd cc ]
short_of_number r (BadTag at tag) refuses other = elim (cases_lt (length r.bytes) 4) [ inl lt ↦ lt | inr le ↦ let ok = read_of_four r le in absurd cc ]
short_of_number r TooLong refuses other = elim (cases_lt (length r.bytes) 4) [ inl lt ↦ lt | inr le ↦ let ok = read_of_four r le in absurd cc ]
