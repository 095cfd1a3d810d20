-- Steps of a reading, one after the other, and what each took.
use Rattle.std.proofs.Common.{◌≡◌, ℕ, suc, ◌+◌, Bool, true, false, cond, List, [], ◌∷◌, ◌++◌, take, drop, Result, Ok, Err, refl, sym, ap, ◌∙◌, append_assoc, length-append, arith, inl, inr}
use Rattle.std.proofs.lemmas.Bool.{cases_lt}
use Rattle.std.proofs.lemmas.List.{length-take, get_or-drop, get_or-take, get_or_past}
use Rattle.dk_types.specs.Rest.{Rest, IsBytes, Takes}
use Rattle.dk_types.specs.Reading.{◌>>=◌}

-- what is left of bytes is bytes
pub IsBytes-drop : (n : ℕ) (bytes : List ℕ) → IsBytes bytes → IsBytes (drop n bytes)
IsBytes-drop n bytes each i = rw get_or-drop (each (n + i))

-- the first of bytes are bytes
pub IsBytes-take : (n : ℕ) (bytes : List ℕ) → IsBytes bytes → IsBytes (take n bytes)
IsBytes-take n bytes each i =
    elim (cases_lt i n) [
      | inl lt ↦ rw (get_or-take n bytes i 0 lt) (each i)
      | inr le ↦ rw (get_or_past (take n bytes) i 0 (omega (arith, length-take n bytes))) (omega arith)
    ]

-- what stands behind the front of bytes is bytes
pub IsBytes-behind : (front behind : List ℕ) → IsBytes (front ++ behind) → IsBytes behind
IsBytes-behind [] behind each = each
IsBytes-behind (b ∷ front) behind each = IsBytes-behind front behind (λ i. each (suc i))

-- behind what was taken, bytes are left
pub IsBytes-taken : (old : Rest) (text : List ℕ) (new : Rest) → IsBytes old.bytes → Takes old text new → IsBytes new.bytes
IsBytes-taken old text new each took = IsBytes-behind text new.bytes (rw (← took.parts) each)

-- two texts taken one after the other
pub Takes-then : (old : Rest) (a : List ℕ) (mid : Rest) (b : List ℕ) (new : Rest) → Takes old a mid → Takes mid b new → Takes old (a ++ b) new
Takes-then old a mid b new first second = record {
  parts = first.parts ∙ ap (λ (text : List ℕ). a ++ text) second.parts ∙ sym (append_assoc a b new.bytes);
  place = omega (arith, first.place, second.place, length-append a b);
}

-- no text
pub Takes-none : (r : Rest) → Takes r [] r
Takes-none r = record { parts = refl; place = omega arith }

-- the value of a step that did not fail
pub bind_ok : {A B F : Type 0} (r : Result A F) (f : A → Result B F) (y : B) → (r >>= f) ≡ Ok y → (x : A) × (r ≡ Ok x) × (f x ≡ Ok y)
bind_ok (Ok x) f y e = (x, refl, e)
bind_ok (Err d) f y e = absurd cc

-- a test that refuses did not
pub guard_ok : {A F : Type 0} (b : Bool) (d : F) (r : Result A F) (y : A) → cond b (Err d) r ≡ Ok y → (b ≡ false) × (r ≡ Ok y)
guard_ok true d r y e = absurd cc
guard_ok false d r y e = (refl, e)

-- a test that admits did
pub admit_ok : {A F : Type 0} (b : Bool) (d : F) (r : Result A F) (y : A) → cond b r (Err d) ≡ Ok y → (b ≡ true) × (r ≡ Ok y)
admit_ok true d r y e = (refl, e)
admit_ok false d r y e = absurd cc

abbrev done : {A F : Type 0} → A → Result A F
done x = Ok x

-- one success is another
pub ok_is : {A F : Type 0} (x y : A) → done {F = F} x ≡ done y → x ≡ y
ok_is x y e = cc
