-- The lines of a text, cut at its first byte 0A.
use Rattle.std.proofs.Common.{◌≡◌, ℕ, suc, ◌+◌, ◌-◌, ◌<◌, ◌≤◌, Bool, true, false, cond, not, eqb, Some, None, List, [], ◌∷◌, length, take, drop, refl, sym, ap, ◌∙◌, subst, arith, add-one}
use Rattle.std.proofs.Math.Numerals.{one-add}
use Rattle.std.proofs.Math.Seq.{take-length}
use Rattle.std.proofs.Math.ListN.{length-drop}
use Rattle.std.proofs.lemmas.Bool.Decides.{nat_tests}
use Rattle.std.specs.List.{position, position_or_len, onto_first}
use Rattle.dk_model.specs.Lines.{lines_of}

-- the byte that ends a line
abbrev pub is_end : ℕ → Bool
is_end b = eqb b 10

-- a byte before a text is cut off as the first line, or belongs to the text's first line
cut-cons : (b : ℕ) (bs : List ℕ) (t : Bool) (n : ℕ) → (n < length bs → lines_of bs ≡ take n bs ∷ lines_of (drop (suc n) bs)) → cond (not t) (1 + n) 0 < suc (length bs) → cond t ([] ∷ lines_of bs) (onto_first b (lines_of bs)) ≡ take (cond (not t) (1 + n) 0) (b ∷ bs) ∷ lines_of (drop (suc (cond (not t) (1 + n) 0)) (b ∷ bs))
cut-cons b bs true n rest h = refl
cut-cons b bs false n rest h = rw one-add (ap (onto_first b) (rest (omega arith)))

-- the first line stands before the first 0A
pub lines_of-cut : (bs : List ℕ) → position_or_len is_end bs < length bs → lines_of bs ≡ take (position_or_len is_end bs) bs ∷ lines_of (drop (suc (position_or_len is_end bs)) bs)
lines_of-cut [] h = absurd (omega arith)
lines_of-cut (b ∷ bs) h = cut-cons b bs (eqb b 10) (position_or_len is_end bs) (lines_of-cut bs) h

-- a byte before a text with no 0A belongs to its one line
whole-cons : (b : ℕ) (bs : List ℕ) (t : Bool) (n : ℕ) → (0 < length bs → length bs ≤ n → lines_of bs ≡ bs ∷ []) → suc (length bs) ≤ cond (not t) (1 + n) 0 → cond t ([] ∷ lines_of bs) (onto_first b (lines_of bs)) ≡ (b ∷ bs) ∷ []
whole-cons b bs true n rest h = absurd (omega arith)
whole-cons b [] false n rest h = refl
whole-cons b (d ∷ bs) false n rest h = ap (onto_first b) (rest (omega arith) (omega arith))

-- bytes with no 0A are one line
pub lines_of-whole : (bs : List ℕ) → 0 < length bs → length bs ≤ position_or_len is_end bs → lines_of bs ≡ bs ∷ []
lines_of-whole [] some h = absurd (omega arith)
lines_of-whole (b ∷ bs) some h = whole-cons b bs (eqb b 10) (position_or_len is_end bs) (lines_of-whole bs) h

-- what a position that was found says of its test
pub found-at : (t : Bool) (m n : ℕ) → Some n ≡ cond t (Some m) None → (t ≡ true) × (n ≡ m)
found-at true m n e = (refl, cc)
found-at false m n e = absurd cc

-- what a position that was not found says of it
pub found-nowhere : (t : Bool) (m : ℕ) → None ≡ cond t (Some m) None → t ≡ false
found-nowhere true m e = absurd cc
found-nowhere false m e = refl

-- where the first 0A stands at a place, the first line ends there
pub lines_of-at : (bs : List ℕ) (at : ℕ) → Some at ≡ position is_end bs → (lines_of bs ≡ take at bs ∷ lines_of (drop (at + 1) bs)) × (at < length bs)
lines_of-at bs at e =
    let f = found-at _ _ _ e in
    let within : position_or_len is_end bs < length bs = let t = f.0 in grind (arith, nat_tests) in
    let cut : lines_of bs ≡ take at bs ∷ lines_of (drop (suc at) bs) = subst (λ (n : ℕ). lines_of bs ≡ take n bs ∷ lines_of (drop (suc n) bs)) (sym f.1) (lines_of-cut bs within) in
    (rw add-one cut, omega (arith, f.1))

-- where none stands, all is one line
pub lines_of-none : (bs : List ℕ) → 0 < length bs → None ≡ position is_end bs → lines_of bs ≡ bs ∷ []
lines_of-none bs some e =
    let t = found-nowhere _ _ e in
    lines_of-whole bs some (grind (arith, nat_tests))

-- a slice to the end
pub take-rest : (n : ℕ) (xs : List ℕ) → take (length xs - n) (drop n xs) ≡ drop n xs
take-rest n xs = rw (← length-drop n xs) (take-length (drop n xs))

-- a slice at the end
pub take-none : (xs : List ℕ) → take (length xs - length xs) (drop (length xs) xs) ≡ []
take-none xs = take-rest (length xs) xs ∙ drop-length xs where
  drop-length : (ys : List ℕ) → drop (length ys) ys ≡ []
  drop-length [] = refl
  drop-length (y ∷ ys) = drop-length ys
