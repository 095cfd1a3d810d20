-- The first word of a line, and what stands behind it.
use Rattle.std.proofs.Common.{◌≡◌, ℕ, ◌+◌, ◌<◌, ◌≤◌, Bool, true, false, cond, not, ◌&&◌, eqb, Some, None, List, [], ◌∷◌, ◌++◌, length, get_or, take, drop, refl, sym, ap, ◌∙◌, subst, arith, add-one, length-append}
use Rattle.std.proofs.Math.Numerals.{one-add}
use Rattle.std.proofs.lemmas.Bool.Decides.{nat_tests}
use Rattle.std.proofs.lemmas.List.Quantifiers.{position-Some}
use Rattle.std.proofs.lemmas.List.Sums.{split_at_first}
use Rattle.std.specs.List.{position, position_or_len}
use Rattle.dk_model.specs.Lines.{first_word, after_word, is_space}
use Rattle.dk_script.proofs.Lacking.{lacks}
use Rattle.dk_script.proofs.LinesOf.{found-at, found-nowhere}

-- one byte more before a text's first word
first_word-cons : (b : ℕ) (t : Bool) (n : ℕ) (word line : List ℕ) (others : Bool) → (not t && others) ≡ true → (others ≡ true → take n line ≡ word) → take (cond (not t) (1 + n) 0) (b ∷ line) ≡ b ∷ word
first_word-cons b true n word line others h rest = absurd cc
first_word-cons b false n word line others h rest = rw one-add (ap (λ (w : List ℕ). b ∷ w) (rest h))

-- a word ends at its first space
pub first_word-space : (word rest : List ℕ) → lacks 32 word ≡ true → first_word (word ++ 32 ∷ rest) ≡ word
first_word-space [] rest h = refl
first_word-space (b ∷ word) rest h =
    first_word-cons b (eqb b 32) (position_or_len is_space (word ++ 32 ∷ rest)) word (word ++ 32 ∷ rest) (lacks 32 word) h (first_word-space word rest)

-- the same, of what stands behind the word
after_word-cons : (b : ℕ) (t : Bool) (n : ℕ) (rest line : List ℕ) (others : Bool) → (not t && others) ≡ true → (others ≡ true → drop (n + 1) line ≡ rest) → drop (cond (not t) (1 + n) 0 + 1) (b ∷ line) ≡ rest
after_word-cons b true n rest line others h behind = absurd cc
after_word-cons b false n rest line others h behind = rw (one-add, add-one) (rw add-one at (behind h))

-- behind the space stands the rest
pub after_word-space : (word rest : List ℕ) → lacks 32 word ≡ true → after_word (word ++ 32 ∷ rest) ≡ rest
after_word-space [] rest h = refl
after_word-space (b ∷ word) rest h =
    after_word-cons b (eqb b 32) (position_or_len is_space (word ++ 32 ∷ rest)) rest (word ++ 32 ∷ rest) (lacks 32 word) h (after_word-space word rest)

-- a text with a space has its first one within
position-space : (word rest : List ℕ) → position_or_len is_space (word ++ 32 ∷ rest) ≤ length word
position-space [] rest = omega arith
position-space (b ∷ word) rest =
    elim (eqb b 32) as (λ t. cond (not t) (1 + position_or_len is_space (word ++ 32 ∷ rest)) 0 ≤ length (b ∷ word)) [
      | true ↦ omega arith
      | false ↦ omega (arith, position-space word rest)
    ]

-- where no space is found, none stands
pub position-no_space : (bytes word rest : List ℕ) → None ≡ position is_space bytes → bytes ≡ word ++ 32 ∷ rest → ⊥
position-no_space bytes word rest none e =
    let nowhere = found-nowhere _ _ (none ∙ ap (position is_space) e) in
    let within = position-space word rest in
    let long = length-append word (32 ∷ rest) in
    grind (arith, nat_tests)

-- a byte that is a space
space-is : (b : ℕ) → is_space b ≡ true → b ≡ 32
space-is b h = grind (arith, nat_tests)

-- where a space is found, the first word ends
pub position-at_space : (bytes : List ℕ) (at : ℕ) → Some at ≡ position is_space bytes → (bytes ≡ take at bytes ++ 32 ∷ drop (at + 1) bytes) × (take at bytes ≡ first_word bytes) × (drop (at + 1) bytes ≡ after_word bytes)
position-at_space bytes at e =
    let found = position-Some is_space bytes at 0 (sym e) in
    let place = (found-at _ _ _ e).1 in
    let cut = split_at_first is_space bytes 0 (subst (λ (n : ℕ). n < length bytes) place found.0) in
    let here = space-is (get_or bytes at 0) found.1 in
    (subst (λ (n : ℕ). bytes ≡ take n bytes ++ get_or bytes n 0 ∷ drop (n + 1) bytes) (sym place) cut ∙ ap (λ (b : ℕ). take at bytes ++ b ∷ drop (at + 1) bytes) here, ap (λ (n : ℕ). take n bytes) place, ap (λ (n : ℕ). drop (n + 1) bytes) place)
