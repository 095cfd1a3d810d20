-- Texts in which a byte does not occur.
use Rattle.std.proofs.Common.{◌≡◌, ℕ, zero, suc, ◌/◌, ◌%◌, ◌<◌, Bool, true, false, cond, not, ◌&&◌, eqb, leb, List, [], ◌∷◌, ◌++◌, refl, ap, ◌∙◌, arith}
use Rattle.std.specs.Fmt.{decimal, digits, digits_onto, digit_glyph}
use Rattle.std.specs.List.{list_all}
use Rattle.std.proofs.lemmas.Bool.Decides.{nat_tests}
use Rattle.std.proofs.lemmas.List.Folds.{list_all-append}
use Rattle.std.proofs.lemmas.List.Sums.{AllPass-from_list_all, list_all-from_AllPass}
use Rattle.dk_model.specs.Lines.{byte_text, escaped, hex_digit, is_plain}

-- no byte of the text is this one
abbrev pub lacks : ℕ → List ℕ → Bool
lacks c bytes = list_all (λ b. not (eqb b c)) bytes

-- two tests that pass pass together
both : (a b : Bool) → a ≡ true → b ≡ true → (a && b) ≡ true
both a b p q = ap (λ t. t && b) p ∙ q

-- a byte that two texts lack, both together lack
pub lacks-append : (c : ℕ) (a b : List ℕ) → lacks c a ≡ true → lacks c b ≡ true → lacks c (a ++ b) ≡ true
lacks-append c a b p q = list_all-append (λ x. not (eqb x c)) a b ∙ both (lacks c a) (lacks c b) p q

-- from `0` to `9`
abbrev is_digit : ℕ → Bool
is_digit b = leb 48 b && leb b 57

-- a decimal digit is written as a digit
is_digit-glyph : (n : ℕ) → is_digit (digit_glyph false (n % 10)) ≡ true
is_digit-glyph n = grind (arith, nat_tests)

-- so each step of writing a number puts a digit before digits
digits_onto-are_digits : (k n : ℕ) (acc : List ℕ) → list_all is_digit acc ≡ true → list_all is_digit (digits_onto k 10 false n acc) ≡ true
digits_onto-are_digits zero n acc h = h
digits_onto-are_digits (suc k) n acc h =
    let more = both (is_digit (digit_glyph false (n % 10))) (list_all is_digit acc) (is_digit-glyph n) h in
    elim (eqb (n / 10) 0) as (λ t. list_all is_digit (cond t (digit_glyph false (n % 10) ∷ acc) (digits_onto k 10 false (n / 10) (digit_glyph false (n % 10) ∷ acc))) ≡ true) [
      | true ↦ more
      | false ↦ digits_onto-are_digits k (n / 10) (digit_glyph false (n % 10) ∷ acc) more
    ]

-- a number is written in digits alone
decimal-are_digits : (n : ℕ) → list_all is_digit (decimal n) ≡ true
unfolding digits
decimal-are_digits n = digits_onto-are_digits 64 n [] refl

-- a byte below the digits is no digit
is_digit-other : (c b : ℕ) → c < 48 → is_digit b ≡ true → not (eqb b c) ≡ true
is_digit-other c b low h = grind (arith, nat_tests)

-- a number's digits are digits
pub lacks-decimal : (c n : ℕ) → c < 48 → lacks c (decimal n) ≡ true
lacks-decimal c n low =
    list_all-from_AllPass (λ b. not (eqb b c)) (decimal n) (λ k d l. is_digit-other c _ low (AllPass-from_list_all is_digit (decimal n) (decimal-are_digits n) k d l))

-- a byte that stands for itself ends no line
is_plain-not_end : (b : ℕ) → is_plain b ≡ true → not (eqb b 10) ≡ true
is_plain-not_end b h = grind (arith, nat_tests)

-- nor does a hexadecimal digit
hex_digit-not_end : (n : ℕ) → not (eqb (hex_digit n) 10) ≡ true
hex_digit-not_end n = grind (arith, nat_tests)

-- nor anything by which a byte is written
lacks-byte_text : (b : ℕ) → lacks 10 (byte_text b) ≡ true
lacks-byte_text b =
    elim (is_plain b) as (λ t. is_plain b ≡ t → lacks 10 (cond t (b ∷ []) (92 ∷ 120 ∷ hex_digit (b / 16) ∷ hex_digit (b % 16) ∷ [])) ≡ true) [
      | true ↦ λ e. both (not (eqb b 10)) true (is_plain-not_end b e) refl
      | false ↦ λ e. both (not (eqb (hex_digit (b / 16)) 10)) _ (hex_digit-not_end (b / 16)) (both (not (eqb (hex_digit (b % 16)) 10)) true (hex_digit-not_end (b % 16)) refl)
    ] refl

-- an escaped text has no byte 0A
pub lacks-escaped : (bytes : List ℕ) → lacks 10 (escaped bytes) ≡ true
lacks-escaped [] = refl
lacks-escaped (b ∷ bytes) = lacks-append 10 (byte_text b) (escaped bytes) (lacks-byte_text b) (lacks-escaped bytes)
