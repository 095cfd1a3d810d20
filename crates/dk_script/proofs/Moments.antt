-- The decimal text of a number.
use Rattle.std.proofs.Common.{◌≡◌, ℕ, zero, suc, ◌≤◌, List, [], ◌∷◌, length, get_or, Result, Ok, Err, refl, sym, ap, ◌∙◌, arith}
use Rattle.std.specs.Prelude.{IfSome, IfNone}
use Rattle.std.specs.Result.{result_ok}
use Rattle.std.specs.Fmt.{decimal}
use Rattle.std.specs.Str.Parse.{AllDigits, digits_value, ParsesUnsigned}
use Rattle.std.proofs.lemmas.Str.Parse.{IsNumeralModel, numerals_by_value, tells_digits, parse_plain}
use Rattle.std.proofs.lemmas.Fmt.{decimal-digits_value, first_decimal, decimal_digit, parse-decimal, IsAscii-decimal}
use Rattle.std.proofs.lemmas.Str.{IsUtf8-from_ascii}
use Rattle.std.specs.Str.{IsUtf8}
use Rattle.dk_types.specs.declared.limits.TheConstants.{MOMENT_MOST_MS}
use Rattle.dk_script.specs.Reading.{IsBare}

own : IsNumeralModel (AllDigits 10) (digits_value 10)
own = numerals_by_value (AllDigits 10) tells_digits

-- digits that are read as a number are its decimal text
pub read_decimal : {E : Type 0} (bytes : List ℕ) (n : ℕ) (r : Result ℕ E) → IsBare bytes → r ≡ Ok n → ParsesUnsigned 64 10 bytes r → bytes ≡ decimal n
read_decimal {E} bytes n (Ok m) bare is h =
    let p = parse_plain own {E = E} 64 bytes (Ok m) h bare.unsigned in
    let same : m ≡ n = cc in
    sym (decimal-digits_value own bytes p.0.0 p.0.1 bare.no_zero p.0.2) ∙ ap decimal (sym p.1 ∙ same)
read_decimal bytes n (Err e) bare is h = absurd cc

-- a moment's text is read
pub decimal_read : {E : Type 0} (bytes : List ℕ) (n : ℕ) (r : Result ℕ E) → n ≤ MOMENT_MOST_MS → bytes ≡ decimal n → ParsesUnsigned 64 10 bytes r → r ≡ Ok n
decimal_read bytes n r most is h = parse-decimal 64 n bytes r (omega (arith, most)) (omega (arith, most)) is h

-- it is text
pub decimal_utf8 : (n : ℕ) → n ≤ MOMENT_MOST_MS → IsUtf8 (decimal n)
decimal_utf8 n most = IsUtf8-from_ascii (decimal n) (IsAscii-decimal n (omega (arith, most)))

-- and has neither a sign nor a zero before it
pub decimal_bare : (n : ℕ) → n ≤ MOMENT_MOST_MS → IsBare (decimal n)
decimal_bare zero most =
    let digit : decimal 0 ≡ 48 ∷ [] = decimal_digit 0 (omega arith) in
    record {
      unsigned = λ e. let no : 48 ≡ 43 = sym (ap (λ (l : List ℕ). get_or l 0 0) digit) ∙ e in omega (arith, no);
      no_zero = λ e. ap length digit;
    }
decimal_bare (suc n) most =
    let first = first_decimal (suc n) (omega arith) (omega (arith, most)) in
    record { unsigned = λ e. omega (arith, first, e); no_zero = λ e. absurd (omega (arith, first, e)) }

-- what digits are read as
pub number_found : {E : Type 0} (bytes : List ℕ) (r : Result ℕ E) → IsBare bytes → ParsesUnsigned 64 10 bytes r → IfSome (result_ok r) (λ n. bytes ≡ decimal n)
number_found {E} bytes (Ok n) bare h = read_decimal {E = E} bytes n (Ok n) bare refl h
number_found bytes (Err e) bare h = tt

-- what is not read is no moment's text
pub number_none : {E : Type 0} (bytes : List ℕ) (r : Result ℕ E) → ParsesUnsigned 64 10 bytes r → IfNone (result_ok r) ((n : ℕ) → bytes ≡ decimal n → n ≤ MOMENT_MOST_MS → ⊥)
number_none bytes (Ok n) h = tt
number_none bytes (Err e) h = λ n is most. absurd (not_read e n (decimal_read bytes n (Err e) most is h)) where
  not_read : {F : Type 0} (f : F) (n : ℕ) → Err f ≡ Ok n → ⊥
  not_read f n same = cc
