-- A byte that is written as two hexadecimal digits.
use Rattle.std.proofs.Common.{◌≡◌, ℕ, ◌/◌, ◌%◌, Bool, false, cond, Option, Some, List, [], ◌∷◌, ◌++◌, sym, ap, ◌∙◌, subst}
use Rattle.std.specs.Fmt.{AppendsText, ◌++?◌}
use Rattle.dk_model.specs.Lines.{byte_text, hex_digit, is_plain}

-- a byte that is not plain is written as `\x` and its digits
pub byte_text-from_hex : (old new : List ℕ) (b : ℕ) (digits : Option (List ℕ)) → digits ≡ Some (hex_digit (b / 16) ∷ hex_digit (b % 16) ∷ []) → is_plain b ≡ false → AppendsText old new (Some (92 ∷ 120 ∷ []) ++? digits) → new ≡ old ++ byte_text b
byte_text-from_hex old new b digits e other written =
    let new_is = subst (λ (o : Option (List ℕ)). AppendsText old new (Some (92 ∷ 120 ∷ []) ++? o)) e written in
    new_is ∙ ap (λ (t : Bool). old ++ cond t (b ∷ []) (92 ∷ 120 ∷ hex_digit (b / 16) ∷ hex_digit (b % 16) ∷ [])) (sym other)
