-- A text cut behind its first line.
use Rattle.std.proofs.Common.{◌≡◌, ◌⊎◌, inl, inr, ℕ, ◌+◌, ◌<◌, ◌≤◌, Bool, true, false, cond, not, ◌&&◌, eqb, Some, None, List, [], ◌∷◌, ◌++◌, length, get_or, take, drop, refl, sym, ap, ◌∙◌, subst, arith, length-append}
use Rattle.std.proofs.Math.Numerals.{one-add}
use Rattle.std.proofs.lemmas.Bool.Decides.{nat_tests}
use Rattle.std.proofs.lemmas.List.{take_all}
use Rattle.std.proofs.lemmas.List.Quantifiers.{position-Some}
use Rattle.std.proofs.lemmas.List.Sums.{split_at_first}
use Rattle.std.specs.List.{list_all, position, position_or_len}
use Rattle.dk_model.specs.Scripts.{IsUnended, is_end, first_line}
use Rattle.dk_script.specs.Reading.{IsCut}
use Rattle.dk_script.proofs.LinesOf.{found-at, found-nowhere, lines_of-at, lines_of-none}

-- one byte more before a text's first line
unended-cons : (b : ℕ) (bs : List ℕ) (t : Bool) (n : ℕ) → eqb b 10 ≡ t → list_all (λ c. not (eqb c 10)) (take n bs) ≡ true → list_all (λ c. not (eqb c 10)) (take (cond (not t) (1 + n) 0) (b ∷ bs)) ≡ true
unended-cons b bs true n is rest = refl
unended-cons b bs false n is rest = rw one-add (ap (λ c. not c && list_all (λ c. not (eqb c 10)) (take n bs)) is ∙ rest)

-- a first line has no byte 0A
pub first_line-unended : (bs : List ℕ) → IsUnended (first_line bs)
first_line-unended [] = refl
first_line-unended (b ∷ bs) = unended-cons b bs (eqb b 10) (position_or_len is_end bs) refl (first_line-unended bs)

-- a byte that ends a line
end-is : (b : ℕ) → is_end b ≡ true → b ≡ 10
end-is b h = grind (arith, nat_tests)

-- at the first 0A
pub IsCut-at : (bs : List ℕ) (at : ℕ) → Some at ≡ position is_end bs → IsCut bs (take at bs) (drop (at + 1) bs)
IsCut-at bs at e =
    let place : at ≡ position_or_len is_end bs = (found-at _ _ _ e).1 in
    let found = position-Some is_end bs at 0 (sym e) in
    let first : take at bs ≡ first_line bs = ap (λ (n : ℕ). take n bs) place in
    let split = split_at_first is_end bs 0 (subst (λ (n : ℕ). n < length bs) place found.0) in
    record {
      first = first;
      lines = (lines_of-at bs at e).0;
      parted = inl (subst (λ (n : ℕ). bs ≡ take n bs ++ get_or bs n 0 ∷ drop (n + 1) bs) (sym place) split ∙ ap (λ (b : ℕ). take at bs ++ b ∷ drop (at + 1) bs) (end-is (get_or bs at 0) found.1));
      unended = subst IsUnended (sym first) (first_line-unended bs);
    }

-- at the end, where no 0A stands
pub IsCut-none : (bs : List ℕ) → 0 < length bs → None ≡ position is_end bs → IsCut bs bs []
IsCut-none bs some e =
    let nowhere = found-nowhere _ _ e in
    let long : length bs ≤ position_or_len is_end bs = grind (arith, nat_tests) in
    let first : bs ≡ first_line bs = sym (take_all (position_or_len is_end bs) bs long) in
    record {
      first = first;
      lines = lines_of-none bs some e;
      parted = inr (refl, refl);
      unended = subst IsUnended (sym first) (first_line-unended bs);
    }

-- each text with a byte has a first line
pub cut_first : (bs : List ℕ) → 0 < length bs → (after : List ℕ) × IsCut bs (first_line bs) after
cut_first bs some = elim (position is_end bs) as (λ o. o ≡ position is_end bs → (after : List ℕ) × IsCut bs (first_line bs) after) [
  | None ↦ λ e. let cut = IsCut-none bs some e in ([], subst (λ (l : List ℕ). IsCut bs l []) cut.first cut)
  | Some at ↦ λ e. let cut = IsCut-at bs at e in (drop (at + 1) bs, subst (λ (l : List ℕ). IsCut bs l (drop (at + 1) bs)) cut.first cut)
] refl

-- less is left behind the cut
pub cut_shorter : (bs line after : List ℕ) → 0 < length bs → IsCut bs line after → length after < length bs
cut_shorter bs line after some cut = by cut.parted where
  by : ((bs ≡ line ++ 10 ∷ after) ⊎ ((bs ≡ line) × (after ≡ []))) → length after < length bs
  by (inl e) = omega (arith, ap length e, length-append line (10 ∷ after))
  by (inr e) = omega (arith, some, ap length e.1)
