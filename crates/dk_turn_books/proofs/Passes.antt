-- Two passes: how they come out of a new turn, and how they go back into it.
use Rattle.std.proofs.Common.{◌≡◌, ℕ, List, [], ◌∷◌, ◌++◌, length, Some, ap, subst, ◌∙◌, arith, length-append}
use Rattle.std.specs.List.{slice_get}
use Rattle.std.proofs.lemmas.List.Elements.{All-head, All-tail}
use Rattle.dk_turn.specs.Fronts.{Known, known, Continues, ContinuesAll, IsDealt}

module _ {E : Type 0} where
  -- of two passes the last two that come off the list are all
  pub two_dealt : (count : ℕ) (items old rest : List (Known E)) (one two : Known E) → IsDealt count items → count ≡ 2 → items ≡ old ++ two ∷ [] → old ≡ rest ++ one ∷ []
      → (one ≡ known 0 []) × (two ≡ known 1 [])
  two_dealt count items old [] one two dealt is last first =
      let all : items ≡ one ∷ two ∷ [] = last ∙ ap (λ (l : List (Known E)). l ++ two ∷ []) first in
      let a : Some one ≡ Some (known 0 []) = subst (λ (l : List (Known E)). slice_get l 0 ≡ Some (known 0 [])) all (dealt.each 0 (omega arith)) in
      let b : Some two ≡ Some (known 1 []) = subst (λ (l : List (Known E)). slice_get l 1 ≡ Some (known 1 [])) all (dealt.each 1 (omega arith)) in
      (cc a, cc b)
  two_dealt count items old (x ∷ rest) one two dealt is last first =
      let n = dealt.all in
      absurd (omega (arith, ap length last, length-append old (two ∷ []), ap length first, length-append rest (one ∷ [])))

  module _ (number : E → ℕ) where
    -- what is said of the passes that were pushed one after another is said of both
    pub continues_both : (start mid items : List (Known E)) (one two : Known E) (log : List E) → start ≡ [] → mid ≡ start ++ one ∷ [] → items ≡ mid ++ two ∷ [] → ContinuesAll number items log → ContinuesAll number (one ∷ two ∷ []) log
    continues_both start mid items one two log none first second all =
        subst (λ (ps : List (Known E)). ContinuesAll number ps log) (second ∙ (ap (λ (l : List (Known E)). l ++ two ∷ []) first ∙ ap (λ (l : List (Known E)). (l ++ one ∷ []) ++ two ∷ []) none)) all

    -- and so of each of them
    pub first_of_two : (one two : Known E) (log : List E) → ContinuesAll number (one ∷ two ∷ []) log → Continues number one.number one.front log
    first_of_two one two log all = All-head (λ p. Continues number p.number p.front log) one (two ∷ []) all

    pub second_of_two : (one two : Known E) (log : List E) → ContinuesAll number (one ∷ two ∷ []) log → Continues number two.number two.front log
    second_of_two one two log all = All-head (λ p. Continues number p.number p.front log) two [] (All-tail (λ p. Continues number p.number p.front log) one (two ∷ []) all)
