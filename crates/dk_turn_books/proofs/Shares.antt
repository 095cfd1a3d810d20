-- Two passes have entered the whole history between them.
use Rattle.std.proofs.Common.{◌≡◌, ◌≢◌, ℕ, ◌+◌, ◌<◌, List, [], ◌∷◌, length, cond, refl, ap, subst, ◌∙◌, arith, eq-eqb, ne_eqb}
use Rattle.std.specs.List.{All}
use Rattle.std.proofs.lemmas.List.Elements.{All-head, All-tail}
use mathlib.Core.Logic.{dite}
use native.Mathlib.Decide.{ℕ_discrete}
use Rattle.dk_turn.specs.Fronts.{Known, own, Continues, ContinuesAll}
use Rattle.dk_turn_books.proofs.Passes.{first_of_two, second_of_two}

module _ {E : Type 0} (number : E → ℕ) where
  -- an entry of this pass is one more of its own
  own_more : (n : ℕ) (x : E) (xs : List E) → number x ≡ n → own number n (x ∷ xs) ≡ x ∷ own number n xs
  own_more n x xs is = ap (λ b. cond b (x ∷ own number n xs) (own number n xs)) (eq-eqb (number x) n is)

  -- an entry of another pass is not
  own_same : (n : ℕ) (x : E) (xs : List E) → number x ≢ n → own number n (x ∷ xs) ≡ own number n xs
  own_same n x xs apart = ap (λ b. cond b (x ∷ own number n xs) (own number n xs)) (ne_eqb (number x) n apart)

  -- the entries of passes 0 and 1 are all, where there are no other passes
  pub both_shares : (log : List E) → All (λ e. number e < 2) log → length (own number 0 log) + length (own number 1 log) ≡ length log
  both_shares [] all = refl
  both_shares (x ∷ xs) all =
      let below : number x < 2 = All-head (λ e. number e < 2) x xs all in
      let rest = both_shares xs (All-tail (λ e. number e < 2) x xs all) in
      dite (ℕ_discrete (number x) 0)
      (λ is. omega (arith, ap length (own_more 0 x xs is), ap length (own_same 1 x xs (λ e. omega arith)), rest))
      (λ apart. omega (arith, ap length (own_same 0 x xs apart), ap length (own_more 1 x xs (omega arith)), rest))

  -- what each of two passes was told that it entered is all that there is
  pub two_shares : (passes a b i j : ℕ) (one two : Known E) (log : List E) → passes ≡ 2 → i ≡ 0 → j ≡ 1 → one.number ≡ i → two.number ≡ j
      → length (own number i one.front) ≡ a → length (own number j two.front) ≡ b → ContinuesAll number (one ∷ two ∷ []) log → All (λ e. number e < passes) log → length log ≡ a + b
  two_shares passes a b i j one two log both zero_is one_is same same' first second all named =
      let at_i : Continues number i one.front log = subst (λ (n : ℕ). Continues number n one.front log) same (first_of_two number one two log all) in
      let at_j : Continues number j two.front log = subst (λ (n : ℕ). Continues number n two.front log) same' (second_of_two number one two log all) in
      let sum = both_shares log (subst (λ (k : ℕ). All (λ e. number e < k) log) both named) in
      let share_0 : length (own number 0 log) ≡ a = subst (λ (n : ℕ). length (own number n log) ≡ a) zero_is (ap length at_i.none_beyond ∙ first) in
      let share_1 : length (own number 1 log) ≡ b = subst (λ (n : ℕ). length (own number n log) ≡ b) one_is (ap length at_j.none_beyond ∙ second) in
      omega arith
