-- Beginnings of a history, and the entries of one pass in it.
use Rattle.std.proofs.Common.{◌≡◌, ◌≢◌, ℕ, ◌<◌, ◌==◌, List, [], ◌∷◌, ◌++◌, true, false, cond, refl, sym, ap, ◌∙◌, subst, eq-eqb, ne_eqb, append_assoc}
use Rattle.std.specs.List.{All}
use Rattle.std.proofs.lemmas.List.{append-nil}
use Rattle.std.proofs.lemmas.List.Elements.{filter-append, All-head, All-tail, All-weaker, All-append}
use mathlib.Core.List.{IsPrefix}
use Rattle.dk_turn.specs.Fronts.{own, Continues, Called}

pub prefix_self : {A : Type 0} (xs : List A) → IsPrefix xs xs
prefix_self xs = ([], append-nil xs)

pub prefix_more : {A : Type 0} (xs ys more : List A) → IsPrefix xs ys → IsPrefix xs (ys ++ more)
prefix_more xs ys more p = (p.0 ++ more, sym (append_assoc xs p.0 more) ∙ ap (λ w. w ++ more) p.1)

module _ {E : Type 0} (number : E → ℕ) where
  -- all entries of n are n's own
  pub own_all : (n : ℕ) (xs : List E) → All (λ e. number e ≡ n) xs → own number n xs ≡ xs
  own_all n [] all = refl
  own_all n (x ∷ xs) all =
      let here : number x == n ≡ true = eq-eqb (number x) n (All-head (λ e. number e ≡ n) x xs all) in
      let there = own_all n xs (All-tail (λ e. number e ≡ n) x xs all) in
      ap (λ b. cond b (x ∷ own number n xs) (own number n xs)) here ∙ ap (λ ys. x ∷ ys) there

  -- and none of them is another's
  pub own_none : (m n : ℕ) (xs : List E) → m ≢ n → All (λ e. number e ≡ n) xs → own number m xs ≡ []
  own_none m n [] apart all = refl
  own_none m n (x ∷ xs) apart all =
      let here : number x == m ≡ false = ne_eqb (number x) m (λ e. apart (sym e ∙ All-head (λ e. number e ≡ n) x xs all)) in
      let there = own_none m n xs apart (All-tail (λ e. number e ≡ n) x xs all) in
      ap (λ b. cond b (x ∷ own number m xs) (own number m xs)) here ∙ there

  pub own-append : (n : ℕ) (xs ys : List E) → own number n (xs ++ ys) ≡ own number n xs ++ own number n ys
  own-append n xs ys = filter-append (λ e. number e == n) xs ys

  pub continues_self : (n : ℕ) (log : List E) → Continues number n log log
  continues_self n log = record { begins = prefix_self log; none_beyond = refl }

  -- what another pass enters is not beyond what this one has seen of its own
  pub continues_past : (m n : ℕ) (seen log added : List E) → m ≢ n → All (λ e. number e ≡ n) added → Continues number m seen log → Continues number m seen (log ++ added)
  continues_past m n seen log added apart all c = record {
    begins = prefix_more seen log added c.begins;
    none_beyond = own-append m log added ∙ (ap (λ ys. own number m log ++ ys) (own_none m n added apart all) ∙ (append-nil (own number m log) ∙ c.none_beyond));
  }

  -- the entries of one pass are named below the number of passes
  pub named_more : (n limit : ℕ) (log added : List E) → n < limit → All (λ e. number e < limit) log → All (λ e. number e ≡ n) added → All (λ e. number e < limit) (log ++ added)
  named_more n limit log added below named all =
      All-append (λ e. number e < limit) log added named (All-weaker (λ e. number e ≡ n) (λ e. number e < limit) (λ e is. subst (λ (k : ℕ). k < limit) (sym is) below) added all)

  -- what a call tells, from what its step did
  pub called : (n : ℕ) (gives : List E → List E → Type 0) (old before added new : List E) → Continues number n old before → new ≡ before ++ added → All (λ e. number e ≡ n) added → gives before added → Called number n gives old new
  called n gives old before added new continues ends all given = record {
    before = before;
    added = added;
    continues = continues;
    front = ends;
    by = all;
    own_entries = ap (own number n) ends ∙ (own-append n before added ∙ (λ i. continues.none_beyond i ++ own_all n added all i));
    given = given;
  }
