-- The least key that passes a test.
use Rattle.std.proofs.Common.{◌≡◌, Bool, true, false, cond, ◌&&◌, ◌||◌, T, Option, Some, None, is_some, List, [], ◌∷◌, refl, sym, ap, subst, ◌∙◌}
use Rattle.std.specs.declared.cmp.Ordering.{Ordering}
use Rattle.std.specs.declared.cmp.Ordering.TheVariants.{Less, Equal, Greater}
use Rattle.std.specs.Ordering.{is_lt, is_eq, ordering_reverse}
use Rattle.std.specs.Cmp.{IsTotalOrder, tied_itself}
use Rattle.std.specs.FinMap.{FinMap, IsAntisymmetric, find, is_sorted, get, entries, entries_sorted, get-entries}
use Rattle.std.specs.FinMap.Entries.{below_all}
use Rattle.dk_types.specs.Values.{first_key}
use Rattle.dk_overlay.specs.Least.{passes, Least, lesser}
use Rattle.dk_overlay.proofs.Tests.{first_of_and, second_of_and, less_from_T, or_false, or_left, or_right, and_left, and_true}

module _ {X K : Type 0} (at : K → Bool) (q : K) where
  pub pass_at : (o : Option X) → passes at (λ _. true) q o ≡ true → at q ≡ true
  pass_at None h = cc
  pass_at (Some x) h = and_left _ _ h

  pub pass_some : (o : Option X) → passes at (λ _. true) q o ≡ true → is_some o ≡ true
  pass_some None h = cc
  pass_some (Some x) h = refl

  pub pass : (o : Option X) → at q ≡ true → is_some o ≡ true → passes at (λ _. true) q o ≡ true
  pass None e f = cc
  pass (Some x) e f = and_true _ _ e refl

module _ {K : Type 0} (R : K → K → Ordering) where
  pub Least-same : (p q : K → Bool) → ((k : K) → p k ≡ q k) → (r : Option K) → Least R p r → Least R q r
  Least-same p q e None h = λ k. sym (e k) ∙ h k
  Least-same p q e (Some n) h = (sym (e n) ∙ h.0, λ k l. sym (e k) ∙ h.1 k l)

  module _ (total : IsTotalOrder R) (exact : IsAntisymmetric R) where
    -- of two keys one is below, or they are one
    pub ordered : {P : Type 0} (a b : K) → (R a b ≡ Less → P) → (a ≡ b → P) → (R b a ≡ Less → P) → P
    ordered {P = P} a b f g h = elim (R a b) as (λ o. R a b ≡ o → P) [
      | Less ↦ f
      | Equal ↦ λ e. g (exact a b e)
      | Greater ↦ λ e. h (total.antisymm b a ∙ ap ordering_reverse e)
    ] refl

    not_both : (b : Bool) → b ≡ true → b ≡ false → ⊥
    not_both b e f = cc

    pub Least-unique : (p : K → Bool) (r s : Option K) → Least R p r → Least R p s → r ≡ s
    Least-unique p None None h k = refl
    Least-unique p None (Some n) h k = absurd (not_both (p n) k.0 (h n))
    Least-unique p (Some m) None h k = absurd (not_both (p m) h.0 (k m))
    Least-unique p (Some m) (Some n) h k = ordered m n
        (λ l. absurd (not_both (p m) h.0 (k.1 m l)))
        (λ e. ap Some e)
        (λ l. absurd (not_both (p n) k.0 (h.1 n l)))

    pub Least-or : (p q : K → Bool) (r s : Option K) → Least R p r → Least R q s → Least R (λ k. p k || q k) (lesser R r s)
    Least-or p q None None h k = λ x. or_false (p x) (q x) (h x) (k x)
    Least-or p q None (Some n) h k = (or_right (p n) (q n) k.0, λ x l. or_false (p x) (q x) (h x) (k.1 x l))
    Least-or p q (Some m) None h k = (or_left (p m) (q m) h.0, λ x l. or_false (p x) (q x) (h.1 x l) (k x))
    Least-or p q (Some m) (Some n) h k =
        elim (R n m) as (λ o. R n m ≡ o → Least R (λ k. p k || q k) (cond (is_lt o) (Some n) (Some m))) [
          | Less ↦ λ e. (or_right (p n) (q n) k.0, λ x l. or_false (p x) (q x) (h.1 x (total.trans x n m l e)) (k.1 x l))
          | Equal ↦ λ e. (or_left (p m) (q m) h.0, λ x l. or_false (p x) (q x) (h.1 x l) (k.1 x (subst (λ y. R x y ≡ Less) (sym (exact n m e)) l)))
          | Greater ↦ λ e. (or_left (p m) (q m) h.0, λ x l. or_false (p x) (q x) (h.1 x l) (k.1 x (total.trans x m n l (total.antisymm m n ∙ ap ordering_reverse e))))
        ] refl

    below_none : {X : Type 0} (q x : K) (es : List (K × X)) → R q x ≡ Less → T (below_all R x es) → find R q es ≡ None
    below_none q x [] l h = refl
    below_none q x (e ∷ es) l h =
        ap (λ o. cond (is_eq o) (Some e.1) (find R q es)) (total.trans q x e.0 l (less_from_T _ (first_of_and _ _ h)))
        ∙ below_none q x es l (second_of_and _ _ h)

    pub above_none : {X : Type 0} (q : K) (es : List (K × X)) → T (below_all R q es) → find R q es ≡ None
    above_none q [] h = refl
    above_none q (e ∷ es) h =
        ap (λ o. cond (is_eq o) (Some e.1) (find R q es)) (less_from_T _ (first_of_and _ _ h)) ∙ above_none q es (second_of_and _ _ h)

    skipped : {X : Type 0} (at : K → Bool) (e : K × X) (es : List (K × X)) (q : K) → at e.0 ≡ false → T (below_all R e.0 es)
        → passes at (λ _. true) q (find R q es) ≡ passes at (λ _. true) q (find R q (e ∷ es))
    skipped at e es q t s =
        elim (R q e.0) as (λ o. R q e.0 ≡ o → passes at (λ _. true) q (find R q es) ≡ passes at (λ _. true) q (cond (is_eq o) (Some e.1) (find R q es))) [
          | Less ↦ λ _. refl
          | Equal ↦ λ is.
              let same : q ≡ e.0 = exact q e.0 is in
              ap (passes at (λ _. true) q) (ap (λ x. find R x es) same ∙ above_none e.0 es s) ∙ sym (ap (λ b. b && true) (ap at same ∙ t))
          | Greater ↦ λ _. refl
        ] refl

    -- the first entry of a sorted list that passes has the least such key
    first_key-Least : {X : Type 0} (at : K → Bool) (es : List (K × X)) → T (is_sorted R es)
        → Least R (λ q. passes at (λ _. true) q (find R q es)) (first_key at es)
    first_key-Least at [] s = λ q. refl
    first_key-Least {X = X} at (e ∷ es) s =
        let here : find R e.0 (e ∷ es) ≡ Some e.1 = ap (λ o. cond (is_eq o) (Some e.1) (find R e.0 es)) (tied_itself total e.0) in
        let before : (q : K) → R q e.0 ≡ Less → find R q (e ∷ es) ≡ None = λ q l.
        ap (λ o. cond (is_eq o) (Some e.1) (find R q es)) l ∙ below_none q e.0 es l (first_of_and _ _ s) in
        elim (at e.0) as (λ b. at e.0 ≡ b → Least R (λ q. passes at (λ _. true) q (find R q (e ∷ es))) (cond b (Some e.0) (first_key at es))) [
          | true ↦ λ t. (ap (passes at (λ _. true) e.0) here ∙ ap (λ b. b && true) t, λ q l. ap (passes at (λ _. true) q) (before q l))
          | false ↦ λ t. Least-same (λ q. passes at (λ _. true) q (find R q es)) (λ q. passes at (λ _. true) q (find R q (e ∷ es)))
              (λ q. skipped at e es q t (first_of_and _ _ s)) (first_key at es) (first_key-Least at es (second_of_and _ _ s))
        ] refl

    -- the first key of a map that passes is the least that does
    pub first_key-least : {X : Type 0} (at : K → Bool) (m : FinMap R X)
        → Least R (λ q. passes at (λ _. true) q (get m q)) (first_key at (entries m))
    first_key-least at m = Least-same (λ q. passes at (λ _. true) q (find R q (entries m))) (λ q. passes at (λ _. true) q (get m q))
        (λ q. ap (passes at (λ _. true) q) (sym (get-entries m q))) _ (first_key-Least at (entries m) (entries_sorted m))
