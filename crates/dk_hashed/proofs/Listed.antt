-- A list of a table's entries, in no order and sorted by their keys. `o` is the order of the keys, and `same` says that only equal keys tie.
use Rattle.std.proofs.Common.{◌≡◌, ◌+◌, refl, sym, ap, subst, ◌∙◌, arith, Bool, true, false, cond, ◌&&◌, T, List, [], ◌∷◌, map, Option, None, Some, is_some, All, Contains, IsPermutation, IsSortedByKey, get_or, ◌⊎◌, inl, inr}
use mathlib.Core.Bool.{true≢false}
use Rattle.std.specs.declared.cmp.Ordering.{Ordering}
use Rattle.std.specs.declared.cmp.Ordering.TheVariants.{Less, Equal, Greater}
use Rattle.std.specs.Ordering.{is_lt, is_eq, ordering_reverse, eq_by_cmp}
use Rattle.std.specs.Cmp.{IsTotalOrder, eq_by_cmp_equiv}
use Rattle.std.specs.List.{AllByRecursion, IsDistinct}
use Rattle.std.specs.List.Sorted.{IsStrictlySortedBy}
use Rattle.std.specs.Map.{keys_of}
use Rattle.std.specs.FinMap.{IsAntisymmetric, from_entries, entries-insert}
use Rattle.std.specs.FinMap.Entries.{by_order, below_all, same_entries, find_tied, is_some-find}
use Rattle.std.proofs.lemmas.List.{get_or-map, length-map}
use Rattle.std.proofs.lemmas.List.Elements.{All-contains_itself, All-head, All-tail}
use Rattle.std.proofs.lemmas.List.Sorted.{IsPermutation-refl, IsPermutation-sym, IsPermutation-trans, IsPermutation-cons, IsPermutation-middle, IsPermutation-map, All-permutation, list_any-IsPermutation}
use Rattle.std.proofs.lemmas.Map.Keys.{sorted_head, sorted_tail, apart_from_distinct, IsDistinct-IsPermutation, sorted_from_all_adjacent}
use Rattle.std.proofs.lemmas.Map.Views.{lookup-from_Contains}
use Rattle.dk_map.specs.Entries.{find, put, IsOrdered}
use Rattle.dk_hashed.specs.InOrder.{in_order}
use Rattle.dk_hashed.proofs.InOrder.{lookup_find, find-in_order, ordered-in_order, in_order-empty, apart}

-- both tests hold
both : (a b : Bool) → T a → T b → T (a && b)
both true b p q = q
both false b p q = absurd p

-- of both tests the first holds, and the second
first : (a b : Bool) → T (a && b) → T a
first true b p = tt
first false b p = p

second : (a b : Bool) → T (a && b) → T b
second true b p = p
second false b p = absurd p

-- nothing is there where a test says so
lost : {A : Type 0} (r : Option A) → is_some r ≡ false → r ≡ None
lost None h = refl
lost (Some x) h = absurd (true≢false h)

-- what is below is not equal
unequal : (r : Ordering) → T (is_lt r) → is_eq r ≡ false
unequal Less p = refl
unequal Equal p = absurd p
unequal Greater p = absurd p

-- the keys of what is shown
keys_shown : {K V X : Type 0} (shows : X → K × V) (xs : List X) → map (λ x. (shows x).0) xs ≡ keys_of (map shows xs)
keys_shown shows [] = refl
keys_shown shows (x ∷ xs) = ap (λ ks. (shows x).0 ∷ ks) (keys_shown shows xs)

module _ {K : Type 0} {R : K → K → Ordering} (o : IsTotalOrder R) where
  -- of two keys of which the second is not below the first, and which are not equal, the first is below
  lower : (x y : K) → is_lt (R y x) ≡ false → eq_by_cmp R x y ≡ false → R x y ≡ Less
  lower x y up differ =
      elim (R x y) as (λ c. R x y ≡ c → R x y ≡ Less) [
        | Less ↦ λ p. p
        | Equal ↦ λ p. absurd (true≢false (sym (ap is_eq p) ∙ differ))
        | Greater ↦ λ p. absurd (true≢false (sym (ap is_lt (o.antisymm y x ∙ ap ordering_reverse p)) ∙ up))
      ] refl

  -- what is sorted by keys that differ has them strictly ascend
  strict : {X : Type 0} (key : X → K) (xs : List X) → IsSortedByKey key R xs → IsDistinct (eq_by_cmp R) (map key xs) → IsStrictlySortedBy R (map key xs)
  unfolding IsStrictlySortedBy
  strict key [] up differ = tt
  strict key (x ∷ xs) up differ =
      let same = length-map (x ∷ xs) key in
      sorted_from_all_adjacent o (map key (x ∷ xs)) (key x)
      (λ k within.
      let near = get_or-map key (x ∷ xs) k x (key x) (omega (arith, same, within)) in
      let far = get_or-map key (x ∷ xs) (k + 1) x (key x) (omega (arith, same, within)) in
      lower (get_or (map key (x ∷ xs)) k (key x)) (get_or (map key (x ∷ xs)) (k + 1) (key x)) ((λ i. is_lt (R (far i) (near i))) ∙ up k x (omega arith) (omega (arith, same, within)))
      (apart_from_distinct (eq_by_cmp R) (map key (x ∷ xs)) k (k + 1) (key x) differ (omega arith) within))

module _ {K V : Type 0} {R : K → K → Ordering} (o : IsTotalOrder R) where
  -- an entry is put at a key that is not found by changes of place
  put_permuted : (k : K) (v : V) (es : List (K × V)) → find R k es ≡ None → IsPermutation ((k, v) ∷ es) (put R k v es)
  put_permuted k v [] none = IsPermutation-refl ((k, v) ∷ [])
  put_permuted k v (e ∷ es) none =
      elim (R k e.0) as (λ c. cond (is_eq c) (Some e.1) (find R k es) ≡ None → IsPermutation ((k, v) ∷ e ∷ es) (by_order c ((k, v) ∷ e ∷ es) ((e.0, v) ∷ es) (e ∷ put R k v es))) [
        | Less ↦ λ n. IsPermutation-refl ((k, v) ∷ e ∷ es)
        | Equal ↦ λ n. absurd (true≢false (ap is_some n))
        | Greater ↦ λ n. IsPermutation-trans ((k, v) ∷ e ∷ es) (e ∷ (k, v) ∷ es) (e ∷ put R k v es) (IsPermutation-sym (e ∷ (k, v) ∷ es) ((k, v) ∷ e ∷ es) (IsPermutation-middle (e ∷ []) (k, v) es)) (IsPermutation-cons e ((k, v) ∷ es) (put R k v es) (put_permuted k v es n))
      ] none

  -- entries of a table are put in order by changes of place. `by` says that `==` answers by the order
  pub permuted : (eq : K → K → Bool) → ((x y : K) → eq x y ≡ eq_by_cmp R x y) → (es : List (K × V)) → IsDistinct eq (keys_of es) → IsPermutation es (in_order R es)
  unfolding IsDistinct
  permuted eq by [] h = subst (IsPermutation []) (sym (in_order-empty R [] refl)) (IsPermutation-refl [])
  permuted eq by (e ∷ es) h =
      IsPermutation-trans (e ∷ es) (e ∷ in_order R es) (in_order R (e ∷ es)) (IsPermutation-cons e es (in_order R es) (permuted eq by es h.1))
      (subst (IsPermutation (e ∷ in_order R es)) (sym (entries-insert o (from_entries es) e.0 e.1)) (put_permuted e.0 e.1 (in_order R es) (find-in_order o es e.0 ∙ apart o eq by e.0 es h.0)))

  below : (x : K) (es : List (K × V)) → AllByRecursion (λ y. R x y ≡ Less) (keys_of es) → T (below_all R x es)
  below x [] h = tt
  below x (e ∷ es) h = both _ _ (subst (λ r. T (is_lt r)) (sym h.0) tt) (below x es h.1)

  -- entries whose keys strictly ascend are in order
  ascending : (es : List (K × V)) → IsStrictlySortedBy R (keys_of es) → IsOrdered R es
  ascending [] h = tt
  ascending (e ∷ es) h = both _ _ (below e.0 es (sorted_head R _ _ h)) (ascending es (sorted_tail R _ _ h))

  above : (x : K) (es : List (K × V)) → T (below_all R x es) → AllByRecursion (λ y. eq_by_cmp R x y ≡ false) (keys_of es)
  above x [] h = tt
  above x (e ∷ es) h = (unequal _ (first _ _ h), above x es (second _ _ h))

  -- keys of entries in order differ
  distinct : (es : List (K × V)) → IsOrdered R es → IsDistinct (eq_by_cmp R) (keys_of es)
  unfolding IsDistinct
  distinct [] h = tt
  distinct (e ∷ es) h = (above e.0 es (first _ _ h), distinct es (second _ _ h))

  module _ (es : List (K × V)) (h : IsOrdered R es) where
    -- a search among entries of es finds nothing, or what one in es finds
    hit : (vs : List (K × V)) → All (Contains es) vs → (q : K) → (find R q vs ≡ None) ⊎ (find R q vs ≡ find R q es)
    hit [] all q = inl refl
    hit (e ∷ vs) all q =
        elim (R q e.0) as (λ c. R q e.0 ≡ c → (cond (is_eq c) (Some e.1) (find R q vs) ≡ None) ⊎ (cond (is_eq c) (Some e.1) (find R q vs) ≡ find R q es)) [
          | Less ↦ λ _. hit vs (All-tail (Contains es) e vs all) q
          | Equal ↦ λ p. inr (sym (lookup-from_Contains (eq_by_cmp_equiv o) e.0 e.1 es (distinct es h) (All-head (Contains es) e vs all)) ∙ lookup_find o (eq_by_cmp R) (λ x y. refl) es e.0 ∙ find_tied R o q e.0 p es)
          | Greater ↦ λ _. hit vs (All-tail (Contains es) e vs all) q
        ] refl

    -- where it finds something exactly where one in es does, it finds the same
    agreed : (vs : List (K × V)) (q : K) → (find R q vs ≡ None) ⊎ (find R q vs ≡ find R q es) → is_some (find R q vs) ≡ is_some (find R q es) → find R q vs ≡ find R q es
    agreed vs q (inl none) same = none ∙ sym (lost (find R q es) (sym same ∙ ap is_some none))
    agreed vs q (inr is) same = is

    module _ (vs : List (K × V)) (moved : IsPermutation vs es) where
      keys : IsPermutation (keys_of es) (keys_of vs)
      keys = IsPermutation-map (λ e. e.0) es vs (IsPermutation-sym vs es moved)

      keys_differ : IsDistinct (eq_by_cmp R) (keys_of vs)
      keys_differ = IsDistinct-IsPermutation (eq_by_cmp R) (λ x y. (eq_by_cmp_equiv o).symm x y) (keys_of es) (keys_of vs) keys (distinct es h)

      -- a search finds the same among the entries in no order
      found : (q : K) → find R q vs ≡ find R q es
      found q =
          agreed vs q (hit vs (All-permutation (Contains es) es vs (IsPermutation-sym vs es moved) (All-contains_itself es)) q)
          (is_some-find R q vs ∙ sym (list_any-IsPermutation (eq_by_cmp R q) (keys_of es) (keys_of vs) keys) ∙ sym (is_some-find R q es))

    -- entries in no order, put in order
    pub in_order-permuted : IsAntisymmetric R → (vs : List (K × V)) → IsPermutation vs es → in_order R vs ≡ es
    in_order-permuted same vs moved = same_entries R o same (in_order R vs) es (ordered-in_order R vs) h (λ q. find-in_order o vs q ∙ found vs moved q)

    -- the list xs shows entries in no order; sorted to ys, it shows them in order
    pub sorted : IsAntisymmetric R → {X : Type 0} (shows : X → K × V) (xs ys : List X) → IsPermutation (map shows xs) es → IsPermutation xs ys → IsSortedByKey (λ x. (shows x).0) R ys → map shows ys ≡ es
    sorted same shows xs ys all moved up =
        let vs = map shows ys in
        let k = keys_shown shows ys in
        let perm : IsPermutation vs es = IsPermutation-trans vs (map shows xs) es (IsPermutation-map shows ys xs (IsPermutation-sym xs ys moved)) all in
        let ordered = ascending vs (subst (IsStrictlySortedBy R) k (strict o (λ x. (shows x).0) ys up (subst (IsDistinct (eq_by_cmp R)) (sym k) (keys_differ vs perm)))) in
        same_entries R o same vs es ordered h (λ q. found vs perm q)
