-- Maps that lists of entries make.
use Rattle.std.proofs.Common.{◌≡◌, Bool, true, false, cond, not, ◌&&◌, map, is_some, Option, None, List, [], ◌∷◌, length, refl, sym, ap, ◌∙◌}
use Rattle.std.specs.declared.cmp.Ordering.{Ordering}
use Rattle.std.specs.declared.cmp.Ordering.TheVariants.{Less, Equal, Greater}
use Rattle.std.specs.Ordering.{is_lt, eq_by_cmp}
use Rattle.std.specs.Cmp.{IsTotalOrder, eq_by_cmp_equiv}
use Rattle.std.specs.FinMap.{FinMap, IsAntisymmetric, empty, get, remove, retain_keys, entries, from_entries, entries-insert, entries_sorted, get-entries, get-from_entries, get-remove, get-retain_keys, same_entries_map, len-empty, len-entries}
use Rattle.std.specs.FinMap.Entries.{find, put, by_order, where_key, below_all, is_sorted, is_sorted-where_key, find-where_key, same_entries}
use Rattle.dk_model.specs.Effects.{same_value, set_in, gone_in, new_in}

first_of_and : (a b : Bool) → (a && b) ≡ true → a ≡ true
first_of_and true b p = refl
first_of_and false b p = p

second_of_and : (a b : Bool) → (a && b) ≡ true → b ≡ true
second_of_and true b p = p
second_of_and false b p = absurd cc

less_from : (o : Ordering) → is_lt o ≡ true → o ≡ Less
less_from Less p = refl
less_from Equal p = absurd cc
less_from Greater p = absurd cc

turned : {A : Type 0} (b : Bool) (o : Option A) → cond b None o ≡ cond (not b) o None
turned true o = refl
turned false o = refl

no_entries : {A : Type 0} (es : List A) → length es ≡ 0 → es ≡ []
no_entries [] e = refl
no_entries (x ∷ es) e = cc

module _ {K X : Type 0} (R : K → K → Ordering) where
  pub entries-empty : entries (empty {X = X} {R = R}) ≡ []
  entries-empty = no_entries _ (sym (len-entries empty) ∙ len-empty R X)

  put_first : (k : K) (v : X) (es : List (K × X)) → below_all R k es ≡ true → put R k v es ≡ (k, v) ∷ es
  put_first k v [] h = refl
  put_first k v (e ∷ es) h = ap (λ o. by_order o ((k, v) ∷ e ∷ es) ((e.0, v) ∷ es) (e ∷ put R k v es)) (less_from (R k e.0) (first_of_and _ _ h))

  -- the entries of a map that a sorted list makes
  pub entries-made : IsTotalOrder R → (es : List (K × X)) → is_sorted R es ≡ true → entries (from_entries {R = R} es) ≡ es
  entries-made total [] s = entries-empty
  entries-made total (e ∷ es) s =
      entries-insert total (from_entries es) e.0 e.1 ∙ ap (put R e.0 e.1) (entries-made total es (second_of_and _ _ s)) ∙ put_first e.0 e.1 es (first_of_and _ _ s)

  -- a map with these entries is the one that they make
  pub same_made : IsTotalOrder R → (m : FinMap R X) (es : List (K × X)) → entries m ≡ es → is_sorted R es ≡ true → m ≡ from_entries es
  same_made total m es e s = same_entries_map _ _ (e ∙ sym (entries-made total es s))

  module _ (total : IsTotalOrder R) (exact : IsAntisymmetric R) where
    pub entries-retained : (m : FinMap R X) (p : K → Bool) → entries (retain_keys m p) ≡ where_key R p (entries m)
    entries-retained m p = same_entries R total exact _ _ (entries_sorted _) (is_sorted-where_key R p (entries m) (entries_sorted m)) (λ q.
        let alike : (x : K) → R q x ≡ Equal → p x ≡ p q = λ x t. ap p (sym (exact q x t)) in
        sym (get-entries _ q) ∙ get-retain_keys m p q alike ∙ ap (λ o. cond (p q) o None) (get-entries m q) ∙ sym (find-where_key R p q alike (entries m)))

    pub entries-removed : (m : FinMap R X) (k : K) → entries (remove m k) ≡ where_key R (λ x. not (eq_by_cmp R k x)) (entries m)
    entries-removed m k =
        let p = λ (x : K). not (eq_by_cmp R k x) in
        same_entries R total exact _ _ (entries_sorted _) (is_sorted-where_key R p (entries m) (entries_sorted m)) (λ q.
        sym (get-entries _ q) ∙ get-remove total m k q ∙ ap (λ b. cond b None (get m q)) ((eq_by_cmp_equiv total).symm q k)
        ∙ turned (eq_by_cmp R k q) (get m q) ∙ ap (λ o. cond (p q) o None) (get-entries m q)
        ∙ sym (find-where_key R p q (λ x t. ap p (sym (exact q x t))) (entries m)))

    pub retained-made : (es : List (K × X)) (p : K → Bool) → is_sorted R es ≡ true → entries (retain_keys (from_entries {R = R} es) p) ≡ where_key R p es
    retained-made es p s = entries-retained (from_entries es) p ∙ ap (where_key R p) (entries-made total es s)

    pub set_in-made : (same : X → X → Bool) (a b : List (K × X)) → is_sorted R b ≡ true
        → set_in same (from_entries {R = R} a) (from_entries {R = R} b) ≡ where_key R (λ k. not (same_value same (find R k a) (find R k b))) b
    unfolding set_in
    set_in-made same a b s = retained-made b _ s
        ∙ (λ i. where_key R (λ k. not (same_value same (get-from_entries total a k i) (get-from_entries total b k i))) b)

    pub gone_in-made : (a b : List (K × X)) → is_sorted R a ≡ true
        → gone_in (from_entries {R = R} a) (from_entries {R = R} b) ≡ map (λ e. e.0) (where_key R (λ k. not (is_some (find R k b))) a)
    unfolding gone_in
    gone_in-made a b s = ap (map (λ e. e.0)) (retained-made a _ s ∙ (λ i. where_key R (λ k. not (is_some (get-from_entries total b k i))) a))

    pub new_in-made : (a b : List (K × X)) → is_sorted R b ≡ true
        → new_in (from_entries {R = R} a) (from_entries {R = R} b) ≡ where_key R (λ k. not (is_some (find R k a))) b
    unfolding new_in
    new_in-made a b s = retained-made b _ s ∙ (λ i. where_key R (λ k. not (is_some (get-from_entries total a k i))) b)

-- what the map that a list makes has at a key
pub made_get : {K X : Type 0} {R : K → K → Ordering} → IsTotalOrder R → (es : List (K × X)) (q : K) → get (from_entries {R = R} es) q ≡ find R q es
made_get total es q = get-from_entries total es q
