-- Entries in the order of their keys, one by one, and what is found at a key.
use Rattle.std.proofs.Common.{◌≡◌, refl, sym, ap, subst, ◌∙◌, Bool, true, false, cond, not, List, [], ◌∷◌, None, Some}
use Rattle.std.specs.List.{AllByRecursion, filter}
use Rattle.std.specs.declared.cmp.Ordering.{Ordering}
use Rattle.std.specs.declared.cmp.Ordering.TheVariants.{Less, Equal, Greater}
use Rattle.std.specs.Ordering.{is_eq, eq_by_cmp}
use Rattle.std.specs.Cmp.{IsTotalOrder, tied_itself, alike_right, eq_by_cmp_equiv}
use Rattle.std.specs.FinMap.{IsAntisymmetric}
use Rattle.std.specs.FinMap.Entries.{by_order, find-where_key}
use Rattle.dk_map.specs.Entries.{find, put, without, IsOrdered}
use Rattle.dk_map.proofs.Around.{AtEntry, at_entry, above_tied, find_above}

-- keys that the test finds equal tie
pub tied : (c : Ordering) → is_eq c ≡ true → c ≡ Equal
tied Less e = cc
tied Equal e = refl
tied Greater e = cc

turned : {A : Type 0} (b : Bool) (x y : A) → cond (not b) x y ≡ cond b y x
turned true x y = refl
turned false x y = refl

-- what holds of all elements holds of those that pass a test
pub All-filter : {X : Type 0} (P : X → Type 0) (test : X → Bool) (xs : List X) → AllByRecursion P xs → AllByRecursion P (filter test xs)
All-filter P test [] a = tt
All-filter P test (x ∷ xs) a =
    let rest = All-filter P test xs a.1 in
    elim (test x) as (λ b. AllByRecursion P (cond b (x ∷ filter test xs) (filter test xs))) [ true ↦ (a.0, rest) | false ↦ rest ]

-- of two values put at a key the second stays
pub put_again : {K X : Type 0} {R : K → K → Ordering} → IsTotalOrder R → (k : K) (x y : X) (es : List (K × X)) → put R k x (put R k y es) ≡ put R k x es
put_again o k x y [] = ap (λ c. by_order c ((k, x) ∷ (k, y) ∷ []) ((k, x) ∷ []) ((k, y) ∷ (k, x) ∷ [])) (tied_itself o k)
put_again {R = R} o k x y (e ∷ es) =
    elim (R k e.0) as (λ c. R k e.0 ≡ c → put R k x (by_order c ((k, y) ∷ e ∷ es) ((e.0, y) ∷ es) (e ∷ put R k y es)) ≡ by_order c ((k, x) ∷ e ∷ es) ((e.0, x) ∷ es) (e ∷ put R k x es)) [
      | Less ↦ λ _. ap (λ c. by_order c ((k, x) ∷ (k, y) ∷ e ∷ es) ((k, x) ∷ e ∷ es) ((k, y) ∷ put R k x (e ∷ es))) (tied_itself o k)
      | Equal ↦ λ t. ap (λ c. by_order c ((k, x) ∷ (e.0, y) ∷ es) ((e.0, x) ∷ es) ((e.0, y) ∷ put R k x es)) t
      | Greater ↦ λ t. ap (λ c. by_order c ((k, x) ∷ e ∷ put R k y es) ((e.0, x) ∷ put R k y es) (e ∷ put R k x (put R k y es))) t ∙ ap (λ r. e ∷ r) (put_again o k x y es)
    ] refl

module _ {K X : Type 0} {R : K → K → Ordering} (o : IsTotalOrder R) where
  -- a search without a key
  pub find-without : (k q : K) (es : List (K × X)) → find R q (without R k es) ≡ cond (eq_by_cmp R q k) None (find R q es)
  find-without k q es =
      find-where_key R (λ x. not (eq_by_cmp R k x)) q (λ x t. ap (λ r. not (is_eq r)) (sym (alike_right o q x k t))) es
      ∙ turned (eq_by_cmp R k q) _ _ ∙ ap (λ b. cond b None (find R q es)) ((eq_by_cmp_equiv o).symm k q)

  -- an entry further on in order is found at its key
  found_later : (x : K × X) (es : List (K × X)) → IsOrdered R (x ∷ es) → (k : K) (v : X) → find R k es ≡ Some v → find R k (x ∷ es) ≡ Some v
  found_later x es h k v f =
      let a : AtEntry R (x ∷ es) [] x es = at_entry o refl h in
      elim (eq_by_cmp R k x.0) as (λ b. eq_by_cmp R k x.0 ≡ b → cond b (Some x.1) (find R k es) ≡ Some v) [
        | true ↦ λ t. let none = find_above R k es (above_tied o k x.0 es (tied _ t) a.above) in cc
        | false ↦ λ _. f
      ] refl

  -- what holds of whatever is found holds of each entry in order
  pub all_of_found : (P : K × X → Type 0) (es : List (K × X)) → IsOrdered R es → ((k : K) (v : X) → find R k es ≡ Some v → P (k, v)) → AllByRecursion P es
  all_of_found P [] h f = tt
  all_of_found P (x ∷ es) h f =
      let a : AtEntry R (x ∷ es) [] x es = at_entry o refl h in
      (f x.0 x.1 (ap (λ c. cond (is_eq c) (Some x.1) (find R x.0 es)) (tied_itself o x.0)), all_of_found P es a.right (λ k v e. f k v (found_later x es h k v e)))

module _ {K X : Type 0} {R : K → K → Ordering} (same : IsAntisymmetric R) where
  -- what holds of each entry holds of what is found
  pub found_of_all : (P : K × X → Type 0) (es : List (K × X)) → AllByRecursion P es → (k : K) (v : X) → find R k es ≡ Some v → P (k, v)
  found_of_all P [] a k v f = cc
  found_of_all P (x ∷ es) a k v f =
      elim (eq_by_cmp R k x.0) as (λ b. eq_by_cmp R k x.0 ≡ b → cond b (Some x.1) (find R k es) ≡ Some v → P (k, v)) [
        | true ↦ λ t e.
            let key : k ≡ x.0 = same k x.0 (tied _ t) in
            let value : x.1 ≡ v = cc in
            subst (λ w. P (k, w)) value (subst (λ q. P (q, x.1)) (sym key) a.0)
        | false ↦ λ _ e. found_of_all P es a.1 k v e
      ] refl f

  -- what holds of each entry and of a new one holds of each once it is put
  pub All-put : (P : K × X → Type 0) (k : K) (v : X) (es : List (K × X)) → P (k, v) → AllByRecursion P es → AllByRecursion P (put R k v es)
  All-put P k v [] p a = (p, tt)
  All-put P k v (x ∷ es) p a =
      elim (R k x.0) as (λ c. R k x.0 ≡ c → AllByRecursion P (by_order c ((k, v) ∷ x ∷ es) ((x.0, v) ∷ es) (x ∷ put R k v es))) [
        | Less ↦ λ _. (p, a)
        | Equal ↦ λ t. (subst (λ q. P (q, v)) (same k x.0 t) p, a.1)
        | Greater ↦ λ _. (a.0, All-put P k v es p a.1)
      ] refl
