-- What `next_after` finds: the least key above another, or the least of all.
use Rattle.std.proofs.Common.{◌≡◌, refl, sym, ap, subst, ◌∙◌, true, false, cond, List, [], ◌∷◌, Option, None, Some, IsSome}
use Rattle.std.specs.Prelude.{T}
use Rattle.std.specs.declared.cmp.Ordering.{Ordering}
use Rattle.std.specs.declared.cmp.Ordering.TheVariants.{Less, Equal, Greater}
use Rattle.std.specs.Ordering.{is_lt, is_eq, eq_by_cmp, ordering_reverse}
use Rattle.std.specs.Cmp.{IsTotalOrder, tied_itself, alike_right}
use Rattle.dk_map.specs.Entries.{find, first_above, entry_after, IsOrdered}
use Rattle.dk_map.specs.AsMap.{map_of, IsNext}
use Rattle.dk_map.proofs.Around.{AllAbove, AtEntry, at_entry}
use Rattle.dk_map.proofs.Maps.{get-map_of}

-- a test for `Less` that holds
less : (c : Ordering) → is_lt c ≡ true → c ≡ Less
less Less e = refl
less Equal e = cc
less Greater e = cc

-- a test for `Equal` that holds
equal : (c : Ordering) → is_eq c ≡ true → c ≡ Equal
equal Less e = cc
equal Equal e = refl
equal Greater e = cc

-- `Less` is no key's order to a key that was tested not to be above
not_less : {A : Type 0} (c : Ordering) → c ≡ Less → is_lt c ≡ false → A
not_less c p e = absurd (subst T (sym (ap is_lt p) ∙ e) tt)

-- a key above q ties with no key that is not
not_tied : {K : Type 0} {R : K → K → Ordering} (o : IsTotalOrder R) (q k x : K) → R q k ≡ Less → is_lt (R q x) ≡ false → eq_by_cmp R k x ≡ false
not_tied {R = R} o q k x p t =
    elim (eq_by_cmp R k x) as (λ b. eq_by_cmp R k x ≡ b → b ≡ false) [
      | true ↦ λ u. not_less (R q x) (sym (alike_right o k x q (equal _ u)) ∙ p) t
      | false ↦ λ _. refl
    ] refl

module _ {K V : Type 0} {R : K → K → Ordering} (o : IsTotalOrder R) where
  -- a key that is found among keys above x is above x
  found_above : (x k : K) (es : List (K × V)) → AllAbove R x es → IsSome (find R k es) → R x k ≡ Less
  found_above x k [] a s = cc
  found_above x k (e ∷ es) a s =
      elim (eq_by_cmp R k e.0) as (λ b. eq_by_cmp R k e.0 ≡ b → IsSome (cond b (Some e.1) (find R k es)) → R x k ≡ Less) [
        | true ↦ λ t _. alike_right o k e.0 x (equal _ t) ∙ a.0
        | false ↦ λ _ r. found_above x k es a.1 r
      ] refl s

  -- the first of entries in order is found, and no key that is found is below it
  first_is : (e : K × V) (es : List (K × V)) → AllAbove R e.0 es → (find R e.0 (e ∷ es) ≡ Some e.1) × ((k : K) → IsSome (find R k (e ∷ es)) → is_lt (R k e.0) ≡ false)
  first_is e es a = (
    ap (λ c. cond (is_eq c) (Some e.1) (find R e.0 es)) (tied_itself o e.0),
    λ k s. elim (eq_by_cmp R k e.0) as (λ b. eq_by_cmp R k e.0 ≡ b → IsSome (cond b (Some e.1) (find R k es)) → is_lt (R k e.0) ≡ false) [
      | true ↦ λ t _. ap is_lt (equal _ t)
      | false ↦ λ _ r. ap is_lt (o.antisymm k e.0 ∙ ap ordering_reverse (found_above e.0 k es a r))
    ] refl s,
  )

  -- where no entry is above q, no key above q is found
  none_above : (q k : K) (es : List (K × V)) → first_above R q es ≡ None → R q k ≡ Less → find R k es ≡ None
  none_above q k [] e p = refl
  none_above q k (x ∷ es) e p =
      elim (is_lt (R q x.0)) as (λ b. is_lt (R q x.0) ≡ b → cond b (Some x) (first_above R q es) ≡ None → find R k (x ∷ es) ≡ None) [
        | true ↦ λ _ r. cc
        | false ↦ λ t r. elim (eq_by_cmp R k x.0) as (λ b. eq_by_cmp R k x.0 ≡ b → cond b (Some x.1) (find R k es) ≡ None) [
          | true ↦ λ u. not_less (R q x.0) (sym (alike_right o k x.0 q (equal _ u)) ∙ p) t
          | false ↦ λ _. none_above q k es r p
        ] refl
      ] refl e

  -- the first entry above q is found, and no key above q that is found is below it
  next_above : (q : K) (es : List (K × V)) (e : K × V) → IsOrdered R es → first_above R q es ≡ Some e
      → (find R e.0 es ≡ Some e.1) × (R q e.0 ≡ Less) × ((k : K) → R q k ≡ Less → IsSome (find R k es) → is_lt (R k e.0) ≡ false)
  next_above q [] e h i = cc
  next_above q (x ∷ es) e h i =
      let a : AtEntry R (x ∷ es) [] x es = at_entry o refl h in
      elim (is_lt (R q x.0)) as (λ b. is_lt (R q x.0) ≡ b → cond b (Some x) (first_above R q es) ≡ Some e
      → (find R e.0 (x ∷ es) ≡ Some e.1) × (R q e.0 ≡ Less) × ((k : K) → R q k ≡ Less → IsSome (find R k (x ∷ es)) → is_lt (R k e.0) ≡ false)) [
        | true ↦ λ t r.
            let same : x ≡ e = cc in
            let f = first_is x es a.above in
            subst (λ y. (find R y.0 (x ∷ es) ≡ Some y.1) × (R q y.0 ≡ Less) × ((k : K) → R q k ≡ Less → IsSome (find R k (x ∷ es)) → is_lt (R k y.0) ≡ false)) same (f.0, less _ t, λ k p s. f.1 k s)
        | false ↦ λ t r.
            let rest = next_above q es e a.right r in
            let apart : (k : K) → R q k ≡ Less → eq_by_cmp R k x.0 ≡ false = λ k p. not_tied o q k x.0 p t in (
              ap (λ b. cond b (Some x.1) (find R e.0 es)) (apart e.0 rest.1) ∙ rest.0,
              rest.1,
              λ k p s. rest.2 k p (subst (λ b. IsSome (cond b (Some x.1) (find R k es))) (apart k p) s),
            )
      ] refl i

-- the same by the key that is given and by what is found
next_cases : {K V : Type 0} {R : K → K → Ordering} (o : IsTotalOrder R) (es : List (K × V)) (h : IsOrdered R es) (after : Option K) (r : Option (K × V)) → entry_after R after es ≡ r → IsNext (map_of R es) after r
next_cases {R = R} o [] h None None i = λ k _. get-map_of R [] h k
next_cases o [] h None (Some e) i = cc
next_cases o (x ∷ es) h None None i = cc
next_cases {R = R} o (x ∷ es) h None (Some e) i =
    let a : AtEntry R (x ∷ es) [] x es = at_entry o refl h in
    let same : x ≡ e = cc in
    let f = first_is o x es a.above in
    subst (λ y. IsNext (map_of R (x ∷ es)) None (Some y)) same
    (get-map_of R (x ∷ es) h x.0 ∙ f.0, tt, λ k _ s. f.1 k (subst IsSome (get-map_of R (x ∷ es) h k) s))
next_cases {R = R} o es h (Some q) None i = λ k p. get-map_of R es h k ∙ none_above o q k es i p
next_cases {R = R} o es h (Some q) (Some e) i =
    let f = next_above o q es e h i in
    (get-map_of R es h e.0 ∙ f.0, f.1, λ k p s. f.2 k p (subst IsSome (get-map_of R es h k) s))

-- what `next_after` answers is the next entry of the map
pub next-map_of : {K V : Type 0} {R : K → K → Ordering} (o : IsTotalOrder R) (es : List (K × V)) (h : IsOrdered R es) (after : Option K) → IsNext (map_of R es) after (entry_after R after es)
next-map_of {R = R} o es h after = next_cases o es h after (entry_after R after es) refl
