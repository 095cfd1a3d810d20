-- What a hash table tells of its entries, said of the same entries in order. `o` is the order of the keys, `same` says that only
-- equal keys tie, and `by` that `==` answers by the order.
use Rattle.std.proofs.Common.{◌≡◌, refl, sym, ap, ◌∙◌, Bool, cond, false, List, [], ◌∷◌, length, Option, None, Some, is_some, ◌+◌, arith}
use Rattle.std.specs.declared.cmp.Ordering.{Ordering}
use Rattle.std.specs.Ordering.{eq_by_cmp}
use Rattle.std.specs.Cmp.{IsTotalOrder, eq_by_cmp_equiv}
use Rattle.std.specs.Map.{lookup, keys_of}
use Rattle.std.specs.List.{AllByRecursion, IsDistinct}
use Rattle.std.specs.FinMap as map
use Rattle.std.specs.FinMap.{IsAntisymmetric, from_entries, entries-insert, entries_sorted, get-entries, get-insert, get-from_entries, same_map, len-insert, len-entries, len-empty}
use Rattle.std.specs.FinMap.Entries.{same_entries}
use Rattle.dk_map.specs.Entries.{find, put, without, IsOrdered}
use Rattle.dk_hashed.specs.InOrder.{in_order}
use Rattle.dk_map.proofs.Counts.{ordered_without}
use Rattle.dk_map.proofs.Maps.{find-without}

-- a list of no length
nothing : {A : Type 0} (es : List A) → length es ≡ 0 → es ≡ []
nothing [] h = refl
nothing (e ∷ es) h = absurd (omega arith)

-- the test at a key, turned round
turned : {K : Type 0} {R : K → K → Ordering} → IsTotalOrder R → (eq : K → K → Bool) → ((x y : K) → eq x y ≡ eq_by_cmp R x y) → (k q : K) → eq k q ≡ eq_by_cmp R q k
turned o eq by k q = by k q ∙ (eq_by_cmp_equiv o).symm k q

module _ {K V : Type 0} (R : K → K → Ordering) where
  -- they are in order
  pub ordered-in_order : (es : List (K × V)) → IsOrdered R (in_order R es)
  ordered-in_order es = entries_sorted (from_entries es)

  -- where there are none there are none in order
  pub in_order-empty : (es : List (K × V)) → es ≡ [] → in_order R es ≡ []
  in_order-empty es h = ap (in_order R) h ∙ nothing (in_order R []) (sym (len-entries map.empty) ∙ len-empty R V)

module _ {K V : Type 0} {R : K → K → Ordering} (o : IsTotalOrder R) where
  -- a search finds what it finds in the table
  pub find-in_order : (es : List (K × V)) (q : K) → find R q (in_order R es) ≡ find R q es
  find-in_order es q = sym (get-entries (from_entries es) q) ∙ get-from_entries o es q

  module _ (eq : K → K → Bool) (by : (x y : K) → eq x y ≡ eq_by_cmp R x y) where
    -- a lookup by `==` is a search
    pub lookup_find : (es : List (K × V)) (q : K) → lookup (eq q) es ≡ find R q es
    lookup_find [] q = refl
    lookup_find (e ∷ es) q = λ i. cond (by q e.0 i) (Some e.1) (lookup_find es q i)

    -- the same among the entries in order
    pub lookup_in_order : (es : List (K × V)) (q : K) → lookup (eq q) es ≡ find R q (in_order R es)
    lookup_in_order es q = lookup_find es q ∙ sym (find-in_order es q)

    -- tables that find the same have the same entries in order
    pub same_in_order : IsAntisymmetric R → (es fs : List (K × V)) → ((q : K) → lookup (eq q) fs ≡ lookup (eq q) es) → in_order R fs ≡ in_order R es
    same_in_order same es fs h =
        ap map.entries (same_map o same (from_entries fs) (from_entries es) (λ q. get-from_entries o fs q ∙ sym (lookup_find fs q) ∙ h q ∙ lookup_find es q ∙ sym (get-from_entries o es q)))

    -- what differs at one key alone, where it has a value, is put there
    pub updated_put : IsAntisymmetric R → (es fs : List (K × V)) (k : K) (v : V) → ((q : K) → lookup (eq q) fs ≡ cond (eq k q) (Some v) (lookup (eq q) es)) → in_order R fs ≡ put R k v (in_order R es)
    updated_put same es fs k v h =
        ap map.entries
        (same_map o same (from_entries fs) (map.insert (from_entries es) k v) (λ q. get-from_entries o fs q ∙ sym (lookup_find fs q) ∙ h q ∙ (λ i. cond (turned o eq by k q i) (Some v) ((lookup_find es q ∙ sym (get-from_entries o es q)) i))
        ∙ sym (get-insert o (from_entries es) k v q)))
        ∙ entries-insert o (from_entries es) k v

    -- what differs at one key alone, where it has none, is without it
    pub updated_without : IsAntisymmetric R → (es fs : List (K × V)) (k : K) → ((q : K) → lookup (eq q) fs ≡ cond (eq k q) None (lookup (eq q) es)) → in_order R fs ≡ without R k (in_order R es)
    updated_without same es fs k h =
        same_entries R o same _ _ (ordered-in_order R fs) (ordered_without o k (in_order R es) (ordered-in_order R es))
        (λ q. find-in_order fs q ∙ sym (lookup_find fs q) ∙ h q ∙ (λ i. cond (turned o eq by k q i) None (lookup_in_order es q i)) ∙ sym (find-without o (in_order R es) (ordered-in_order R es) k q))

    -- a key that is equal to none is not found
    pub apart : (k : K) (es : List (K × V)) → AllByRecursion (λ y. eq k y ≡ false) (keys_of es) → find R k es ≡ None
    apart k [] h = refl
    apart k (e ∷ es) h = (λ i. cond ((sym (by k e.0) ∙ h.0) i) (Some e.1) (find R k es)) ∙ apart k es h.1

    -- where no two keys are equal there are as many
    pub length-in_order : (es : List (K × V)) → IsDistinct eq (keys_of es) → length (in_order R es) ≡ length es
    unfolding IsDistinct
    length-in_order [] h = sym (len-entries map.empty) ∙ len-empty R V
    length-in_order (e ∷ es) h =
        let m = from_entries {R = R} es in
        let rest : map.len m ≡ length es = len-entries m ∙ length-in_order es h.1 in
        let one : map.len m + 1 ≡ length (e ∷ es) = omega (arith, rest) in
        sym (len-entries (map.insert m e.0 e.1)) ∙ len-insert o m e.0 e.1
        ∙ ap (λ (r : Option V). cond (is_some r) (map.len m) (map.len m + 1)) (get-from_entries o es e.0 ∙ apart e.0 es h.0) ∙ one
