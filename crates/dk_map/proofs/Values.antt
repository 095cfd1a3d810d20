-- What the calls of a finite map do to the same map with its values changed.
use Rattle.std.proofs.Common.{◌≡◌, refl, sym, ap, subst, ◌∙◌, Bool, true, false, cond, ◌&&◌, List, [], ◌∷◌, Option, None, Some}
use Rattle.std.specs.Prelude.{T}
use Rattle.std.specs.declared.cmp.Ordering.{Ordering}
use Rattle.std.specs.Ordering.{is_lt, eq_by_cmp}
use Rattle.std.specs.Cmp.{IsTotalOrder}
use Rattle.std.specs.Option.{option_map}
use Rattle.std.specs.FinMap as map
use Rattle.std.specs.FinMap.{FinMap, IsAntisymmetric, entries_sorted, get-entries, get-empty, get-insert, get-remove, same_map}
use Rattle.std.specs.FinMap.Entries.{below_all, is_sorted}
use Rattle.dk_map.specs.Entries.{find, IsOrdered}
use Rattle.dk_map.specs.Values.{entries_with, values_with}
use Rattle.dk_map.proofs.Maps.{get-map_of, entries-map_of}

module _ {K V W : Type 0} (R : K → K → Ordering) (f : V → W) where
  -- the keys are the same, so a key that is below them all still is
  below_with : (k : K) (es : List (K × V)) → below_all R k (entries_with f es) ≡ below_all R k es
  below_with k [] = refl
  below_with k (e ∷ es) = ap (λ b. is_lt (R k e.0) && b) (below_with k es)

  sorted_with : (es : List (K × V)) → is_sorted R (entries_with f es) ≡ is_sorted R es
  sorted_with [] = refl
  sorted_with (e ∷ es) = ap (λ b. b && is_sorted R (entries_with f es)) (below_with e.0 es) ∙ ap (λ b. below_all R e.0 es && b) (sorted_with es)

  pub ordered_with : (es : List (K × V)) → IsOrdered R es → IsOrdered R (entries_with f es)
  ordered_with es h = subst T (sym (sorted_with es)) h

  found_with : (b : Bool) (v : V) (r : Option V) → option_map f (cond b (Some v) r) ≡ cond b (Some (f v)) (option_map f r)
  found_with true v r = refl
  found_with false v r = refl

  left_with : (b : Bool) (r : Option V) → option_map f (cond b None r) ≡ cond b None (option_map f r)
  left_with true r = refl
  left_with false r = refl

  pub find_with : (q : K) (es : List (K × V)) → find R q (entries_with f es) ≡ option_map f (find R q es)
  find_with q [] = refl
  find_with q (e ∷ es) = ap (cond (eq_by_cmp R q e.0) (Some (f e.1))) (find_with q es) ∙ sym (found_with (eq_by_cmp R q e.0) e.1 (find R q es))

module _ {K V W : Type 0} {R : K → K → Ordering} (f : V → W) where
  -- the entries of the changed map are the changed entries
  pub entries_values : (m : FinMap R V) → map.entries (values_with f m) ≡ entries_with f (map.entries m)
  unfolding values_with
  entries_values m = entries-map_of R _ (ordered_with R f (map.entries m) (entries_sorted m))

  -- at each key it has the changed value
  pub get_values : (m : FinMap R V) (q : K) → map.get (values_with f m) q ≡ option_map f (map.get m q)
  unfolding values_with
  get_values m q =
      get-map_of R _ (ordered_with R f (map.entries m) (entries_sorted m)) q ∙ find_with R f q (map.entries m) ∙ ap (option_map f) (sym (get-entries m q))

  module _ (o : IsTotalOrder R) (same : IsAntisymmetric R) where
    pub values-empty : values_with f (map.empty {X = V} {R = R}) ≡ map.empty
    values-empty = same_map o same _ _ (λ q. get_values map.empty q ∙ ap (option_map f) (get-empty R q) ∙ sym (get-empty R q))

    -- to put a value is to put the changed value
    pub values-insert : (m : FinMap R V) (k : K) (v : V) → values_with f (map.insert m k v) ≡ map.insert (values_with f m) k (f v)
    values-insert m k v =
        same_map o same _ _ (λ q. get_values (map.insert m k v) q ∙ ap (option_map f) (get-insert o m k v q) ∙ found_with R f (eq_by_cmp R q k) v (map.get m q)
        ∙ sym (get-insert o (values_with f m) k (f v) q ∙ ap (cond (eq_by_cmp R q k) (Some (f v))) (get_values m q)))

    -- to remove a key is to remove it
    pub values-remove : (m : FinMap R V) (k : K) → values_with f (map.remove m k) ≡ map.remove (values_with f m) k
    values-remove m k =
        same_map o same _ _ (λ q. get_values (map.remove m k) q ∙ ap (option_map f) (get-remove o m k q) ∙ left_with R f (eq_by_cmp R q k) (map.get m q)
        ∙ sym (get-remove o (values_with f m) k q ∙ ap (cond (eq_by_cmp R q k) None) (get_values m q)))
