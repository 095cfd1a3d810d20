-- Lists that ascend by the grammar are in order.
use Rattle.std.proofs.Common.{◌≡◌, T, Bool, true, false, ◌&&◌, map, Option, Some, List, [], ◌∷◌, refl, sym, ap, subst, ◌∙◌}
use Rattle.std.specs.declared.cmp.Ordering.{Ordering}
use Rattle.std.specs.declared.cmp.Ordering.TheVariants.{Less, Equal, Greater}
use Rattle.std.specs.Ordering.{is_lt}
use Rattle.std.specs.Cmp.{IsTotalOrder}
use Rattle.std.specs.FinMap.Entries.{below_all}
use Rattle.dk_types.specs.Lists.{AreChained, IsList}
use Rattle.dk_map.specs.Entries.{IsOrdered}
use Rattle.dk_model.specs.Entries.{is_above_last}
use Rattle.dk_recover.proofs.Found.{right_of_and, left_of_and}

lt_is : (c : Ordering) → is_lt c ≡ true → c ≡ Less
lt_is Less e = refl
lt_is Equal e = absurd cc
lt_is Greater e = absurd cc

T_less : (c : Ordering) → c ≡ Less → T (is_lt c)
T_less c e = subst (λ (o : Ordering). T (is_lt o)) (sym e) tt

less_T : (c : Ordering) → T (is_lt c) → c ≡ Less
less_T Less p = refl
less_T Equal p = absurd p
less_T Greater p = absurd p

both_T : (a b : Bool) → T a → T b → T (a && b)
both_T true b p q = q
both_T false b p q = p

module _ {A K X : Type 0} (R : K → K → Ordering) (o : IsTotalOrder R) (key : A → K) (entry : A → K × X) (by_key : (x : A) → (entry x).0 ≡ key x) (Fits : Option A → A → Type 0) (above : (before : Option A) (x : A) → Fits before x → is_above_last R key before (key x) ≡ true) where
  below_more : (j k : K) (es : List (K × X)) → R j k ≡ Less → T (below_all R k es) → T (below_all R j es)
  below_more j k [] less below = tt
  below_more j k (e ∷ es) less below = both_T _ _ (T_less _ (o.trans j k e.0 less (less_T _ (left_of_and _ _ below)))) (below_more j k es less (right_of_and _ _ below))

  -- all are above the one before them, and in order
  chained : (b : A) (xs : List A) → AreChained Fits (Some b) xs → T (below_all R (key b) (map entry xs)) × IsOrdered R (map entry xs)
  chained b [] are = (tt, tt)
  chained b (x ∷ xs) are =
      let rest = chained x xs are.1 in
      let less : R (key b) (key x) ≡ Less = lt_is _ (above (Some b) x are.0) in (
        both_T _ _ (T_less _ (ap (R (key b)) (by_key x) ∙ less)) (below_more (key b) (key x) (map entry xs) less rest.0),
        both_T _ _ (subst (λ (k : K). T (below_all R k (map entry xs))) (sym (by_key x)) rest.0) rest.1,
      )

  pub in_order : (xs : List A) → IsList Fits xs → IsOrdered R (map entry xs)
  in_order [] is = tt
  in_order (x ∷ xs) is =
      let rest = chained x xs is.each.1 in
      both_T _ _ (subst (λ (k : K). T (below_all R k (map entry xs))) (sym (by_key x)) rest.0) rest.1
