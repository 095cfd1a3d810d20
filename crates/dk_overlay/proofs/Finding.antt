-- What is found among entries in order after one was put in or taken out.
use Rattle.std.proofs.Common.{◌≡◌, ◌⊎◌, inl, inr, Some, None, cond, List, refl, sym, ap, ◌∙◌}
use Rattle.std.specs.declared.cmp.Ordering.{Ordering}
use Rattle.std.specs.declared.cmp.Ordering.TheVariants.{Less, Equal, Greater}
use Rattle.std.specs.Ordering.{is_eq, eq_by_cmp}
use Rattle.std.specs.Cmp.{IsTotalOrder, tied_itself}
use Rattle.std.specs.FinMap as map
use Rattle.dk_map.specs.Entries.{find, put, without, IsOrdered}
use Rattle.dk_map.specs.AsMap.{map_of}
use Rattle.dk_map.proofs.Counts.{ordered_put, ordered_without}
use Rattle.dk_map.proofs.Maps.{get-map_of, map_of-put, map_of-without}

module _ {K X : Type 0} {R : K → K → Ordering} (total : IsTotalOrder R) (exact : map.IsAntisymmetric R) (es : List (K × X)) (h : IsOrdered R es) (k : K) where
  pub find_put : (n : X) (q : K) → find R q (put R k n es) ≡ cond (eq_by_cmp R q k) (Some n) (find R q es)
  find_put n q =
      sym (get-map_of R (put R k n es) (ordered_put total k es h n) q) ∙ ap (λ m. map.get m q) (map_of-put total es h k n)
      ∙ map.get-insert total (map_of R es) k n q ∙ ap (cond (eq_by_cmp R q k) (Some n)) (get-map_of R es h q)

  pub find_without : (q : K) → find R q (without R k es) ≡ cond (eq_by_cmp R q k) None (find R q es)
  find_without q =
      sym (get-map_of R (without R k es) (ordered_without total k es h) q) ∙ ap (λ m. map.get m q) (map_of-without total es h k exact)
      ∙ map.get-remove total (map_of R es) k q ∙ ap (cond (eq_by_cmp R q k) None) (get-map_of R es h q)

  pub found_here : (n : X) → find R k (put R k n es) ≡ Some n
  found_here n = find_put n k ∙ ap (λ o. cond (is_eq o) (Some n) (find R k es)) (tied_itself total k)

  pub found_others : (n : X) (q : K) → (q ≡ k) ⊎ (find R q (put R k n es) ≡ find R q es)
  found_others n q = elim (R q k) as (λ o. R q k ≡ o → (q ≡ k) ⊎ (find R q (put R k n es) ≡ find R q es)) [
    | Less ↦ λ e. inr (find_put n q ∙ ap (λ o. cond (is_eq o) (Some n) (find R q es)) e)
    | Equal ↦ λ e. inl (exact q k e)
    | Greater ↦ λ e. inr (find_put n q ∙ ap (λ o. cond (is_eq o) (Some n) (find R q es)) e)
  ] refl
