-- What is found at a number, in entries in order and in a map.
use Rattle.std.proofs.Common.{◌≡◌, refl, sym, ap, ◌∙◌, true, false, cond, List, [], ◌∷◌, Some}
use Rattle.std.specs.List.{AllByRecursion}
use Rattle.std.specs.declared.cmp.Ordering.{Ordering}
use Rattle.std.specs.declared.cmp.Ordering.TheVariants.{Less, Equal, Greater}
use Rattle.std.specs.Ordering.{is_eq, eq_by_cmp}
use Rattle.std.specs.Cmp.{tied_itself}
use Rattle.dk_types.specs.declared.number.ConnNo.{ConnNo}
use Rattle.dk_map.specs.Entries.{find, IsOrdered}
use Rattle.dk_map.proofs.Around.{AllAbove, AtEntry, at_entry, above_tied, find_above}
use Rattle.dk_model.specs.Keys.{conn_cmp}
use Rattle.dk_model.proofs.Maps.{conns_total, exact_conns}

-- a test for `Equal` that holds
pub tied : (c : Ordering) → is_eq c ≡ true → c ≡ Equal
tied Less e = cc
tied Equal e = refl
tied Greater e = cc

-- numbers that pass the test are equal
pub conn_tied : (j k : ConnNo) → eq_by_cmp conn_cmp j k ≡ true → j ≡ k
conn_tied j k e = exact_conns j k (tied _ e)

-- and equal numbers pass it
pub conn_is : (j k : ConnNo) → j ≡ k → eq_by_cmp conn_cmp j k ≡ true
conn_is j k e = ap (λ q. eq_by_cmp conn_cmp j q) (sym e) ∙ ap is_eq (tied_itself conns_total j)

pub conn_itself : (k : ConnNo) → eq_by_cmp conn_cmp k k ≡ true
conn_itself k = conn_is k k refl

module _ {X : Type 0} where
  -- a number that is found among those above another is above it
  pub found_is_above : (x : ConnNo) (es : List (ConnNo × X)) → AllAbove conn_cmp x es → (k : ConnNo) (v : X) → find conn_cmp k es ≡ Some v → conn_cmp x k ≡ Less
  found_is_above x [] a k v f = cc
  found_is_above x (e ∷ es) a k v f =
      elim (eq_by_cmp conn_cmp k e.0) as (λ b. eq_by_cmp conn_cmp k e.0 ≡ b → cond b (Some e.1) (find conn_cmp k es) ≡ Some v → conn_cmp x k ≡ Less) [
        | true ↦ λ t _. ap (conn_cmp x) (conn_tied k e.0 t) ∙ a.0
        | false ↦ λ _ r. found_is_above x es a.1 k v r
      ] refl f

  -- an entry further on in order is found at its number
  found_later : (x : ConnNo × X) (es : List (ConnNo × X)) → IsOrdered conn_cmp (x ∷ es) → (k : ConnNo) (v : X) → find conn_cmp k es ≡ Some v → find conn_cmp k (x ∷ es) ≡ Some v
  found_later x es h k v f =
      let a : AtEntry conn_cmp (x ∷ es) [] x es = at_entry conns_total refl h in
      elim (eq_by_cmp conn_cmp k x.0) as (λ b. eq_by_cmp conn_cmp k x.0 ≡ b → cond b (Some x.1) (find conn_cmp k es) ≡ Some v) [
        | true ↦ λ t. let none = find_above conn_cmp k es (above_tied conns_total k x.0 es (tied _ t) a.above) in cc
        | false ↦ λ _. f
      ] refl

  -- what holds of whatever is found holds of each entry in order
  pub all_of_found : (P : ConnNo × X → Type 0) (es : List (ConnNo × X)) → IsOrdered conn_cmp es → ((k : ConnNo) (v : X) → find conn_cmp k es ≡ Some v → P (k, v)) → AllByRecursion P es
  all_of_found P [] h f = tt
  all_of_found P (x ∷ es) h f =
      let a : AtEntry conn_cmp (x ∷ es) [] x es = at_entry conns_total refl h in
      (f x.0 x.1 (ap (λ c. cond c (Some x.1) (find conn_cmp x.0 es)) (conn_itself x.0)), all_of_found P es a.right (λ k v e. f k v (found_later x es h k v e)))
