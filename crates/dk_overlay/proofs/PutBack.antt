-- A change that is put back leaves the map as it was.
use Rattle.std.proofs.Common.{◌≡◌, true, false, cond, is_some, Bool, Option, Some, None, refl, sym, ap, ◌∙◌, is_eq}
use Rattle.std.specs.declared.cmp.Ordering.{Ordering}
use Rattle.std.specs.declared.cmp.Ordering.TheVariants.{Less, Equal, Greater}
use Rattle.std.specs.Ordering.{eq_by_cmp, ordering_reverse}
use Rattle.std.specs.Cmp.{IsTotalOrder}
use Rattle.std.specs.FinMap as map
use Rattle.std.specs.FinMap.{FinMap, IsAntisymmetric, get-insert, get-remove, same_map}
use Rattle.dk_overlay.specs.Changes.{put_back}

-- a test that is asked twice
twice : {A : Type 0} (b : Bool) (x y z : A) → cond b x (cond b y z) ≡ cond b x z
twice true x y z = refl
twice false x y z = refl

module _ {K V : Type 0} {R : K → K → Ordering} (total : IsTotalOrder R) (same : IsAntisymmetric R) (m : FinMap R V) (k : K) where
  -- what stands at a key, said again there
  said_again : (o : Option V) → map.get m k ≡ o → (q : K) → cond (eq_by_cmp R q k) o (map.get m q) ≡ map.get m q
  said_again o is q = elim (R q k) as (λ c. R q k ≡ c → cond (is_eq c) o (map.get m q) ≡ map.get m q) [
    | Less ↦ λ _. refl
    | Equal ↦ λ e. sym (ap (map.get m) (same q k e) ∙ is)
    | Greater ↦ λ _. refl
  ] refl

  back : (v : V) (o : Option V) → map.get m k ≡ o → put_back (map.insert m k v) k o ≡ m
  back v None is = same_map total same _ _ (λ q.
      get-remove total (map.insert m k v) k q ∙ ap (cond (eq_by_cmp R q k) None) (get-insert total m k v q)
      ∙ twice (eq_by_cmp R q k) None (Some v) (map.get m q) ∙ said_again None is q)
  back v (Some x) is = same_map total same _ _ (λ q.
      get-insert total (map.insert m k v) k x q ∙ ap (cond (eq_by_cmp R q k) (Some x)) (get-insert total m k v q)
      ∙ twice (eq_by_cmp R q k) (Some x) (Some v) (map.get m q) ∙ said_again (Some x) is q)

  -- what stood there is put back
  pub back_again : (v : V) → put_back (map.insert m k v) k (map.get m k) ≡ m
  back_again v = back v (map.get m k) refl

  -- after a change there is one at the key
  pub is_there : (v : V) → is_some (map.get (map.insert m k v) k) ≡ true
  is_there v = ap is_some (get-insert total m k v k) ∙ elim (R k k) as (λ c. R k k ≡ c → is_some (cond (is_eq c) (Some v) (map.get m k)) ≡ true) [
    | Less ↦ λ e. let turned : Less ≡ Greater = sym e ∙ total.antisymm k k ∙ ap ordering_reverse e in cc
    | Equal ↦ λ _. refl
    | Greater ↦ λ e. let turned : Greater ≡ Less = sym e ∙ total.antisymm k k ∙ ap ordering_reverse e in cc
  ] refl
