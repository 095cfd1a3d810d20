-- What a map has under changes.
use Rattle.std.proofs.Common.{◌≡◌, cond, Option, Some, None, List, [], ◌∷◌, refl, sym, ap, subst, ◌∙◌}
use Rattle.std.specs.declared.cmp.Ordering.{Ordering}
use Rattle.std.specs.declared.cmp.Ordering.TheVariants.{Less, Equal, Greater}
use Rattle.std.specs.Ordering.{is_eq, eq_by_cmp}
use Rattle.std.specs.Cmp.{IsTotalOrder}
use Rattle.std.specs.FinMap.{FinMap, IsAntisymmetric, find, get, insert, empty, entries, get-entries, get-insert, get-remove, get-empty, same_map}
use Rattle.dk_model.specs.DurableWorlds.{with_value}
use Rattle.dk_txn.specs.Layers.{layered, layered_list, newest}
use Rattle.dk_overlay.proofs.Tests.{Some_injective, none_some}

module _ {K X : Type 0} {R : K → K → Ordering} (total : IsTotalOrder R) where
  pub get-with_value : (m : FinMap R X) (k : K) (c : Option X) (q : K) → get (with_value m k c) q ≡ cond (eq_by_cmp R q k) c (get m q)
  get-with_value m k None q = get-remove total m k q
  get-with_value m k (Some v) q = get-insert total m k v q

module _ {K C X : Type 0} {R : K → K → Ordering} (total : IsTotalOrder R) (exact : IsAntisymmetric R) (f : C → Option X → Option X) where
  -- a change at a key, where q may be that key
  one_newest : (m : FinMap R X) (k q : K) (c : C) (o : Option C)
      → cond (eq_by_cmp R q k) (f c (get m k)) (newest f o (get m q)) ≡ newest f (cond (eq_by_cmp R q k) (Some c) o) (get m q)
  one_newest m k q c o =
      elim (R q k) as (λ r. R q k ≡ r → cond (is_eq r) (f c (get m k)) (newest f o (get m q)) ≡ newest f (cond (is_eq r) (Some c) o) (get m q)) [
        | Less ↦ λ _. refl
        | Equal ↦ λ e. ap (λ x. f c (get m x)) (sym (exact q k e))
        | Greater ↦ λ _. refl
      ] refl

  get-layered_list : (es : List (K × C)) (m : FinMap R X) (q : K) → get (layered_list f es m) q ≡ newest f (find R q es) (get m q)
  get-layered_list [] m q = refl
  get-layered_list (e ∷ es) m q =
      get-with_value total (layered_list f es m) e.0 (f e.1 (get m e.0)) q
      ∙ ap (cond (eq_by_cmp R q e.0) (f e.1 (get m e.0))) (get-layered_list es m q)
      ∙ one_newest m e.0 q e.1 (find R q es)

  -- under changes a map has the newest
  pub get-layered : (changes : FinMap R C) (m : FinMap R X) (q : K) → get (layered f changes m) q ≡ newest f (get changes q) (get m q)
  unfolding layered
  get-layered changes m q = get-layered_list (entries changes) m q ∙ ap (λ o. newest f o (get m q)) (sym (get-entries changes q))

  -- one change more is made last
  pub layered-insert : (changes : FinMap R C) (m : FinMap R X) (k : K) (c : C) → layered f (insert changes k c) m ≡ with_value (layered f changes m) k (f c (get m k))
  layered-insert changes m k c = same_map total exact _ _ (λ q.
      get-layered (insert changes k c) m q
      ∙ ap (λ o. newest f o (get m q)) (get-insert total changes k c q)
      ∙ sym (one_newest m k q c (get changes q))
      ∙ sym (get-with_value total (layered f changes m) k (f c (get m k)) q ∙ ap (cond (eq_by_cmp R q k) (f c (get m k))) (get-layered changes m q)))

  pub layered-empty : (m : FinMap R X) → layered f empty m ≡ m
  layered-empty m = same_map total exact _ _ (λ q. get-layered empty m q ∙ ap (λ o. newest f o (get m q)) (get-empty R q))

-- what is found at a key that was changed
pub at_changed : {K X : Type 0} {R : K → K → Ordering} (total : IsTotalOrder R) (exact : IsAntisymmetric R) (m : FinMap R X) (k : K) (v : X) (P : K → X → Type 0) → P k v
    → ((q : K) (c : X) → get m q ≡ Some c → P q c) → (q : K) (c : X) → get (insert m k v) q ≡ Some c → P q c
at_changed {R = R} total exact m k v P here others q c h =
    elim (R q k) as (λ r. R q k ≡ r → cond (is_eq r) (Some v) (get m q) ≡ Some c → P q c) [
      | Less ↦ λ _ e. others q c e
      | Equal ↦ λ t e. subst (λ x. P x c) (sym (exact q k t)) (subst (P k) (Some_injective v c e) here)
      | Greater ↦ λ _ e. others q c e
    ] refl (sym (get-insert total m k v q) ∙ h)

-- nothing is found in no changes
pub at_empty : {K X : Type 0} (R : K → K → Ordering) (P : K → X → Type 0) (q : K) (c : X) → get (empty {R = R}) q ≡ Some c → P q c
at_empty R P q c h = none_some c (sym (get-empty R q) ∙ h)
