-- The orders of ids, keys, numbers and names, and what a map has once one key of it was set.
use Rattle.std.proofs.Common.{◌≡◌, ◌⊎◌, ℕ, cond, Option, Some, None, refl, sym, ap, ◌∙◌, inl, inr, is_eq, nat_cmp}
use Rattle.std.specs.declared.cmp.Ordering.{Ordering}
use Rattle.std.specs.declared.cmp.Ordering.TheVariants.{Less, Equal, Greater}
use Rattle.std.specs.Ordering.{eq_by_cmp}
use Rattle.std.specs.Cmp.{IsTotalOrder, nat_cmp_total, tied_itself}
use Rattle.std.specs.Cmp.Lexicographic.{nat_list_cmp_total}
use Rattle.std.specs.FinMap.{FinMap, IsAntisymmetric, nat_cmp-IsAntisymmetric, slice_cmp-IsAntisymmetric, get, insert, remove, get-insert, get-remove}
use Rattle.std.proofs.lemmas.Cmp.{on_total, then_total}
use Rattle.std.proofs.lemmas.Map.Lookups.{exact_pairs, exact_unsigned}
use Rattle.dk_types.specs.declared.number.RunNo.{RunNo}
use Rattle.dk_types.specs.declared.number.ConnNo.{ConnNo}
use Rattle.dk_types.specs.declared.number.ObjectId.{ObjectId}
use Rattle.dk_types.specs.declared.number.TaskKey.{TaskKey}
use Rattle.dk_types.specs.Names.{bytes_cmp}
use Rattle.dk_model.specs.Keys.{run_cmp, conn_cmp, id_cmp, key_cmp}
use Rattle.dk_model.specs.DurableWorlds.{with_value}

pub runs_total : IsTotalOrder run_cmp
runs_total = on_total (λ (r : RunNo). r.0) nat_cmp_total

pub exact_runs : IsAntisymmetric run_cmp
exact_runs a b h = ap (λ (n : ℕ). record { 0 = n }) (nat_cmp-IsAntisymmetric a.0 b.0 h)

pub conns_total : IsTotalOrder conn_cmp
conns_total = on_total (λ (c : ConnNo). c.0) nat_cmp_total

pub exact_conns : IsAntisymmetric conn_cmp
exact_conns a b h = ap (λ (n : ℕ). record { 0 = n }) (nat_cmp-IsAntisymmetric a.0 b.0 h)

pub ids_total : IsTotalOrder id_cmp
ids_total = then_total (on_total (λ (i : ObjectId). i.run.0) nat_cmp_total) (on_total (λ (i : ObjectId). i.k) nat_cmp_total)

pub exact_ids : IsAntisymmetric id_cmp
exact_ids a b h = ap (λ (p : ℕ × ℕ). record { run = record { 0 = p.0 }; k = p.1 }) (exact_pairs nat_cmp nat_cmp exact_unsigned exact_unsigned (a.run.0, a.k) (b.run.0, b.k) h)

pub keys_total : IsTotalOrder key_cmp
keys_total = then_total (on_total (λ (i : TaskKey). i.run.0) nat_cmp_total) (on_total (λ (i : TaskKey). i.k) nat_cmp_total)

pub exact_keys : IsAntisymmetric key_cmp
exact_keys a b h = ap (λ (p : ℕ × ℕ). record { run = record { 0 = p.0 }; k = p.1 }) (exact_pairs nat_cmp nat_cmp exact_unsigned exact_unsigned (a.run.0, a.k) (b.run.0, b.k) h)

pub names_total : IsTotalOrder bytes_cmp
names_total = nat_list_cmp_total

pub exact_names : IsAntisymmetric bytes_cmp
exact_names = slice_cmp-IsAntisymmetric nat_cmp-IsAntisymmetric

pub some_is : {A : Type 0} (x y : A) → Some x ≡ Some y → x ≡ y
some_is x y e = cc

pub not_both : {A B : Type 0} (o : Option A) (x : A) → o ≡ Some x → o ≡ None → B
not_both o x e f = absurd cc

module _ {K X : Type 0} {R : K → K → Ordering} (total : IsTotalOrder R) where
  get-with_value : (m : FinMap R X) (k : K) (c : Option X) (q : K) → get (with_value m k c) q ≡ cond (eq_by_cmp R q k) c (get m q)
  get-with_value m k None q = get-remove total m k q
  get-with_value m k (Some v) q = get-insert total m k v q

  -- the key has what was set
  pub get-with_value_here : (m : FinMap R X) (k : K) (c : Option X) → get (with_value m k c) k ≡ c
  get-with_value_here m k c = get-with_value m k c k ∙ ap (λ o. cond (is_eq o) c (get m k)) (tied_itself total k)

  module _ (exact : IsAntisymmetric R) where
    -- another key keeps its value
    pub get-with_value_other : (m : FinMap R X) (k : K) (c : Option X) (q : K) → (k ≡ q → ⊥) → get (with_value m k c) q ≡ get m q
    get-with_value_other m k c q apart = get-with_value m k c q
        ∙ elim (R q k) as (λ o. R q k ≡ o → cond (is_eq o) c (get m q) ≡ get m q) [
          | Less ↦ λ _. refl
          | Equal ↦ λ e. absurd (apart (sym (exact q k e)))
          | Greater ↦ λ _. refl
        ] refl

    -- a value is the one that was set, at its key, or it was there
    pub get-with_value_cases : (m : FinMap R X) (k : K) (c : Option X) (q : K) (v : X) → get (with_value m k c) q ≡ Some v → ((q ≡ k) × (c ≡ Some v)) ⊎ (get m q ≡ Some v)
    get-with_value_cases m k c q v e =
        elim (R q k) as (λ o. R q k ≡ o → cond (is_eq o) c (get m q) ≡ Some v → ((q ≡ k) × (c ≡ Some v)) ⊎ (get m q ≡ Some v)) [
          | Less ↦ λ _ f. inr f
          | Equal ↦ λ same f. inl (exact q k same, f)
          | Greater ↦ λ _ f. inr f
        ] refl (sym (get-with_value m k c q) ∙ e)

    -- what was set by insert
    pub get-insert_cases : (m : FinMap R X) (k : K) (c : X) (q : K) (v : X) → get (insert m k c) q ≡ Some v → ((q ≡ k) × (c ≡ v)) ⊎ (get m q ≡ Some v)
    get-insert_cases m k c q v e = elim (get-with_value_cases m k (Some c) q v e) [
      | inl p ↦ inl (p.0, some_is c v p.1)
      | inr f ↦ inr f
    ]

    pub get-insert_other : (m : FinMap R X) (k : K) (c : X) (q : K) → (k ≡ q → ⊥) → get (insert m k c) q ≡ get m q
    get-insert_other m k c q apart = get-with_value_other m k (Some c) q apart

    pub get-remove_cases : (m : FinMap R X) (k : K) (q : K) (v : X) → get (remove m k) q ≡ Some v → get m q ≡ Some v
    get-remove_cases m k q v e = elim (get-with_value_cases m k None q v e) [
      | inl p ↦ absurd cc
      | inr f ↦ f
    ]

    pub get-remove_other : (m : FinMap R X) (k : K) (q : K) → (k ≡ q → ⊥) → get (remove m k) q ≡ get m q
    get-remove_other m k q apart = get-with_value_other m k None q apart

  pub get-insert_here : (m : FinMap R X) (k : K) (v : X) → get (insert m k v) k ≡ Some v
  get-insert_here m k v = get-with_value_here m k (Some v)

  pub get-remove_here : (m : FinMap R X) (k : K) → get (remove m k) k ≡ None
  get-remove_here m k = get-with_value_here m k None
