-- The net effects between valid worlds have a spelling.
use Rattle.std.proofs.Common.{◌≡◌, ℕ, ◌+◌, ◌<◌, ◌≤◌, ◌^◌, T, Bool, true, false, cond, ◌&&◌, map, Option, Some, None, List, [], ◌∷◌, length, refl, sym, ap, subst, ◌∙◌, arith}
use Rattle.std.proofs.lemmas.List.{map-id}
use Rattle.std.proofs.lemmas.List.Sums.{sum_by-append}
use Rattle.std.proofs.lemmas.Bool.{le-leb}
use Rattle.std.specs.List.{AllByRecursion, sum_by}
use Rattle.std.specs.Ordering.{is_lt}
use Rattle.std.specs.declared.cmp.Ordering.{Ordering}
use Rattle.std.specs.Cmp.{IsTotalOrder}
use Rattle.std.specs.FinMap.{FinMap, IsAntisymmetric, get, entries_sorted, is_sorted, retain_keys, get-retain_keys}
use Rattle.std.specs.FinMap.Entries.{below_all}
use Rattle.dk_types.specs.declared.number.ObjectId.{ObjectId}
use Rattle.dk_types.specs.declared.number.TaskKey.{TaskKey}
use Rattle.dk_types.specs.declared.durable.Effects.{Effects}
use Rattle.dk_types.specs.Names.{IsName}
use Rattle.dk_types.specs.Fields.{IsId, IsKey}
use Rattle.dk_types.specs.Lists.{AreChained, IsList}
use Rattle.dk_model.specs.DurableWorlds.{DurableWorld}
use Rattle.dk_model.specs.Effects.{set_in, gone_in, new_in, moved_in, pending_of, effects, effects_length, object_length, binding_length, name_length, pending_length}
use Rattle.dk_model.specs.Entries.{is_above_last, AreEffects, IsObjectItem, IsIdItem, IsBinding, IsNameItem, IsPendingItem, IsKeyItem, IsMovedItem}
use Rattle.dk_model.specs.Validity.{IsValid, IsNumbered, IsObject, IsTask}
use Rattle.dk_model.proofs.Maps.{ids_total, exact_ids, keys_total, exact_keys, names_total, exact_names}
use Rattle.dk_laws.proofs.EffectsMade.{Kept}
use Rattle.dk_laws.proofs.Entries.{all_entries}

first_of_and : (a b : Bool) → T (a && b) → T a
first_of_and true b p = tt
first_of_and false b p = absurd p

second_of_and : (a b : Bool) → T (a && b) → T b
second_of_and true b p = p
second_of_and false b p = absurd p

true_of : (b : Bool) → T b → b ≡ true
true_of true p = refl
true_of false p = absurd p

-- entries in order, as items each of which fits behind the one before it
module _ {A K X : Type 0} (R : K → K → Ordering) (make : K × X → A) (key : A → K) (by_key : (e : K × X) → key (make e) ≡ e.0) (Fits : Option A → A → Type 0) (P : K × X → Type 0)
    (fits : (before : Option A) (e : K × X) → P e → is_above_last R key before (key (make e)) ≡ true → Fits before (make e)) where
  chained : (b : K × X) (es : List (K × X)) → T (below_all R b.0 es) → T (is_sorted R es) → AllByRecursion P es → AreChained Fits (Some (make b)) (map make es)
  chained b [] below sorted all = tt
  chained b (e ∷ es) below sorted all =
      let less : is_lt (R (key (make b)) (key (make e))) ≡ true = ap is_lt ((λ i. R (by_key b i) (by_key e i))) ∙ true_of _ (first_of_and (is_lt (R b.0 e.0)) _ below) in
      (fits (Some (make b)) e all.0 less, chained e es (first_of_and _ _ sorted) (second_of_and (below_all R e.0 es) _ sorted) all.1)

  in_list : (es : List (K × X)) → T (is_sorted R es) → AllByRecursion P es → AreChained Fits None (map make es)
  in_list [] sorted all = tt
  in_list (e ∷ es) sorted all = (fits None e all.0 refl, chained e es (first_of_and _ _ sorted) (second_of_and (below_all R e.0 es) _ sorted) all.1)

-- a list is no longer than the sum of its items' lengths
few : {A : Type 0} (f : A → ℕ) → ((x : A) → 1 ≤ f x) → (xs : List A) → length xs ≤ sum_by f xs
few f one [] = omega arith
few f one (x ∷ xs) = let h = few f one xs in let first = one x in let sum = sum_by-append f (x ∷ []) xs in let one_sum : sum_by f (x ∷ []) ≡ 0 + f x = refl in omega (arith, h, first, sum, one_sum)

module _ {K X : Type 0} {R : K → K → Ordering} (total : IsTotalOrder R) (exact : IsAntisymmetric R) (m : FinMap R X) (p : K → Bool) where
  -- what is kept of a map is there
  kept_there : (k : K) (x : X) → get (retain_keys m p) k ≡ Some x → (get m k ≡ Some x) × (p k ≡ true)
  kept_there k x is =
      let h : cond (p k) (get m k) None ≡ Some x = sym (get-retain_keys m p k (λ y t. ap p (sym (exact k y t)))) ∙ is in
      elim (p k) as (λ b. p k ≡ b → cond b (get m k) None ≡ Some x → (get m k ≡ Some x) × (p k ≡ true)) [
        | true ↦ λ e h. (h, e)
        | false ↦ λ e h. absurd cc
      ] refl h

  pub kept_all : (P : K × X → Type 0) → ((k : K) (x : X) → get m k ≡ Some x → p k ≡ true → P (k, x)) → AllByRecursion P (Kept m p)
  kept_all P h = all_entries total P (retain_keys m p) (λ k x is. let t = kept_there k x is in h k x t.0 t.1)

  -- as items
  kept_list : {A : Type 0} (make : K × X → A) (key : A → K) (by_key : (e : K × X) → key (make e) ≡ e.0) (Fits : Option A → A → Type 0) (P : K × X → Type 0)
      → ((before : Option A) (e : K × X) → P e → is_above_last R key before (key (make e)) ≡ true → Fits before (make e)) → ((k : K) (x : X) → get m k ≡ Some x → P (k, x))
      → length (map make (Kept m p)) < 2 ^ 32 → IsList Fits (map make (Kept m p))
  kept_list make key by_key Fits P fits h count = record { count = count; each = in_list R make key by_key Fits P fits (Kept m p) (entries_sorted (retain_keys m p)) (kept_all P (λ k x is passes. h k x is)) }

id_of : (id : ObjectId) → IsNumbered id.run id.k → IsId id
id_of id n = record { run = n.number; k = n.place }

key_of : (key : TaskKey) → IsNumbered key.run key.k → IsKey key
key_of key n = record { run = n.number; k = n.place }

module _ (a b : DurableWorld) (va : IsValid a) (vb : IsValid b) (short : effects_length (effects a b) ≤ 16777216) where
  abbrev e : Effects
  e = effects a b

  counts : (length e.written < 2 ^ 32) × (length e.removed < 2 ^ 32) × (length e.bound < 2 ^ 32) × (length e.unbound < 2 ^ 32) × (length e.added < 2 ^ 32) × (length e.dropped < 2 ^ 32) × (length e.requeued < 2 ^ 32)
  counts =
      let written = few object_length (λ x. omega arith) e.written in
      let removed = few (λ (id : ObjectId). 12) (λ x. omega arith) e.removed in
      let bound = few binding_length (λ x. omega arith) e.bound in
      let unbound = few name_length (λ x. omega arith) e.unbound in
      let added = few pending_length (λ x. omega arith) e.added in
      let dropped = few (λ (key : TaskKey). 12) (λ x. omega arith) e.dropped in
      let requeued = few (λ (moved : TaskKey × ℕ). 20) (λ x. omega arith) e.requeued in
      (omega (arith, written, short), omega (arith, removed, short), omega (arith, bound, short), omega (arith, unbound, short), omega (arith, added, short), omega (arith, dropped, short), omega (arith, requeued, short))

  pub effects_fit : AreEffects 2 e
  unfolding set_in gone_in new_in moved_in
  effects_fit = record {
    written = subst (IsList (IsObjectItem 2)) (map-id e.written) (kept_list ids_total exact_ids b.objects _ (λ x. x) (λ x. x.0) (λ x. refl) (IsObjectItem 2) (λ x. IsNumbered x.0.run x.0.k × IsObject x.1)
        (λ before x p above. record { id = id_of x.0 p.0; above = above; kind = p.1.kind; bytes = p.1.body.short }) (λ k x is. let o = vb.objects k x is in (o.0, o.2)) (subst (λ xs. length xs < 2 ^ 32) (sym (map-id e.written)) counts.0));
    removed = kept_list ids_total exact_ids a.objects _ (λ x. x.0) (λ x. x) (λ x. refl) IsIdItem (λ x. IsNumbered x.0.run x.0.k)
        (λ before x p above. (id_of x.0 p, above)) (λ k x is. (va.objects k x is).0) counts.1;
    bound = subst (IsList IsBinding) (map-id e.bound) (kept_list names_total exact_names b.names _ (λ x. x) (λ x. x.0) (λ x. refl) IsBinding (λ x. IsName x.0 × IsNumbered x.1.run x.1.k)
        (λ before x p above. record { name = p.0; above = above; id = id_of x.1 p.1 }) (λ k x is. vb.names k x is) (subst (λ xs. length xs < 2 ^ 32) (sym (map-id e.bound)) counts.2));
    unbound = kept_list names_total exact_names a.names _ (λ x. x.0) (λ x. x) (λ x. refl) IsNameItem (λ x. IsName x.0)
        (λ before x p above. (p, above)) (λ k x is. (va.names k x is).0) counts.3;
    added = kept_list keys_total exact_keys b.tasks _ pending_of (λ x. x.key) (λ x. refl) (IsPendingItem 2) (λ x. IsNumbered x.0.run x.0.k × IsTask x.1)
        (λ before x p above. record { key = key_of x.0 p.0; above = above; due = le-leb _ _ p.1.due; period = le-leb _ _ p.1.period; kind = p.1.kind; arg = p.1.arg.short }) (λ k x is. let t = vb.tasks k x is in (t.0, t.2)) counts.4;
    dropped = kept_list keys_total exact_keys a.tasks _ (λ x. x.0) (λ x. x) (λ x. refl) IsKeyItem (λ x. IsNumbered x.0.run x.0.k)
        (λ before x p above. (key_of x.0 p, above)) (λ k x is. (va.tasks k x is).0) counts.5;
    requeued = kept_list keys_total exact_keys b.tasks _ (λ x. (x.0, x.1.due)) (λ x. x.0) (λ x. refl) IsMovedItem (λ x. IsNumbered x.0.run x.0.k × IsTask x.1)
        (λ before x p above. record { key = key_of x.0 p.0; above = above; due = le-leb _ _ p.1.due }) (λ k x is. let t = vb.tasks k x is in (t.0, t.2)) counts.6;
  }
