-- What holds of each item of a list holds of what is found in it.
use Rattle.std.proofs.Common.{◌≡◌, cond, Option, Some, None, List, [], ◌∷◌, refl, sym, subst}
use Rattle.std.specs.declared.cmp.Ordering.{Ordering}
use Rattle.std.specs.declared.cmp.Ordering.TheVariants.{Less, Equal, Greater}
use Rattle.std.specs.Ordering.{is_eq}
use Rattle.std.specs.List.{AllByRecursion}
use Rattle.std.specs.FinMap.{IsAntisymmetric}
use Rattle.dk_types.specs.Lists.{AreChained, IsList}
use Rattle.dk_map.specs.Entries.{find}

-- each item of a counted list
chained_each : {A : Type 0} (P : A → Type 0) (Fits : Option A → A → Type 0) → ((before : Option A) (x : A) → Fits before x → P x) → (before : Option A) (xs : List A) → AreChained Fits before xs → AllByRecursion P xs
chained_each P Fits to before [] are = tt
chained_each P Fits to before (x ∷ xs) are = (to before x are.0, chained_each P Fits to (Some x) xs are.1)

pub list_each : {A : Type 0} (P : A → Type 0) (Fits : Option A → A → Type 0) → ((before : Option A) (x : A) → Fits before x → P x) → (xs : List A) → IsList Fits xs → AllByRecursion P xs
list_each P Fits to xs is = chained_each P Fits to None xs is.each

pub found_is : {K X : Type 0} (R : K → K → Ordering) (exact : IsAntisymmetric R) (P : K × X → Type 0) (es : List (K × X)) → AllByRecursion P es → (q : K) (x : X) → find R q es ≡ Some x → P (q, x)
found_is R exact P [] each q x found = absurd cc
found_is R exact P (e ∷ es) each q x found =
    elim (R q e.0) as (λ c. R q e.0 ≡ c → cond (is_eq c) (Some e.1) (find R q es) ≡ Some x → P (q, x)) [
      | Less ↦ λ _ rest. found_is R exact P es each.1 q x rest
      | Equal ↦ λ tie here. let value : e.1 ≡ x = cc in subst (λ (p : _ × _). P p) (λ i. (sym (exact q e.0 tie) i, value i)) each.0
      | Greater ↦ λ _ rest. found_is R exact P es each.1 q x rest
    ] refl found
