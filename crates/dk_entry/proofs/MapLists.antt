-- The entries of a finite map are a list that ascends, each behind the one before it.
use Rattle.std.proofs.Common.{◌≡◌, T, ◌<◌, ◌^◌, Bool, true, false, cond, ◌&&◌, map, length, Option, Some, None, List, [], ◌∷◌, refl, sym, ap, ◌∙◌}
use Rattle.std.specs.declared.cmp.Ordering.{Ordering}
use Rattle.std.specs.declared.cmp.Ordering.TheVariants.{Less, Equal, Greater}
use Rattle.std.specs.Ordering.{is_lt, is_eq}
use Rattle.std.specs.Cmp.{IsTotalOrder, tied_itself}
use Rattle.std.specs.FinMap.{FinMap, IsAntisymmetric, find, is_sorted, entries, entries_sorted, get, get-entries}
use Rattle.std.specs.FinMap.Entries.{below_all}
use Rattle.dk_types.specs.Lists.{AreChained, IsList}
use Rattle.dk_model.specs.Entries.{is_above_last}

first_holds : (a b : Bool) → T (a && b) → a ≡ true
first_holds true b p = refl
first_holds false b p = absurd p

second_holds : (a b : Bool) → T (a && b) → T b
second_holds true b p = p
second_holds false b p = absurd p

module _ {A K X : Type 0} (R : K → K → Ordering) (o : IsTotalOrder R) (exact : IsAntisymmetric R) (key : A → K) (item : K × X → A) (keyed : (e : K × X) → key (item e) ≡ e.0) (Fits : Option A → A → Type 0) where
  less_not_tied : (c : Ordering) → is_lt c ≡ true → is_eq c ≡ true → ⊥
  less_not_tied Less less tied = absurd cc
  less_not_tied Equal less tied = absurd cc
  less_not_tied Greater less tied = absurd cc

  -- a key below all is found nowhere
  absent : (k : K) (es : List (K × X)) (x : X) → T (below_all R k es) → find R k es ≡ Some x → ⊥
  absent k [] x below found = absurd cc
  absent k (e ∷ es) x below found =
      elim (is_eq (R k e.0)) as (λ b. is_eq (R k e.0) ≡ b → cond b (Some e.1) (find R k es) ≡ Some x → ⊥) [
        | true ↦ λ tied _. less_not_tied (R k e.0) (first_holds _ _ below) tied
        | false ↦ λ _ rest. absent k es x (second_holds _ _ below) rest
      ] refl found

  -- the value at a key behind the first one
  behind : (e : K × X) (es : List (K × X)) (q : K) (x : X) → T (below_all R e.0 es) → find R q es ≡ Some x → find R q (e ∷ es) ≡ Some x
  behind e es q x below found =
      elim (R q e.0) as (λ c. R q e.0 ≡ c → cond (is_eq c) (Some e.1) (find R q es) ≡ Some x) [
        | Less ↦ λ _. found
        | Equal ↦ λ tie. absurd (absent e.0 es x below (ap (λ k. find R k es) (sym (exact q e.0 tie)) ∙ found))
        | Greater ↦ λ _. found
      ] refl

  -- the first key is above the item before it
  abbrev IsAbove : Option A → List (K × X) → Type 0
  IsAbove before [] = Unit {0}
  IsAbove before (e ∷ es) = is_above_last R key before e.0 ≡ true

  above_next : (e : K × X) (es : List (K × X)) → T (below_all R e.0 es) → IsAbove (Some (item e)) es
  above_next e [] below = tt
  above_next e (f ∷ es) below = ap (λ k. is_lt (R k f.0)) (keyed e) ∙ first_holds _ _ below

  chained : (P : K → X → Type 0) → ((before : Option A) (e : K × X) → is_above_last R key before e.0 ≡ true → P e.0 e.1 → Fits before (item e)) → (before : Option A) (es : List (K × X)) → T (is_sorted R es) → IsAbove before es → ((q : K) (x : X) → find R q es ≡ Some x → P q x)
      → AreChained Fits before (map item es)
  chained P fits before [] sorted above each = tt
  chained P fits before (e ∷ es) sorted above each =
      let below : T (below_all R e.0 es) = below_first (below_all R e.0 es) (is_sorted R es) sorted in (
        fits before e above (each e.0 e.1 (ap (λ c. cond (is_eq c) (Some e.1) (find R e.0 es)) (tied_itself o e.0))),
        chained P fits (Some (item e)) es (second_holds _ _ sorted) (above_next e es below) (λ q x found. each q x (behind e es q x below found)),
      )
    where
      below_first : (a b : Bool) → T (a && b) → T a
      below_first true b p = tt
      below_first false b p = p

  -- a map whose values fit is a list that fits
  pub listed : (P : K → X → Type 0) → ((before : Option A) (e : K × X) → is_above_last R key before e.0 ≡ true → P e.0 e.1 → Fits before (item e)) → (m : FinMap R X) → ((q : K) (x : X) → get m q ≡ Some x → P q x) → length (map item (entries m)) < 2 ^ 32
      → IsList Fits (map item (entries m))
  listed P fits m each few = record {
    count = few;
    each = chained P fits None (entries m) (entries_sorted m) (first_above (entries m)) (λ q x found. each q x (get-entries m q ∙ found));
  }
    where
      first_above : (es : List (K × X)) → IsAbove None es
      first_above [] = tt
      first_above (e ∷ es) = refl
