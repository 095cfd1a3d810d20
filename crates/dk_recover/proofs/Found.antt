-- What tests of each entry or of each key say of a key that is looked up, and the keys of a list in order.
use Rattle.std.proofs.Common.{◌≡◌, ℕ, T, Bool, true, false, cond, ◌&&◌, ◌||◌, map, is_some, Option, Some, None, List, [], ◌∷◌, refl, sym, ap, ◌∙◌}
use Rattle.std.specs.declared.cmp.Ordering.{Ordering}
use Rattle.std.specs.declared.cmp.Ordering.TheVariants.{Less, Equal, Greater}
use Rattle.std.specs.Ordering.{is_eq, eq_by_cmp}
use Rattle.std.specs.Option.{option_map}
use Rattle.std.specs.Cmp.{IsTotalOrder, tied_itself}
use Rattle.std.specs.List.{list_all, list_any}
use Rattle.std.specs.FinMap.{IsAntisymmetric}
use Rattle.std.specs.FinMap.Entries.{same_entries}
use Rattle.dk_map.specs.Entries.{find, IsOrdered}
use Rattle.dk_map.specs.Values.{entries_with}
use Rattle.dk_map.proofs.Values.{find_with, ordered_with}
use Rattle.dk_laws.proofs.EffectsMade.{and_left, and_right, above_none}

pub both_true : (a b : Bool) → a ≡ true → b ≡ true → (a && b) ≡ true
both_true a b p q = rw (p, q) refl

pub right_of_and : (a b : Bool) → T (a && b) → T b
right_of_and true b p = p
right_of_and false b p = absurd p

pub left_of_and : (a b : Bool) → T (a && b) → T a
left_of_and true b p = tt
left_of_and false b p = p

pub or_right : (a b : Bool) → b ≡ true → (a || b) ≡ true
or_right true b p = refl
or_right false b p = p

-- a list of keys as entries
abbrev pub bare : {K : Type 0} → List K → List (K × ℕ)
bare ks = map (λ k. (k, 0)) ks

bare_keys : {K : Type 0} (ks : List K) → map (λ (e : K × ℕ). e.0) (bare ks) ≡ ks
bare_keys [] = refl
bare_keys {K} (k ∷ ks) = ap (λ (l : List K). k ∷ l) (bare_keys ks)

with_keys : {K X : Type 0} (es : List (K × X)) → map (λ (e : K × ℕ). e.0) (entries_with (λ _. 0) es) ≡ map (λ e. e.0) es
with_keys [] = refl
with_keys {K} (e ∷ es) = ap (λ (l : List K). e.0 ∷ l) (with_keys es)

told_some : {X : Type 0} (o : Option X) → option_map {U = ℕ} (λ _. 0) o ≡ cond (is_some o) (Some 0) None
told_some None = refl
told_some (Some x) = refl

module _ {K : Type 0} (R : K → K → Ordering) (o : IsTotalOrder R) (exact : IsAntisymmetric R) where
  -- a test that holds of each key holds of one that is among them
  pub keys_hold : (p : K → Bool) (ks : List K) → list_all p ks ≡ true → (q : K) → list_any (eq_by_cmp R q) ks ≡ true → p q ≡ true
  keys_hold p [] all q among = cc
  keys_hold p (k ∷ ks) all q among =
      elim (R q k) as (λ c. R q k ≡ c → (is_eq c || list_any (eq_by_cmp R q) ks) ≡ true → p q ≡ true) [
        | Less ↦ λ _ rest. keys_hold p ks (and_right _ _ all) q rest
        | Equal ↦ λ tie _. ap p (exact q k tie) ∙ and_left _ _ all
        | Greater ↦ λ _ rest. keys_hold p ks (and_right _ _ all) q rest
      ] refl among

  pub hold_keys : (p : K → Bool) (ks : List K) → ((q : K) → list_any (eq_by_cmp R q) ks ≡ true → p q ≡ true) → list_all p ks ≡ true
  hold_keys p [] each = refl
  hold_keys p (k ∷ ks) each = both_true _ _
      (each k (ap (λ c. is_eq c || list_any (eq_by_cmp R k) ks) (tied_itself o k)))
      (hold_keys p ks (λ q among. each q (or_right (eq_by_cmp R q k) _ among)))

  find-bare : (q : K) (ks : List K) → find R q (bare ks) ≡ cond (list_any (eq_by_cmp R q) ks) (Some 0) None
  find-bare q [] = refl
  find-bare q (k ∷ ks) = elim (eq_by_cmp R q k) as (λ b. cond b (Some 0) (find R q (bare ks)) ≡ cond (b || list_any (eq_by_cmp R q) ks) (Some 0) None) [ true ↦ refl | false ↦ find-bare q ks ]

module _ {K X : Type 0} (R : K → K → Ordering) (o : IsTotalOrder R) (exact : IsAntisymmetric R) where
  -- a test that holds of each entry holds of what is found
  pub entries_hold : (p : K × X → Bool) (es : List (K × X)) → list_all p es ≡ true → (q : K) (x : X) → find R q es ≡ Some x → p (q, x) ≡ true
  entries_hold p [] all q x found = cc
  entries_hold p (e ∷ es) all q x found =
      elim (R q e.0) as (λ c. R q e.0 ≡ c → cond (is_eq c) (Some e.1) (find R q es) ≡ Some x → p (q, x) ≡ true) [
        | Less ↦ λ _ rest. entries_hold p es (and_right _ _ all) q x rest
        | Equal ↦ λ tie here. let value : x ≡ e.1 = cc in (λ i. p (exact q e.0 tie i, value i)) ∙ and_left _ _ all
        | Greater ↦ λ _ rest. entries_hold p es (and_right _ _ all) q x rest
      ] refl found

  pub hold_entries : (p : K × X → Bool) (es : List (K × X)) → IsOrdered R es → ((q : K) (x : X) → find R q es ≡ Some x → p (q, x) ≡ true) → list_all p es ≡ true
  hold_entries p [] s each = refl
  hold_entries p (e ∷ es) s each = both_true _ _
      (each e.0 e.1 (ap (λ c. cond (is_eq c) (Some e.1) (find R e.0 es)) (tied_itself o e.0)))
      (hold_entries p es (right_of_and _ _ s) (λ q x found. each q x (further q x found)))
    where
      further : (q : K) (x : X) → find R q es ≡ Some x → find R q (e ∷ es) ≡ Some x
      further q x found = elim (R q e.0) as (λ c. R q e.0 ≡ c → cond (is_eq c) (Some e.1) (find R q es) ≡ Some x) [
        | Less ↦ λ _. found
        | Equal ↦ λ tie. let none : find R q es ≡ None = ap (λ k. find R k es) (exact q e.0 tie) ∙ above_none R o exact e.0 es (left_of_and _ _ s) in absurd cc
        | Greater ↦ λ _. found
      ] refl

  -- keys in order are those of entries that have the same ones
  pub keys_same : (ks : List K) (es : List (K × X)) → IsOrdered R (bare ks) → IsOrdered R es → ((q : K) → list_any (eq_by_cmp R q) ks ≡ is_some (find R q es)) → ks ≡ map (λ e. e.0) es
  keys_same ks es sk se same =
      sym (bare_keys ks)
      ∙ ap (map (λ (e : K × ℕ). e.0)) (same_entries R o exact (bare ks) (entries_with (λ _. 0) es) sk (ordered_with R (λ _. 0) es se) (λ q.
      find-bare R o exact q ks ∙ ap (λ b. cond b (Some 0) None) (same q) ∙ sym (told_some (find R q es)) ∙ sym (find_with R (λ _. 0) q es)))
      ∙ with_keys es
