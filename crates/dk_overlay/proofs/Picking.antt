-- What is picked from entries in order, found by key.
use Rattle.std.proofs.Common.{◌≡◌, ℕ, Bool, true, false, cond, map, T, Option, Some, None, List, [], ◌∷◌, ◌++◌, append_assoc, append-nil, length, refl, sym, ap, ◌∙◌}
use Rattle.std.proofs.lemmas.List.{map-append}
use Rattle.std.specs.declared.cmp.Ordering.{Ordering}
use Rattle.std.specs.declared.cmp.Ordering.TheVariants.{Less, Equal, Greater}
use Rattle.std.specs.Ordering.{is_eq, eq_by_cmp}
use Rattle.std.specs.Cmp.{IsTotalOrder}
use Rattle.std.specs.Map.{keys_of}
use Rattle.std.specs.Option.{option_map}
use Rattle.std.specs.FinMap.{FinMap, IsAntisymmetric, find, is_sorted, get, entries, entries_sorted, get-entries, retain_keys, get-retain_keys}
use Rattle.std.specs.FinMap.Entries.{below_all}
use Rattle.dk_map.specs.Entries.{IsOrdered}
use Rattle.dk_map.specs.AsMap.{map_of}
use Rattle.dk_map.proofs.Maps.{entries-map_of}
use Rattle.dk_overlay.specs.Picks.{picked, picked_one}
use Rattle.dk_overlay.proofs.Tests.{both_and, first_of_and, second_of_and}
use Rattle.dk_overlay.proofs.Least.{above_none}

-- what f gives of a change, if there is one
abbrev pub given : {C X : Type 0} → (C → Option X) → Option C → Option X
given f None = None
given f (Some c) = f c

module _ {K C X : Type 0} (R : K → K → Ordering) (total : IsTotalOrder R) (exact : IsAntisymmetric R) (f : C → Option X) where
  below-picked : (k : K) (es : List (K × C)) → T (below_all R k es) → T (below_all R k (picked f es))
  below-picked k [] h = tt
  below-picked k (e ∷ es) h =
      elim (f e.1) as (λ o. T (below_all R k (picked_one e.0 o (picked f es)))) [
        | None ↦ below-picked k es (second_of_and _ _ h)
        | Some x ↦ both_and _ _ (first_of_and _ _ h) (below-picked k es (second_of_and _ _ h))
      ]

  pub is_sorted-picked : (es : List (K × C)) → T (is_sorted R es) → T (is_sorted R (picked f es))
  is_sorted-picked [] s = tt
  is_sorted-picked (e ∷ es) s =
      elim (f e.1) as (λ o. T (is_sorted R (picked_one e.0 o (picked f es)))) [
        | None ↦ is_sorted-picked es (second_of_and _ _ s)
        | Some x ↦ both_and _ _ (below-picked e.0 es (first_of_and _ _ s)) (is_sorted-picked es (second_of_and _ _ s))
      ]

  apart : (k : K) (v : Option X) (rest : List (K × X)) (q : K) → is_eq (R q k) ≡ false → find R q (picked_one k v rest) ≡ find R q rest
  apart k None rest q t = refl
  apart k (Some x) rest q t = ap (λ b. cond b (Some x) (find R q rest)) t

  find-picked : (es : List (K × C)) → T (is_sorted R es) → (q : K) → find R q (picked f es) ≡ given f (find R q es)
  find-picked [] s q = refl
  find-picked (e ∷ es) s q =
      let rest : find R q (picked f es) ≡ given f (find R q es) = find-picked es (second_of_and _ _ s) q in
      elim (R q e.0) as (λ o. R q e.0 ≡ o → find R q (picked_one e.0 (f e.1) (picked f es)) ≡ given f (cond (is_eq o) (Some e.1) (find R q es))) [
        | Less ↦ λ t. apart e.0 (f e.1) (picked f es) q (ap is_eq t) ∙ rest
        | Equal ↦ λ t.
            elim (f e.1) as (λ v. find R q (picked_one e.0 v (picked f es)) ≡ v) [
              | None ↦ rest ∙ ap (given f) (ap (λ x. find R x es) (exact q e.0 t) ∙ above_none R total exact e.0 es (first_of_and _ _ s))
              | Some x ↦ ap (λ o. cond (is_eq o) (Some x) (find R q (picked f es))) t
            ]
        | Greater ↦ λ t. apart e.0 (f e.1) (picked f es) q (ap is_eq t) ∙ rest
      ] refl

  -- what is picked from changes is found by what the change at the key gives
  pub find-changes : (changes : FinMap R C) (q : K) → find R q (picked f (entries changes)) ≡ given f (get changes q)
  find-changes changes q = find-picked (entries changes) (entries_sorted changes) q ∙ ap (given f) (sym (get-entries changes q))

-- the entries of keys that pass, found by key
pub find-retained : {K X : Type 0} (R : K → K → Ordering) → IsAntisymmetric R → (m : FinMap R X) (p : K → Bool) (q : K)
    → find R q (entries (retain_keys m p)) ≡ cond (p q) (get m q) None
find-retained R exact m p q = sym (get-entries _ q) ∙ get-retain_keys m p q (λ x t. ap p (sym (exact q x t)))

-- entries with other values
module _ {K X Y : Type 0} (R : K → K → Ordering) (g : X → Y) where
  below-valued : (k : K) (es : List (K × X)) → T (below_all R k es) → T (below_all R k (map (λ e. (e.0, g e.1)) es))
  below-valued k [] h = tt
  below-valued k (e ∷ es) h = both_and _ _ (first_of_and _ _ h) (below-valued k es (second_of_and _ _ h))

  pub is_sorted-valued : (es : List (K × X)) → T (is_sorted R es) → T (is_sorted R (map (λ e. (e.0, g e.1)) es))
  is_sorted-valued [] s = tt
  is_sorted-valued (e ∷ es) s = both_and _ _ (below-valued e.0 es (first_of_and _ _ s)) (is_sorted-valued es (second_of_and _ _ s))

  find_one : (b : Bool) (x : X) (o : Option X) → cond b (Some (g x)) (option_map g o) ≡ option_map g (cond b (Some x) o)
  find_one true x o = refl
  find_one false x o = refl

  pub find-valued : (es : List (K × X)) (q : K) → find R q (map (λ e. (e.0, g e.1)) es) ≡ option_map g (find R q es)
  find-valued [] q = refl
  find-valued (e ∷ es) q = ap (cond (eq_by_cmp R q e.0) (Some (g e.1))) (find-valued es q) ∙ find_one (eq_by_cmp R q e.0) e.1 (find R q es)

-- the keys stay under other values
pub keys-valued : {K X Y : Type 0} (g : X → Y) (es : List (K × X)) → keys_of (map (λ e. (e.0, g e.1)) es) ≡ map (λ e. e.0) es
keys-valued g [] = refl
keys-valued g (e ∷ es) = ap (λ ks. e.0 ∷ ks) (keys-valued g es)

nothing : {A : Type 0} (l : List A) → length l ≡ 0 → l ≡ []
nothing [] e = refl
nothing (x ∷ l) e = cc

-- a loop over the entries of a map in order, of each of which it makes some items: at its start, at each turn, and at its end
module _ {K C Y : Type 0} (made : List (K × C) → List Y) where
  pub making_begins : (R : K → K → Ordering) (xs : List Y) (left list es : List (K × C)) (m : FinMap R C) → xs ≡ [] → left ≡ list → list ≡ es → IsOrdered R es → map_of R es ≡ m → xs ++ made left ≡ made (entries m)
  making_begins R xs left list es m none all is ordered seen = ap (λ l. l ++ made left) none ∙ ap made (all ∙ is ∙ sym (entries-map_of R es ordered)) ∙ ap (λ n. made (entries n)) seen

  pub making_goes_on : ((e : K × C) (es : List (K × C)) → made (e ∷ es) ≡ made (e ∷ []) ++ made es) → (left rest : List (K × C)) (e : K × C) (xs ys all : List Y)
      → left ≡ e ∷ rest → ys ≡ xs ++ made (e ∷ []) → xs ++ made left ≡ all → ys ++ made rest ≡ all
  making_goes_on splits left rest e xs ys all turn is so_far =
      ap (λ l. l ++ made rest) is ∙ append_assoc xs (made (e ∷ [])) (made rest) ∙ ap (λ l. xs ++ l) (sym (splits e rest)) ∙ ap (λ l. xs ++ made l) (sym turn) ∙ so_far

  pub making_ends : made [] ≡ [] → (left : List (K × C)) (len : ℕ) (xs all : List Y) → len ≡ length left → len ≡ 0 → xs ++ made left ≡ all → xs ≡ all
  making_ends none left len xs all same over so_far = sym (append-nil xs) ∙ ap (λ l. xs ++ l) (sym none) ∙ ap (λ l. xs ++ made l) (sym (nothing left (sym same ∙ over))) ∙ so_far

-- what is picked is picked of the first entry and of the others
pub picked_splits : {K C X : Type 0} (f : C → Option X) (e : K × C) (es : List (K × C)) → picked f (e ∷ es) ≡ picked f (e ∷ []) ++ picked f es
picked_splits f e es =
    elim (f e.1) as (λ o. picked_one e.0 o (picked f es) ≡ picked_one e.0 o [] ++ picked f es) [
      | None ↦ refl
      | Some x ↦ refl
    ]

-- so is what is made of each
pub mapped_splits : {K C X Y : Type 0} (f : C → Option X) (g : K × X → Y) (e : K × C) (es : List (K × C)) → map g (picked f (e ∷ es)) ≡ map g (picked f (e ∷ [])) ++ map g (picked f es)
mapped_splits f g e es = ap (map g) (picked_splits f e es) ∙ map-append g (picked f (e ∷ [])) (picked f es)
