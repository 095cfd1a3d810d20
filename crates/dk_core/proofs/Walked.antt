-- The lists that a walk over the stores copies.
use Rattle.std.proofs.Common.{◌≡◌, ℕ, refl, sym, ap, ◌∙◌, subst, List, [], ◌∷◌, ◌++◌, map, IsPermutation}
use Rattle.std.proofs.lemmas.List.{append-nil}
use Rattle.std.proofs.lemmas.List.Sorted.{IsPermutation-map}
use Rattle.std.specs.FinMap.{FinMap, entries}
use Rattle.std.specs.declared.cmp.Ordering.{Ordering}
use Rattle.dk_map.specs.Values.{values_with}
use Rattle.dk_map.proofs.Values.{entries_values}

-- a walk that has come to its end has listed all
pub walked_all : {A B : Type 0} (f : A → B) (list : List B) (left start all : List A) → list ++ map f left ≡ map f start → start ≡ all → left ≡ [] → list ≡ map f all
walked_all f list left start all e from end = sym (append-nil list) ∙ ap (λ ys. list ++ map f ys) (sym end) ∙ e ∙ ap (map f) from

pub map-map : {A B C : Type 0} (g : B → C) (f : A → B) (xs : List A) → map g (map f xs) ≡ map (λ x. g (f x)) xs
map-map g f [] = refl
map-map g f (x ∷ xs) = ap (λ ys. g (f x) ∷ ys) (map-map g f xs)

-- entries without their stamps are the entries of the map without its stamps
pub bare_entries : {A K X : Type 0} {R : K → K → Ordering} (both : A → K × (X × ℕ)) (es : List A) (m : FinMap R (X × ℕ)) → map both es ≡ entries m
    → map (λ e. ((both e).0, (both e).1.0)) es ≡ entries (values_with (λ s. s.0) m)
bare_entries both es m e =
    sym (map-map (λ (p : _ × (_ × ℕ)). (p.0, p.1.0)) both es) ∙ ap (map (λ (p : _ × (_ × ℕ)). (p.0, p.1.0))) e ∙ sym (entries_values (λ (s : _ × ℕ). s.0) m)

-- and entries in no order are those of that map in no order
pub bare_permuted : {A K X : Type 0} {R : K → K → Ordering} (both : A → K × (X × ℕ)) (es : List A) (m : FinMap R (X × ℕ)) → IsPermutation (map both es) (entries m)
    → IsPermutation (map (λ e. ((both e).0, (both e).1.0)) es) (entries (values_with (λ s. s.0) m))
bare_permuted both es m p =
    let bare = IsPermutation-map (λ (q : _ × (_ × ℕ)). (q.0, q.1.0)) (map both es) (entries m) p in
    subst (λ l. IsPermutation l (entries (values_with (λ s. s.0) m))) (map-map (λ (q : _ × (_ × ℕ)). (q.0, q.1.0)) both es) (subst (IsPermutation _) (sym (entries_values (λ (s : _ × ℕ). s.0) m)) bare)
