-- The list that a walk over the entries of a map copies.
use Rattle.std.proofs.Common.{◌≡◌, refl, sym, ap, ◌∙◌, List, [], ◌∷◌, ◌++◌, map}
use Rattle.std.proofs.lemmas.List.{append-nil}

-- a walk that has come to its end has listed all
pub walked_all : {A B : Type 0} (f : A → B) (list : List B) (left start all : List A) → list ++ map f left ≡ map f start → start ≡ all → left ≡ [] → list ≡ map f all
walked_all f list left start all e from end = sym (append-nil list) ∙ ap (λ ys. list ++ map f ys) (sym end) ∙ e ∙ ap (map f) from

pub map-map : {A B C : Type 0} (g : B → C) (f : A → B) (xs : List A) → map g (map f xs) ≡ map (λ x. g (f x)) xs
map-map g f [] = refl
map-map g f (x ∷ xs) = ap (λ ys. g (f x) ∷ ys) (map-map g f xs)
