-- What objects are called.
use Rattle.std.specs.Prelude.{ℕ, Option, List, [], ◌∷◌, ◌++◌, Ok}
use Rattle.dk_types.specs.declared.number.ObjectId.{ObjectId}
use Rattle.dk_model.specs.Runs.{Act, give, and_then}
use Rattle.dk_model.specs.References.{get_as}

-- what each object is called, after those so far
abbrev pub labels_from : {A : Type 0} → ℕ → (List ℕ → Option A) → (A → List ℕ) → List (List ℕ) → List ObjectId → Act (List (List ℕ))
labels_from kind read label so_far [] = give (Ok so_far)
labels_from kind read label so_far (id ∷ ids) = and_then (get_as kind read id) (λ x. labels_from kind read label (so_far ++ label x ∷ []) ids)

-- the labels of these objects, in order
unfoldable pub labels : {A : Type 0} → ℕ → (List ℕ → Option A) → (A → List ℕ) → List ObjectId → Act (List (List ℕ))
labels kind read label ids = labels_from kind read label [] ids
