-- What a typed reference to a managed object does: its value is read, written as it is, or saved, under the kind of its type.
use Rattle.std.specs.Prelude.{ℕ, ◌==◌, Option, List, if◌then◌else◌, Ok}
use Rattle.dk_types.specs.declared.number.ObjectId.{ObjectId}
use Rattle.dk_model.specs.Runs.{Act, give, and_then, found, refuse, get, mark, save, WRONG_KIND, BAD_BYTES}

-- the value of an object of this kind
unfoldable pub get_as : {A : Type 0} → ℕ → (List ℕ → Option A) → ObjectId → Act A
get_as kind read id = and_then (get id) (λ object s. if object.kind == kind then (found BAD_BYTES (read object.bytes), s) else refuse WRONG_KIND s)

-- the value, and the object is written as it is, since a change of it is to follow
unfoldable pub get_for_update_as : {A : Type 0} → ℕ → (List ℕ → Option A) → ObjectId → Act A
get_for_update_as kind read id = and_then (get_as kind read id) (λ x. and_then (mark id) (λ _. give (Ok x)))

-- an object of this kind has these bytes from now on
unfoldable pub save_as : ℕ → ObjectId → List ℕ → Act (Unit {0})
save_as kind id bytes = and_then (get id) (λ object. if object.kind == kind then save id bytes else refuse WRONG_KIND)
