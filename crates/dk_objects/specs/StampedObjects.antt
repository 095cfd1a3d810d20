-- What the managed objects of a world are seen as.
use Rattle.std.specs.Prelude.{ℕ, List, refl}
use Rattle.std.specs.Option.{option_map}
use Rattle.std.specs.Coded.{Coded, code_by, coded×, coded_ℕ, coded_list}
use Rattle.std.specs.FinMap as map
use Rattle.std.specs.FinMap.{FinMap}
use Rattle.dk_types.specs.declared.number.ObjectId.{ObjectId}
use Rattle.dk_types.specs.declared.object.Object.{Object}
use Rattle.dk_map.specs.Values.{values_with}
use Rattle.dk_model.specs.Keys.{id_cmp}
use Rattle.dk_model.specs.DurableWorlds.{with_value}

-- each object with its stamp, by id; and how many more fit without memory
pub record StampedObjects : Type 0 where
  pub objects : FinMap id_cmp (Object × ℕ)
  pub spare : ℕ

-- an id is stored as the pair of its numbers
abbrev pub id_code : Coded ObjectId
id_code = code_by (ℕ × ℕ) (coded× coded_ℕ coded_ℕ) (λ id. (id.run.0, id.k)) (λ p. record { run = record { 0 = p.0 }; k = p.1 }) (λ _. refl)

-- an object is stored as the pair of its fields
abbrev pub object_code : Coded Object
object_code = code_by (ℕ × List ℕ) (coded× coded_ℕ (coded_list coded_ℕ)) (λ o. (o.kind, o.bytes)) (λ p. record { kind = p.0; bytes = p.1 }) (λ _. refl)

-- they are stored as the pair of their fields
abbrev pub objects_code : Coded StampedObjects
objects_code =
    code_by (FinMap id_cmp (Object × ℕ) × ℕ) (coded× (map.code id_code (coded× object_code coded_ℕ)) coded_ℕ) (λ s. (s.objects, s.spare)) (λ p. record { objects = p.0; spare = p.1 }) (λ _. refl)

-- the objects without their stamps, as the world has them
abbrev pub objects_of : FinMap id_cmp (Object × ℕ) → FinMap id_cmp Object
objects_of objects = values_with (λ stamped. stamped.0) objects

-- the objects, the one under an id with another stamp
abbrev pub restamped : ℕ → ObjectId → FinMap id_cmp (Object × ℕ) → FinMap id_cmp (Object × ℕ)
restamped stamp id objects = with_value objects id (option_map (λ stamped. (stamped.0, stamp)) (map.get objects id))
