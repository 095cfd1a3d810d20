-- What the bound names of a world are seen as.
use Rattle.std.specs.Prelude.{ℕ, List, refl}
use Rattle.std.specs.Option.{option_map}
use Rattle.std.specs.Coded.{Coded, code_by, coded×, coded_ℕ, coded_list}
use Rattle.std.specs.FinMap as map
use Rattle.std.specs.FinMap.{FinMap}
use Rattle.dk_types.specs.declared.number.ObjectId.{ObjectId}
use Rattle.dk_types.specs.Names.{bytes_cmp}
use Rattle.dk_map.specs.Values.{values_with}
use Rattle.dk_model.specs.DurableWorlds.{with_value}

-- each bound name with the id that it is bound to and its stamp
abbrev pub StampedNames : Type 0
StampedNames = FinMap bytes_cmp (ObjectId × ℕ)

-- the bound names, and how many more fit without memory
pub record Bindings : Type 0 where
  pub names : StampedNames
  pub spare : ℕ

-- an id is stored as the pair of its numbers
abbrev pub id_code : Coded ObjectId
id_code = code_by (ℕ × ℕ) (coded× coded_ℕ coded_ℕ) (λ id. (id.run.0, id.k)) (λ p. record { run = record { 0 = p.0 }; k = p.1 }) (λ _. refl)

-- they are stored as the pair of their fields
abbrev pub bindings_code : Coded Bindings
bindings_code =
    code_by (StampedNames × ℕ) (coded× (map.code (coded_list coded_ℕ) (coded× id_code coded_ℕ)) coded_ℕ) (λ b. (b.names, b.spare)) (λ p. record { names = p.0; spare = p.1 }) (λ _. refl)

-- the names without their stamps, as the world has them
abbrev pub ids_of : StampedNames → FinMap bytes_cmp ObjectId
ids_of names = values_with (λ binding. binding.0) names

-- the names, one of them with another stamp
abbrev pub restamped : ℕ → List ℕ → StampedNames → StampedNames
restamped stamp name names = with_value names name (option_map (λ binding. (binding.0, stamp)) (map.get names name))
