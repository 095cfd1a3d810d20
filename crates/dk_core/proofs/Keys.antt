-- The tests of ids, names and keys are those of their orders.
use Rattle.std.proofs.Common.{◌≡◌, ℕ, refl, List, nat_eq}
use Rattle.std.specs.Cmp.Lexicographic.{pointwise}
use Rattle.std.specs.Ordering.{eq_by_cmp}
use Rattle.dk_types.specs.declared.number.ObjectId.{ObjectId}
use Rattle.dk_types.specs.declared.number.TaskKey.{TaskKey}
use Rattle.dk_types.specs.Names.{bytes_cmp}
use Rattle.dk_types.specs.Keys.{id_cmp, key_cmp}
use Rattle.dk_model.specs.Effects.{same_id}
use Rattle.dk_model.specs.Sights.{same_key}
use Rattle.dk_model.proofs.Maps.{ids_total, exact_ids, keys_total, exact_keys, names_total, exact_names}
use Rattle.dk_laws.proofs.EffectsMade.{Tells, numbers_told, ids_told, names_told, and_left, and_right}
use Rattle.dk_core.proofs.MapFacts.{tests_alike}

pub keys_told : Tells same_key
keys_told = record {
  itself = λ x. rw (numbers_told.itself x.run.0, numbers_told.itself x.k) refl;
  equal = λ x y h.
      let r : x.run.0 ≡ y.run.0 = numbers_told.equal _ _ (and_left _ _ h) in
      let k : x.k ≡ y.k = numbers_told.equal _ _ (and_right _ _ h) in
      λ i. record { run = record { 0 = r i }; k = k i };
}

pub id_test : (a b : ObjectId) → eq_by_cmp id_cmp a b ≡ same_id a b
id_test a b = tests_alike ids_total exact_ids ids_told a b

pub name_test : (a b : List ℕ) → eq_by_cmp bytes_cmp a b ≡ pointwise nat_eq a b
name_test a b = tests_alike names_total exact_names names_told a b

pub key_test : (a b : TaskKey) → eq_by_cmp key_cmp a b ≡ same_key a b
key_test a b = tests_alike keys_total exact_keys keys_told a b
