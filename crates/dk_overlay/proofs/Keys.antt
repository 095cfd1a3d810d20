-- The orders of ids, keys and names are total, and only equal ones tie.
use Rattle.std.specs.Cmp.{IsTotalOrder, on_total, then_total, nat_cmp_total}
use Rattle.std.specs.Cmp.Lexicographic.{nat_list_cmp_total}
use Rattle.std.specs.FinMap.{IsAntisymmetric, nat_cmp-IsAntisymmetric, slice_cmp-IsAntisymmetric}
use Rattle.dk_types.specs.declared.number.ObjectId.{ObjectId}
use Rattle.dk_types.specs.declared.number.TaskKey.{TaskKey}
use Rattle.dk_types.specs.Names.{bytes_cmp}
use Rattle.dk_map.proofs.Keys.{then-IsAntisymmetric}
use Rattle.dk_types.specs.Keys.{id_cmp, key_cmp}

pub ids_total : IsTotalOrder id_cmp
ids_total = then_total (on_total (λ (t : ObjectId). t.run.0) nat_cmp_total) (on_total (λ (t : ObjectId). t.k) nat_cmp_total)

pub ids_same : IsAntisymmetric id_cmp
ids_same = then-IsAntisymmetric (λ (t : ObjectId). t.run.0) (λ (t : ObjectId). t.k) nat_cmp-IsAntisymmetric nat_cmp-IsAntisymmetric (λ x y p q i. record { run = record { 0 = p i }; k = q i })

pub keys_total : IsTotalOrder key_cmp
keys_total = then_total (on_total (λ (t : TaskKey). t.run.0) nat_cmp_total) (on_total (λ (t : TaskKey). t.k) nat_cmp_total)

pub keys_same : IsAntisymmetric key_cmp
keys_same = then-IsAntisymmetric (λ (t : TaskKey). t.run.0) (λ (t : TaskKey). t.k) nat_cmp-IsAntisymmetric nat_cmp-IsAntisymmetric (λ x y p q i. record { run = record { 0 = p i }; k = q i })

pub names_total : IsTotalOrder bytes_cmp
names_total = nat_list_cmp_total

pub names_same : IsAntisymmetric bytes_cmp
names_same = slice_cmp-IsAntisymmetric nat_cmp-IsAntisymmetric
