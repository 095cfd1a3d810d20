-- The order of ids is total, and only equal ids tie.
use Rattle.std.specs.Cmp.{IsTotalOrder, on_total, then_total, nat_cmp_total}
use Rattle.std.specs.FinMap.{IsAntisymmetric, nat_cmp-IsAntisymmetric}
use Rattle.dk_types.specs.declared.number.ObjectId.{ObjectId}
use Rattle.dk_map.proofs.Keys.{then-IsAntisymmetric}
use Rattle.dk_model.specs.Keys.{id_cmp}

pub id_total : IsTotalOrder id_cmp
id_total = then_total (on_total (λ (id : ObjectId). id.run.0) nat_cmp_total) (on_total (λ (id : ObjectId). id.k) nat_cmp_total)

pub id_same : IsAntisymmetric id_cmp
id_same = then-IsAntisymmetric (λ (id : ObjectId). id.run.0) (λ (id : ObjectId). id.k) nat_cmp-IsAntisymmetric nat_cmp-IsAntisymmetric (λ x y p q i. record { run = record { 0 = p i }; k = q i })
