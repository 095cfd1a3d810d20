use Rattle.std.proofs.Common.{◌≡◌, ◌+◌, length, min, ap, subst, arith}
use Rattle.std.proofs.lemmas.List.{take_all}
use Rattle.dk_types.specs.Faults.{COUNT_END}
use Rattle.dk_model.specs.Effects.{list_length, object_length}
use Rattle.dk_txn.specs.Counting.{Counts}
use Rattle.dk_txn.proofs.Counting.{counts_itself, counts_turn}
use Rattle.dk_txn.proofs.sizes.objects_bytes.Goals as goal

pub loop-object-init : goal.loop-object-init
loop-object-init c = counts_itself

pub loop-object-preserved : goal.loop-object-preserved
loop-object-preserved c =
    let len = ap length c.as_slice.ensures in
    let sum : c.saturating_add-bytes.result ≡ min (c.loop-object.bytes + object_length c.loop-object-item.result) COUNT_END = omega (arith, len, c.saturating_add-bytes.ensures) in
    counts_turn object_length c.args.objects.now c.loop-object.object-index c.loop-object-item.result c.loop-object.bytes (object_length c.loop-object-item.result) c.saturating_add-bytes.result c.loop-object-test.true
    (ap object_length c.loop-object-item.is) sum c.loop-object.invariant

pub returns : goal.returns
returns c = subst (λ l. Counts c.loop-object.bytes (list_length object_length l)) (take_all c.loop-object.object-index c.args.objects.now c.loop-object-test.false) c.loop-object.invariant
