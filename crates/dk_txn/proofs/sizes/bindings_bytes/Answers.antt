use Rattle.std.proofs.Common.{◌≡◌, ◌+◌, length, min, ap, subst, arith}
use Rattle.std.proofs.lemmas.List.{take_all}
use Rattle.dk_types.specs.Faults.{COUNT_END}
use Rattle.dk_model.specs.Effects.{list_length, binding_length}
use Rattle.dk_txn.specs.Counting.{Counts}
use Rattle.dk_txn.proofs.Counting.{counts_itself, counts_turn}
use Rattle.dk_txn.proofs.sizes.bindings_bytes.Goals as goal

pub loop-name-init : goal.loop-name-init
loop-name-init c = counts_itself

pub loop-name-preserved : goal.loop-name-preserved
loop-name-preserved c =
    let len = ap length c.as_slice.ensures.value in
    let sum : c.saturating_add-bytes.result ≡ min (c.loop-name.bytes + binding_length c.loop-name-item.result) COUNT_END = omega (arith, len, c.saturating_add-bytes.ensures) in
    counts_turn binding_length c.args.bindings.now c.loop-name.name-index c.loop-name-item.result c.loop-name.bytes (binding_length c.loop-name-item.result) c.saturating_add-bytes.result c.loop-name-test.true
    (ap binding_length c.loop-name-item.is) sum c.loop-name.invariant

pub returns : goal.returns
returns c = subst (λ l. Counts c.loop-name.bytes (list_length binding_length l)) (take_all c.loop-name.name-index c.args.bindings.now c.loop-name-test.false) c.loop-name.invariant
