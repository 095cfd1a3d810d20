use Rattle.std.proofs.Common.{take}
use Rattle.dk_model.specs.Effects.{list_length, object_length}
use Rattle.dk_txn.specs.Counting.{Counts}
use Rattle.dk_txn.proofs.sizes.objects_bytes.Given as goal

-- the items so far are counted
abbrev pub invariant-loop-object : goal.invariant-loop-object
invariant-loop-object l = Counts l.bytes (list_length object_length (take l.object-index l.objects))
