use Rattle.std.proofs.Common.{take}
use Rattle.dk_model.specs.Effects.{list_length, name_length}
use Rattle.dk_txn.specs.Counting.{Counts}
use Rattle.dk_txn.proofs.sizes.names_bytes.Given as goal

-- the items so far are counted
abbrev pub invariant-loop-name : goal.invariant-loop-name
invariant-loop-name l = Counts l.bytes (list_length name_length (take l.name-index l.names))
