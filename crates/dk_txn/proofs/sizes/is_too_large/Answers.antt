use Rattle.std.proofs.Common.{arith}
use Rattle.dk_model.specs.Effects.{effects_length}
use Rattle.dk_txn.proofs.Counting.{counts_above}
use Rattle.dk_txn.proofs.sizes.is_too_large.Goals as goal

pub returns : goal.returns
returns c = counts_above c.total_bytes-total.result (effects_length c.args.effects.now) 16777216 (omega arith) c.total_bytes-total.ensures
