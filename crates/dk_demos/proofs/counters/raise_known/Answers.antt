use Rattle.std.proofs.lemmas.Bool.{le-ltb}
use Rattle.dk_txn.proofs.Kit.{if_false_does, give_does}
use Rattle.dk_demos.proofs.counters.raise_known.Goals as goal

pub returns-then-number-ge-COUNTERS : goal.returns-then-number-ge-COUNTERS
returns-then-number-ge-COUNTERS g c = if_false_does _ (le-ltb _ _ c.if-number-ge-COUNTERS.true) give_does
