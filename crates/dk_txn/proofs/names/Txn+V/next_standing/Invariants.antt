use Rattle.std.specs.FinMap.{entries}
use Rattle.std.specs.Option.{option_copied}
use Rattle.dk_txn.proofs.NextNames.{Passed, names_above}
use Rattle.dk_txn.proofs.names.Txn+V.next_standing.Given as goal

abbrev pub invariant-names : goal.invariant-names
invariant-names g l = Passed g.V.View.sights l.fn.self l.self (option_copied l.fn.after) l.cursor

abbrev pub decreases-names : goal.decreases-names
decreases-names g l = names_above l.cursor (entries l.self.set.names)
