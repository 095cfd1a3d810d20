use Rattle.std.proofs.Common.{ℕ, List}
use Rattle.std.specs.Vec.Iter.{into_iter_items}
use Rattle.dk_types.specs.declared.number.ObjectId.{ObjectId}
use Rattle.dk_txn.proofs.SavedAll.{LooksOn}
use Rattle.dk_txn.proofs.pairs.Txn+V.rewritten_all.Given as goal

-- nothing is changed, and the changes so far leave the objects so far with their bytes
abbrev pub invariant-loop-id : goal.invariant-loop-id
invariant-loop-id g l = (front : List (ObjectId × List ℕ)) × LooksOn g.V.View.sights l.fn.self l.self front (into_iter_items l.id-iterator) (into_iter_items l.initial.id-iterator) l.changes.items
