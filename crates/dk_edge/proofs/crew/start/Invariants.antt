use Rattle.std.proofs.Common.{◌≡◌, ◌++◌, map}
use Rattle.std.specs.Vec.Iter.{into_iter_items}
use Rattle.dk_edge.proofs.crew.start.Given as goal

abbrev pub invariant-loop-member : goal.invariant-loop-member
invariant-loop-member g l = map (λ h. h.promise.0.value) l.hands.items ++ into_iter_items l.member-iterator ≡ l.fn.members.items
