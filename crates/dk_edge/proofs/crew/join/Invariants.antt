use Rattle.std.proofs.Common.{◌≤◌, ◌+◌, map, length, vec_capacity}
use Rattle.std.specs.Vec.Iter.{into_iter_items}
use Rattle.dk_edge.proofs.Crews.{Joined}
use Rattle.dk_edge.proofs.crew.join.Given as goal

abbrev pub invariant-loop-hand : goal.invariant-loop-hand
invariant-loop-hand g l = record {
  joined : Joined g.W.Activity.may_give (map (λ h. h.promise.0.value) l.fn.hands.items) (map (λ h. h.promise.0.value) (into_iter_items l.hand-iterator)) l.dones.items;
  room : length l.dones.items + length (into_iter_items l.hand-iterator) ≤ vec_capacity l.dones;
}
