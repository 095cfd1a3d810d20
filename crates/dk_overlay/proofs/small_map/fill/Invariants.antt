use Rattle.std.proofs.Common.{◌≡◌, ◌+◌, ◌≤◌, ◌++◌, length}
use Rattle.std.specs.Vec.Iter.{into_iter_items}
use Rattle.dk_overlay.proofs.small_map.fill.Given as goal

-- what was put, and what is left to put, is all, and there is room for it
abbrev pub invariant-loop-key : goal.invariant-loop-key
invariant-loop-key g l = record {
  all : l.map.entries ++ into_iter_items l.key-iterator ≡ into_iter_items l.initial.key-iterator;
  room : l.fn.map.spare + length (into_iter_items l.key-iterator) ≤ l.map.spare + length (into_iter_items l.initial.key-iterator);
}
