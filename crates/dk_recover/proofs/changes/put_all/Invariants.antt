use Rattle.std.proofs.Common.{◌≡◌, ◌≤◌, length}
use Rattle.std.specs.Vec.Iter.{into_iter_items}
use Rattle.dk_recover.specs.Changes.{with_put}
use Rattle.dk_recover.proofs.changes.put_all.Given as goal

-- what is left to put from here is all from the start, and there is room for it
abbrev pub invariant-loop-key : goal.invariant-loop-key
invariant-loop-key g l =
    (with_put g.K.Ord.cmp (into_iter_items l.key-iterator) l.map.entries ≡ with_put g.K.Ord.cmp (into_iter_items l.initial.key-iterator) l.fn.map.entries)
    × (length (into_iter_items l.key-iterator) ≤ l.map.spare)
