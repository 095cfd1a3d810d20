use Rattle.std.proofs.Common.{sym, arith}
use Rattle.dk_map.proofs.Counts.{ordered_without, length_without_one, length_without_none, found_of}
use Rattle.dk_map.proofs.Heights.{low_fits}
use Rattle.dk_map.proofs.map.OrderedMap.remove.Goals as goal

pub prove-unreachable-requires : goal.prove-unreachable-requires
prove-unreachable-requires g c =
    let small = c.self.inside.cells.small in
    let low = low_fits _ _ c.height.ensures.low (omega (arith, c.self.invariant.1, c.self.invariant.2, small)) in
    absurd (omega arith)

pub returns-then-is_some-clause-ordered : goal.returns-then-is_some-clause-ordered
returns-then-is_some-clause-ordered g c = rw c.remove.ensures.entries (ordered_without g.met.K.Ord.total _ _ c.self.invariant.0)

pub returns-else-is_some-clause-ordered : goal.returns-else-is_some-clause-ordered
returns-else-is_some-clause-ordered g c = rw c.remove.ensures.entries (ordered_without g.met.K.Ord.total _ _ c.self.invariant.0)

pub invariant_of-self : goal.invariant_of-self
invariant_of-self g c =
    let e = c.remove.ensures in
    let some = found_of _ _ e.value (sym c.if-is_some.ensures) in
    let spare = rw (← c.if-is_some.ensures) at e.spare in
    let len = length_without_one g.met.K.Ord.total _ _ c.self.invariant.0 some in
    rw e.entries (ordered_without g.met.K.Ord.total _ _ c.self.invariant.0, omega arith, omega arith)

pub invariant_of-self-else-is_some : goal.invariant_of-self-else-is_some
invariant_of-self-else-is_some g c =
    let e = c.remove.ensures in
    let none = found_of _ _ e.value (sym c.if-is_some.ensures) in
    let spare = rw (← c.if-is_some.ensures) at e.spare in
    let len = length_without_none g.met.K.Ord.total _ _ c.self.invariant.0 none in
    rw e.entries (ordered_without g.met.K.Ord.total _ _ c.self.invariant.0, omega arith, omega arith)
