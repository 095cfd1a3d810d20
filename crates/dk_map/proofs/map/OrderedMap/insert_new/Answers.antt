use Rattle.std.proofs.Common.{◌≡◌, sym, ap, subst, ◌∙◌, None, is_some, arith}
use Rattle.dk_map.specs.Entries.{find}
use Rattle.dk_map.specs.OrderedMap.{Ordered}
use Rattle.dk_map.proofs.Counts.{ordered_put, length_put_new}
use Rattle.dk_map.proofs.Heights.{low_fits}
use Rattle.dk_map.proofs.map.OrderedMap.insert_new.Goals as goal

pub prove-unreachable-requires : goal.prove-unreachable-requires
prove-unreachable-requires g c =
    let small = c.self.inside.cells.small in
    let low = low_fits _ _ c.height.ensures.low (omega (arith, c.self.invariant.1, c.self.invariant.2, small)) in
    absurd (omega arith)

pub insert-requires : goal.insert-requires
insert-requires g c = record {
  ordered = c.self.invariant.0;
  absent = subst (λ (m : Ordered _ _). find g.K.Ord.cmp c.args.key m.entries ≡ None) (sym c.self.view_is) c.requires.absent;
  room = omega (arith, ap (λ (m : Ordered _ _). m.spare) c.self.view_is, c.requires.room);
  fits = omega arith;
}

pub invariant_of-self : goal.invariant_of-self
invariant_of-self g c =
    let e = c.insert.ensures in
    let none = ap is_some (subst (λ (m : Ordered _ _). find g.K.Ord.cmp c.args.key m.entries ≡ None) (sym c.self.view_is) c.requires.absent) in
    let len = length_put_new g.met.K.Ord.total _ _ c.self.invariant.0 c.args.value none in
    rw e.put (ordered_put g.met.K.Ord.total _ _ c.self.invariant.0 _, omega arith, omega arith)

pub returns-clause-ordered : goal.returns-clause-ordered
returns-clause-ordered g c = rw c.insert.ensures.put (ordered_put g.met.K.Ord.total _ _ c.self.invariant.0 _)
