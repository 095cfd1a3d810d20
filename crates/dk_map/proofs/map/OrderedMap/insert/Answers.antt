use Rattle.std.proofs.Common.{◌≡◌, ◌<◌, sym, ap, subst, ◌∙◌, None}
use Rattle.dk_map.specs.Entries.{find}
use Rattle.dk_map.specs.OrderedMap.{Ordered}
use Rattle.dk_map.proofs.Counts.{ordered_put}
use Rattle.dk_map.proofs.map.OrderedMap.insert.Goals as goal

pub invariant_of-self : goal.invariant_of-self
invariant_of-self g c =
    let s = c.if-swap.ensures in
    (rw s.swapped.1 (ordered_put g.met.K.Ord.total _ _ c.self.invariant.0 _), c.self.invariant.1 ∙ sym s.len, c.self.invariant.2)

pub returns-then-swap-clause-ordered : goal.returns-then-swap-clause-ordered
returns-then-swap-clause-ordered g c = rw c.if-swap.ensures.swapped.1 (ordered_put g.met.K.Ord.total _ _ c.self.invariant.0 _)

pub insert_new-requires : goal.insert_new-requires
insert_new-requires g c =
    let s = c.if-swap.ensures in
    record {
      absent = ap (find g.K.Ord.cmp c.args.key) s.swapped.2 ∙ s.swapped.0;
      room = subst (λ (m : Ordered _ _). find g.K.Ord.cmp c.args.key m.entries ≡ None → 0 < m.spare) (sym c.self.view_is) c.requires.room s.swapped.0;
    }
