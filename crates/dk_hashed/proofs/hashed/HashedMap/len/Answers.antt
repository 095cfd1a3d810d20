use Rattle.std.proofs.Common.{sym, ap, subst, ◌∙◌, length, arith}
use Rattle.dk_map.specs.Entries.{IsOrdered}
use Rattle.dk_map.specs.OrderedMap.{Ordered}
use Rattle.dk_hashed.proofs.InOrder.{length-in_order, ordered-in_order}
use Rattle.dk_hashed.proofs.hashed.HashedMap.len.Goals as goal

pub returns-clause-len : goal.returns-clause-len
returns-clause-len g c = c.len.ensures.len ∙ sym (length-in_order g.met.K.Ord.total _ g.met.K.Ord.matches_eq _ c.self.invariant.1) ∙ ap (λ (m : Ordered _ _). length m.entries) c.self.view_is

pub returns-clause-ordered : goal.returns-clause-ordered
returns-clause-ordered g c = subst (λ (m : Ordered _ _). IsOrdered g.K.Ord.cmp m.entries) c.self.view_is (ordered-in_order _ _)

pub returns-clause-small : goal.returns-clause-small
returns-clause-small g c =
    let same = length-in_order g.met.K.Ord.total _ g.met.K.Ord.matches_eq _ c.self.invariant.1 in
    omega (arith, same, ap (λ (m : Ordered _ _). length m.entries) c.self.view_is, ap (λ (m : Ordered _ _). m.spare) c.self.view_is, c.self.invariant.3)
