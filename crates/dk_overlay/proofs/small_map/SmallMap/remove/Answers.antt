use Rattle.std.proofs.Common.{subst}
use Rattle.dk_map.specs.Entries.{IsOrdered}
use Rattle.dk_map.proofs.Counts.{ordered_without}
use Rattle.dk_overlay.specs.SmallMaps.{all_entries}
use Rattle.dk_overlay.proofs.small_map.SmallMap.remove.Goals as goal

pub invariant_of-self : goal.invariant_of-self
invariant_of-self g c =
    let few : IsOrdered g.K.Ord.cmp c.self.inside.few.items = subst (λ m. IsOrdered g.K.Ord.cmp (all_entries c.self.inside.few.items m)) c.in-None.is c.self.invariant in
    rw (c.in-None.is, c.remove_among.ensures) (ordered_without g.met.K.Ord.total c.args.key.now c.self.inside.few.items few)

pub returns-in-None-clause-ordered : goal.returns-in-None-clause-ordered
returns-in-None-clause-ordered g c =
    let few : IsOrdered g.K.Ord.cmp c.self.inside.few.items = subst (λ m. IsOrdered g.K.Ord.cmp (all_entries c.self.inside.few.items m)) c.in-None.is c.self.invariant in
    rw (c.in-None.is, c.remove_among.ensures) (ordered_without g.met.K.Ord.total c.args.key.now c.self.inside.few.items few)
