use Rattle.std.proofs.Common.{subst}
use Rattle.dk_map.specs.Entries.{IsOrdered}
use Rattle.dk_map.proofs.Counts.{ordered_put}
use Rattle.dk_overlay.specs.SmallMaps.{all_entries}
use Rattle.dk_overlay.proofs.small_map.SmallMap.insert.Goals as goal

pub invariant_of-self : goal.invariant_of-self
invariant_of-self g c =
    let few : IsOrdered g.K.Ord.cmp c.self.inside.few.items = subst (λ m. IsOrdered g.K.Ord.cmp (all_entries c.self.inside.few.items m)) c.in-None.is c.self.invariant in
    rw (c.in-None.is, c.put_among.ensures.entries) (ordered_put g.met.K.Ord.total c.args.key c.self.inside.few.items few c.args.value)

pub returns-in-None-clause-ordered : goal.returns-in-None-clause-ordered
returns-in-None-clause-ordered g c =
    let few : IsOrdered g.K.Ord.cmp c.self.inside.few.items = subst (λ m. IsOrdered g.K.Ord.cmp (all_entries c.self.inside.few.items m)) c.in-None.is c.self.invariant in
    rw (c.in-None.is, c.put_among.ensures.entries) (ordered_put g.met.K.Ord.total c.args.key c.self.inside.few.items few c.args.value)
