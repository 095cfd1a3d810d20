use Rattle.std.proofs.Common.{ap}
use Rattle.std.specs.Cmp.Lexicographic.{nat_list_cmp_total}
use Rattle.std.specs.FinMap.{nat_cmp-IsAntisymmetric, slice_cmp-IsAntisymmetric}
use Rattle.dk_map.proofs.Seen.{removed_seen, without_seen}
use Rattle.dk_names.proofs.names.Names.remove.Goals as goal

pub returns-clause-names : goal.returns-clause-names
returns-clause-names c = without_seen nat_list_cmp_total _ (ap (λ s. s.names) c.self.view_is) c.self.invariant (slice_cmp-IsAntisymmetric nat_cmp-IsAntisymmetric) _ _ c.remove.ensures.entries

pub returns-clause-spare : goal.returns-clause-spare
returns-clause-spare c =
    let found = removed_seen _ (ap (λ s. s.names) c.self.view_is) c.self.invariant _ _ c.remove.ensures.value in
    rw (← found, ← ap (λ s. s.spare) c.self.view_is) c.remove.ensures.spare
