use Rattle.std.proofs.Common.{ap}
use Rattle.dk_objects.proofs.Ids.{id_total, id_same}
use Rattle.dk_map.proofs.Seen.{without_seen}
use Rattle.dk_objects.proofs.objects.Objects.remove.Goals as goal

pub returns-clause-objects : goal.returns-clause-objects
returns-clause-objects c = without_seen id_total _ (ap (λ s. s.objects) c.self.view_is) c.self.invariant id_same _ _ c.remove.ensures.entries

pub returns-clause-spare : goal.returns-clause-spare
returns-clause-spare c = rw (← ap (λ s. s.spare) c.self.view_is) c.remove.ensures.kept
