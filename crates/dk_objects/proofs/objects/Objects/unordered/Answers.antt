use Rattle.std.proofs.Common.{ap, subst, IsPermutation}
use Rattle.dk_map.proofs.Seen.{entries_seen}
use Rattle.dk_objects.proofs.objects.Objects.unordered.Goals as goal

pub returns : goal.returns
returns c = subst (IsPermutation _) (entries_seen _ (ap (λ s. s.objects) c.self.view_is) c.self.invariant) c.in_ok-unordered.ensures
