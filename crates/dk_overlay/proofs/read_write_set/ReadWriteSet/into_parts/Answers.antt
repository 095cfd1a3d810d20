use Rattle.std.proofs.Common.{ap, subst}
use Rattle.dk_overlay.specs.Asked.{IsOnce}
use Rattle.dk_overlay.specs.ReadsAndWrites.{ReadsAndWrites}
use Rattle.dk_overlay.proofs.read_write_set.ReadWriteSet.into_parts.Goals as goal

pub returns-clause-once : goal.returns-clause-once
returns-clause-once c = subst IsOnce (ap (λ (t : ReadsAndWrites). t.reads) c.self.view_is) c.into_list.ensures.once
