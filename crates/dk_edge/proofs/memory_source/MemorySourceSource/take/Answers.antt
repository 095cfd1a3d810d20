use Rattle.std.proofs.Common.{ap, sym, rules}
use Rattle.dk_edge.specs.MemorySource.{Feed}
use Rattle.dk_edge.proofs.GivenBytes.{gives_from}
use Rattle.dk_edge.proofs.memory_source.MemorySourceSource.take.Goals as goal

pub returns-clause-bytes : goal.returns-clause-bytes
returns-clause-bytes c =
    gives_from c.self.inside.bytes.items _ _ _ c.self.inside.at c.self.inside.piece _ _ (ap (λ (f : Feed). f.left) (sym c.self.view_is)) (rw c.deref.ensures.value at c.copy_from_slice.ensures.after) (search rules) c.self.invariant.1 c.requires
