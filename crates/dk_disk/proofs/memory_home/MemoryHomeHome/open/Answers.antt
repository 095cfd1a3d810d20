use Rattle.dk_disk.proofs.Memories.{opens_elapses}
use Rattle.dk_disk.proofs.Parts.{opens}
use Rattle.dk_disk.proofs.memory_home.MemoryHomeHome.open.Goals as goal

pub returns-clause-opens : goal.returns-clause-opens
returns-clause-opens c =
    rw (← c.self.view_is, c.counted.ensures.outcome) (opens c.self.inside.drives c.self.inside.undos c.self.inside.plan c.counted.new.self c.self.inside.entrance c.enter-outcome.new.self c.args.dir.now c.counted.ensures.kept c.enter-outcome.ensures.fails c.enter-outcome.result (rw (← c.self.view_is) at c.requires) c.enter-outcome.ensures.room c.enter-outcome.ensures.opened c.enter-outcome.ensures.refused)

pub returns-clause-time : goal.returns-clause-time
returns-clause-time c = λ _. (opens_elapses _ _ _ _ (returns-clause-opens c) (rw (← c.self.view_is) c.self.invariant.numbered)).0
