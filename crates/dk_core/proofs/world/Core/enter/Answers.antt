use Rattle.std.proofs.Common.{refl, ap, is_some, arith}
use Rattle.dk_model.specs.DurableWorlds.{DurableWorld}
use Rattle.dk_core.proofs.Drawn.{numbers_same, numbers_committed, numbers_there, there_by}
use Rattle.dk_core.proofs.Committed.{commits, room_of}
use Rattle.dk_core.proofs.world.Core.enter.Goals as goal

pub commit-seq-requires-clause-room : goal.commit-seq-requires-clause-room
commit-seq-requires-clause-room c = room_of c.args.self.now.world.room c.args.finished.effects c.requires.room

pub commit-seq-requires-clause-number : goal.commit-seq-requires-clause-number
commit-seq-requires-clause-number c =
    let counted = c.args.self.now.numbers.1.0 in
    let few = c.args.self.now.numbers.1.1 in
    omega (arith, counted, few)

pub invariant_of-self : goal.invariant_of-self
invariant_of-self c =
    let now = c.args.self.now in
    let ended = numbers_committed now.world.commits now.claims now.connections.connections now.numbers c.args.claimed.run (ap is_some c.requires.granted) in
    record { numbers = numbers_same _ _ _ _ _ _ (ap (λ (d : DurableWorld). d.commits) c.commit-seq.ensures.durable) c.end.ensures refl ended }

pub invariant_of-self-2 : goal.invariant_of-self-2
invariant_of-self-2 c =
    let freed = c.free_task.new.self in
    record { numbers = numbers_there freed.world.commits freed.claims freed.connections.connections c.deliver.new.self.connections (there_by _ freed.connections.connections c.deliver.new.self.connections c.deliver.ensures.marks) freed.numbers }

pub returns-clause-commits : goal.returns-clause-commits
returns-clause-commits c =
    commits c.args.self.now c.args.claimed c.args.finished c.commit-seq.result c.commit-seq.new.self c.end.new.self _ c.free_task.new.self c.deliver.new.self _ c.args.deliveries
    c.requires.granted c.requires.ready.stand c.requires.ready.messages c.commit-seq.ensures.seq c.commit-seq.ensures.steps c.end.ensures c.free_task.ensures c.deliver.ensures.world c.deliver.ensures.marks c.deliver.ensures.swept
