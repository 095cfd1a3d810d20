use Rattle.std.proofs.Common.{◌≤◌}
use Rattle.dk_disk.specs.Memory.{memory_of}
use Rattle.dk_types.specs.FaultPlan.{counted_up}
use Rattle.dk_disk.proofs.Memories.{looked_elapses, looked_consistent}
use Rattle.dk_disk.proofs.memory_home.MemoryHome.look.Goals as goal

pub invariant_of-self : goal.invariant_of-self
invariant_of-self c =
    let later : c.self.inside.plan.calls ≤ counted_up c.self.inside.plan.calls = rw c.call.ensures.plan at c.call.ensures.later in
    rw c.call.ensures.plan (looked_consistent (memory_of c.self.inside.drives c.self.inside.undos c.self.inside.plan c.self.inside.entrance) c.self.inside.drives later c.self.invariant)

pub returns-clause-files : goal.returns-clause-files
returns-clause-files c =
    let later : c.self.inside.plan.calls ≤ counted_up c.self.inside.plan.calls = rw c.call.ensures.plan at c.call.ensures.later in
    rw (← c.self.view_is, c.call.ensures.plan) (looked_elapses (memory_of c.self.inside.drives c.self.inside.undos c.self.inside.plan c.self.inside.entrance) later c.self.invariant.numbered).1

pub returns-clause-time : goal.returns-clause-time
returns-clause-time c =
    let later : c.self.inside.plan.calls ≤ counted_up c.self.inside.plan.calls = rw c.call.ensures.plan at c.call.ensures.later in
    rw (← c.self.view_is, c.call.ensures.plan) (looked_elapses (memory_of c.self.inside.drives c.self.inside.undos c.self.inside.plan c.self.inside.entrance) later c.self.invariant.numbered).0
