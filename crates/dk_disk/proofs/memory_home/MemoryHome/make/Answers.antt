use Rattle.std.proofs.Common.{rules, refl, inl, inr, ap}
use Rattle.dk_disk.specs.Memory.{past_of, memory_of}
use Rattle.dk_disk.specs.Step.{IsWithin}
use Rattle.dk_disk.specs.DiskHistories.{now}
use Rattle.dk_types.specs.FaultPlan.{Plan}
use Rattle.dk_disk.proofs.Memories.{refused_elapses, changes_elapses, changes_done, changes_failed}
use Rattle.dk_disk.proofs.Parts.{refused, recorded, still_consistent}
use Rattle.dk_disk.proofs.Made.{fits, consistent}
use Rattle.dk_disk.proofs.memory_home.MemoryHome.make.Goals as goal

pub returns-then-is_err-clause-changes : goal.returns-then-is_err-clause-changes
returns-then-is_err-clause-changes c =
    rw (← c.self.view_is, c.fault.ensures.plan) (inr (refused c.self.inside.drives _ c.self.inside.undos _ c.self.inside.plan c.self.inside.entrance c.args.side _ c.make_room.ensures.kept c.make_room.ensures.spared (search rules), refl))

pub returns-then-is_err-clause-time : goal.returns-then-is_err-clause-time
returns-then-is_err-clause-time c = rw (← c.self.view_is, c.fault.ensures.plan) (refused_elapses _ _ _ (refused c.self.inside.drives c.make_room.new.drives c.self.inside.undos c.make_room.new.undos c.self.inside.plan c.self.inside.entrance c.args.side c.size.result c.make_room.ensures.kept c.make_room.ensures.spared (search rules)) c.self.invariant.numbered).0

pub invariant_of-self : goal.invariant_of-self
invariant_of-self c = still_consistent c.self.inside.drives c.make_room.new.drives c.self.inside.undos c.make_room.new.undos c.self.inside.plan _ c.self.inside.entrance c.self.inside.entrance c.make_room.ensures.kept c.make_room.ensures.spared (ap (λ (p : Plan). p.calls) c.fault.ensures.plan) c.self.invariant

pub returns-clause-changes : goal.returns-clause-changes
returns-clause-changes c =
    rw (← c.self.view_is, c.carry_out.ensures.plan) (inl (recorded c.self.inside.drives c.make_room.new.drives _ c.self.inside.undos c.make_room.new.undos _ c.self.inside.plan c.self.inside.entrance c.args.side c.args.step.now c.make_room.ensures.kept c.make_room.ensures.spared (search rules) (search rules) c.carry_out.ensures.takes c.carry_out.ensures.recorded c.carry_out.ensures.this c.carry_out.ensures.other, c.carry_out.ensures.fails))

pub invariant_of-self-2 : goal.invariant_of-self-2
invariant_of-self-2 c =
    let within : IsWithin c.args.step.now (now (past_of (memory_of c.self.inside.drives c.self.inside.undos c.self.inside.plan c.self.inside.entrance)) c.args.side).reads = rw (← c.self.view_is) at c.requires in
    let rec = recorded c.self.inside.drives c.make_room.new.drives c.carry_out.new.drives c.self.inside.undos c.make_room.new.undos c.carry_out.new.undos c.self.inside.plan c.self.inside.entrance c.args.side c.args.step.now c.make_room.ensures.kept c.make_room.ensures.spared (search rules) (search rules) c.carry_out.ensures.takes c.carry_out.ensures.recorded c.carry_out.ensures.this c.carry_out.ensures.other in
    rw c.carry_out.ensures.plan (consistent c.self.inside.drives c.make_room.new.drives c.carry_out.new.drives c.self.inside.undos c.carry_out.new.undos c.self.inside.plan c.self.inside.entrance c.args.side c.args.step.now _ rec c.self.invariant c.make_room.ensures.kept within c.carry_out.ensures.this c.carry_out.ensures.other)

pub returns-clause-done : goal.returns-clause-done
returns-clause-done c = changes_done _ _ _ _ _ _ (returns-clause-changes c) (rw (← c.self.view_is) c.self.invariant.numbered) (fits _ _ c.requires)

pub returns-clause-failed : goal.returns-clause-failed
returns-clause-failed c = changes_failed _ _ _ _ _ _ (returns-clause-changes c) (rw (← c.self.view_is) c.self.invariant.numbered)

pub returns-clause-time : goal.returns-clause-time
returns-clause-time c = changes_elapses _ _ _ _ _ _ (returns-clause-changes c) (rw (← c.self.view_is) c.self.invariant.numbered)

pub returns-clause-cause : goal.returns-clause-cause
returns-clause-cause c = rw (← c.self.view_is) c.carry_out.ensures.cause

pub returns-clause-most : goal.returns-clause-most
returns-clause-most c = c.carry_out.ensures.most
