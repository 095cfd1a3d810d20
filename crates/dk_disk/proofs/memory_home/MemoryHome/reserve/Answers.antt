use Rattle.std.proofs.Common.{refl}
use Rattle.dk_disk.proofs.Parts.{has_room, still_consistent}
use Rattle.dk_disk.proofs.memory_home.MemoryHome.reserve.Goals as goal

pub invariant_of-self : goal.invariant_of-self
invariant_of-self c = still_consistent c.self.inside.drives _ c.self.inside.undos _ c.self.inside.plan c.self.inside.plan c.self.inside.entrance _ c.make_all_room.ensures.kept c.make_all_room.ensures.spared refl c.self.invariant

pub returns-clause-kept : goal.returns-clause-kept
returns-clause-kept c =
    rw (← c.self.view_is) (has_room c.self.inside.drives _ c.self.inside.undos _ c.self.inside.plan c.self.inside.entrance _ c.make_all_room.ensures.kept c.make_all_room.ensures.spared c.make_all_room.ensures.opening.0 c.make_all_room.ensures.opening.1 c.make_all_room.ensures.opening.2)
