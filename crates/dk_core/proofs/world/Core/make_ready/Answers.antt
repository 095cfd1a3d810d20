use Rattle.std.proofs.Common.{None, subst, ◌∙◌}
use Rattle.dk_core.specs.Changes.{TellsConflict}
use Rattle.dk_core.proofs.Committed.{more_room, stays_with, stand_with}
use Rattle.dk_core.proofs.world.Core.make_ready.Goals as goal

pub returns-in_err-reserve_for-clause-stays : goal.returns-in_err-reserve_for-clause-stays
returns-in_err-reserve_for-clause-stays c = stays_with c.args.self.now _ (more_room c.args.self.now c.reserve_for.new.self _ c.reserve_for.ensures.same c.reserve_for.ensures.kept)

pub returns-clause-ready : goal.returns-clause-ready
returns-clause-ready c =
    let same = c.reserve_for.ensures.same in
    let all = subst (TellsConflict c.args.self.now.world c.reads.result.now) c.in_default.is c.in_ok-changed.ensures in (
      record {
        stand = stand_with c.args.self.now.world c.reserve_for.new.self c.args.finished.now.reads.items same (subst (λ rs. TellsConflict c.args.self.now.world rs None) c.reads.ensures all);
        messages = c.in_ok-deliveries.ensures ∙ c.outs.ensures;
      },
      c.in_ok-reserve_for.ensures.room,
    )

pub returns-clause-stays : goal.returns-clause-stays
returns-clause-stays c = stays_with c.args.self.now _ (more_room c.args.self.now c.reserve_for.new.self _ c.reserve_for.ensures.same c.reserve_for.ensures.kept)
