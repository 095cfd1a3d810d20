use Rattle.std.proofs.Common.{◌∙◌}
use Rattle.dk_disk.specs.UndoRecord.{as_undo}
use Rattle.dk_disk.proofs.Unwindings.{unwound_begins, unwound_next, unwound_ends}
use Rattle.dk_disk.proofs.unwinding.Unwinding.of.Goals as goal

pub undos-init : goal.undos-init
undos-init c = unwound_begins c.args.undos.now.undos c.count-count.result c.args.zero.now c.args.one.now c.in_ok-past.past c.count-count.ensures c.in_ok-past.ensures

pub undos-preserved : goal.undos-preserved
undos-preserved c =
    unwound_next c.args.undos.now.undos c.count-count.result c.undos.done (as_undo c.undo.result) c.undos.past c.take_back.new.self c.undos-test.true c.undo.ensures.undo c.in_ok-take_back.ensures ∙ c.undos.invariant

pub returns : goal.returns
returns c = unwound_ends c.args.undos.now.undos c.count-count.result c.undos.done c.undos.past _ c.undos-test.false c.undos.invariant
