use Rattle.std.proofs.Common.{rules}
use Rattle.dk_disk.specs.UndoRecord.{undo_for}
use Rattle.dk_disk.proofs.Undos.{traced_pushed, undos_pushed}
use Rattle.dk_disk.proofs.undo_record.UndoRecord.push.Goals as goal

pub invariant_of-self : goal.invariant_of-self
invariant_of-self c = rw (c.push_reserved.ensures.items, c.keep-entry.ensures.put) (traced_pushed _ _ _ _ c.self.invariant (rw c.keep-entry.ensures.put at c.keep-entry.ensures.within))

pub returns : goal.returns
returns c = record {
  pushed = rw (c.push_reserved.ensures.items, c.keep-entry.ensures.put, ← c.self.view_is) (undos_pushed _ _ _ _ (undo_for c.args.call.now.number c.args.call.now.side c.args.call.now.step c.args.call.now.is_made c.args.file.now) c.self.invariant (rw c.keep-entry.ensures.put at c.keep-entry.ensures.undo));
  calls_left = search rules;
  bytes_left = search rules;
}
