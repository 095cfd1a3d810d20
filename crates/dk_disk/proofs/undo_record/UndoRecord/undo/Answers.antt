use Rattle.std.proofs.Common.{◌+◌, ◌≤◌, length, rules}
use Rattle.dk_disk.proofs.Undos.{undo_fits, undo_found, part_is, part_length}
use Rattle.dk_disk.proofs.undo_record.UndoRecord.undo.Goals as goal

pub overflow_add-result : goal.overflow_add-result
overflow_add-result c =
    let fits = undo_fits c.self.inside.bytes.items c.self.inside.entries.items c.args.at c.index-entry.result.now (rw (← c.self.view_is) at c.requires) c.index-entry.ensures c.self.invariant in
    let ends : c.index-entry.result.now.start + c.index-entry.result.now.size ≤ length c.deref.result.now = rw c.deref.ensures.value fits.0 in
    search rules

pub slice_bounds-result-end : goal.slice_bounds-result-end
slice_bounds-result-end c =
    let fits = undo_fits c.self.inside.bytes.items c.self.inside.entries.items c.args.at c.index-entry.result.now (rw (← c.self.view_is) at c.requires) c.index-entry.ensures c.self.invariant in
    rw c.deref.ensures.value fits.0

pub returns-clause-undo : goal.returns-clause-undo
returns-clause-undo c =
    rw (← c.self.view_is, c.deref.ensures.value, part_is c.self.inside.bytes.items c.index-entry.result.now.start c.index-entry.result.now.size)
    (undo_found c.self.inside.bytes.items c.self.inside.entries.items c.args.at c.index-entry.result.now (rw (← c.self.view_is) at c.requires) c.index-entry.ensures)

pub returns-clause-range : goal.returns-clause-range
returns-clause-range c =
    let fits = undo_fits c.self.inside.bytes.items c.self.inside.entries.items c.args.at c.index-entry.result.now (rw (← c.self.view_is) at c.requires) c.index-entry.ensures c.self.invariant in
    rw (c.deref.ensures.value, part_length c.self.inside.bytes.items c.index-entry.result.now.start c.index-entry.result.now.size fits.0) fits.1
