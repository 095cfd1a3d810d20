use Rattle.std.proofs.Common.{◌≡◌, ◌-◌, None}
use Rattle.dk_types.specs.Lists.{items_at}
use Rattle.dk_wire.proofs.Loop.{last_of, with_front}
use Rattle.dk_wire.proofs.form.take_items.Given as goal

abbrev pub invariant-loop : goal.invariant-loop
invariant-loop g l = with_front l.items.items (items_at g.F.Form.reading (last_of l.items.items) (l.count - l.counter) l.reader) ≡ items_at g.F.Form.reading None l.count l.fn.reader
