use Rattle.std.proofs.Common.{◌≡◌, ◌++◌, length, take}
use Rattle.std.specs.List.{flat_map}
use Rattle.dk_types.specs.Fields.{u32_spelling}
use Rattle.dk_wire.proofs.form.put_list.Given as goal

abbrev pub invariant-loop-item : goal.invariant-loop-item
invariant-loop-item g l = l.writer ≡ l.fn.writer ++ (u32_spelling (length l.items) ++ flat_map g.F.Form.spelling (take l.item-index l.items))
