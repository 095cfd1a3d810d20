use Rattle.std.proofs.Common.{◌≡◌, ◌++◌, take, flat_map, string_bytes}
use Rattle.dk_inspect.specs.Items.{later_text}
use Rattle.dk_inspect.proofs.items.push_later.Given as goal

-- the items so far are written
abbrev pub invariant-loop-item : goal.invariant-loop-item
invariant-loop-item g l = string_bytes l.out ≡ string_bytes l.fn.out ++ flat_map (later_text g.T.ItemText.shown) (take l.item-index l.items)
