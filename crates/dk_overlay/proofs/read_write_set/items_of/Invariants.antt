use Rattle.std.proofs.Common.{◌≡◌, ◌++◌, drop, map as each}
use Rattle.dk_types.specs.declared.item.Item.TheVariants as ask
use Rattle.dk_overlay.proofs.read_write_set.items_of.Given as goal

-- the items so far and those of what is left are those of all
abbrev pub invariant-loop-id : goal.invariant-loop-id
invariant-loop-id l = l.items.items ++ each (λ c. ask.Object c.0) (drop l.id-index l.changes) ≡ each (λ c. ask.Object c.0) l.changes
