use Rattle.std.proofs.Common.{◌≡◌, ℕ, ◌<◌, Some, slice_get}
use Rattle.dk_types.specs.declared.item.Read.{Read}
use Rattle.dk_overlay.proofs.reads.read_among.Given as goal

-- none of those before is of the item
abbrev pub invariant-loop-known : goal.invariant-loop-known
invariant-loop-known l = (i : ℕ) (read : Read) → i < l.known-index → slice_get l.list i ≡ Some (l.item, read) → ⊥
