use Rattle.std.proofs.Common.{◌≡◌, drop}
use Rattle.dk_txn.specs.Listing.{read_in}
use Rattle.dk_txn.proofs.list_view.ListViewView.read.Given as goal

-- what is left has the item's read
abbrev pub invariant-loop-known : goal.invariant-loop-known
invariant-loop-known l = read_in l.known-items l.item ≡ read_in (drop l.known-index l.known-items) l.item
