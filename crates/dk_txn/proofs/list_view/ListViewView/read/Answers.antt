use Rattle.std.proofs.Common.{refl, sym, ◌∙◌}
use Rattle.dk_txn.proofs.Listing.{looked_on}
use Rattle.dk_txn.proofs.list_view.ListViewView.read.Goals as goal

pub loop-known-init : goal.loop-known-init
loop-known-init c = refl

pub loop-known-preserved : goal.loop-known-preserved
loop-known-preserved c = looked_on _ _ c.loop-known-item.result _ _ c.loop-known-test.true c.loop-known-item.is (sym c.is_same_item.ensures ∙ c.if-is_same_item.false) c.loop-known.invariant
