use Rattle.std.proofs.Common.{◌≡◌, arith, rules, length, vec_len}
use Rattle.std.proofs.lemmas.List.{take_more}
use Rattle.dk_disk.proofs.Fills.{filled_none, filled_more}
use Rattle.dk_disk.proofs.replay.filled.Goals as goal

pub ranges-2-init : goal.ranges-2-init
ranges-2-init c = let same : length c.args.synced.items ≡ vec_len c.args.synced = search rules in rw (c.in_ok-resize.ensures.items, ← same) (filled_none _ _ _)

pub ranges-2-preserved : goal.ranges-2-preserved
ranges-2-preserved c = filled_more _ _ _ c.args.touched.now c.ranges-2.range-index _ _ _ _ _ _ c.ranges-2.invariant c.ranges.size.fits (take_more _ _ _ (omega (arith, c.ranges-2-test.true))) c.min-start.ensures c.saturating_add.ensures c.min-end.ensures c.fill_range.ensures
