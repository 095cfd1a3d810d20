use Rattle.std.proofs.Common.{◌≡◌}
use Rattle.dk_map.specs.Entries.{find, IsOrdered}
use Rattle.dk_map.proofs.tree.Tree.get.Given as goal

abbrev pub invariant-descent : goal.invariant-descent
invariant-descent g l = record {
  ordered : IsOrdered g.K.Ord.cmp l.tree.0;
  same : find g.K.Ord.cmp l.key l.tree.0 ≡ find g.K.Ord.cmp l.key l.initial.tree.0;
}
