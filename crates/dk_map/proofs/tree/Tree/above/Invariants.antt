use Rattle.std.proofs.Common.{◌≡◌}
use Rattle.std.specs.Option.{option_map, option_or}
use Rattle.dk_map.specs.Entries.{first_above, IsOrdered}
use Rattle.dk_map.proofs.tree.Tree.above.Given as goal

abbrev pub invariant-descent : goal.invariant-descent
invariant-descent g l = record {
  ordered : IsOrdered g.K.Ord.cmp l.tree.0;
  same : option_or (first_above g.K.Ord.cmp l.key l.tree.0) (option_map (λ e. (e.0.now, e.1.now)) l.nearest) ≡ first_above g.K.Ord.cmp l.key l.initial.tree.0;
}
