use Rattle.std.proofs.Common.{◌≡◌}
use Rattle.std.specs.Option.{option_map, option_or}
use Rattle.dk_map.specs.Entries.{first_entry}
use Rattle.dk_map.proofs.tree.Tree.first.Given as goal

abbrev pub invariant-descent : goal.invariant-descent
invariant-descent g l = option_or (first_entry l.tree.0) (option_map (λ e. (e.0.now, e.1.now)) l.nearest) ≡ first_entry l.initial.tree.0
