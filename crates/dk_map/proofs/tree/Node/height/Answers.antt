use Rattle.std.proofs.Common.{◌≡◌, ◌+◌, arith}
use Rattle.dk_map.specs.Balance.{node_height}
use Rattle.dk_map.proofs.Heights.{low_entries}
use Rattle.dk_map.proofs.tree.Node.height.Goals as goal

pub returns-clause-low : goal.returns-clause-low
returns-clause-low g c =
    let is : c.max.result + 1 ≡ node_height c.args.self.now = grind arith in
    λ balanced. low_entries c.args.self.now _ is c.height.ensures.low c.height-2.ensures.low balanced
