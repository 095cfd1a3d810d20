use Rattle.dk_map.proofs.tree.Tree.+swap.Given as goal

abbrev pub decreases-swap : goal.decreases-swap
decreases-swap g l = goal.size-swap g l
