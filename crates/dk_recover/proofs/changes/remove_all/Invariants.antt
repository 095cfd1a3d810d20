use Rattle.std.proofs.Common.{◌≡◌, drop}
use Rattle.dk_recover.specs.Changes.{without_all}
use Rattle.dk_recover.proofs.changes.remove_all.Given as goal

-- what is left to take away from here is all from the start
abbrev pub invariant-loop-key : goal.invariant-loop-key
invariant-loop-key g l = without_all g.K.Ord.cmp (drop l.key-index l.keys) l.map.entries ≡ without_all g.K.Ord.cmp l.keys l.fn.map.entries
