use Rattle.std.proofs.Common.{◌≡◌, drop}
use Rattle.dk_map.specs.AsMap.{map_of}
use Rattle.dk_map.specs.Entries.{IsOrdered}
use Rattle.dk_model.specs.Keys.{key_cmp}
use Rattle.dk_model.specs.Effects.{with_moved}
use Rattle.dk_recover.proofs.tasks.move_all.Given as goal

-- what is left to move from here is all from the start, and the keys are in order
abbrev pub invariant-loop-key : goal.invariant-loop-key
invariant-loop-key l = (with_moved (drop l.key-index l.moved) (map_of key_cmp l.tasks.entries) ≡ with_moved l.moved (map_of key_cmp l.fn.tasks.entries)) × IsOrdered key_cmp l.tasks.entries
