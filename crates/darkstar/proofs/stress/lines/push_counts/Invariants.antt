use Rattle.std.proofs.Common.{◌≡◌, ◌++◌, take, string_bytes}
use Rattle.std.specs.List.{flat_map}
use Rattle.darkstar.specs.StressText.{spaced}
use Rattle.darkstar.proofs.stress.lines.push_counts.Given as goal

-- the counts so far
abbrev pub invariant-loop-count : goal.invariant-loop-count
invariant-loop-count l = string_bytes l.out ≡ string_bytes l.fn.out ++ flat_map spaced (take l.count-index l.counts)
