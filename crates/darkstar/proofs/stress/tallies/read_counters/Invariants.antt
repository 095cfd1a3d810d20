use Rattle.darkstar.specs.Tallies.{ReadsCounters}
use Rattle.darkstar.proofs.stress.tallies.read_counters.Given as goal

-- so many counters were read
abbrev pub invariant-loop-number : goal.invariant-loop-number
invariant-loop-number g l = ReadsCounters g.W.Hosting.opened g.J.Naming.name.passes l.number l.fn.pass l.pass l.counts.items
