use Rattle.std.proofs.Common.{◌≡◌}
use Rattle.dk_bench.proofs.disk.append_all.Given as goal

abbrev pub invariant-appends : goal.invariant-appends
invariant-appends g l = g.M.Home.opening l.home ≡ g.M.Home.opening l.initial.home
