use Rattle.std.proofs.Common.{◌≡◌}
use Rattle.dk_bench.proofs.records.append_all.Given as goal

abbrev pub invariant-records : goal.invariant-records
invariant-records g l = record {
  opening : g.M.Home.opening l.home ≡ g.M.Home.opening l.initial.home;
  format : l.journal.format ≡ 2;
}
