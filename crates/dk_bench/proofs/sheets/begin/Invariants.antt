use Rattle.std.proofs.Common.{◌-◌}
use Rattle.dk_txn.specs.Does.{Resumes}
use Rattle.dk_bench.specs.Rewriting.{begin}
use Rattle.dk_bench.proofs.sheets.begin.Given as goal

-- all sheets from the start are the rest of them from here
abbrev pub invariant-loop-planned : goal.invariant-loop-planned
invariant-loop-planned g l = Resumes g.V.View.sights l.fn.txn l.txn (begin l.fn.sheets l.fn.times) (begin (l.fn.sheets - l.planned) l.fn.times)
