use Rattle.std.proofs.Common.{◌-◌}
use Rattle.dk_txn.specs.Does.{Resumes}
use Rattle.dk_core_tests.specs.Twins.{answer}
use Rattle.dk_core_tests.proofs.twins.answer.Given as goal

-- the whole answer from the start is the rest of it from here
abbrev pub invariant-loop-i : goal.invariant-loop-i
invariant-loop-i g l = Resumes g.V.View.sights l.fn.txn l.txn (answer l.fn.messages l.fn.conn) (answer (l.fn.messages - l.i) l.fn.conn)
