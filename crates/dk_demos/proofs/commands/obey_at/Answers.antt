use Rattle.dk_txn.proofs.Kit.{then_last, halts_last}
use Rattle.dk_demos.proofs.commands.obey_at.Goals as goal

pub returns-in_err-join-in-Join : goal.returns-in_err-join-in-Join
returns-in_err-join-in-Join g c = rw c.in-Join.is (halts_last c.in_err-join-in-Join.ensures.does c.from_residual.ensures.1)

pub returns-in_err-leave-in-Leave : goal.returns-in_err-leave-in-Leave
returns-in_err-leave-in-Leave g c = rw c.in-Leave.is (halts_last c.in_err-leave-in-Leave.ensures.does c.from_residual-in_err-leave-in-Leave.ensures.1)

pub returns-in_err-leave_all-in-Empty : goal.returns-in_err-leave_all-in-Empty
returns-in_err-leave_all-in-Empty g c = rw c.in-Empty.is (halts_last c.in_err-leave_all-in-Empty.ensures.does c.from_residual-in_err-leave_all-in-Empty.ensures.1)

pub returns-in_ok-join-in-Join : goal.returns-in_ok-join-in-Join
returns-in_ok-join-in-Join g c = rw c.in-Join.is (then_last c.in_ok-join-in-Join.ensures.does)

pub returns-in_ok-leave-in-Leave : goal.returns-in_ok-leave-in-Leave
returns-in_ok-leave-in-Leave g c = rw c.in-Leave.is (then_last c.in_ok-leave-in-Leave.ensures.does)

pub returns-in_ok-leave_all-in-Empty : goal.returns-in_ok-leave_all-in-Empty
returns-in_ok-leave_all-in-Empty g c = rw c.in-Empty.is (then_last c.in_ok-leave_all-in-Empty.ensures.does)
