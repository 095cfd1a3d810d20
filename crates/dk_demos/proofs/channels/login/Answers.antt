use Rattle.dk_txn.proofs.Kit.{then_does, then_last, halts, halts_last}
use Rattle.dk_demos.specs.ChannelsRules.{login}
use Rattle.dk_demos.proofs.channels.login.Goals as goal

pub returns-in_err-join : goal.returns-in_err-join
unfolding login
returns-in_err-join g c = halts _ (rw (c.in_ok-foo.ensures, c.in_ok-session.ensures) at c.in_err-join.ensures.does) c.from_residual-in_err-join.ensures.1

pub returns-in_err-join-2 : goal.returns-in_err-join-2
unfolding login
returns-in_err-join-2 g c =
    then_does _ (rw (c.in_ok-foo.ensures, c.in_ok-session.ensures) at c.in_ok-join.ensures.does)
    (halts_last (rw (c.in_ok-bar.ensures, c.in_ok-session.ensures) at c.in_err-join-2.ensures.does) c.from_residual-in_err-join-2.ensures.1)

pub returns : goal.returns
unfolding login
returns g c =
    then_does _ (rw (c.in_ok-foo.ensures, c.in_ok-session.ensures) at c.in_ok-join.ensures.does)
    (then_last (rw (c.in_ok-bar.ensures, c.in_ok-session.ensures) at c.in_ok-join-2.ensures.does))
