use Rattle.dk_txn.proofs.Kit.{then_does, then_last, halts, halts_last}
use Rattle.dk_demos.specs.Commands.{tell_members}
use Rattle.dk_demos.proofs.commands.tell_members.Goals as goal

pub returns-in_err-all : goal.returns-in_err-all
unfolding tell_members
returns-in_err-all g c = halts _ c.in_err-all.ensures.does c.from_residual.ensures.1

pub returns-in_err-send : goal.returns-in_err-send
unfolding tell_members
returns-in_err-send g c =
    then_does _ c.in_ok-all.ensures.does (halts_last (rw (c.in_ok-body.ensures, c.as_slice.ensures) at c.in_err-send.ensures.does) c.from_residual-in_err-send.ensures.1)

pub returns : goal.returns
unfolding tell_members
returns g c = then_does _ c.in_ok-all.ensures.does (then_last (rw (c.in_ok-body.ensures, c.as_slice.ensures) at c.in_ok-send.ensures.does))
