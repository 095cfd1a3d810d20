use Rattle.dk_txn.proofs.Kit.{then_last, halts_last}
use Rattle.dk_demos.specs.ChannelsRules.{hear}
use Rattle.dk_demos.proofs.channels.hear.Goals as goal

pub returns-in_err-send : goal.returns-in_err-send
unfolding hear
returns-in_err-send g c = halts_last (rw (c.in_ok-copy.ensures.cases, c.in_ok-text.ensures) at c.in_err-send.ensures.does) c.from_residual-in_err-send.ensures.1

pub returns : goal.returns
unfolding hear
returns g c = then_last (rw (c.in_ok-copy.ensures.cases, c.in_ok-text.ensures) at c.in_ok-send.ensures.does)
