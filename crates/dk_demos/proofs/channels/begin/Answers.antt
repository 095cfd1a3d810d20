use Rattle.dk_txn.proofs.Kit.{then_does, halts, give_does}
use Rattle.dk_demos.specs.ChannelsRules.{begin}
use Rattle.dk_demos.proofs.channels.begin.Goals as goal

pub returns-in_err-create_channel : goal.returns-in_err-create_channel
unfolding begin
returns-in_err-create_channel g c = halts _ (rw c.in_ok-foo.ensures at c.in_err-create_channel.ensures.does) c.from_residual-in_err-create_channel.ensures.1

pub returns-in_err-create_channel-2 : goal.returns-in_err-create_channel-2
unfolding begin
returns-in_err-create_channel-2 g c =
    then_does _ (rw c.in_ok-foo.ensures at c.in_ok-create_channel.ensures.does)
    (halts _ (rw c.in_ok-bar.ensures at c.in_err-create_channel-2.ensures.does) c.from_residual-in_err-create_channel-2.ensures.1)

pub returns : goal.returns
unfolding begin
returns g c =
    then_does _ (rw c.in_ok-foo.ensures at c.in_ok-create_channel.ensures.does)
    (then_does _ (rw c.in_ok-bar.ensures at c.in_ok-create_channel-2.ensures.does) give_does)
