use Rattle.std.proofs.Common.{◌≡◌, rules}
use Rattle.dk_txn.proofs.Kit.{then_does, stops, give_does}
use Rattle.dk_channels.proofs.channel.create_channel.Goals as goal

pub returns-in_err-open_channel-clause-does : goal.returns-in_err-open_channel-clause-does
returns-in_err-open_channel-clause-does g c = stops _ c.in_err-open_channel.ensures.does c.from_residual-in_err-open_channel.ensures.1

pub returns-clause-does : goal.returns-clause-does
returns-clause-does g c =
    let same : c.in_ok-clone.field-0 ≡ c.args.name.now = search rules in
    rw same (then_does _ c.in_ok-open_channel.ensures.does give_does)
