use Rattle.std.proofs.Common.{◌≡◌}
use Rattle.dk_types.specs.declared.mode.Mode.TheVariants.{Platform}
use Rattle.dk_model.specs.Platforms as platform
use Rattle.dk_txn.proofs.Kit.{within_does}
use Rattle.dk_model.specs.Records.{channel_name}
use Rattle.dk_refs.proofs.Tellings.{length_moded}
use Rattle.dk_types.specs.declared.item.Item.TheVariants as ask
use Rattle.dk_refs.proofs.RecordAsks.{asks_within}
use Rattle.dk_channels.proofs.channel.open_channel.Goals as goal

pub returns-clause-does : goal.returns-clause-does
unfolding platform.create_channel
returns-clause-does g c =
    within_does Platform c.set_mode-before.ensures.same_view c.set_mode-before.ensures.view_stays c.set_mode-before.ensures.mode c.make_channel-end.ensures.does
    c.set_mode.ensures.same_view c.set_mode.ensures.view_stays (rw c.set_mode-before.ensures.old at c.set_mode.ensures.mode)

pub returns-clause-length : goal.returns-clause-length
returns-clause-length g c = length_moded _ c.make_channel-end.new.txn.set c.set_mode.new.self.set _ (channel_name c.args.name.now) c.set_mode.ensures.mode c.make_channel-end.ensures.length

pub returns-clause-asks : goal.returns-clause-asks
returns-clause-asks g c =
    asks_within (λ t u q. q ≡ ask.Bound (channel_name c.args.name.now)) Platform _ (λ q h. h) c.set_mode-before.ensures.view_stays c.set_mode-before.ensures.mode c.make_channel-end.ensures.asks c.set_mode.ensures.view_stays c.set_mode.ensures.mode
