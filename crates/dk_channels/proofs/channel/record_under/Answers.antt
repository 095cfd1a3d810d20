use Rattle.dk_model.specs.Records.{CHANNEL_KIND}
use Rattle.dk_refs.proofs.Tellings.{length_never_last, then_avoids, create_avoids, channel_short, bind_avoids}
use Rattle.dk_channels.proofs.channel.record_under.Goals as goal

pub returns-clause-does : goal.returns-clause-does
returns-clause-does g c = rw (c.in_ok-payload.ensures, c.from_vec.ensures, c.new.ensures.items) at c.create_bound.ensures.does

pub returns-clause-length : goal.returns-clause-length
returns-clause-length g c bytes =
    let made = rw (c.in_ok-payload.ensures, c.from_vec.ensures, c.new.ensures.items) at c.create_bound.ensures.does in
    length_never_last bytes (then_avoids (create_avoids CHANNEL_KIND _ (channel_short c.args.listener c.args.delivery)) (λ id. bind_avoids c.args.key.now id 4 (λ e. cc))) made
