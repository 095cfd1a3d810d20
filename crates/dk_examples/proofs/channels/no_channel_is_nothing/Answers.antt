use Rattle.dk_examples.proofs.ChannelRuns.{no_channel_is_nothing}
use Rattle.dk_examples.proofs.channels.no_channel_is_nothing.Goals as goal

pub returns : goal.returns
returns c = no_channel_is_nothing
