use Rattle.dk_examples.proofs.ChannelRuns.{join_of_no_channel_fails}
use Rattle.dk_examples.proofs.channels.join_of_no_channel_fails.Goals as goal

pub returns : goal.returns
returns c = join_of_no_channel_fails
