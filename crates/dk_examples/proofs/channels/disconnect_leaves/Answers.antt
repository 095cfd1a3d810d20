use Rattle.dk_examples.proofs.ChannelRuns.{disconnect_leaves}
use Rattle.dk_examples.proofs.channels.disconnect_leaves.Goals as goal

pub returns : goal.returns
returns c = disconnect_leaves
