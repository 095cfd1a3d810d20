use Rattle.dk_examples.proofs.ChannelRuns.{channels_begin}
use Rattle.dk_examples.proofs.channels.channels_begin.Goals as goal

pub returns : goal.returns
returns c = channels_begin
