use Rattle.dk_examples.proofs.ChannelRuns.{unheard_goes_to_all}
use Rattle.dk_examples.proofs.channels.unheard_goes_to_all.Goals as goal

pub returns : goal.returns
returns c = unheard_goes_to_all
