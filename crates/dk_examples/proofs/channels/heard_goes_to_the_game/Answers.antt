use Rattle.dk_examples.proofs.ChannelRuns.{heard_goes_to_the_game}
use Rattle.dk_examples.proofs.channels.heard_goes_to_the_game.Goals as goal

pub returns : goal.returns
returns c = heard_goes_to_the_game
