use Rattle.dk_examples.proofs.ChannelRuns.{login_joins}
use Rattle.dk_examples.proofs.channels.login_joins.Goals as goal

pub returns : goal.returns
returns c = login_joins
