use Rattle.dk_laws.proofs.Between.{commits_change}
use Rattle.dk_laws.proofs.fronts.commits_alone_change.Goals as goal

pub returns : goal.returns
returns c = commits_change
