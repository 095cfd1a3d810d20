use Rattle.dk_laws.proofs.Between.{commits_counted}
use Rattle.dk_laws.proofs.fronts.commits_are_counted.Goals as goal

pub returns : goal.returns
returns c = commits_counted
