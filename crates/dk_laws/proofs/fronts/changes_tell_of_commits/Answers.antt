use Rattle.dk_laws.proofs.Between.{changes_tell}
use Rattle.dk_laws.proofs.fronts.changes_tell_of_commits.Goals as goal

pub returns : goal.returns
returns c = changes_tell
