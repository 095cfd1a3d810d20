use Rattle.dk_examples.proofs.SessionRuns.{turned_away_login_stays}
use Rattle.dk_examples.proofs.sessions.turned_away_login_stays.Goals as goal

pub returns : goal.returns
returns c = turned_away_login_stays
