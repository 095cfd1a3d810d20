use Rattle.dk_workers.proofs.Meanings.{means_of-Removes}
use Rattle.dk_workers.proofs.play.logins.Logins.log_out.Goals as goal

pub returns-clause-means : goal.returns-clause-means
returns-clause-means c = means_of-Removes c.args.self.now.means.entries c.remove.new.self.entries c.args.name.now c.remove.ensures.updates.0
