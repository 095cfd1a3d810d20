use Rattle.dk_workers.proofs.Meanings.{means_of-Updates}
use Rattle.dk_workers.proofs.play.logins.Logins.log_in.Goals as goal

pub returns-clause-means : goal.returns-clause-means
returns-clause-means c =
    let found = rw c.in_ok-clone.ensures.cases at c.in_ok-insert.ensures.updates.0 in
    means_of-Updates c.args.self.now.means.entries c.insert.new.self.entries c.args.name.now c.args.conn found
