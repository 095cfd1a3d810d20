use Rattle.std.proofs.Common.{◌∙◌, sym}
use Rattle.dk_workers.proofs.Meanings.{get-means_of}
use Rattle.dk_workers.proofs.play.logins.Logins.conn.Goals as goal

pub returns : goal.returns
returns c = get-means_of c.args.self.now.means.entries c.args.name.now ∙ sym c.get.ensures.value ∙ sym c.copied.ensures
