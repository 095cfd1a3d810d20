use Rattle.std.proofs.lemmas.Result.{IfOk-weaker}
use Rattle.dk_core.proofs.Opened.{read_at}
use Rattle.dk_core.proofs.world.Core.read.Goals as goal

pub returns-clause-at : goal.returns-clause-at
returns-clause-at c = IfOk-weaker c.read.result _ _ (read_at c.args.self.now c.args.item.now) c.read.ensures
