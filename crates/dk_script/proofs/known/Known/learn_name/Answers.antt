use Rattle.std.proofs.Common.{ℕ, List, ap}
use Rattle.std.specs.FinMap.{FinMap}
use Rattle.dk_model.specs.Keys.{conn_cmp}
use Rattle.dk_model.specs.Transcripts.{Known}
use Rattle.dk_script.proofs.NamesOf.{names_of-Updates}
use Rattle.dk_script.proofs.known.Known.learn_name.Goals as goal

pub returns-in_ok-insert : goal.returns-in_ok-insert
returns-in_ok-insert c =
    let found = rw c.in_ok-clone.ensures.cases at c.in_ok-insert.ensures.updates.0 in
    let with : FinMap conn_cmp (List ℕ) → Known = λ m. record { names = m; moment = c.args.self.now.moment } in
    rw c.in-Number.is (ap with (names_of-Updates c.args.self.now.names.entries c.insert.new.self.entries c.in-Number.conn c.args.name.now found))
