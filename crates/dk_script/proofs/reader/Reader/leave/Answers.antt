use Rattle.dk_script.proofs.LoggedIn.{keys-Removes}
use Rattle.dk_script.proofs.reader.Reader.leave.Goals as goal

pub returns-clause-names : goal.returns-clause-names
returns-clause-names c =
    let found = rw c.in_ok-name.ensures.same at c.remove.ensures.updates.0 in
    keys-Removes c.args.self.now.names.keys c.remove.new.self.keys c.args.name.now found
