use Rattle.dk_script.proofs.LoggedIn.{keys-Updates}
use Rattle.dk_script.proofs.reader.Reader.log_in.Goals as goal

pub returns-clause-names : goal.returns-clause-names
returns-clause-names c =
    let found = rw (c.in_ok-clone.ensures.cases, c.in_ok-name.ensures) at c.in_ok-insert.ensures.updates.0 in
    keys-Updates c.args.self.now.names.keys c.insert.new.self.keys c.args.name.now found
