use Rattle.std.proofs.Common.{sym, ◌∙◌}
use Rattle.dk_script.proofs.LoggedIn.{contains-keys}
use Rattle.dk_script.proofs.reader.Reader.knows.Goals as goal

pub returns : goal.returns
returns c = c.contains.ensures ∙ sym (contains-keys c.args.self.now.names.keys c.args.name.now)
