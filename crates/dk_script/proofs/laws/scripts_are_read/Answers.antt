use Rattle.dk_script.proofs.ScriptOnce.{scripts-are_read}
use Rattle.dk_script.proofs.laws.scripts_are_read.Goals as goal

pub returns : goal.returns
returns c = scripts-are_read
