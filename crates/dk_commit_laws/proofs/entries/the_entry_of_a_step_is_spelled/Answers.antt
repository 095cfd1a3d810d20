use Rattle.dk_commit_laws.proofs.Payloads.{entries_spelled}
use Rattle.dk_commit_laws.proofs.entries.the_entry_of_a_step_is_spelled.Goals as goal

pub returns : goal.returns
returns c = entries_spelled
