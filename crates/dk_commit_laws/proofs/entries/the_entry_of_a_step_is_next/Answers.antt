use Rattle.dk_commit_laws.proofs.Nexts.{entries_next}
use Rattle.dk_commit_laws.proofs.entries.the_entry_of_a_step_is_next.Goals as goal

pub returns : goal.returns
returns c = entries_next
