use Rattle.dk_entry.proofs.Limits.{entries_more}
use Rattle.dk_entry.proofs.laws.first_format_is_in_the_second.Goals as goal

pub returns : goal.returns
returns c = entries_more
