use Rattle.dk_frame.proofs.Apart.{one_spelling, one_spelling_out}
use Rattle.dk_frame.proofs.laws.spellings_are_apart.Goals as goal

pub returns : goal.returns
returns c = record { client = one_spelling; server = one_spelling_out }
