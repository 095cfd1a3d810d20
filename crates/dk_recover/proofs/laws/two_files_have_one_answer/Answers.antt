use Rattle.dk_recover.proofs.OneAnswer.{one_answer}
use Rattle.dk_recover.proofs.laws.two_files_have_one_answer.Goals as goal

pub returns : goal.returns
returns c = one_answer
