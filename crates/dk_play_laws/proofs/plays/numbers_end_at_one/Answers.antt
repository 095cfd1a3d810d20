use Rattle.dk_play_laws.proofs.Budgets.{numbers_end}
use Rattle.dk_play_laws.proofs.plays.numbers_end_at_one.Goals as goal

pub returns : goal.returns
returns c = numbers_end
