use Rattle.dk_demos.proofs.CountersHistory.{come_to_totals}
use Rattle.dk_demos.proofs.totals.counters_come_to_totals.Goals as goal

pub returns : goal.returns
returns c = come_to_totals
