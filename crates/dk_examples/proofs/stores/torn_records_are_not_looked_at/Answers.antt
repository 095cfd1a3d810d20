use Rattle.dk_examples.proofs.StoreRuns.{torn_records_are_not_looked_at}
use Rattle.dk_examples.proofs.stores.torn_records_are_not_looked_at.Goals as goal

pub returns : goal.returns
returns c = torn_records_are_not_looked_at
