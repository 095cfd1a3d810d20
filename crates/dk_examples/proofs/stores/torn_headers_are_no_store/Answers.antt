use Rattle.dk_examples.proofs.StoreRuns.{torn_headers_are_no_store}
use Rattle.dk_examples.proofs.stores.torn_headers_are_no_store.Goals as goal

pub returns : goal.returns
returns c = torn_headers_are_no_store
