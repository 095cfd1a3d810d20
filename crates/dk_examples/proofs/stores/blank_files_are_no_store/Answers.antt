use Rattle.dk_examples.proofs.StoreRuns.{blank_files_are_no_store}
use Rattle.dk_examples.proofs.stores.blank_files_are_no_store.Goals as goal

pub returns : goal.returns
returns c = blank_files_are_no_store
