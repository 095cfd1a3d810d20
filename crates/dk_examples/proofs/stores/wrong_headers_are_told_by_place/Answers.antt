use Rattle.dk_examples.proofs.StoreRuns.{wrong_headers_are_told_by_place}
use Rattle.dk_examples.proofs.stores.wrong_headers_are_told_by_place.Goals as goal

pub returns : goal.returns
returns c = wrong_headers_are_told_by_place
