use Rattle.dk_script.proofs.OneWorker.{one-worker_decides}
use Rattle.dk_script.proofs.laws.one_worker_decides.Goals as goal

pub returns : goal.returns
returns c = one-worker_decides
