use Rattle.dk_txn.proofs.Together.{all_sent}
use Rattle.dk_txn.proofs.tasks.Txn+V.send_all.Goals as goal

pub returns-clause-does : goal.returns-clause-does
returns-clause-does g c = all_sent c.args.messages.items c.in_ok-add_outs.ensures.ok
