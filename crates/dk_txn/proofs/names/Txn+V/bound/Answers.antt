use Rattle.dk_txn.proofs.NameCalls.{bound_does}
use Rattle.dk_txn.proofs.names.Txn+V.bound.Goals as goal

pub returns-clause-does : goal.returns-clause-does
returns-clause-does g c = bound_does c.known_name.ensures.keeps c.known_name.ensures.same_changes c.in_ok-known.ensures.known c.ok_or.result c.ok_or.ensures.value
