use Rattle.dk_txn.proofs.NameCalls.{binding_does}
use Rattle.dk_txn.proofs.names.Txn+V.binding.Goals as goal

pub returns-clause-does : goal.returns-clause-does
returns-clause-does g c = binding_does c.known_name.ensures.keeps c.known_name.ensures.same_changes c.in_ok-known.ensures.known
