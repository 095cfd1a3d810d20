use Rattle.dk_hashed.proofs.InOrder.{in_order-empty}
use Rattle.dk_hashed.proofs.hashed.HashedMap.new.Goals as goal

pub returns-clause-empty : goal.returns-clause-empty
returns-clause-empty g c = in_order-empty _ _ c.with_hasher.ensures.empty
