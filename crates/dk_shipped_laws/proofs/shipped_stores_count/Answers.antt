use Rattle.dk_shipped_laws.proofs.Shipped.{shipped_count}
use Rattle.dk_shipped_laws.proofs.shipped_stores_count.Goals as goal

pub returns : goal.returns
returns c = shipped_count
