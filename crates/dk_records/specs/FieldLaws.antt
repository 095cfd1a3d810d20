-- Fields are read exactly, wherever they stand.
use Rattle.std.specs.Prelude.{ℕ, List, Option}
use Rattle.dk_types.specs.declared.number.ObjectId.{ObjectId}
use Rattle.dk_types.specs.Names.{IsName}
use Rattle.dk_types.specs.Fields.{IsId, name_spelling, id_spelling}
use Rattle.dk_types.specs.Exact.{IsExact}
use Rattle.dk_types.specs.Payload.{next_name, next_id}
use Rattle.dk_types.proofs.NextLaws.{next_name_exact, next_id_exact}

-- reading a name takes back what its bytes say, and nothing else
pub each_name_exact : (before : Option (List ℕ)) → IsExact IsName name_spelling next_name
each_name_exact before = next_name_exact

-- the same of an id
pub each_id_exact : (before : Option ObjectId) → IsExact IsId id_spelling next_id
each_id_exact before = next_id_exact
