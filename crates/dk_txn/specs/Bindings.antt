-- What a name is bound to.
use Rattle.std.specs.Prelude.{ℕ, Option, List, Ok}
use Rattle.std.specs.FinMap.{get}
use Rattle.dk_types.specs.declared.number.ObjectId.{ObjectId}
use Rattle.dk_model.specs.Runs.{Act}

-- what the name is bound to, where it is bound
unfoldable pub binding : List ℕ → Act (Option ObjectId)
binding name s = (Ok (get s.world.names name), s)
