-- A connection that is changed where it stands.
use Rattle.std.specs.Prelude.{◌≡◌, Option, None, Some}
use Rattle.std.specs.FinMap.{FinMap, get, insert}
use Rattle.dk_types.specs.declared.number.ConnNo.{ConnNo}
use Rattle.dk_model.specs.Keys.{conn_cmp}
use Rattle.dk_connections.specs.MarkedConnections.{MarkedConnection}

-- the connections with the one at a number changed as P tells with the answer, or as they were where none is there
abbrev pub IsAltered : {A : Type 0} → ConnNo → (MarkedConnection → MarkedConnection → A → Type 0) → FinMap conn_cmp MarkedConnection → FinMap conn_cmp MarkedConnection → Option A → Type 0
IsAltered k P old new (Some a) = (l x : MarkedConnection) × (Some l ≡ get old k) × P l x a × (new ≡ insert old k x)
IsAltered k P old new None = (None ≡ get old k) × (new ≡ old)
