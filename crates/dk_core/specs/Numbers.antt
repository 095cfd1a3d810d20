-- The numbers that a core has drawn.
use Rattle.std.specs.Prelude.{◌≡◌, ℕ, false, ◌+◌, ◌≤◌}
use Rattle.std.specs.Coded.{Coded-set, coded_bool, ×_prop, Π_prop, le_prop}
use Rattle.std.specs.FinMap.{FinMap, contains_key, len}
use Rattle.dk_types.specs.declared.number.ConnNo.{ConnNo}
use Rattle.dk_types.specs.declared.limits.TheConstants.{NUMBERS_END}
use Rattle.dk_types.specs.Keys.{conn_cmp}
use Rattle.dk_connections.specs.MarkedConnections.{MarkedConnection}
use Rattle.dk_core.specs.Claiming.{Claiming}

-- no connection has a number that is still to be drawn
abbrev pub AreDrawn : ℕ → FinMap conn_cmp MarkedConnection → Type 0
AreDrawn next all = (conn : ConnNo) → next ≤ conn.0 → contains_key all conn ≡ false

-- each connection has a number that was drawn; so many numbers were drawn that each commit and each open claim may have one, and they are within their limit
abbrev pub HasNumbers : ℕ → Claiming → FinMap conn_cmp MarkedConnection → Type 0
HasNumbers commits claiming all = AreDrawn claiming.next all × ((commits + len claiming.claims ≤ claiming.next) × (claiming.next ≤ NUMBERS_END))

-- there is one proof of it at most
pub HasNumbers-prop : (commits : ℕ) (claiming : Claiming) (all : FinMap conn_cmp MarkedConnection) → IsProp (HasNumbers commits claiming all)
HasNumbers-prop commits claiming all = ×_prop (Π_prop (λ conn. Π_prop (λ below. Coded-set coded_bool _ _))) (×_prop le_prop le_prop)
