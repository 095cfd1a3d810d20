-- How the store keeps its connections: in a tree by number, and each once more by its place, which is told by whether it is
-- idle, its turn and its number. So those whose first input can be run stand first, the one of the least turn at the front.
use Rattle.std.specs.Prelude.{◌≡◌, ◌||◌, ◌==◌, Bool, false, is_some, length, Option, None, Some, List}
use Rattle.std.specs.declared.cmp.Ordering.{Ordering}
use Rattle.std.specs.Ordering.{nat_cmp, bool_cmp, on, then_cmp, eq_by_cmp}
use Rattle.dk_types.specs.declared.number.ConnNo.{ConnNo}
use Rattle.dk_map.specs.Entries.{find, IsOrdered}
use Rattle.dk_model.specs.Keys.{conn_cmp}
use Rattle.dk_connections.specs.MarkedConnections.{MarkedConnection, is_done_at}
use Rattle.dk_connections.specs.declared.place.ConnectionRank.{ConnectionRank}

-- a claimed run has its first input, or none waits
abbrev pub is_idle : MarkedConnection → Bool
is_idle l = l.claimed || (length l.connection.queue == 0)

-- by idleness, turn and number, as the derive compares
abbrev pub place_cmp : ConnectionRank → ConnectionRank → Ordering
place_cmp = then_cmp (on (λ p. p.idle) bool_cmp) (then_cmp (on (λ p. p.turn) nat_cmp) (on (λ p. p.conn) conn_cmp))

-- where a connection stands
abbrev pub place_of : ConnNo → MarkedConnection → ConnectionRank
place_of conn l = record { idle = is_idle l; turn = l.connection.turn; conn = conn }

-- whether what was found at a place's number stands there
abbrev pub is_placed : ConnectionRank → Option MarkedConnection → Bool
is_placed p None = false
is_placed p (Some l) = eq_by_cmp place_cmp p (place_of p.conn l)

-- the two trees keep the same connections, none of which is over with nothing left to hand
pub record IsInStep (slots : List (ConnNo × MarkedConnection)) (places : List (ConnectionRank × Unit {0})) : Type 0 where
  pub ordered : IsOrdered conn_cmp slots
  pub places_ordered : IsOrdered place_cmp places
  pub placed : (p : ConnectionRank) → is_some (find place_cmp p places) ≡ is_placed p (find conn_cmp p.conn slots)
  pub alive : (conn : ConnNo) → is_done_at (find conn_cmp conn slots) ≡ false
