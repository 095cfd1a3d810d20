-- How much a world leaves to run at most, and the worlds in which runs come to an end.
use Rattle.std.specs.Prelude.{◌≡◌, ℕ, ◌+◌, ◌<◌, ◌≤◌, ◌==◌, ◌||◌, Option, Some, None, List, [], ◌∷◌, length, if◌then◌else◌}
use Rattle.std.specs.List.{Contains}
use Rattle.std.specs.FinMap.{get, empty}
use Rattle.dk_types.specs.declared.number.ConnNo.{ConnNo}
use Rattle.dk_types.specs.declared.limits.TheConstants.{NUMBERS_END, MOMENT_MOST_MS, OUTS_MOST_COUNT}
use Rattle.dk_model.specs.Worlds.{World, Connection}
use Rattle.dk_model.specs.Deliveries.{Connections}
use Rattle.dk_model.specs.Events.{outbox}

-- what a connection leaves to run at most: what waits, the end of its session where it may still be cut off, and one for its being there
abbrev pub left_of : Connection → ℕ
left_of c = length c.queue + (if c.cut || c.over then 1 else 2)

-- how many runs what was found leaves to be made
abbrev pub left_at : Option Connection → ℕ
left_at None = 0
left_at (Some c) = left_of c

-- what these connections leave to run
abbrev pub left_in : Connections → List ConnNo → ℕ
left_in all [] = 0
left_in all (conn ∷ conns) = left_at (get all conn) + left_in all conns

-- what a world leaves to run at most, the first run with it
abbrev pub left : World → List ConnNo → ℕ
left w conns = (if w.durable.commits == 0 then 1 else 0) + left_in w.connections conns

-- no connection stands here twice
abbrev pub AreDistinct : List ConnNo → Type 0
AreDistinct [] = Unit {0}
AreDistinct (conn ∷ conns) = (Contains conns conn → ⊥) × AreDistinct conns

-- a world between runs, without tasks and without a budget, that has these connections and no others, and numbers enough for all that it leaves to run and for as many more
pub record HasNumbersLeft (w : World) (conns : List ConnNo) (more : ℕ) : Type 0 where
  pub unclaimed : w.claims ≡ empty
  pub unlimited : w.budget ≡ None
  pub moment : w.moment ≤ MOMENT_MOST_MS
  pub tasks : w.durable.tasks ≡ empty
  pub known : (conn : ConnNo) (c : Connection) → get w.connections conn ≡ Some c → Contains conns conn
  pub drawn : (conn : ConnNo) → Contains conns conn → conn.0 < w.next
  pub distinct : AreDistinct conns
  pub boxes : (conn : ConnNo) → length (outbox w conn) ≤ OUTS_MOST_COUNT
  pub numbers : w.next + left w conns + more ≤ NUMBERS_END
