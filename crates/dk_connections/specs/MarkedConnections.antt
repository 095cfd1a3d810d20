-- What the store is seen as: a finite map from numbers to connections, each with whether a claimed run has its first input.
use Rattle.std.specs.Prelude.{◌≡◌, ℕ, refl, ◌&&◌, not, Bool, true, false, Option, None, Some, List, [], drop, if◌then◌else◌}
use Rattle.std.specs.Coded.{Coded, code_by, coded×, coded_ℕ, coded_bool, coded_list}
use Rattle.std.specs.FinMap.{FinMap, code, get, insert, retain_keys}
use Rattle.dk_types.specs.declared.number.ConnNo.{ConnNo}
use Rattle.dk_types.specs.declared.job.Out.{Out}
use Rattle.dk_types.specs.declared.job.Job.{Job}
use Rattle.dk_map.specs.Values.{values_with}
use Rattle.dk_model.specs.declared.waiting.Waiting.{Waiting}
use Rattle.dk_model.specs.Keys.{conn_cmp}
use Rattle.dk_model.specs.Picks.{is_of}
use Rattle.dk_model.specs.Worlds.{Connection}
use Rattle.dk_model.specs.Deliveries.{Connections, is_done, input_left, without_done}

-- a connection of the world, and whether a claimed run has its first input
pub record MarkedConnection : Type 0 where
  pub connection : Connection
  pub claimed : Bool

-- the connections by their numbers, and how many more fit without memory
pub record ConnectionStore : Type 0 where
  pub connections : FinMap conn_cmp MarkedConnection
  pub spare : ℕ

-- a number is stored as itself
abbrev pub conn_code : Coded ConnNo
conn_code = code_by ℕ coded_ℕ (λ c. c.0) (λ n. record { 0 = n }) (λ _. refl)

-- a connection is stored as pairs of its fields
abbrev pub connection_code : Coded Waiting → Coded Out → Coded Connection
connection_code waiting out =
    code_by ((List ℕ × ℕ) × ((List Waiting × List Out) × (Bool × (Bool × Bool))))
    (coded× (coded× (coded_list coded_ℕ) coded_ℕ) (coded× (coded× (coded_list waiting) (coded_list out)) (coded× coded_bool (coded× coded_bool coded_bool))))
    (λ c. ((c.name, c.turn), ((c.queue, c.outbox), (c.closed, (c.cut, c.over)))))
    (λ p. record { name = p.0.0; queue = p.1.0.0; outbox = p.1.0.1; turn = p.0.1; closed = p.1.1.0; cut = p.1.1.1.0; over = p.1.1.1.1 }) (λ _. refl)

-- with its mark, as the pair of both
abbrev pub linked_code : Coded Waiting → Coded Out → Coded MarkedConnection
linked_code waiting out =
    code_by (Connection × Bool) (coded× (connection_code waiting out) coded_bool) (λ l. (l.connection, l.claimed)) (λ p. record { connection = p.0; claimed = p.1 }) (λ _. refl)

-- and what is shown as the pair of its fields
abbrev pub shown_code : Coded Waiting → Coded Out → Coded ConnectionStore
shown_code waiting out =
    code_by (FinMap conn_cmp MarkedConnection × ℕ) (coded× (code conn_code (linked_code waiting out)) coded_ℕ) (λ s. (s.connections, s.spare)) (λ p. record { connections = p.0; spare = p.1 }) (λ _. refl)

-- the connections as the world has them: the marks are forgotten
abbrev pub all_of : FinMap conn_cmp MarkedConnection → Connections
all_of all = values_with (λ l. l.connection) all

-- a connection that no claimed run has an input of
abbrev pub unclaimed : Connection → MarkedConnection
unclaimed c = record { connection = c; claimed = false }

-- a change of the connection, which leaves the mark
abbrev pub linked : (Connection → Connection) → MarkedConnection → MarkedConnection
linked f l = record l { connection = f l.connection }

-- the first messages are handed
abbrev pub less_first : ℕ → Connection → Connection
less_first most c = record c { outbox = drop most c.outbox }

-- nothing more is sent to it
abbrev pub over_now : Connection → Connection
over_now c = record c { over = true }

-- a claimed run has its first input, and gives it its turn
abbrev pub with_turn : ℕ → MarkedConnection → MarkedConnection
with_turn turn l = record { connection = record l.connection { turn = turn }; claimed = true }

-- no claimed run has its first input
abbrev pub released : MarkedConnection → MarkedConnection
released l = record l { claimed = false }

-- the claimed input has left the queue
abbrev pub run_ended : MarkedConnection → MarkedConnection
run_ended l = unclaimed (input_left l.connection)

-- the connections with what was found at a number changed
abbrev pub changed_at : Option MarkedConnection → ConnNo → (MarkedConnection → MarkedConnection) → FinMap conn_cmp MarkedConnection → FinMap conn_cmp MarkedConnection
changed_at None conn f all = all
changed_at (Some l) conn f all = insert all conn (f l)

-- the connections with one changed, where it is there
abbrev pub change : ConnNo → (MarkedConnection → MarkedConnection) → FinMap conn_cmp MarkedConnection → FinMap conn_cmp MarkedConnection
change conn f all = changed_at (get all conn) conn f all

-- the same where a number is given
abbrev pub change_some : Option ConnNo → (MarkedConnection → MarkedConnection) → FinMap conn_cmp MarkedConnection → FinMap conn_cmp MarkedConnection
change_some None f all = all
change_some (Some conn) f all = change conn f all

-- what was found is over with nothing left to hand
abbrev pub is_done_at : Option MarkedConnection → Bool
is_done_at None = false
is_done_at (Some l) = is_done (Some l.connection)

-- what was found is a connection for which no message waits
abbrev pub HasNoneAt : Option MarkedConnection → Type 0
HasNoneAt None = ⊥
HasNoneAt (Some l) = l.connection.outbox ≡ []

-- what was found is not a connection to which nothing more is sent
abbrev pub IsOnAt : Option MarkedConnection → Type 0
IsOnAt None = Unit {0}
IsOnAt (Some l) = l.connection.over ≡ false

-- the connections without those that are over and have nothing left to hand
abbrev pub left : FinMap conn_cmp MarkedConnection → FinMap conn_cmp MarkedConnection
left all = retain_keys all (λ conn. not (is_done_at (get all conn)))

-- in the world, none is over with nothing left to hand
abbrev pub IsSwept : FinMap conn_cmp MarkedConnection → Type 0
IsSwept all = without_done (all_of all) ≡ all_of all

-- none that is found is over with nothing left to hand
abbrev pub IsAlive : FinMap conn_cmp MarkedConnection → Type 0
IsAlive all = (conn : ConnNo) → is_done_at (get all conn) ≡ false

-- the connections with one more, unless it is over with nothing left to hand
abbrev pub settled : ConnNo → MarkedConnection → FinMap conn_cmp MarkedConnection → FinMap conn_cmp MarkedConnection
settled conn l all = if is_done_at (Some l) then all else insert all conn l

-- each connection that is left was there, with this mark
abbrev pub MarksBy : (ConnNo → Bool → Bool) → FinMap conn_cmp MarkedConnection → FinMap conn_cmp MarkedConnection → Type 0
MarksBy mark before after = (conn : ConnNo) (l : MarkedConnection) → get after conn ≡ Some l → (k : MarkedConnection) × (get before conn ≡ Some k) × (l.claimed ≡ mark conn k.claimed)

-- with the mark that it had
abbrev pub KeepsMarks : FinMap conn_cmp MarkedConnection → FinMap conn_cmp MarkedConnection → Type 0
KeepsMarks = MarksBy (λ conn claimed. claimed)

-- the same, but the connection that the job's input is of has none
abbrev pub KeepsMarksBut : Job → FinMap conn_cmp MarkedConnection → FinMap conn_cmp MarkedConnection → Type 0
KeepsMarksBut job = MarksBy (λ conn claimed. claimed && not (is_of conn job))
