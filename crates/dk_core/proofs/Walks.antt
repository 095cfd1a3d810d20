-- A walk that opens, for each number, the connection of the first session.
use Rattle.std.proofs.Common.{◌≡◌, ℕ, refl, sym, ap, ◌∙◌, Bool, true, false, ◌||◌, cond, if◌then◌else◌, Option, None, Some, is_some, List, [], ◌∷◌, map}
use Rattle.std.proofs.lemmas.Bool.{eq-eqb, eqb-true}
use Rattle.std.specs.List.{list_any, filter_map, cons_option}
use Rattle.std.specs.Ordering.{eq_by_cmp}
use Rattle.std.specs.Cmp.{unsigned_tied, both_ways}
use Rattle.std.specs.FinMap.{FinMap, get, insert, empty, entries, contains_key, get-insert, get-empty}
use Rattle.dk_types.specs.declared.number.ConnNo.{ConnNo}
use Rattle.dk_types.specs.declared.number.ObjectId.{ObjectId}
use Rattle.dk_types.specs.declared.job.Session.{Session}
use Rattle.dk_types.specs.Keys.{conn_cmp}
use Rattle.dk_model.specs.DurableWorlds.{DurableWorld}
use Rattle.dk_model.specs.Deliveries.{Connections}
use Rattle.dk_model.specs.Openings.{counting, ended_connection, first_of_each, has_number, login_of, session_at, with_sessions}
use Rattle.dk_model.proofs.Maps.{conns_total}
use Rattle.dk_connections.specs.MarkedConnections.{MarkedConnection, all_of}
use Rattle.dk_core.proofs.Walked.{map-map}
use Rattle.dk_core.specs.Firsts.{with_first, IsFresh}

-- the connections with the first of each number among these sessions
abbrev pub with_firsts : List (Option Session) → Connections → Connections
with_firsts [] all = all
with_firsts (s ∷ ss) all = with_firsts ss (with_first s all)

-- just the numbers of the sessions before are there
abbrev HasNumbers : List Session → Connections → Type 0
HasNumbers before all = (conn : ConnNo) → contains_key all conn ≡ list_any (has_number conn) before

number_is : (conn : ConnNo) (s : Session) → eq_by_cmp conn_cmp conn s.conn ≡ has_number conn s
number_is conn s =
    both_ways (eq_by_cmp conn_cmp conn s.conn) (has_number conn s)
    (λ t. eq-eqb s.conn.0 conn.0 (sym (eqb-true conn.0 s.conn.0 (sym (unsigned_tied conn.0 s.conn.0) ∙ t))))
    (λ t. unsigned_tied conn.0 s.conn.0 ∙ eq-eqb conn.0 s.conn.0 (sym (eqb-true s.conn.0 conn.0 t)))

is_there : {X : Type 0} (b c : Bool) (x : X) (r : Option X) → is_some r ≡ c → is_some (cond b (Some x) r) ≡ (b || c)
is_there true c x r e = refl
is_there false c x r e = e

-- with one more opened, its number is there too
one_more : (before : List Session) (all : Connections) (s : Session) → HasNumbers before all → HasNumbers (s ∷ before) (insert all s.conn (ended_connection s))
one_more before all s has conn =
    ap is_some (get-insert conns_total all s.conn (ended_connection s) conn)
    ∙ is_there (eq_by_cmp conn_cmp conn s.conn) (list_any (has_number conn) before) (ended_connection s) (get all conn) (has conn)
    ∙ ap (λ b. b || list_any (has_number conn) before) (number_is conn s)

-- those opened are the first of each number that is not there
opened_first : {A : Type 0} (f : A → Option Session) (es : List A) (before : List Session) (all : Connections) → HasNumbers before all
    → with_firsts (map f es) all ≡ with_sessions (first_of_each before (filter_map f es)) all
opened_first f [] before all has = refl
opened_first f (e ∷ es) before all has =
    elim (f e) as (λ r. with_firsts (map f es) (with_first r all) ≡ with_sessions (first_of_each before (cons_option r (filter_map f es))) all) [
      | None ↦ opened_first f es before all has
      | Some s ↦
          ap (λ (b : Bool). with_firsts (map f es) (if b then all else insert all s.conn (ended_connection s))) (has s.conn)
          ∙ elim (list_any (has_number s.conn) before) as (λ b.
          with_firsts (map f es) (if b then all else insert all s.conn (ended_connection s)) ≡ with_sessions (if b then first_of_each before (filter_map f es) else s ∷ first_of_each (s ∷ before) (filter_map f es)) all) [
            | true ↦ opened_first f es before all has
            | false ↦ opened_first f es (s ∷ before) (insert all s.conn (ended_connection s)) (one_more before all s has)
          ]
    ]

-- the session that a name and its id record
abbrev pub session_in : DurableWorld → List ℕ × ObjectId → Option Session
session_in d e = session_at d (login_of e.0) e.1

-- a walk has come so far: with the sessions that are left, the connections are those with all sessions
pub record IsWalked (left start : List (Option Session)) (all : FinMap conn_cmp MarkedConnection) : Type 0 where
  pub so_far : with_firsts left (all_of all) ≡ with_firsts start empty
  pub fresh : IsFresh all

-- as it begins, none is opened
pub walk_begun : (start : List (Option Session)) (all : FinMap conn_cmp MarkedConnection) → all_of all ≡ empty → IsFresh all → IsWalked start start all
walk_begun start all none fresh = record { so_far = ap (with_firsts start) none; fresh = fresh }

-- a walk over all names that has come to its end has opened those that count
pub walk_ended : {A : Type 0} (d : DurableWorld) (both : A → List ℕ × ObjectId) (es start left : List A) (all : FinMap conn_cmp MarkedConnection) → map both es ≡ entries d.names → start ≡ es
    → IsWalked (map (λ e. session_in d (both e)) left) (map (λ e. session_in d (both e)) start) all → left ≡ [] → all_of all ≡ with_sessions (counting d) empty
walk_ended d both es start left all listed from walked end =
    ap (λ (l : List _). with_firsts (map (λ e. session_in d (both e)) l) (all_of all)) (sym end)
    ∙ walked.so_far
    ∙ ap (λ (ss : List (Option Session)). with_firsts ss empty) (ap (map (λ e. session_in d (both e))) from ∙ sym (map-map (session_in d) both es) ∙ ap (map (session_in d)) listed)
    ∙ opened_first (session_in d) (entries d.names) [] empty (λ conn. ap is_some (get-empty conn_cmp conn))
