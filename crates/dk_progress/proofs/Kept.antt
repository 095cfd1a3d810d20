-- A relation of what stands at each connection after an event to what stood there before.
use Rattle.std.proofs.Common.{Bool, true, false, cond, not, nat_eq, Option, Some, None, option_map, List, [], ◌∷◌, sym, subst}
use Rattle.std.specs.FinMap.{get}
use Rattle.dk_types.specs.declared.number.ConnNo.{ConnNo}
use Rattle.dk_types.specs.declared.job.Job.{Job}
use Rattle.dk_types.specs.declared.job.Out.{Out}
use Rattle.dk_model.specs.Worlds.{Connection}
use Rattle.dk_model.specs.Deliveries.{Connections, change_connection, conn_of, for_conn, input_left, with_out, with_outs, closed_by, close_off, with_closed, ended_by, delivered, is_done, without_done}
use Rattle.dk_laws.proofs.NumberedMaps.{get-change, get-without_done}

-- a relation of options of connections
abbrev pub Relation : Type 1
Relation = Option Connection → Option Connection → Type 0

-- a relation that holds where nothing happens, of one change after another, and where a connection goes
pub record IsSteady (R : Relation) : Type 0 where
  pub same : (o : Option Connection) → R o o
  pub next : (a b c : Option Connection) → R a b → R b c → R a c
  pub gone : (o : Option Connection) → R None o

-- it holds at each connection
abbrev pub AtEach : Relation → Connections → Connections → Type 0
AtEach R after before = (conn : ConnNo) → R (get after conn) (get before conn)

-- it holds of each connection that is changed so
abbrev pub OfEach : Relation → (Connection → Connection) → Type 0
OfEach R change = (c : Connection) → R (Some (change c)) (Some c)

-- a connection whose session is over
abbrev pub over_from_now : Connection → Connection
over_from_now c = record c { over = true }

-- it holds of each change that a commit makes
pub record IsDelivered (R : Relation) : Type 0 where
  pub steady : IsSteady R
  pub input : OfEach R input_left
  pub out : (message : Out) → OfEach R (with_out message)
  pub closed : OfEach R close_off
  pub ended : OfEach R over_from_now

module _ (R : Relation) (steady : IsSteady R) where
  -- one change after another
  pub kept_next : (after mid before : Connections) → AtEach R after mid → AtEach R mid before → AtEach R after before
  kept_next after mid before p q conn = steady.next (get after conn) (get mid conn) (get before conn) (p conn) (q conn)

  -- it holds where a connection is changed or not
  changed_where : (b : Bool) (change : Connection → Connection) (o : Option Connection) → OfEach R change → R (cond b (option_map change o) o) o
  changed_where true change None h = steady.same None
  changed_where true change (Some c) h = h c
  changed_where false change o h = steady.same o

  -- a connection is changed
  pub kept_change : (conn : ConnNo) (change : Connection → Connection) (all : Connections) → OfEach R change → AtEach R (change_connection conn change all) all
  kept_change conn change all h q = subst (λ o. R o (get all q)) (sym (get-change conn change all q)) (changed_where (nat_eq q.0 conn.0) change (get all q) h)

  -- a connection is changed, where there is one
  pub kept_for_conn : (o : Option ConnNo) (change : Connection → Connection) (all : Connections) → OfEach R change → AtEach R (for_conn o change all) all
  kept_for_conn None change all h = λ q. steady.same (get all q)
  kept_for_conn (Some conn) change all h = kept_change conn change all h

  -- it holds where a connection goes or stays
  gone_where : (b : Bool) (o : Option Connection) → R (cond b o None) o
  gone_where true o = steady.same o
  gone_where false o = steady.gone o

  -- connections that are done go
  pub kept_swept : (all : Connections) → AtEach R (without_done all) all
  kept_swept all q = subst (λ o. R o (get all q)) (sym (get-without_done all q)) (gone_where (not (is_done (get all q))) (get all q))

  -- a connection is changed, and those that are done go
  pub kept_changed : (conn : ConnNo) (change : Connection → Connection) (all : Connections) → OfEach R change → AtEach R (without_done (change_connection conn change all)) all
  kept_changed conn change all h =
      let changed = change_connection conn change all in
      kept_next (without_done changed) changed all (kept_swept changed) (kept_change conn change all h)

module _ (R : Relation) (is : IsDelivered R) where
  -- messages wait
  kept_outs : (outs : List (ConnNo × Out)) (all : Connections) → AtEach R (with_outs outs all) all
  kept_outs [] all = λ q. is.steady.same (get all q)
  kept_outs (o ∷ outs) all =
      let one = change_connection o.0 (with_out o.1) all in
      kept_next R is.steady (with_outs outs one) one all (kept_outs outs one) (kept_change R is.steady o.0 (with_out o.1) all (is.out o.1))

  -- connections are closed
  kept_closed : (conns : List ConnNo) (all : Connections) → AtEach R (with_closed conns all) all
  kept_closed [] all = λ q. is.steady.same (get all q)
  kept_closed (conn ∷ conns) all =
      let one = change_connection conn close_off all in
      kept_next R is.steady (with_closed conns one) one all (kept_closed conns one) (kept_change R is.steady conn close_off all is.closed)

  -- all that a commit does once the input has left its queue
  pub kept_after_input : (j : Job) (outs : List (ConnNo × Out)) (all : Connections) → AtEach R (delivered j outs all) (for_conn (conn_of j) input_left all)
  kept_after_input j outs all =
      let first = for_conn (conn_of j) input_left all in
      let sent = with_outs outs first in
      let closed = with_closed (closed_by outs first) sent in
      let last = for_conn (ended_by j) over_from_now closed in
      kept_next R is.steady last closed first (kept_for_conn R is.steady (ended_by j) over_from_now closed is.ended)
      (kept_next R is.steady closed sent first (kept_closed (closed_by outs first) sent) (kept_outs outs first))

  -- all that a commit does
  pub kept_delivered : (j : Job) (outs : List (ConnNo × Out)) (all : Connections) → AtEach R (delivered j outs all) all
  kept_delivered j outs all =
      kept_next R is.steady (delivered j outs all) (for_conn (conn_of j) input_left all) all (kept_after_input j outs all) (kept_for_conn R is.steady (conn_of j) input_left all is.input)
