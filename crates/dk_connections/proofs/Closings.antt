-- Connections that are over with nothing left to hand may go at once or at the end: the later changes of a commit do not tell them apart.
use Rattle.std.proofs.Common.{◌≡◌, refl, sym, ap, ◌∙◌, Bool, true, false, cond, ◌&&◌, ◌==◌, length, List, [], ◌∷◌, Option, None, Some}
use Rattle.std.specs.Option.{option_map}
use Rattle.std.specs.Ordering.{eq_by_cmp}
use Rattle.std.specs.FinMap.{get, same_map}
use Rattle.dk_types.specs.declared.number.ConnNo.{ConnNo}
use Rattle.dk_model.specs.Keys.{conn_cmp}
use Rattle.dk_model.proofs.Maps.{conns_total, exact_conns}
use Rattle.dk_model.specs.Worlds.{Connection}
use Rattle.dk_model.specs.Deliveries.{Connections, change_connection, close_off, for_conn, is_done, with_closed, without_done}
use Rattle.dk_connections.specs.MarkedConnections.{over_now}
use Rattle.dk_connections.proofs.Changes.{get-change_connection, get-without_done}

-- what is left of what stands at a number
abbrev swept_at : Option Connection → Option Connection
swept_at r = cond (is_done r) None r

-- a change that leaves a connection over with nothing left to hand, where it was
abbrev KeepsDone : (Connection → Connection) → Type 0
KeepsDone f = (c : Connection) → is_done (Some c) ≡ true → is_done (Some (f c)) ≡ true

module _ (f : Connection → Connection) (keeps : KeepsDone f) where
  once_of : (c : Connection) (b d : Bool) → is_done (Some c) ≡ d → swept_at (cond b (option_map f (cond d None (Some c))) (cond d None (Some c))) ≡ swept_at (cond b (Some (f c)) (Some c))
  once_of c true true e = sym (ap (λ x. cond x None (Some (f c))) (keeps c e))
  once_of c false true e = sym (ap (λ x. cond x None (Some c)) e)
  once_of c b false e = refl

  once : (b : Bool) (r : Option Connection) → swept_at (cond b (option_map f (swept_at r)) (swept_at r)) ≡ swept_at (cond b (option_map f r) r)
  once b None = refl
  once b (Some c) = once_of c b (is_done (Some c)) refl

  get-change_swept : (all : Connections) (k q : ConnNo) → get (without_done (change_connection k f all)) q ≡ swept_at (cond (eq_by_cmp conn_cmp q k) (option_map f (get all q)) (get all q))
  get-change_swept all k q = get-without_done (change_connection k f all) q ∙ ap swept_at (get-change_connection all k f q)

  without-change : (all : Connections) (k : ConnNo) → without_done (change_connection k f (without_done all)) ≡ without_done (change_connection k f all)
  without-change all k =
      same_map conns_total exact_conns _ _ (λ q.
      get-change_swept (without_done all) k q ∙ ap (λ r. swept_at (cond (eq_by_cmp conn_cmp q k) (option_map f r) r)) (get-without_done all q)
      ∙ once (eq_by_cmp conn_cmp q k) (get all q) ∙ sym (get-change_swept all k q))

twice_at : (r : Option Connection) (d : Bool) → is_done r ≡ d → swept_at (cond d None r) ≡ cond d None r
twice_at r true e = refl
twice_at r false e = ap (λ b. cond b None r) e

pub without_twice : (all : Connections) → without_done (without_done all) ≡ without_done all
without_twice all =
    same_map conns_total exact_conns _ _ (λ q.
    get-without_done (without_done all) q ∙ ap swept_at (get-without_done all q) ∙ twice_at (get all q) (is_done (get all q)) refl ∙ sym (get-without_done all q))

second_of : (a b : Bool) → (a && b) ≡ true → b ≡ true
second_of true b e = e
second_of false b e = cc

close_keeps : KeepsDone close_off
close_keeps c e = second_of c.over (length c.outbox == 0) e

over_keeps : KeepsDone over_now
over_keeps c e = second_of c.over (length c.outbox == 0) e

pub without-closed : (conns : List ConnNo) (all : Connections) → without_done (with_closed conns (without_done all)) ≡ without_done (with_closed conns all)
without-closed [] all = without_twice all
without-closed (k ∷ conns) all =
    sym (without-closed conns (change_connection k close_off (without_done all)))
    ∙ ap (λ m. without_done (with_closed conns m)) (without-change close_off close_keeps all k)
    ∙ without-closed conns (change_connection k close_off all)

pub without-ended : (conn : Option ConnNo) (all : Connections) → without_done (for_conn conn over_now (without_done all)) ≡ without_done (for_conn conn over_now all)
without-ended None all = without_twice all
without-ended (Some k) all = without-change over_now over_keeps all k
