-- The two trees stay in step where a connection is taken out of both, where one is added to both, and where one is changed.
use Rattle.std.proofs.Common.{◌≡◌, refl, sym, ap, ◌∙◌, Bool, true, false, cond, List, Option, None, Some, is_some}
use Rattle.std.specs.Ordering.{is_eq, eq_by_cmp}
use Rattle.std.specs.Cmp.{tied_itself}
use Rattle.std.specs.FinMap.{FinMap}
use Rattle.std.specs.FinMap.Entries.{find-put}
use Rattle.dk_types.specs.declared.number.ConnNo.{ConnNo}
use Rattle.dk_map.specs.AsMap.{map_of}
use Rattle.dk_map.specs.Entries.{find, put, without, IsOrdered}
use Rattle.dk_map.proofs.Counts.{ordered_put, ordered_without}
use Rattle.dk_map.proofs.Maps.{find-without}
use Rattle.dk_map.proofs.Seen.{get_seen}
use Rattle.dk_model.specs.Keys.{conn_cmp}
use Rattle.dk_model.proofs.Maps.{conns_total}
use Rattle.dk_connections.specs.MarkedConnections.{MarkedConnection, is_done_at, IsAlive}
use Rattle.dk_connections.specs.Places.{place_cmp, place_of, is_placed, IsInStep}
use Rattle.dk_connections.specs.declared.place.ConnectionRank.{ConnectionRank}
use Rattle.dk_connections.proofs.Changes.{twice}
use Rattle.dk_connections.proofs.Found.{tied, conn_tied, conn_is, conn_itself}
use Rattle.dk_connections.proofs.Orders.{places_total, exact_places}

-- a place of one number is none of another
apart : (q : ConnectionRank) (k : ConnNo) (l : MarkedConnection) → eq_by_cmp conn_cmp q.conn k ≡ false → eq_by_cmp place_cmp q (place_of k l) ≡ false
apart q k l t =
    elim (eq_by_cmp place_cmp q (place_of k l)) as (λ b. eq_by_cmp place_cmp q (place_of k l) ≡ b → b ≡ false) [
      | true ↦ λ e. let there = conn_is q.conn k (ap (λ (p : ConnectionRank). p.conn) (exact_places q (place_of k l) (tied _ e))) in cc
      | false ↦ λ _. refl
    ] refl

-- a place that is taken out is not there, and no other goes
taken_out : {A : Type 0} (b : Bool) (x : Option A) → is_some x ≡ b → is_some (cond b None x) ≡ false
taken_out true x e = refl
taken_out false x e = e

put_there : {A : Type 0} (b : Bool) (a : A) (x : Option A) → is_some x ≡ false → is_some (cond b (Some a) x) ≡ b
put_there true a x e = refl
put_there false a x e = e

module _ (t : List (ConnNo × MarkedConnection)) (p : List (ConnectionRank × Unit {0})) (i : IsInStep t p) where
  -- in the map that callers see, none is over with nothing left to hand
  pub alive_seen : (m : FinMap conn_cmp MarkedConnection) → map_of conn_cmp t ≡ m → IsAlive m
  alive_seen m v conn = ap is_done_at (sym (get_seen t v i.ordered conn)) ∙ i.alive conn

  alive_without : (k j : ConnNo) → is_done_at (find conn_cmp j (without conn_cmp k t)) ≡ false
  alive_without k j =
      ap is_done_at (find-without conns_total t i.ordered k j)
      ∙ elim (eq_by_cmp conn_cmp j k) as (λ b. is_done_at (cond b None (find conn_cmp j t)) ≡ false) [ true ↦ refl | false ↦ i.alive j ]

  module _ (k : ConnNo) (l : MarkedConnection) where
    -- the place of each connection is there
    pub placed_there : find conn_cmp k t ≡ Some l → is_some (find place_cmp (place_of k l) p) ≡ true
    placed_there f = i.placed (place_of k l) ∙ ap (is_placed (place_of k l)) f ∙ ap is_eq (tied_itself places_total (place_of k l))

    -- where no connection is, none has a place
    pub not_placed : find conn_cmp k t ≡ None → is_some (find place_cmp (place_of k l) p) ≡ false
    not_placed f = i.placed (place_of k l) ∙ ap (is_placed (place_of k l)) f

    placed_without : find conn_cmp k t ≡ Some l → (q : ConnectionRank) → is_some (find place_cmp q (without place_cmp (place_of k l) p)) ≡ is_placed q (find conn_cmp q.conn (without conn_cmp k t))
    placed_without f q =
        ap is_some (find-without places_total p i.places_ordered (place_of k l) q)
        ∙ elim (eq_by_cmp conn_cmp q.conn k) as (λ a. eq_by_cmp conn_cmp q.conn k ≡ a → is_some (cond (eq_by_cmp place_cmp q (place_of k l)) None (find place_cmp q p)) ≡ is_placed q (cond a None (find conn_cmp q.conn t))) [
          | true ↦ λ e.
              let key : q.conn ≡ k = conn_tied q.conn k e in
              taken_out _ _ (i.placed q ∙ ap (is_placed q) (ap (λ j. find conn_cmp j t) key ∙ f) ∙ ap (λ j. eq_by_cmp place_cmp q (place_of j l)) key)
          | false ↦ λ e. ap (λ b. is_some (cond b None (find place_cmp q p))) (apart q k l e) ∙ i.placed q
        ] refl
        ∙ ap (is_placed q) (sym (find-without conns_total t i.ordered k q.conn))

    placed_put : find conn_cmp k t ≡ None → (q : ConnectionRank) → is_some (find place_cmp q (put place_cmp (place_of k l) tt p)) ≡ is_placed q (find conn_cmp q.conn (put conn_cmp k l t))
    placed_put f q =
        ap is_some (find-put place_cmp places_total q (place_of k l) tt p)
        ∙ elim (eq_by_cmp conn_cmp q.conn k) as (λ a. eq_by_cmp conn_cmp q.conn k ≡ a → is_some (cond (eq_by_cmp place_cmp q (place_of k l)) (Some tt) (find place_cmp q p)) ≡ is_placed q (cond a (Some l) (find conn_cmp q.conn t))) [
          | true ↦ λ e.
              let key : q.conn ≡ k = conn_tied q.conn k e in
              put_there _ tt _ (i.placed q ∙ ap (is_placed q) (ap (λ j. find conn_cmp j t) key ∙ f)) ∙ ap (λ j. eq_by_cmp place_cmp q (place_of j l)) (sym key)
          | false ↦ λ e. ap (λ b. is_some (cond b (Some tt) (find place_cmp q p))) (apart q k l e) ∙ i.placed q
        ] refl
        ∙ ap (is_placed q) (sym (find-put conn_cmp conns_total q.conn k l t))

    alive_put : is_done_at (Some l) ≡ false → (j : ConnNo) → is_done_at (find conn_cmp j (put conn_cmp k l t)) ≡ false
    alive_put d j =
        ap is_done_at (find-put conn_cmp conns_total j k l t)
        ∙ elim (eq_by_cmp conn_cmp j k) as (λ b. is_done_at (cond b (Some l) (find conn_cmp j t)) ≡ false) [ true ↦ d | false ↦ i.alive j ]

    -- a connection is out of both trees
    pub step_out : (t' : List (ConnNo × MarkedConnection)) (p' : List (ConnectionRank × Unit {0})) → IsOrdered conn_cmp t' → IsOrdered place_cmp p' → find conn_cmp k t ≡ Some l
        → t' ≡ without conn_cmp k t → p' ≡ without place_cmp (place_of k l) p → IsInStep t' p'
    step_out t' p' ordered places_ordered f e g = record {
      ordered = ordered;
      places_ordered = places_ordered;
      placed = λ q. ap (λ es. is_some (find place_cmp q es)) g ∙ placed_without f q ∙ ap (λ es. is_placed q (find conn_cmp q.conn es)) (sym e);
      alive = λ j. ap (λ es. is_done_at (find conn_cmp j es)) e ∙ alive_without k j;
    }

    -- a connection is in both trees
    pub step_in : (t' : List (ConnNo × MarkedConnection)) (p' : List (ConnectionRank × Unit {0})) → IsOrdered conn_cmp t' → IsOrdered place_cmp p' → find conn_cmp k t ≡ None
        → is_done_at (Some l) ≡ false → t' ≡ put conn_cmp k l t → p' ≡ put place_cmp (place_of k l) tt p → IsInStep t' p'
    step_in t' p' ordered places_ordered f d e g = record {
      ordered = ordered;
      places_ordered = places_ordered;
      placed = λ q. ap (λ es. is_some (find place_cmp q es)) g ∙ placed_put f q ∙ ap (λ es. is_placed q (find conn_cmp q.conn es)) (sym e);
      alive = λ j. ap (λ es. is_done_at (find conn_cmp j es)) e ∙ alive_put d j;
    }

  module _ (k : ConnNo) where
    -- a number that is not there is still not found
    none_gone : find conn_cmp k t ≡ None → (j : ConnNo) → find conn_cmp j (without conn_cmp k t) ≡ find conn_cmp j t
    none_gone f j =
        find-without conns_total t i.ordered k j
        ∙ elim (eq_by_cmp conn_cmp j k) as (λ b. eq_by_cmp conn_cmp j k ≡ b → cond b None (find conn_cmp j t) ≡ find conn_cmp j t) [
          | true ↦ λ e. sym (ap (λ q. find conn_cmp q t) (conn_tied j k e) ∙ f)
          | false ↦ λ _. refl
        ] refl

    -- where no connection was there, both trees stay in step
    pub step_none : (t' : List (ConnNo × MarkedConnection)) → IsOrdered conn_cmp t' → find conn_cmp k t ≡ None → t' ≡ without conn_cmp k t → IsInStep t' p
    step_none t' ordered f e = record {
      ordered = ordered;
      places_ordered = i.places_ordered;
      placed = λ q. i.placed q ∙ ap (is_placed q) (sym (none_gone f q.conn)) ∙ ap (λ es. is_placed q (find conn_cmp q.conn es)) (sym e);
      alive = λ j. ap (λ es. is_done_at (find conn_cmp j es)) e ∙ ap is_done_at (none_gone f j) ∙ i.alive j;
    }

-- a connection is changed where it stands, and is not over with nothing left to hand afterwards
module _ (t : List (ConnNo × MarkedConnection)) (p : List (ConnectionRank × Unit {0})) (i : IsInStep t p) (k : ConnNo) (l x : MarkedConnection) (f : find conn_cmp k t ≡ Some l) (d : is_done_at (Some x) ≡ false) (t' : List (ConnNo × MarkedConnection)) (e : t' ≡ put conn_cmp k x t) (ordered : IsOrdered conn_cmp t') where
  -- its place is the same
  pub step_still : place_of k l ≡ place_of k x → IsInStep t' p
  step_still same = record {
    ordered = ordered;
    places_ordered = i.places_ordered;
    placed = λ q.
        i.placed q
        ∙ elim (eq_by_cmp conn_cmp q.conn k) as (λ a. eq_by_cmp conn_cmp q.conn k ≡ a → is_placed q (find conn_cmp q.conn t) ≡ is_placed q (cond a (Some x) (find conn_cmp q.conn t))) [
          | true ↦ λ a.
              let key : q.conn ≡ k = conn_tied q.conn k a in
              ap (is_placed q) (ap (λ j. find conn_cmp j t) key ∙ f) ∙ ap (λ j. eq_by_cmp place_cmp q (place_of j l)) key ∙ ap (eq_by_cmp place_cmp q) same ∙ ap (λ j. eq_by_cmp place_cmp q (place_of j x)) (sym key)
          | false ↦ λ _. refl
        ] refl
        ∙ ap (is_placed q) (sym (find-put conn_cmp conns_total q.conn k x t)) ∙ ap (λ es. is_placed q (find conn_cmp q.conn es)) (sym e);
    alive = λ j. ap (λ es. is_done_at (find conn_cmp j es)) e ∙ alive_put t p i k x d j;
  }

  -- to change it is to take it out and to put it in
  as_put : (j : ConnNo) → find conn_cmp j (put conn_cmp k x (without conn_cmp k t)) ≡ find conn_cmp j t'
  as_put j =
      find-put conn_cmp conns_total j k x (without conn_cmp k t) ∙ ap (cond (eq_by_cmp conn_cmp j k) (Some x)) (find-without conns_total t i.ordered k j) ∙ twice (eq_by_cmp conn_cmp j k) (Some x) None (find conn_cmp j t)
      ∙ sym (find-put conn_cmp conns_total j k x t) ∙ ap (find conn_cmp j) (sym e)

  module _ (less : List (ConnectionRank × Unit {0})) (gone : less ≡ without place_cmp (place_of k l) p) (less_ordered : IsOrdered place_cmp less) where
    out : IsInStep (without conn_cmp k t) less
    out = step_out t p i k l _ less (ordered_without conns_total k t i.ordered) less_ordered f refl gone

    none : find conn_cmp k (without conn_cmp k t) ≡ None
    none = find-without conns_total t i.ordered k k ∙ ap (λ b. cond b None (find conn_cmp k t)) (conn_itself k)

    -- its new place is not there yet
    pub place_free : is_some (find place_cmp (place_of k x) less) ≡ false
    place_free = not_placed _ less out k x none

    -- its place is moved
    pub step_moved : (p' : List (ConnectionRank × Unit {0})) → p' ≡ put place_cmp (place_of k x) tt less → IsOrdered place_cmp p' → IsInStep t' p'
    step_moved p' more places_ordered =
        let both = step_in _ less out k x _ p' (ordered_put conns_total k _ out.ordered x) places_ordered none d refl more in
        record {
          ordered = ordered;
          places_ordered = places_ordered;
          placed = λ q. both.placed q ∙ ap (is_placed q) (as_put q.conn);
          alive = λ j. ap is_done_at (sym (as_put j)) ∙ both.alive j;
        }
