-- The connection at the front by place is the ready one that comes first, if any is ready.
use Rattle.std.proofs.Common.{◌≡◌, ℕ, ◌<◌, refl, sym, ap, subst, ◌∙◌, Bool, true, false, cond, not, if◌then◌else◌, List, [], ◌∷◌, Option, None, Some, is_some, nat_lt, arith}
use Rattle.std.proofs.lemmas.Bool.Decides.{nat_tests}
use Rattle.std.specs.List.{AllByRecursion, filter}
use Rattle.std.specs.declared.cmp.Ordering.{Ordering}
use Rattle.std.specs.declared.cmp.Ordering.TheVariants.{Less, Equal, Greater}
use Rattle.std.specs.Ordering.{is_lt, eq_by_cmp, nat_cmp, bool_cmp, ordering_then}
use Rattle.std.specs.Cmp.{ranked}
use Rattle.std.specs.FinMap.{FinMap, entries, get}
use Rattle.dk_types.specs.declared.number.ConnNo.{ConnNo}
use Rattle.dk_map.specs.AsMap.{map_of, IsNext}
use Rattle.dk_map.specs.Entries.{find, first_entry, IsOrdered}
use Rattle.dk_map.proofs.Around.{AtEntry, at_entry}
use Rattle.dk_map.proofs.Maps.{get-map_of, entries-map_of}
use Rattle.dk_map.proofs.Next.{next-map_of}
use Rattle.dk_model.specs.Keys.{conn_cmp}
use Rattle.dk_model.specs.Picks.{least, lesser, mapped}
use Rattle.dk_model.proofs.Maps.{conns_total}
use Rattle.dk_connections.specs.MarkedConnections.{MarkedConnection}
use Rattle.dk_connections.specs.Places.{is_idle, place_cmp, place_of, is_placed, IsInStep}
use Rattle.dk_connections.specs.Ready.{is_ready, is_before, least_ready}
use Rattle.dk_connections.specs.declared.place.ConnectionRank.{ConnectionRank}
use Rattle.dk_connections.proofs.Found.{tied, conn_tied, found_is_above, all_of_found}
use Rattle.dk_connections.proofs.Orders.{turn_cmp, places_total, exact_places}
use Rattle.dk_connections.proofs.Steps.{placed_there}

-- what holds of each element that passes holds of the least of them
least_passing : {A : Type 0} (before : A → A → Bool) (test : A → Bool) (P : A → Type 0) (xs : List A) → AllByRecursion (λ x. test x ≡ true → P x) xs
    → (x : A) → least before (filter test xs) ≡ Some x → P x
least_passing before test P [] a x e = cc
least_passing before test P (y ∷ ys) a x e =
    elim (test y) as (λ b. test y ≡ b → least before (cond b (y ∷ filter test ys) (filter test ys)) ≡ Some x → P x) [
      | true ↦ λ t l. elim (least before (filter test ys)) as (λ r. least before (filter test ys) ≡ r → lesser before y r ≡ Some x → P x) [
        | None ↦ λ _ s. let is : y ≡ x = cc in subst P is (a.0 t)
        | Some z ↦ λ r s. elim (before z y) as (λ b. (if b then Some z else Some y) ≡ Some x → P x) [
          | true ↦ λ q. let is : z ≡ x = cc in subst P is (least_passing before test P ys a.1 z r)
          | false ↦ λ q. let is : y ≡ x = cc in subst P is (a.0 t)
        ] s
      ] refl l
      | false ↦ λ _ l. least_passing before test P ys a.1 x l
    ] refl e

-- where none passes, there is none
least_of_none : {A : Type 0} (before : A → A → Bool) (test : A → Bool) (xs : List A) → AllByRecursion (λ x. test x ≡ false) xs → least before (filter test xs) ≡ None
least_of_none before test [] a = refl
least_of_none before test (x ∷ xs) a = ap (λ b. least before (cond b (x ∷ filter test xs) (filter test xs))) a.0 ∙ least_of_none before test xs a.1

-- a turn that is not before another, by its number, is none by itself
not_before : (a b : ℕ) (c : Ordering) → is_lt (ordering_then (nat_cmp a b) c) ≡ false → nat_lt a b ≡ false
not_before a b c e =
    elim (nat_cmp a b) as (λ r. nat_cmp a b ≡ r → is_lt (ordering_then r c) ≡ false → nat_lt a b ≡ false) [
      | Less ↦ λ _ n. cc
      | Equal ↦ λ r _. let same : a ≡ b = ranked a b Equal (sym r) in grind (arith, nat_tests)
      | Greater ↦ λ r _. let above : b < a = ranked a b Greater (sym r) in grind (arith, nat_tests)
    ] refl e

-- and where its number is before the other's, it is after it
after_by_turn : (a b : ℕ) (c : Ordering) → c ≡ Less → is_lt (ordering_then (nat_cmp a b) c) ≡ false → nat_lt b a ≡ true
after_by_turn a b c less e =
    elim (nat_cmp a b) as (λ r. nat_cmp a b ≡ r → is_lt (ordering_then r c) ≡ false → nat_lt b a ≡ true) [
      | Less ↦ λ _ n. cc
      | Equal ↦ λ _ n. let no = sym (ap is_lt less) ∙ n in cc
      | Greater ↦ λ r _. let above : b < a = ranked a b Greater (sym r) in grind (arith, nat_tests)
    ] refl e

module _ (k : ConnNo) (l : MarkedConnection) (ready : is_ready (k, l) ≡ true) where
  -- a connection, where it is ready, is not before this one by turn and number
  abbrev pub IsFrom : ConnNo × MarkedConnection → Type 0
  IsFrom e = is_ready e ≡ true → is_lt (turn_cmp (e.1.connection.turn, e.0) (l.connection.turn, k)) ≡ false

  none_before : (es : List (ConnNo × MarkedConnection)) → AllByRecursion IsFrom es → AllByRecursion (λ e. is_ready e ≡ true → is_before e (k, l) ≡ false) es
  none_before [] a = tt
  none_before (e ∷ es) a = (λ r. not_before e.1.connection.turn l.connection.turn (conn_cmp e.0 k) (a.0 r), none_before es a.1)

  -- before those that are not before it, this one stays the least
  stays : (es : List (ConnNo × MarkedConnection)) → AllByRecursion IsFrom es → lesser is_before (k, l) (least is_before (filter is_ready es)) ≡ Some (k, l)
  stays es a =
      elim (least is_before (filter is_ready es)) as (λ r. least is_before (filter is_ready es) ≡ r → lesser is_before (k, l) r ≡ Some (k, l)) [
        | None ↦ λ _. refl
        | Some y ↦ λ e. ap (λ b. if b then Some y else Some (k, l)) (least_passing is_before is_ready (λ y. is_before y (k, l) ≡ false) es (none_before es a) y e)
      ] refl

  -- this one is the least where it is found and no ready one is before it
  first_is : (es : List (ConnNo × MarkedConnection)) → IsOrdered conn_cmp es → find conn_cmp k es ≡ Some l
      → AllByRecursion IsFrom es → least is_before (filter is_ready es) ≡ Some (k, l)
  first_is [] h f a = cc
  first_is (x ∷ es) h f a =
      let at : AtEntry conn_cmp (x ∷ es) [] x es = at_entry conns_total refl h in
      elim (eq_by_cmp conn_cmp k x.0) as (λ b. eq_by_cmp conn_cmp k x.0 ≡ b → cond b (Some x.1) (find conn_cmp k es) ≡ Some l → least is_before (filter is_ready (x ∷ es)) ≡ Some (k, l)) [
        | true ↦ λ t s.
            let value : x.1 ≡ l = cc in
            let is : x ≡ (k, l) = λ i. (sym (conn_tied k x.0 t) i, value i) in
            ap (λ b. least is_before (cond b (x ∷ filter is_ready es) (filter is_ready es))) (ap is_ready is ∙ ready) ∙ ap (λ y. lesser is_before y (least is_before (filter is_ready es))) is ∙ stays es a.1
        | false ↦ λ t s.
            let rest = first_is es at.right s a.1 in
            elim (is_ready x) as (λ b. is_ready x ≡ b → least is_before (cond b (x ∷ filter is_ready es) (filter is_ready es)) ≡ Some (k, l)) [
              | true ↦ λ r.
                  let later = after_by_turn x.1.connection.turn l.connection.turn (conn_cmp x.0 k) (found_is_above x.0 es at.above k l s) (a.0 r) in
                  ap (lesser is_before x) rest ∙ ap (λ b. if b then Some (k, l) else Some x) later
              | false ↦ λ _. rest
            ] refl
      ] refl f

-- what `least_ready` has to answer: the number of the least, which is there and ready, or none
abbrev pub IsSoonest : FinMap conn_cmp MarkedConnection → Option ConnNo → Type 0
IsSoonest m None = least is_before (filter is_ready (entries m)) ≡ None
IsSoonest m (Some k) = (l : MarkedConnection) × (get m k ≡ Some l) × (is_ready (k, l) ≡ true) × (least is_before (filter is_ready (entries m)) ≡ Some (k, l))

pub least_of : (m : FinMap conn_cmp MarkedConnection) (r : Option ConnNo) → IsSoonest m r → r ≡ least_ready m
least_of m None s = sym (ap (mapped (λ e. e.0)) s)
least_of m (Some k) s = sym (ap (mapped (λ e. e.0)) s.3)

module _ (t : List (ConnNo × MarkedConnection)) (p : List (ConnectionRank × Unit {0})) (i : IsInStep t p) where
  -- what stands at a place that is there
  standing : (q : ConnectionRank) → is_some (find place_cmp q p) ≡ true → (l : MarkedConnection) × (find conn_cmp q.conn t ≡ Some l) × (q ≡ place_of q.conn l)
  standing q e =
      elim (find conn_cmp q.conn t) as (λ r. find conn_cmp q.conn t ≡ r → is_placed q r ≡ true → (l : MarkedConnection) × (find conn_cmp q.conn t ≡ Some l) × (q ≡ place_of q.conn l)) [
        | None ↦ λ _ b. cc
        | Some l ↦ λ f b. (l, f, exact_places q (place_of q.conn l) (tied _ b))
      ] refl (sym (i.placed q) ∙ e)

  next : IsNext (map_of place_cmp p) None (first_entry p)
  next = next-map_of places_total p i.places_ordered None

  -- where each is idle, there is no least
  all_idle : ((k : ConnNo) (l : MarkedConnection) → find conn_cmp k t ≡ Some l → is_ready (k, l) ≡ false) → IsSoonest (map_of conn_cmp t) None
  all_idle f =
      ap (λ es. least is_before (filter is_ready es)) (entries-map_of conn_cmp t i.ordered)
      ∙ least_of_none is_before is_ready t (all_of_found (λ e. is_ready e ≡ false) t i.ordered f)

  -- where nothing stands at the front, nothing is there
  pub soonest_of_none : first_entry p ≡ None → IsSoonest (map_of conn_cmp t) None
  soonest_of_none e =
      let n = subst (IsNext (map_of place_cmp p) None) e next in
      all_idle (λ k l f.
      let absent = sym (get-map_of place_cmp p i.places_ordered (place_of k l)) ∙ n (place_of k l) tt in
      let there = sym (ap is_some absent) ∙ placed_there t p i k l f in
      cc)

  module _ (q : ConnectionRank) (v : Unit {0}) (e : first_entry p ≡ Some (q, v)) where
    -- no connection's place is before the front
    front : (k : ConnNo) (l : MarkedConnection) → find conn_cmp k t ≡ Some l → is_lt (place_cmp (place_of k l) q) ≡ false
    front k l f =
        let n = subst (IsNext (map_of place_cmp p) None) e next in
        n.2 (place_of k l) tt ((ap is_some (get-map_of place_cmp p i.places_ordered (place_of k l)) ∙ placed_there t p i k l f))

    -- and a connection stands there
    at_front : (l : MarkedConnection) × (find conn_cmp q.conn t ≡ Some l) × (q ≡ place_of q.conn l)
    at_front =
        let n = subst (IsNext (map_of place_cmp p) None) e next in
        standing q (ap is_some (sym (get-map_of place_cmp p i.places_ordered q) ∙ n.0))

    -- where the one at the front is idle, all are
    pub soonest_of_idle : q.idle ≡ true → IsSoonest (map_of conn_cmp t) None
    soonest_of_idle a =
        all_idle (λ k l f.
        elim (is_idle l) as (λ b. is_idle l ≡ b → not b ≡ false) [
          | true ↦ λ _. refl
          | false ↦ λ idle.
              let first : is_lt (ordering_then (bool_cmp false true) (turn_cmp (l.connection.turn, k) (q.turn, q.conn))) ≡ false =
              subst (λ c. is_lt (ordering_then c (turn_cmp (l.connection.turn, k) (q.turn, q.conn))) ≡ false) (λ j. bool_cmp (idle j) (a j)) (front k l f)
              in
              cc
        ] refl)

    busy : (l : MarkedConnection) → is_ready (q.conn, l) ≡ true → is_idle l ≡ false
    busy l r = elim (is_idle l) as (λ b. not b ≡ true → b ≡ false) [ true ↦ λ n. cc | false ↦ λ _. refl ] r

    -- where it is not, it is the least
    pub soonest_at_front : q.idle ≡ false → IsSoonest (map_of conn_cmp t) (Some q.conn)
    soonest_at_front a =
        let l = at_front in
        let idle : q.idle ≡ is_idle l.0 = ap (λ (p : ConnectionRank). p.idle) l.2 in
        let turn : q.turn ≡ l.0.connection.turn = ap (λ (p : ConnectionRank). p.turn) l.2 in
        let ready : is_ready (q.conn, l.0) ≡ true = ap not (sym idle ∙ a) in (
          l.0,
          get-map_of conn_cmp t i.ordered q.conn ∙ l.1,
          ready,
          ap (λ es. least is_before (filter is_ready es)) (entries-map_of conn_cmp t i.ordered)
              ∙ first_is q.conn l.0 ready t i.ordered l.1 (all_of_found (IsFrom q.conn l.0 ready) t i.ordered (λ j s f r.
              subst (λ n. is_lt (turn_cmp (s.connection.turn, j) (n, q.conn)) ≡ false) turn
              (subst (λ c. is_lt (ordering_then c (turn_cmp (s.connection.turn, j) (q.turn, q.conn))) ≡ false) (λ m. bool_cmp (busy s r m) (a m)) (front j s f)))),
        )
