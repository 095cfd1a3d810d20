-- A connect adds its login, and a post one input at most.
use Rattle.std.proofs.Common.{◌≡◌, ℕ, ◌+◌, ◌<◌, ◌≤◌, Bool, true, false, cond, nat_eq, Option, Some, None, option_map, List, [], ◌∷◌, ◌++◌, length, Contains, inl, inr, refl, sym, ap, subst, ◌∙◌, length-append, arith}
use Rattle.std.specs.FinMap.{get, insert}
use Rattle.std.proofs.lemmas.List.Elements.{Contains-append_left, Contains-push, Contains-push_cases}
use Rattle.dk_types.specs.declared.number.ConnNo.{ConnNo}
use Rattle.dk_types.specs.declared.event.ConnectReply.TheVariants as connected
use Rattle.dk_types.specs.declared.event.PostReply.TheVariants as posted
use Rattle.dk_types.specs.declared.limits.TheConstants.{OUTS_MOST_COUNT}
use Rattle.dk_model.specs.declared.waiting.Waiting.{Waiting}
use Rattle.dk_model.specs.declared.waiting.Waiting.TheVariants as waits
use Rattle.dk_model.specs.Worlds.{World, Connection, new_connection}
use Rattle.dk_model.specs.Deliveries.{Connections, change_connection, without_done}
use Rattle.dk_model.specs.Events.{swept, with_connection, put_last, outbox_at}
use Rattle.dk_model.proofs.Maps.{conns_total, exact_conns, get-insert_cases}
use Rattle.dk_laws.proofs.NumberedMaps.{equal, unequal, conn-insert, get-change}
use Rattle.dk_progress.specs.Fitness.{left_at, HasNumbersLeft}
use Rattle.dk_progress.specs.ProgressLaws.{ConnectsFit, PostsFit}
use Rattle.dk_progress.proofs.Kept.{AtEach, kept_changed, kept_swept}
use Rattle.dk_progress.proofs.Lefts.{LeavesNoMore, StaysWithin, StaysAway, lefts_steady, boxes_steady, away_steady}
use Rattle.dk_progress.proofs.Sums.{NoMoreBut, sum_apart, sum_one_more, sum_push, distinct_push}
use Rattle.dk_progress.proofs.Fits.{there_before, known_after, fit_fewer}

module _ (w : World) (conns : List ConnNo) (more : ℕ) (fit : HasNumbersLeft w conns (4 + more)) where
  module _ (name : List ℕ) where
    -- the new connection's number
    abbrev new_conn : ConnNo
    new_conn = record { 0 = w.next }

    -- the new connection
    abbrev new : Connection
    new = new_connection name w.next

    -- the connections with it
    abbrev with_new : Connections
    with_new = insert w.connections new_conn new

    -- it is none of those before
    is_new : Contains conns new_conn → ⊥
    is_new there = let drawn : w.next < w.next = fit.drawn new_conn there in omega (arith, drawn)

    -- what stands at a number
    here : get with_new new_conn ≡ Some new
    here = conn-insert w.connections new_conn new new_conn ∙ ap (λ b. cond b (Some new) (get w.connections new_conn)) (equal w.next w.next refl)

    -- what stands at another number
    elsewhere : (other : ConnNo) → (other.0 ≡ w.next → ⊥) → get with_new other ≡ get w.connections other
    elsewhere other apart = conn-insert w.connections new_conn new other ∙ ap (λ b. cond b (Some new) (get w.connections other)) (unequal other.0 w.next apart)

    -- connections that are done go, and leave nothing
    swept_new : AtEach LeavesNoMore (without_done with_new) with_new
    swept_new = kept_swept LeavesNoMore lefts_steady with_new

    -- the others leave no more
    others : NoMoreBut (without_done with_new) w.connections new_conn
    others other apart = let less = swept_new other in let same = ap left_at (elsewhere other apart) in omega (arith, less, same)

    -- and its login with it leaves three
    new_leaves : left_at (get (without_done with_new) new_conn) ≤ 3
    new_leaves = let less = swept_new new_conn in let three : left_at (get with_new new_conn) ≡ 3 = ap left_at here in omega (arith, less, three)

    -- each that is there is one of those before, or the new one
    known_new : (other : ConnNo) (c : Connection) → get (without_done with_new) other ≡ Some c → Contains (conns ++ new_conn ∷ []) other
    known_new other c there =
        let was = there_before (without_done with_new) with_new (kept_swept StaysAway away_steady with_new) other c there in
        elim (get-insert_cases conns_total exact_conns w.connections new_conn new other was.0 was.1) [
          | inl p ↦ subst (Contains (conns ++ new_conn ∷ [])) (sym p.0) (Contains-push conns new_conn)
          | inr old ↦ Contains-append_left conns (new_conn ∷ []) other (fit.known other was.0 old)
        ]

    -- all have numbers that were drawn
    drawn_new : (other : ConnNo) → Contains (conns ++ new_conn ∷ []) other → other.0 < w.next + 1
    drawn_new other there = elim (Contains-push_cases conns new_conn other there) [
      | inl old ↦ omega (arith, fit.drawn other old)
      | inr is ↦ let at : w.next ≡ other.0 = ap (λ (k : ConnNo). k.0) is in omega (arith, at)
    ]

    -- what waits at the new one or at another
    box_where : (b : Bool) (o : Option Connection) → length (outbox_at o) ≤ OUTS_MOST_COUNT → length (outbox_at (cond b (Some new) o)) ≤ OUTS_MOST_COUNT
    box_where true o h = omega arith
    box_where false o h = h

    -- at none wait more messages than may wait
    box_new : (other : ConnNo) → length (outbox_at (get (without_done with_new) other)) ≤ OUTS_MOST_COUNT
    box_new other =
        let was = box_where (nat_eq other.0 w.next) (get w.connections other) (fit.boxes other) in
        kept_swept StaysWithin boxes_steady with_new other
        (subst (λ o. length (outbox_at o) ≤ OUTS_MOST_COUNT) (sym (conn-insert w.connections new_conn new other)) was)

    -- the world is fit with the new connection
    pub fit_connected : HasNumbersLeft (swept (with_connection w name)) (conns ++ new_conn ∷ []) more
    fit_connected = record {
      unclaimed = fit.unclaimed;
      unlimited = fit.unlimited;
      moment = fit.moment;
      tasks = fit.tasks;
      known = known_new;
      drawn = drawn_new;
      distinct = distinct_push conns new_conn fit.distinct is_new;
      boxes = box_new;
      numbers =
          let last = sum_push (without_done with_new) conns new_conn in
          omega (arith, fit.numbers, new_leaves, last, sum_apart (without_done with_new) w.connections new_conn others conns is_new);
    }

  module _ (conn : ConnNo) (x : Waiting) where
    -- the connections with the input put last at one
    abbrev with_put : Connections
    with_put = change_connection conn (put_last x) w.connections

    -- connections that are done go, and leave nothing
    swept_put : AtEach LeavesNoMore (without_done with_put) with_put
    swept_put = kept_swept LeavesNoMore lefts_steady with_put

    -- what stands at a number, as it is the one that is posted to or another
    put_at : (other : ConnNo) (b : Bool) → nat_eq other.0 conn.0 ≡ b → get with_put other ≡ cond b (option_map (put_last x) (get w.connections other)) (get w.connections other)
    put_at other b is =
        let was = get w.connections other in
        get-change conn (put_last x) w.connections other ∙ ap (λ (c : Bool). cond c (option_map (put_last x) was) was) is

    -- only the one that is posted to leaves more
    others_put : NoMoreBut (without_done with_put) w.connections conn
    others_put other apart =
        let less = swept_put other in
        let same = ap left_at (put_at other false (unequal other.0 conn.0 apart)) in
        omega (arith, less, same)

    -- an input that is put last leaves one more
    put_one : (o : Option Connection) → left_at (option_map (put_last x) o) ≤ left_at o + 1
    put_one None = omega arith
    put_one (Some c) = omega (arith, length-append c.queue (x ∷ []))

    -- by one
    grown : left_at (get (without_done with_put) conn) ≤ left_at (get w.connections conn) + 1
    grown =
        let less = swept_put conn in
        let same = ap left_at (put_at conn true (equal conn.0 conn.0 refl)) in
        omega (arith, less, same, put_one (get w.connections conn))

    -- no connection comes
    away_put : AtEach StaysAway (without_done with_put) w.connections
    away_put = kept_changed StaysAway away_steady conn (put_last x) w.connections (λ c e. absurd cc)

    -- and no message waits that did not wait before
    within_put : AtEach StaysWithin (without_done with_put) w.connections
    within_put = kept_changed StaysWithin boxes_steady conn (put_last x) w.connections (λ c h. h)

    -- the world is fit with what was posted
    pub fit_posted : HasNumbersLeft (record w { connections = without_done with_put }) conns more
    fit_posted = record {
      unclaimed = fit.unclaimed;
      unlimited = fit.unlimited;
      moment = fit.moment;
      tasks = fit.tasks;
      known = known_after (without_done with_put) w.connections conns away_put fit.known;
      drawn = fit.drawn;
      distinct = fit.distinct;
      boxes = λ other. within_put other (fit.boxes other);
      numbers = omega (arith, fit.numbers, sum_one_more (without_done with_put) w.connections conn 1 others_put grown conns fit.distinct);
    }

-- a connect of a fit world
pub connect_fit : ConnectsFit
connect_fit rules w after conns more pass name (connected.Number conn) fit h =
    let at_next = subst (λ v. HasNumbersLeft v (conns ++ record { 0 = w.next } ∷ []) more) (sym h.2) (fit_connected w conns more fit name) in
    subst (λ (k : ConnNo). HasNumbersLeft after (conns ++ k ∷ []) more) (sym h.1) at_next
connect_fit rules w after conns more pass name (connected.Exhausted next) fit h = let numbers = fit.numbers in let none = h.0 in omega (arith, numbers, none)

-- a post to a fit world
pub post_fit : PostsFit
post_fit rules w after conns more pass conn input posted.Taken fit h = subst (λ v. HasNumbersLeft v conns more) (sym h.2) (fit_posted w conns more fit conn (waits.Input input))
post_fit rules w after conns more pass conn input posted.Closed fit h = subst (λ v. HasNumbersLeft v conns more) (sym h.1) (fit_fewer w conns 4 more fit)
post_fit rules w after conns more pass conn input (posted.QueueFull waiting) fit h = subst (λ v. HasNumbersLeft v conns more) (sym h.3) (fit_fewer w conns 4 more fit)
