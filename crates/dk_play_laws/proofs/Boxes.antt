-- At no connection wait more messages than may wait.
use Rattle.std.proofs.Common.{ℕ, ◌≤◌, true, false, cond, nat_eq, Option, Some, List, [], ◌∷◌, length, drop, sym, subst, length-drop, arith}
use Rattle.std.specs.FinMap.{get, insert, empty, get-empty}
use Rattle.dk_types.specs.declared.number.ConnNo.{ConnNo}
use Rattle.dk_types.specs.declared.job.Session.{Session}
use Rattle.dk_types.specs.declared.event.Event.{Event}
use Rattle.dk_types.specs.declared.event.Event.TheVariants as event
use Rattle.dk_types.specs.declared.event.ConnectReply.TheVariants as connected
use Rattle.dk_types.specs.declared.event.PostReply.TheVariants as posted
use Rattle.dk_types.specs.declared.event.ClaimReply.TheVariants as claimed
use Rattle.dk_types.specs.declared.limits.TheConstants.{OUTS_MOST_COUNT}
use Rattle.dk_model.specs.declared.waiting.Waiting.TheVariants as waits
use Rattle.dk_model.specs.Keys.{conn_cmp}
use Rattle.dk_model.specs.DurableWorlds.{DurableWorld}
use Rattle.dk_model.specs.Worlds.{World, Connection, new_connection}
use Rattle.dk_model.specs.Deliveries.{Connections, change_connection, conn_of, for_conn, delivered, without_done}
use Rattle.dk_model.specs.Events.{Meaning, Happens, outbox_at, put_last, step_of}
use Rattle.dk_model.specs.Histories.{Leads}
use Rattle.dk_model.specs.Openings.{opening, counting, with_sessions, ended_connection}
use Rattle.dk_laws.proofs.NumberedMaps.{conn-insert}
use Rattle.dk_progress.proofs.Fits.{AreWithin}
use Rattle.dk_progress.proofs.Kept.{AtEach, kept_for_conn, kept_swept, kept_changed, kept_delivered}
use Rattle.dk_progress.proofs.Lefts.{StaysWithin, boxes_steady, boxes_delivered}

-- where each box stays within the limit, all do
stay_within : (after before : Connections) → AtEach StaysWithin after before → AreWithin before → AreWithin after
stay_within after before stay within conn = stay conn (within conn)

-- a connection that nothing waits for
insert_within : (all : Connections) (k : ConnNo) (c : Connection) → length c.outbox ≤ OUTS_MOST_COUNT → AreWithin all → AreWithin (insert all k c)
insert_within all k c few within q =
    subst (λ (o : Option Connection). length (outbox_at o) ≤ OUTS_MOST_COUNT) (sym (conn-insert all k c q))
    (elim (nat_eq q.0 k.0) as (λ b. length (outbox_at (cond b (Some c) (get all q))) ≤ OUTS_MOST_COUNT) [ true ↦ few | false ↦ within q ])

-- connections that are done go
swept_within : (all : Connections) → AreWithin all → AreWithin (without_done all)
swept_within all within = stay_within (without_done all) all (kept_swept StaysWithin boxes_steady all) within

-- each event keeps that
pub within_happens : (rules : Meaning) (w : World) (e : Event) (after : World) → AreWithin w.connections → Happens rules w e after → AreWithin after.connections
within_happens rules w (event.Connect pass name (connected.Number conn)) after within h =
    subst (λ (x : World). AreWithin x.connections) (sym h.2)
    (swept_within (insert w.connections (record { 0 = w.next }) (new_connection name w.next)) (insert_within w.connections (record { 0 = w.next }) (new_connection name w.next) (omega arith) within))
within_happens rules w (event.Connect pass name (connected.Exhausted next)) after within h = subst (λ (x : World). AreWithin x.connections) (sym h.2) within
within_happens rules w (event.Post pass conn input posted.Taken) after within h =
    let put : Connection → Connection = put_last (waits.Input input) in
    subst (λ (x : World). AreWithin x.connections) (sym h.2)
    (stay_within (without_done (change_connection conn put w.connections)) w.connections (kept_changed StaysWithin boxes_steady conn put w.connections (λ c few. few)) within)
within_happens rules w (event.Post pass conn input posted.Closed) after within h = subst (λ (x : World). AreWithin x.connections) (sym h.1) within
within_happens rules w (event.Post pass conn input (posted.QueueFull waiting)) after within h = subst (λ (x : World). AreWithin x.connections) (sym h.3) within
within_happens rules w (event.Claim pass (claimed.Granted run at job)) after within h =
    let turned : Connection → Connection = λ c. record c { turn = w.next } in
    let all : Connections = for_conn (conn_of job) turned w.connections in
    subst (λ (x : World). AreWithin x.connections) (sym h.5)
    (swept_within all (stay_within all w.connections (kept_for_conn StaysWithin boxes_steady (conn_of job) turned w.connections (λ c few. few)) within))
within_happens rules w (event.Claim pass claimed.Nothing) after within h = subst (λ (x : World). AreWithin x.connections) (sym h.1) within
within_happens rules w (event.Claim pass (claimed.Spent granted)) after within h = subst (λ (x : World). AreWithin x.connections) (sym h.3) within
within_happens rules w (event.Claim pass (claimed.Exhausted next)) after within h = subst (λ (x : World). AreWithin x.connections) (sym h.4) within
within_happens rules w (event.Release pass run) after within h = subst (λ (x : World). AreWithin x.connections) (sym h.3) (swept_within w.connections within)
within_happens rules w (event.Commit pass run seq outcome) after within h =
    let outs = (step_of rules w run h.0).outs in
    subst (λ (x : World). AreWithin x.connections) (sym h.5)
    (swept_within (delivered h.0.job outs w.connections) (stay_within (delivered h.0.job outs w.connections) w.connections (kept_delivered StaysWithin boxes_delivered h.0.job outs w.connections) within))
within_happens rules w (event.Hand pass conn most outs end) after within h =
    let handed : Connection → Connection = λ c. record c { outbox = drop most c.outbox } in
    subst (λ (x : World). AreWithin x.connections) (sym h.2)
    (stay_within (without_done (change_connection conn handed w.connections)) w.connections
    (kept_changed StaysWithin boxes_steady conn handed w.connections (λ c few. let shorter : length (drop most c.outbox) ≤ length c.outbox = omega (arith, length-drop most c.outbox) in omega (arith, few, shorter))) within)
within_happens rules w (event.Tick pass moment) after within h = subst (λ (x : World). AreWithin x.connections) (sym h) (swept_within w.connections within)

pub within_leads : (rules : Meaning) (w : World) (events : List Event) (after : World) → AreWithin w.connections → Leads rules w events after → AreWithin after.connections
within_leads rules w [] after within h = subst (λ (x : World). AreWithin x.connections) (sym h) within
within_leads rules w (e ∷ events) after within h = within_leads rules h.0 events after (within_happens rules w e h.0 within h.1) h.2

-- and so it is at the opening
sessions_within : (sessions : List Session) (all : Connections) → AreWithin all → AreWithin (with_sessions sessions all)
sessions_within [] all within = within
sessions_within (s ∷ sessions) all within = sessions_within sessions (insert all s.conn (ended_connection s)) (insert_within all s.conn (ended_connection s) (omega arith) within)

none_within : AreWithin empty
none_within conn = subst (λ (o : Option Connection). length (outbox_at o) ≤ OUTS_MOST_COUNT) (sym (get-empty conn_cmp conn)) (omega arith)

pub opening_within : (d : DurableWorld) (budget : Option ℕ) → AreWithin (opening d budget).connections
unfolding opening
opening_within d budget = sessions_within (counting d) empty none_within
