-- A fit world stays fit where only its connections change, and leave no more.
use Rattle.std.proofs.Common.{◌≡◌, ℕ, ◌+◌, ◌≤◌, false, Some, None, List, [], length, drop, Contains, refl, sym, ap, subst, ◌∙◌, length-drop, take_all, arith}
use Rattle.std.specs.List.{filter_map}
use Rattle.std.specs.FinMap.{get, empty, get-empty}
use Rattle.dk_types.specs.declared.number.ConnNo.{ConnNo}
use Rattle.dk_types.specs.declared.number.ObjectId.{ObjectId}
use Rattle.dk_types.specs.declared.limits.TheConstants.{OUTS_MOST_COUNT, NUMBERS_END}
use Rattle.dk_model.specs.Keys.{conn_cmp}
use Rattle.dk_model.specs.DurableWorlds.{empty_world}
use Rattle.dk_model.specs.Openings.{opening, with_sessions, first_of_each, session_at, login_of}
use Rattle.dk_model.specs.Worlds.{World, Connection}
use Rattle.dk_model.specs.Deliveries.{Connections, change_connection, without_done}
use Rattle.dk_model.specs.Events.{outbox_at, ticked}
use Rattle.dk_model.proofs.Maps.{not_both}
use Rattle.dk_progress.specs.Fitness.{left_at, HasNumbersLeft}
use Rattle.dk_progress.specs.ProgressLaws.{FreshIsFit, TicksFit, HandsTakeAll}
use Rattle.dk_progress.proofs.Kept.{AtEach, kept_changed, kept_swept}
use Rattle.dk_progress.proofs.Lefts.{LeavesNoMore, StaysWithin, StaysAway, lefts_steady, boxes_steady, left_none}
use Rattle.dk_progress.proofs.Picks.{no_entries}
use Rattle.dk_progress.proofs.Sums.{sum_no_more, contains_none}

-- each connection that is there is one of these
abbrev pub AreKnown : Connections → List ConnNo → Type 0
AreKnown all conns = (conn : ConnNo) (c : Connection) → get all conn ≡ Some c → Contains conns conn

-- at none wait more messages than may wait
abbrev pub AreWithin : Connections → Type 0
AreWithin all = (conn : ConnNo) → length (outbox_at (get all conn)) ≤ OUTS_MOST_COUNT

-- a connection that leaves no more than none does is not there
pub lefts_away : (after before : Connections) → AtEach LeavesNoMore after before → AtEach StaysAway after before
lefts_away after before less conn e = left_none (get after conn) (subst (λ o. left_at (get after conn) ≤ left_at o) e (less conn))

-- a connection that is there was there
pub there_before : (after before : Connections) → AtEach StaysAway after before → (conn : ConnNo) (c : Connection) → get after conn ≡ Some c
    → (d : Connection) × (get before conn ≡ Some d)
there_before after before away conn c there = elim (get before conn) as (λ o. get before conn ≡ o → (d : Connection) × (get before conn ≡ Some d)) [
  | None ↦ λ e. absurd (not_both (get after conn) c there (away conn e))
  | Some d ↦ λ e. (d, e)
] refl

-- so it is one of those that were known
pub known_after : (after before : Connections) (conns : List ConnNo) → AtEach StaysAway after before → AreKnown before conns → AreKnown after conns
known_after after before conns away known conn c there = let was = there_before after before away conn c there in known conn was.0 was.1

-- where fewer numbers are asked for
pub fit_fewer : (w : World) (conns : List ConnNo) (n more : ℕ) → HasNumbersLeft w conns (n + more) → HasNumbersLeft w conns more
fit_fewer w conns n more fit = record {
  unclaimed = fit.unclaimed;
  unlimited = fit.unlimited;
  moment = fit.moment;
  tasks = fit.tasks;
  known = fit.known;
  drawn = fit.drawn;
  distinct = fit.distinct;
  boxes = fit.boxes;
  numbers = omega (arith, fit.numbers);
}

-- where the connections leave no more
pub fit_with : (w : World) (all : Connections) (conns : List ConnNo) (more : ℕ)
    → AtEach LeavesNoMore all w.connections → AtEach StaysWithin all w.connections → HasNumbersLeft w conns more → HasNumbersLeft (record w { connections = all }) conns more
fit_with w all conns more less within fit = record {
  unclaimed = fit.unclaimed;
  unlimited = fit.unlimited;
  moment = fit.moment;
  tasks = fit.tasks;
  known = known_after all w.connections conns (lefts_away all w.connections less) fit.known;
  drawn = fit.drawn;
  distinct = fit.distinct;
  boxes = λ conn. within conn (fit.boxes conn);
  numbers = omega (arith, fit.numbers, sum_no_more all w.connections less conns);
}

-- what the empty world opens to, which has no session
abbrev bare_world : World
bare_world = record { durable = empty_world; moment = 0; next = 0; budget = None; after_task = false; claims = empty; connections = empty }

opens_bare : opening empty_world None ≡ bare_world
unfolding opening
opens_bare = ap (λ es. record bare_world { connections = with_sessions (first_of_each [] (filter_map (λ (e : List ℕ × ObjectId). session_at empty_world (login_of e.0) e.1) es)) empty }) (no_entries empty_world.names refl)

-- no connection is there at first
none_there : (conn : ConnNo) → get bare_world.connections conn ≡ None
none_there conn = get-empty conn_cmp conn

bare_fit : (more : ℕ) → 1 + more ≤ NUMBERS_END → HasNumbersLeft bare_world [] more
bare_fit more few = record {
  unclaimed = refl;
  unlimited = refl;
  moment = omega arith;
  tasks = refl;
  known = λ conn c there. absurd (not_both (get bare_world.connections conn) c there (none_there conn));
  drawn = λ conn there. absurd (contains_none conn there);
  distinct = tt;
  boxes = λ conn. subst (λ o. length (outbox_at o) ≤ OUTS_MOST_COUNT) (sym (none_there conn)) (omega arith);
  numbers = omega (arith, few);
}

-- a world that nothing has happened to
pub fresh_fit : FreshIsFit
fresh_fit more few = subst (λ w. HasNumbersLeft w [] more) (sym opens_bare) (bare_fit more few)

-- a hand takes all that may wait
pub hands_all : HandsTakeAll
hands_all rules w after conns more pass conn outs end fit h =
    let handed : Connection → Connection = λ c. record c { outbox = drop OUTS_MOST_COUNT c.outbox } in
    let taken = without_done (change_connection conn handed w.connections) in
    let less = kept_changed LeavesNoMore lefts_steady conn handed w.connections (λ c. omega arith) in
    let within = kept_changed StaysWithin boxes_steady conn handed w.connections (λ c few. omega (arith, few, length-drop OUTS_MOST_COUNT c.outbox)) in (
      h.0 ∙ take_all OUTS_MOST_COUNT (outbox_at (get w.connections conn)) (fit.boxes conn),
      subst (λ v. HasNumbersLeft v conns more) (sym h.2) (fit_with w taken conns more less within fit),
    )

-- time goes on
fit_ticked : (w : World) (conns : List ConnNo) (more moment : ℕ) → HasNumbersLeft w conns more → HasNumbersLeft (ticked w moment) conns more
fit_ticked w conns more moment fit = record {
  unclaimed = fit.unclaimed;
  unlimited = fit.unlimited;
  moment = omega (arith, fit.moment);
  tasks = fit.tasks;
  known = fit.known;
  drawn = fit.drawn;
  distinct = fit.distinct;
  boxes = fit.boxes;
  numbers = fit.numbers;
}

-- a tick to a fit world
pub ticks_fit : TicksFit
ticks_fit rules w after conns more pass moment fit h =
    subst (λ v. HasNumbersLeft v conns more) (sym h)
    (fit_with (ticked w moment) (without_done w.connections) conns more (kept_swept LeavesNoMore lefts_steady w.connections) (kept_swept StaysWithin boxes_steady w.connections) (fit_ticked w conns more moment fit))
