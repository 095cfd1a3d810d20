-- The places that are kept are enough after every event.
use Rattle.std.proofs.Common.{◌≡◌, ℕ, ◌+◌, ◌-◌, ◌<◌, ◌≤◌, Bool, true, false, cond, not, ◌||◌, nat_eq, if◌then◌else◌, Ordering, Option, Some, None, is_some, List, [], ◌∷◌, ◌++◌, length, drop, inl, inr, refl, sym, ap, subst, ◌∙◌, arith}
use Rattle.std.specs.Option.{option_map}
use Rattle.std.specs.FinMap.{FinMap, get, insert, remove, empty, len, contains_key, entries, find, get-empty, len-empty, len-insert, len-remove, len-entries, get-entries}
use Rattle.std.proofs.lemmas.Bool.Decides.{eqb_tells}
use Rattle.dk_types.specs.declared.number.RunNo.{RunNo}
use Rattle.dk_types.specs.declared.number.ConnNo.{ConnNo}
use Rattle.dk_types.specs.declared.job.Out.{Out}
use Rattle.dk_types.specs.declared.job.Job.{Job}
use Rattle.dk_types.specs.declared.job.Session.{Session}
use Rattle.dk_types.specs.declared.job.Input.{Input}
use Rattle.dk_types.specs.declared.job.Input.TheVariants as input
use Rattle.dk_types.specs.declared.event.Event.{Event}
use Rattle.dk_types.specs.declared.event.Event.TheVariants as event
use Rattle.dk_types.specs.declared.event.ConnectReply.TheVariants as connected
use Rattle.dk_types.specs.declared.event.PostReply.TheVariants as posted
use Rattle.dk_types.specs.declared.event.ClaimReply.TheVariants as claimed
use Rattle.dk_model.specs.declared.waiting.Waiting.TheVariants as waits
use Rattle.dk_model.specs.Keys.{run_cmp, conn_cmp}
use Rattle.dk_model.specs.Legal.{Opened, opening_of, world_after, IsLegal}
use Rattle.dk_model.specs.Worlds.{World, Connection, Claim, new_connection}
use Rattle.dk_model.specs.Deliveries.{Connections, change_connection, conn_of, for_conn, input_left, cut_off, is_full, is_disconnect, with_out, with_outs, closed_by, close_off, with_closed, ended_by, delivered, is_done, without_done}
use Rattle.dk_model.specs.Events.{Meaning, Happens, is_open, is_open_at, swept, with_connection, with_input, with_claim, with_handed, step_of, put_last}
use Rattle.dk_model.specs.Openings.{opening, counting, with_sessions, ended_connection}
use Rattle.dk_model.proofs.Maps.{runs_total, conns_total, exact_conns, get-insert_here, get-insert_other, get-remove_other}
use Rattle.dk_laws.proofs.NumberedMaps.{equal, one_conn, conn-insert, get-change, get-without_done}
use Rattle.dk_laws.proofs.OneWorld.{events_lead, parted}
use Rattle.dk_host.specs.Keeping.{ends_one, owed_after, IsOwed}

-- ---- how long maps are

length_found : {K X : Type 0} (R : K → K → Ordering) (k : K) (v : X) (es : List (K × X)) → find R k es ≡ Some v → 0 < length es
length_found R k v [] e = absurd cc
length_found R k v (x ∷ es) e = omega arith

-- where something is found there is one entry at least
some_there : {K X : Type 0} {R : K → K → Ordering} (m : FinMap R X) (k : K) (v : X) → get m k ≡ Some v → 0 < len m
some_there {K} {X} {R} m k v e = subst (λ (n : ℕ). 0 < n) (sym (len-entries m)) (length_found R k v (entries m) (sym (get-entries m k) ∙ e))

most_one_more : (b : Bool) (m n : ℕ) → n ≡ cond b m (m + 1) → n ≤ m + 1
most_one_more true m n e = omega arith
most_one_more false m n e = omega arith

one_claim_more : (claims : FinMap run_cmp Claim) (run : RunNo) (claim : Claim) → len (insert claims run claim) ≤ len claims + 1
one_claim_more claims run claim = most_one_more (contains_key claims run) (len claims) _ (len-insert runs_total claims run claim)

one_claim_less : (claims : FinMap run_cmp Claim) (run : RunNo) (claim : Claim) → get claims run ≡ Some claim → len (remove claims run) ≡ len claims - 1
one_claim_less claims run claim there = len-remove runs_total claims run ∙ ap (λ (o : Option Claim). cond (is_some o) (len claims - 1) (len claims)) there

-- ---- a connection that is open was open before

-- no connection is open in the second that was not in the first
abbrev pub NoneOpens : Connections → Connections → Type 0
NoneOpens all after = (q : ConnNo) → is_open_at (get after q) ≡ true → is_open_at (get all q) ≡ true

-- it opens no connection
abbrev pub LeavesClosed : (Connection → Connection) → Type 0
LeavesClosed f = (c : Connection) → not (f c).closed ≡ true → not c.closed ≡ true

opens_change : (k : ConnNo) (f : Connection → Connection) (all : Connections) → LeavesClosed f → NoneOpens all (change_connection k f all)
opens_change k f all leaves q e =
    elim (nat_eq q.0 k.0) as (λ b. is_open_at (cond b (option_map f (get all q)) (get all q)) ≡ true → is_open_at (get all q) ≡ true) [
      | true ↦ mapped (get all q)
      | false ↦ λ h. h
    ] (sym (ap is_open_at (get-change k f all q)) ∙ e)
  where
    mapped : (o : Option Connection) → is_open_at (option_map f o) ≡ true → is_open_at o ≡ true
    mapped None h = h
    mapped (Some c) h = leaves c h

opens_for_conn : (o : Option ConnNo) (f : Connection → Connection) (all : Connections) → LeavesClosed f → NoneOpens all (for_conn o f all)
opens_for_conn None f all leaves q e = e
opens_for_conn (Some k) f all leaves q e = opens_change k f all leaves q e

opens_swept : (all : Connections) → NoneOpens all (without_done all)
opens_swept all q e =
    elim (not (is_done (get all q))) as (λ b. is_open_at (cond b (get all q) None) ≡ true → is_open_at (get all q) ≡ true) [
      | true ↦ λ h. h
      | false ↦ λ h. absurd (cc h)
    ] (sym (ap is_open_at (get-without_done all q)) ∙ e)

leaves_out : (o : Out) → LeavesClosed (with_out o)
leaves_out o c h = by c.cut c.over (is_full c) h
  where
    by : (cut over full : Bool) → not (if cut || over then c else if full then cut_off c else record c { outbox = c.outbox ++ o ∷ [] }).closed ≡ true → not c.closed ≡ true
    by true over full h = h
    by false true full h = h
    by false false true h = absurd (cc h)
    by false false false h = h

opens_outs : (outs : List (ConnNo × Out)) (all : Connections) → NoneOpens all (with_outs outs all)
opens_outs [] all q e = e
opens_outs (o ∷ outs) all q e = opens_change o.0 (with_out o.1) all (leaves_out o.1) q (opens_outs outs (change_connection o.0 (with_out o.1) all) q e)

opens_closed : (conns : List ConnNo) (all : Connections) → NoneOpens all (with_closed conns all)
opens_closed [] all q e = e
opens_closed (k ∷ conns) all q e = opens_change k close_off all (λ c h. absurd (cc h)) q (opens_closed conns (change_connection k close_off all) q e)

opens_delivered : (job : Job) (outs : List (ConnNo × Out)) (all : Connections) → NoneOpens all (delivered job outs all)
opens_delivered job outs all q e =
    let left = for_conn (conn_of job) input_left all in
    opens_for_conn (conn_of job) input_left all (λ c h. h) q (opens_outs outs left q (opens_closed (closed_by outs left) (with_outs outs left) q
    (opens_for_conn (ended_by job) (λ c. record c { over = true }) (with_closed (closed_by outs left) (with_outs outs left)) (λ c h. h) q e)))

not_or : (a b : Bool) → not (a || b) ≡ true → not a ≡ true
not_or true b h = absurd (cc h)
not_or false b h = refl

not_or_true : (a : Bool) → not (a || true) ≡ true → ⊥
not_or_true true h = cc h
not_or_true false h = cc h

-- ---- the places

-- where no connection opens and the claims are as they were
owed_still : (w after : World) (n : ℕ) → NoneOpens w.connections after.connections → after.claims ≡ w.claims → IsOwed w n → IsOwed after n
owed_still w after n opens same d = record {
  rooms = d.rooms;
  holds = λ q e. d.holds q (opens q e);
  enough = subst (λ (m : FinMap run_cmp Claim). len d.rooms + len m ≤ n) (sym same) d.enough;
}

-- a connection is made
owed_made : (w : World) (name : List ℕ) (n : ℕ) → IsOwed w n → IsOwed (swept (with_connection w name)) (n + 1)
owed_made w name n d =
    let k : ConnNo = record { 0 = w.next } in
    let made : Connections = insert w.connections k (new_connection name w.next) in
    let longer : len (insert d.rooms k tt) ≤ len d.rooms + 1 = most_one_more (contains_key d.rooms k) (len d.rooms) _ (len-insert conns_total d.rooms k tt) in
    let few = d.enough in
    record {
      rooms = insert d.rooms k tt;
      holds = λ q e. elim (eqb_tells q.0 w.next) [
        | inl w' ↦ subst (λ (x : ConnNo). get (insert d.rooms k tt) x ≡ Some tt) (one_conn k q (sym w'.1)) (get-insert_here conns_total d.rooms k tt)
        | inr w' ↦ get-insert_other conns_total exact_conns d.rooms k tt q (λ same. w'.1 (ap (λ (x : ConnNo). x.0) (sym same)))
            ∙ d.holds q (sym (ap is_open_at (conn-insert w.connections k (new_connection name w.next) q ∙ ap (λ b. cond b (Some (new_connection name w.next)) (get w.connections q)) w'.0)) ∙ opens_swept made q e)
      ];
      enough = omega (arith, longer, few);
    }

-- an open connection has its place
open_place : (w : World) (conn : ConnNo) (n : ℕ) → is_open w conn ≡ true → IsOwed w n → 0 < n
open_place w conn n there d = let some = some_there d.rooms conn tt (d.holds conn there) in let few = d.enough in omega (arith, some, few)

-- and a claim its own
claim_place : (w : World) (run : RunNo) (claim : Claim) (n : ℕ) → get w.claims run ≡ Some claim → IsOwed w n → 0 < n
claim_place w run claim n there d = let some = some_there w.claims run claim there in let few = d.enough in omega (arith, some, few)

-- after its Disconnect a connection is not open
ended_closed : (all : Connections) (conn : ConnNo) (graceful : Bool) → is_open_at (get (without_done (change_connection conn (put_last (waits.Input (input.Disconnect graceful))) all)) conn) ≡ true → ⊥
ended_closed all conn graceful e =
    gone (get all conn) (sym (ap is_open_at (get-change conn f all conn ∙ ap (λ b. cond b (option_map f (get all conn)) (get all conn)) (equal conn.0 conn.0 refl))) ∙ opens_swept (change_connection conn f all) conn e)
  where
    f : Connection → Connection
    f = put_last (waits.Input (input.Disconnect graceful))

    gone : (o : Option Connection) → is_open_at (option_map (put_last (waits.Input (input.Disconnect graceful))) o) ≡ true → ⊥
    gone None h = cc h
    gone (Some c) h = not_or_true c.closed h

opens_put : (w : World) (conn : ConnNo) (i : Input) → NoneOpens w.connections (swept (with_input w conn i)).connections
opens_put w conn i q e =
    opens_change conn (put_last (waits.Input i)) w.connections (λ c h. not_or c.closed (is_disconnect (waits.Input i)) h) q (opens_swept (change_connection conn (put_last (waits.Input i)) w.connections) q e)

-- the session of a connection ends
owed_ended : (w : World) (conn : ConnNo) (graceful : Bool) (n : ℕ) → is_open w conn ≡ true → IsOwed w n → IsOwed (swept (with_input w conn (input.Disconnect graceful))) (n - 1)
owed_ended w conn graceful n there d =
    let found : get d.rooms conn ≡ Some tt = d.holds conn there in
    let shorter : len (remove d.rooms conn) ≡ len d.rooms - 1 = len-remove conns_total d.rooms conn ∙ ap (λ (o : Option (Unit {0})). cond (is_some o) (len d.rooms - 1) (len d.rooms)) found in
    let some = some_there d.rooms conn tt found in
    let few = d.enough in
    record {
      rooms = remove d.rooms conn;
      holds = λ q e. get-remove_other conns_total exact_conns d.rooms conn q
          (λ same. ended_closed w.connections conn graceful (subst (λ (x : ConnNo). is_open_at (get (swept (with_input w conn (input.Disconnect graceful))).connections x) ≡ true) (sym same) e)) ∙ d.holds q (opens_put w conn (input.Disconnect graceful) q e);
      enough = omega (arith, shorter, some, few);
    }

-- a claim is granted
owed_granted : (w : World) (pass : ℕ) (job : Job) (n : ℕ) → IsOwed w n → IsOwed (swept (with_claim w pass job)) (n + 1)
owed_granted w pass job n d =
    let longer = one_claim_more w.claims (record { 0 = w.next }) (record { pass = pass; job = job; at = w.moment }) in
    let few = d.enough in
    record {
      rooms = d.rooms;
      holds = λ q e. d.holds q (opens_for_conn (conn_of job) (λ c. record c { turn = w.next }) w.connections (λ c h. h) q (opens_swept (for_conn (conn_of job) (λ c. record c { turn = w.next }) w.connections) q e));
      enough = omega (arith, longer, few);
    }

-- a claim ends
owed_less : (w after : World) (run : RunNo) (claim : Claim) (n : ℕ) → get w.claims run ≡ Some claim → NoneOpens w.connections after.connections → after.claims ≡ remove w.claims run → IsOwed w n → IsOwed after (n - 1)
owed_less w after run claim n there opens same d =
    let shorter : len after.claims ≡ len w.claims - 1 = ap len same ∙ one_claim_less w.claims run claim there in
    let some = some_there w.claims run claim there in
    let few = d.enough in
    record { rooms = d.rooms; holds = λ q e. d.holds q (opens q e); enough = omega (arith, shorter, some, few) }

module _ (rules : Meaning) (w : World) (n : ℕ) (d : IsOwed w n) where
  happens_owed : (e : Event) (after : World) → Happens rules w e after → IsOwed after (owed_after e n)
  happens_owed (event.Connect pass name (connected.Number conn)) after h = subst (λ x. IsOwed x (n + 1)) (sym h.2) (owed_made w name n d)
  happens_owed (event.Connect pass name (connected.Exhausted next)) after h = subst (λ x. IsOwed x n) (sym h.2) d
  happens_owed (event.Post pass conn (input.Disconnect graceful) posted.Taken) after h = subst (λ x. IsOwed x (n - 1)) (sym h.2) (owed_ended w conn graceful n h.0 d)
  happens_owed (event.Post pass conn (input.Disconnect graceful) posted.Closed) after h = subst (λ x. IsOwed x n) (sym h.1) d
  happens_owed (event.Post pass conn (input.Disconnect graceful) (posted.QueueFull waiting)) after h = subst (λ x. IsOwed x n) (sym h.3) d
  happens_owed (event.Post pass conn (input.Message body) posted.Taken) after h = subst (λ x. IsOwed x n) (sym h.2) (owed_still w (swept (with_input w conn (input.Message body))) n (opens_put w conn (input.Message body)) refl d)
  happens_owed (event.Post pass conn (input.Message body) posted.Closed) after h = subst (λ x. IsOwed x n) (sym h.1) d
  happens_owed (event.Post pass conn (input.Message body) (posted.QueueFull waiting)) after h = subst (λ x. IsOwed x n) (sym h.3) d
  happens_owed (event.Post pass conn (input.Channel channel body) posted.Taken) after h = subst (λ x. IsOwed x n) (sym h.2) (owed_still w (swept (with_input w conn (input.Channel channel body))) n (opens_put w conn (input.Channel channel body)) refl d)
  happens_owed (event.Post pass conn (input.Channel channel body) posted.Closed) after h = subst (λ x. IsOwed x n) (sym h.1) d
  happens_owed (event.Post pass conn (input.Channel channel body) (posted.QueueFull waiting)) after h = subst (λ x. IsOwed x n) (sym h.3) d
  happens_owed (event.Claim pass (claimed.Granted run at job)) after h = subst (λ x. IsOwed x (n + 1)) (sym h.5) (owed_granted w pass job n d)
  happens_owed (event.Claim pass claimed.Nothing) after h = subst (λ x. IsOwed x n) (sym h.1) d
  happens_owed (event.Claim pass (claimed.Spent granted)) after h = subst (λ x. IsOwed x n) (sym h.3) d
  happens_owed (event.Claim pass (claimed.Exhausted next)) after h = subst (λ x. IsOwed x n) (sym h.4) d
  happens_owed (event.Release pass run) after h = owed_less w after run h.0 n h.1 (λ q e. opens_swept w.connections q (subst (λ (x : World). is_open_at (get x.connections q) ≡ true) h.3 e)) (ap (λ (x : World). x.claims) h.3) d
  happens_owed (event.Commit pass run seq outcome) after h =
      owed_less w after run h.0 n h.1
      (λ q e. opens_delivered h.0.job (step_of rules w run h.0).outs w.connections q (opens_swept (delivered h.0.job (step_of rules w run h.0).outs w.connections) q (subst (λ (x : World). is_open_at (get x.connections q) ≡ true) h.5 e)))
      (ap (λ (x : World). x.claims) h.5) d
  happens_owed (event.Hand pass conn most outs end) after h =
      owed_still w after n
      (λ q e. opens_change conn (λ c. record c { outbox = drop most c.outbox }) w.connections (λ c l. l) q (opens_swept (with_handed w conn most).connections q (subst (λ (x : World). is_open_at (get x.connections q) ≡ true) h.2 e)))
      (ap (λ (x : World). x.claims) h.2) d
  happens_owed (event.Tick pass moment) after h = owed_still w after n (λ q e. opens_swept w.connections q (subst (λ (x : World). is_open_at (get x.connections q) ≡ true) h e)) (ap (λ (x : World). x.claims) h) d

  -- an event whose place is kept finds it
  happens_place : (e : Event) (after : World) → Happens rules w e after → ends_one e ≡ true → 0 < n
  happens_place (event.Post pass conn (input.Disconnect graceful) posted.Taken) after h is = open_place w conn n h.0 d
  happens_place (event.Post pass conn (input.Disconnect graceful) posted.Closed) after h is = absurd (cc is)
  happens_place (event.Post pass conn (input.Disconnect graceful) (posted.QueueFull waiting)) after h is = absurd (cc is)
  happens_place (event.Post pass conn (input.Message body) reply) after h is = absurd (cc is)
  happens_place (event.Post pass conn (input.Channel channel body) reply) after h is = absurd (cc is)
  happens_place (event.Release pass run) after h is = claim_place w run h.0 n h.1 d
  happens_place (event.Commit pass run seq outcome) after h is = claim_place w run h.0 n h.1 d
  happens_place (event.Connect pass name reply) after h is = absurd (cc is)
  happens_place (event.Claim pass reply) after h is = absurd (cc is)
  happens_place (event.Hand pass conn most outs end) after h is = absurd (cc is)
  happens_place (event.Tick pass moment) after h is = absurd (cc is)

-- ---- histories

-- the last event of a legal history happened in the world before it
pub happened : (o : Opened) (events : List Event) (e : Event) → IsLegal o (events ++ e ∷ []) → Happens o.rules (world_after o events) e (world_after o (events ++ e ∷ []))
happened o events e legal =
    let p = parted o.rules (opening_of o) events (e ∷ []) legal.history.last legal.history.leads in
    let at : p.at ≡ world_after o events = events_lead o.rules (opening_of o) events p.at p.first in
    let there : legal.history.last ≡ world_after o (events ++ e ∷ []) = events_lead o.rules (opening_of o) (events ++ e ∷ []) legal.history.last legal.history.leads in
    let mid : p.second.0 ≡ world_after o (events ++ e ∷ []) = sym p.second.2 ∙ there in
    subst (λ (y : World × World). Happens o.rules y.0 e y.1) (λ i. (at i, mid i)) p.second.1

module _ (o : Opened) (events : List Event) (e : Event) (n : ℕ) (legal : IsLegal o (events ++ e ∷ [])) (d : IsOwed (world_after o events) n) where
  pub owed_on : IsOwed (world_after o (events ++ e ∷ [])) (owed_after e n)
  owed_on = happens_owed o.rules (world_after o events) n d e (world_after o (events ++ e ∷ [])) (happened o events e legal)

  pub place_there : ends_one e ≡ true → 0 < n
  place_there = happens_place o.rules (world_after o events) n d e (world_after o (events ++ e ∷ [])) (happened o events e legal)

-- ---- the opening

sessions_closed : (sessions : List Session) (all : Connections) → ((q : ConnNo) → is_open_at (get all q) ≡ false) → (q : ConnNo) → is_open_at (get (with_sessions sessions all) q) ≡ false
sessions_closed [] all none q = none q
sessions_closed (s ∷ sessions) all none q =
    sessions_closed sessions (insert all s.conn (ended_connection s)) (λ x. ap is_open_at (conn-insert all s.conn (ended_connection s) x) ∙ elim (nat_eq x.0 s.conn.0) as (λ b. is_open_at (cond b (Some (ended_connection s)) (get all x)) ≡ false) [
      | true ↦ refl
      | false ↦ none x
    ]) q

-- at the opening no place is kept
pub owed_none : (o : Opened) → IsOwed (world_after o []) 0
unfolding opening
owed_none o = record {
  rooms = empty;
  holds = λ q e. let none = sessions_closed (counting o.durable) empty (λ x. ap is_open_at (get-empty conn_cmp x)) q in absurd (cc (none, e));
  enough = let a = len-empty conn_cmp (Unit {0}) in let b = len-empty run_cmp Claim in omega (arith, a, b);
}
