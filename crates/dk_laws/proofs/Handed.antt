-- What was handed to a connection and what waits for it is what the commits sent to it.
use Rattle.std.proofs.Common.{◌≡◌, ℕ, zero, suc, ◌==◌, Bool, true, false, cond, not, ◌&&◌, ◌||◌, nat_eq, if◌then◌else◌, take, drop, length, Option, Some, None, List, [], ◌∷◌, ◌++◌, inl, inr, refl, sym, ap, subst, ◌∙◌, arith, append_assoc}
use Rattle.std.specs.Option.{option_map}
use Rattle.std.specs.FinMap.{get, insert, empty, get-empty}
use Rattle.std.proofs.lemmas.List.{append-nil, take-append-drop}
use Rattle.std.proofs.lemmas.Bool.Decides.{eqb_tells}
use Rattle.dk_types.specs.declared.number.RunNo.{RunNo}
use Rattle.dk_types.specs.declared.number.ConnNo.{ConnNo}
use Rattle.dk_types.specs.declared.job.Out.{Out}
use Rattle.dk_types.specs.declared.job.Job.{Job}
use Rattle.dk_types.specs.declared.job.Input.{Input}
use Rattle.dk_types.specs.declared.job.Session.{Session}
use Rattle.dk_types.specs.declared.event.Event.{Event}
use Rattle.dk_types.specs.declared.event.Event.TheVariants as event
use Rattle.dk_types.specs.declared.event.ConnectReply.{ConnectReply}
use Rattle.dk_types.specs.declared.event.ConnectReply.TheVariants as connected
use Rattle.dk_types.specs.declared.event.PostReply.{PostReply}
use Rattle.dk_types.specs.declared.event.PostReply.TheVariants as posted
use Rattle.dk_types.specs.declared.event.ClaimReply.{ClaimReply}
use Rattle.dk_types.specs.declared.event.ClaimReply.TheVariants as claimed
use Rattle.dk_model.specs.declared.waiting.Waiting.TheVariants as waits
use Rattle.dk_model.specs.Keys.{conn_cmp}
use Rattle.dk_model.specs.DurableWorlds.{DurableWorld}
use Rattle.dk_model.specs.Worlds.{World, Connection, Claim, new_connection}
use Rattle.dk_model.specs.Deliveries.{Connections, change_connection, conn_of, for_conn, input_left, cut_off, is_full, with_out, with_outs, takes, closed_by, close_off, with_closed, ended_by, delivered, is_done, without_done}
use Rattle.dk_model.specs.Events.{Meaning, Happens, swept, with_connection, with_input, with_claim, committed, with_handed, step_of, put_last, outbox_at, outbox}
use Rattle.dk_model.specs.Histories.{Leads}
use Rattle.dk_model.specs.Successors.{after_connect, after_post, after_claim, after_commit, after_event}
use Rattle.dk_model.specs.Openings.{opening, counting, with_sessions, ended_connection}
use Rattle.dk_model.specs.Messages.{same_conn, appended, appended_at, appended_by, messages, handed_by, handed}
use Rattle.dk_model.proofs.Walks.{appended_more}
use Rattle.dk_laws.proofs.NumberedMaps.{equal, unequal, one_conn, conn-insert, get-change, get-without_done}
use Rattle.dk_laws.proofs.OneWorld.{event_leads}
use Rattle.dk_laws.proofs.Numbers.{AreBelow, opening_below, happens_below}

-- what waits at a connection
abbrev box : Connections → ConnNo → List Out
box all conn = outbox_at (get all conn)

-- a change that leaves each outbox
box-change : (k : ConnNo) (f : Connection → Connection) (all : Connections) (conn : ConnNo) → ((c : Connection) → (f c).outbox ≡ c.outbox)
    → box (change_connection k f all) conn ≡ box all conn
box-change k f all conn same = ap outbox_at (get-change k f all conn) ∙ elim (nat_eq conn.0 k.0) as (λ b. outbox_at (cond b (option_map f (get all conn)) (get all conn)) ≡ box all conn) [
  | true ↦ mapped (get all conn)
  | false ↦ refl
]
  where
    mapped : (o : Option Connection) → outbox_at (option_map f o) ≡ outbox_at o
    mapped None = refl
    mapped (Some c) = same c

box-for_conn : (o : Option ConnNo) (f : Connection → Connection) (all : Connections) (conn : ConnNo) → ((c : Connection) → (f c).outbox ≡ c.outbox)
    → box (for_conn o f all) conn ≡ box all conn
box-for_conn None f all conn same = refl
box-for_conn (Some k) f all conn same = box-change k f all conn same

-- a connection that is done has nothing left to hand
box-without_done : (all : Connections) (conn : ConnNo) → box (without_done all) conn ≡ box all conn
box-without_done all conn = ap outbox_at (get-without_done all conn) ∙ kept (get all conn)
  where
    full : (c : Connection) (outs : List Out) (over : Bool) → c.outbox ≡ outs → outbox_at (cond (not (over && (length outs == 0))) (Some c) None) ≡ outs
    full c [] true e = refl
    full c [] false e = e
    full c (o ∷ outs) true e = rw (unequal (length (o ∷ outs)) 0 (λ t. omega (arith, t))) e
    full c (o ∷ outs) false e = e

    kept : (o : Option Connection) → outbox_at (cond (not (is_done o)) o None) ≡ outbox_at o
    kept None = refl
    kept (Some c) = full c c.outbox c.over refl

-- one message is appended, or it is not
box-with_out : (o : ConnNo × Out) (all : Connections) (conn : ConnNo)
    → box (change_connection o.0 (with_out o.1) all) conn ≡ box all conn ++ (if same_conn o.0 conn && takes (get all o.0) then o.1 ∷ [] else [])
box-with_out o all conn = ap outbox_at (get-change o.0 (with_out o.1) all conn) ∙ elim (eqb_tells conn.0 o.0.0) [
  | inl w ↦ rw (w.0, equal o.0.0 conn.0 (sym w.1), one_conn o.0 conn (sym w.1)) (put (get all conn))
  | inr w ↦ rw (w.0, unequal o.0.0 conn.0 (λ e. w.1 (sym e))) (sym (append-nil (box all conn)))
]
  where
    took : (c : Connection) (cut over full : Bool)
        → (if cut || over then c else if full then cut_off c else record c { outbox = c.outbox ++ o.1 ∷ [] }).outbox ≡ c.outbox ++ (if not (cut || over || full) then o.1 ∷ [] else [])
    took c true over full = sym (append-nil c.outbox)
    took c false true full = sym (append-nil c.outbox)
    took c false false true = sym (append-nil c.outbox)
    took c false false false = refl

    put : (there : Option Connection) → outbox_at (option_map (with_out o.1) there) ≡ outbox_at there ++ (if takes there then o.1 ∷ [] else [])
    put None = refl
    put (Some c) = took c c.cut c.over (is_full c)

appended-one : (b : Bool) (x : Out) (later : List Out) → (if b then x ∷ [] else []) ++ later ≡ (if b then x ∷ later else later)
appended-one true x later = refl
appended-one false x later = refl

-- messages are appended in their order
box-with_outs : (outs : List (ConnNo × Out)) (all : Connections) (conn : ConnNo) → box (with_outs outs all) conn ≡ box all conn ++ appended conn outs all
box-with_outs [] all conn = sym (append-nil (box all conn))
box-with_outs (o ∷ outs) all conn =
    let next = change_connection o.0 (with_out o.1) all in
    let b = same_conn o.0 conn && takes (get all o.0) in
    box-with_outs outs next conn
    ∙ ap (λ xs. xs ++ appended conn outs next) (box-with_out o all conn)
    ∙ append_assoc (box all conn) (if b then o.1 ∷ [] else []) (appended conn outs next)
    ∙ ap (λ xs. box all conn ++ xs) (appended-one b o.1 (appended conn outs next) ∙ sym (appended_more conn o outs all))

box-with_closed : (conns : List ConnNo) (all : Connections) (conn : ConnNo) → box (with_closed conns all) conn ≡ box all conn
box-with_closed [] all conn = refl
box-with_closed (k ∷ conns) all conn = box-with_closed conns (change_connection k close_off all) conn ∙ box-change k close_off all conn (λ c. refl)

-- what a commit appends
box-delivered : (job : Job) (outs : List (ConnNo × Out)) (all : Connections) (conn : ConnNo)
    → box (delivered job outs all) conn ≡ box all conn ++ appended conn outs (for_conn (conn_of job) input_left all)
box-delivered job outs all conn =
    let left = for_conn (conn_of job) input_left all in
    box-for_conn (ended_by job) (λ c. record c { over = true }) (with_closed (closed_by outs left) (with_outs outs left)) conn (λ c. refl)
    ∙ box-with_closed (closed_by outs left) (with_outs outs left) conn
    ∙ box-with_outs outs left conn
    ∙ ap (λ xs. xs ++ appended conn outs left) (box-for_conn (conn_of job) input_left all conn (λ c. refl))

-- ---- the events

box-connect : (w : World) (name : List ℕ) (reply : ConnectReply) (conn : ConnNo) → AreBelow w → box (after_connect w name reply).connections conn ≡ box w.connections conn
box-connect w name (connected.Number number) conn below =
    box-without_done (with_connection w name).connections conn
    ∙ ap outbox_at (conn-insert w.connections (record { 0 = w.next }) (new_connection name w.next) conn)
    ∙ elim (eqb_tells conn.0 w.next) [
      | inl t ↦ rw (t.0, below.connections conn (omega (arith, t.1))) refl
      | inr t ↦ rw t.0 refl
    ]
box-connect w name (connected.Exhausted next) conn below = refl

box-post : (w : World) (to : ConnNo) (input : Input) (reply : PostReply) (conn : ConnNo) → box (after_post w to input reply).connections conn ≡ box w.connections conn
box-post w to input posted.Taken conn = box-without_done (with_input w to input).connections conn ∙ box-change to (put_last (waits.Input input)) w.connections conn (λ c. refl)
box-post w to input posted.Closed conn = refl
box-post w to input (posted.QueueFull waiting) conn = refl

box-claim : (w : World) (pass : ℕ) (reply : ClaimReply) (conn : ConnNo) → box (after_claim w pass reply).connections conn ≡ box w.connections conn
box-claim w pass (claimed.Granted run at job) conn =
    box-without_done (with_claim w pass job).connections conn ∙ box-for_conn (conn_of job) (λ c. record c { turn = w.next }) w.connections conn (λ c. refl)
box-claim w pass claimed.Nothing conn = refl
box-claim w pass (claimed.Spent granted) conn = refl
box-claim w pass (claimed.Exhausted next) conn = refl

box-commit : (rules : Meaning) (w : World) (run : RunNo) (claim : Option Claim) (conn : ConnNo)
    → box (after_commit rules w run claim).connections conn ≡ box w.connections conn ++ appended_at rules w conn run claim
box-commit rules w run None conn = sym (append-nil (box w.connections conn))
box-commit rules w run (Some claim) conn =
    let s = step_of rules w run claim in
    box-without_done (committed w run claim.job s).connections conn ∙ box-delivered claim.job s.outs w.connections conn

taken_none : (n : ℕ) → take {A = Out} n [] ≡ []
taken_none zero = refl
taken_none (suc n) = refl

-- what was taken off, and what is left, is what waited
box-hand : (w : World) (to : ConnNo) (most : ℕ) (conn : ConnNo)
    → (if same_conn to conn then take most (outbox w to) else []) ++ box (swept (with_handed w to most)).connections conn ≡ box w.connections conn
box-hand w to most conn =
    let took = if same_conn to conn then take most (outbox w to) else [] in
    ap (λ xs. took ++ xs) (box-without_done (with_handed w to most).connections conn ∙ ap outbox_at (get-change to (λ c. record c { outbox = drop most c.outbox }) w.connections conn))
    ∙ elim (eqb_tells conn.0 to.0) [
      | inl t ↦ rw (t.0, equal to.0 conn.0 (sym t.1), one_conn to conn (sym t.1)) (parts (get w.connections conn))
      | inr t ↦ rw (t.0, unequal to.0 conn.0 (λ e. t.1 (sym e))) refl
    ]
  where
    parts : (o : Option Connection) → take most (outbox_at o) ++ outbox_at (option_map (λ (c : Connection). record c { outbox = drop most c.outbox }) o) ≡ outbox_at o
    parts None = append-nil (take most []) ∙ taken_none most
    parts (Some c) = take-append-drop most c.outbox

-- one event hands the first of what waited, and appends
event_hands : (rules : Meaning) (w : World) (e : Event) (after : World) (conn : ConnNo) → AreBelow w → Happens rules w e after
    → box w.connections conn ++ appended_by rules w conn e ≡ handed_by conn e ++ box (after_event rules w e).connections conn
unfolding after_event
event_hands rules w (event.Connect pass name reply) after conn below h = append-nil (box w.connections conn) ∙ sym (box-connect w name reply conn below)
event_hands rules w (event.Post pass to input reply) after conn below h = append-nil (box w.connections conn) ∙ sym (box-post w to input reply conn)
event_hands rules w (event.Claim pass reply) after conn below h = append-nil (box w.connections conn) ∙ sym (box-claim w pass reply conn)
event_hands rules w (event.Release pass run) after conn below h = append-nil (box w.connections conn) ∙ sym (box-without_done w.connections conn)
event_hands rules w (event.Commit pass run seq outcome) after conn below h = sym (box-commit rules w run (get w.claims run) conn)
event_hands rules w (event.Hand pass to most outs end) after conn below h =
    append-nil (box w.connections conn) ∙ sym (box-hand w to most conn)
    ∙ ap (λ xs. (if same_conn to conn then xs else []) ++ box (swept (with_handed w to most)).connections conn) (sym h.0)
event_hands rules w (event.Tick pass moment) after conn below h = append-nil (box w.connections conn) ∙ sym (box-without_done w.connections conn)

-- and so do events
events_hand : (rules : Meaning) (w : World) (events : List Event) (after : World) (conn : ConnNo) → AreBelow w → Leads rules w events after
    → outbox w conn ++ messages rules w events conn ≡ handed events conn ++ outbox after conn
events_hand rules w [] after conn below h = append-nil (outbox w conn) ∙ ap (λ (x : World). outbox x conn) (sym h)
events_hand rules w (e ∷ events) after conn below h =
    let mid = after_event rules w e in
    let is : h.0 ≡ mid = event_leads rules w e h.0 h.1 in
    let rest = events_hand rules mid events after conn (subst AreBelow is (happens_below rules w e h.0 below h.1)) (subst (λ x. Leads rules x events after) is h.2) in
    sym (append_assoc (outbox w conn) (appended_by rules w conn e) (messages rules mid events conn))
    ∙ ap (λ xs. xs ++ messages rules mid events conn) (event_hands rules w e h.0 conn below h.1)
    ∙ append_assoc (handed_by conn e) (outbox mid conn) (messages rules mid events conn)
    ∙ ap (λ xs. handed_by conn e ++ xs) rest
    ∙ sym (append_assoc (handed_by conn e) (handed events conn) (outbox after conn))

-- nothing waits at the opening
with_sessions-box : (sessions : List Session) (all : Connections) (conn : ConnNo) → box all conn ≡ [] → box (with_sessions sessions all) conn ≡ []
with_sessions-box [] all conn e = e
with_sessions-box (s ∷ sessions) all conn e = with_sessions-box sessions (insert all s.conn (ended_connection s)) conn
    (ap outbox_at (conn-insert all s.conn (ended_connection s) conn) ∙ elim (nat_eq conn.0 s.conn.0) as (λ b. outbox_at (cond b (Some (ended_connection s)) (get all conn)) ≡ []) [ true ↦ refl | false ↦ e ])

opening_box : (d : DurableWorld) (budget : Option ℕ) (conn : ConnNo) → outbox (opening d budget) conn ≡ []
unfolding opening
opening_box d budget conn = with_sessions-box (counting d) empty conn (ap outbox_at (get-empty conn_cmp conn))

-- from the opening on
pub messages_handed : (rules : Meaning) (d : DurableWorld) (budget : Option ℕ) (events : List Event) (w : World) → Leads rules (opening d budget) events w
    → (conn : ConnNo) → messages rules (opening d budget) events conn ≡ handed events conn ++ outbox w conn
messages_handed rules d budget events w h conn =
    ap (λ xs. xs ++ messages rules (opening d budget) events conn) (sym (opening_box d budget conn)) ∙ events_hand rules (opening d budget) events w conn (opening_below d budget) h
