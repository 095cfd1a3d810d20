-- The numbers that are drawn in a history, and what its events do to the claims.
use Rattle.std.proofs.Common.{◌≡◌, ◌≢◌, ℕ, ◌+◌, ◌<◌, ◌≤◌, true, false, cond, nat_eq, nat_lt, if◌then◌else◌, drop, Option, Some, None, IfSome, List, [], ◌∷◌, ◌⊎◌, inl, inr, refl, sym, ap, subst, ◌∙◌, arith}
use Rattle.std.specs.FinMap.{FinMap, get, insert, remove, empty, entries, get-empty}
use Rattle.std.specs.List.{AllByRecursion, list_any, filter_map, cons_option}
use Rattle.std.proofs.lemmas.Bool.{ltb-true}
use Rattle.std.proofs.lemmas.Bool.Decides.{eqb_tells, leb_tells}
use Rattle.dk_types.specs.declared.number.RunNo.{RunNo}
use Rattle.dk_types.specs.declared.number.ConnNo.{ConnNo}
use Rattle.dk_types.specs.declared.number.ObjectId.{ObjectId}
use Rattle.dk_types.specs.declared.job.Out.{Out}
use Rattle.dk_types.specs.declared.job.Job.{Job}
use Rattle.dk_types.specs.declared.job.Input.{Input}
use Rattle.dk_types.specs.declared.job.Session.{Session}
use Rattle.dk_types.specs.declared.event.Event.{Event}
use Rattle.dk_types.specs.declared.event.Event.TheVariants as event
use Rattle.dk_types.specs.declared.event.ConnectReply.{ConnectReply}
use Rattle.dk_types.specs.declared.event.ConnectReply.TheVariants as connected
use Rattle.dk_types.specs.declared.event.PostReply.{PostReply}
use Rattle.dk_types.specs.declared.event.PostReply.TheVariants as posted
use Rattle.dk_types.specs.declared.event.ClaimReply.{ClaimReply}
use Rattle.dk_types.specs.declared.event.ClaimReply.TheVariants as claimed
use Rattle.dk_model.specs.declared.waiting.Waiting.TheVariants as waits
use Rattle.dk_model.specs.declared.records.SessionRecord.{SessionRecord}
use Rattle.dk_model.specs.Keys.{run_cmp, conn_cmp}
use Rattle.dk_model.specs.DurableWorlds.{DurableWorld}
use Rattle.dk_types.specs.declared.limits.TheConstants.{NUMBERS_END}
use Rattle.dk_model.specs.Validity.{next_of}
use Rattle.dk_model.specs.Steps.{Stepped}
use Rattle.dk_model.specs.Worlds.{World, Connection, Claim, new_connection}
use Rattle.dk_model.specs.Deliveries.{Connections, change_connection, conn_of, for_conn, input_left, with_out, with_outs, closed_by, close_off, with_closed, ended_by, delivered}
use Rattle.dk_model.specs.Events.{Meaning, Happens, Connects, Posts, Claims, swept, with_connection, with_input, with_claim, without_claim, committed, with_handed, ticked, step_of, put_last}
use Rattle.dk_model.specs.Histories.{Leads}
use Rattle.dk_model.specs.Successors.{after_connect, after_post, after_claim, after_commit, after_event, stepped_at, step_by}
use Rattle.dk_model.specs.Openings.{opening, counting, recorded, counted, session_at, first_of_each, has_number, with_sessions, ended_connection, login_of, record_in}
use Rattle.dk_model.specs.Sights.{is_claim_of, grants}
use Rattle.dk_laws.specs.HistoryLaws.{commits_run}
use Rattle.dk_laws.proofs.NumberedMaps.{equal, unequal, one_run, run-insert, run-remove, conn-insert, change-none, for_conn-none, without_done-none}
use Rattle.dk_laws.proofs.OneWorld.{event_leads}

-- no claim and no connection has a number that is still to be drawn
pub record AreBelow (w : World) : Type 0 where
  pub claims : (run : RunNo) → w.next ≤ run.0 → get w.claims run ≡ None
  pub connections : (conn : ConnNo) → w.next ≤ conn.0 → get w.connections conn ≡ None

-- nothing is not something
pub none_some : {A : Type 0} {P : Type 0} (x : A) → None ≡ Some x → P
none_some x e = absurd cc

-- so the number of a claimed run was drawn
pub claimed_below : (w : World) (run : RunNo) (claim : Claim) → AreBelow w → get w.claims run ≡ Some claim → run.0 < w.next
claimed_below w run claim b e = elim (leb_tells w.next run.0) [
  | inl t ↦ none_some claim (sym (b.claims run t.1) ∙ e)
  | inr t ↦ t.1
]

-- and so was that of a connection
pub connected_below : (w : World) (conn : ConnNo) (c : Connection) → AreBelow w → get w.connections conn ≡ Some c → conn.0 < w.next
connected_below w conn c b e = elim (leb_tells w.next conn.0) [
  | inl t ↦ none_some c (sym (b.connections conn t.1) ∙ e)
  | inr t ↦ t.1
]

-- ---- the opening world

-- every session has a number below n
abbrev HaveBelow : ℕ → List Session → Type 0
HaveBelow n sessions = AllByRecursion (λ s. s.conn.0 < n) sessions

first_of_each-below : (n : ℕ) (before sessions : List Session) → HaveBelow n sessions → HaveBelow n (first_of_each before sessions)
first_of_each-below n before [] h = tt
first_of_each-below n before (s ∷ sessions) h =
    elim (list_any (has_number s.conn) before) as (λ b. HaveBelow n (if b then first_of_each before sessions else s ∷ first_of_each (s ∷ before) sessions)) [
      | true ↦ first_of_each-below n before sessions h.1
      | false ↦ (h.0, first_of_each-below n (s ∷ before) sessions h.1)
    ]

cons_option-all : {A : Type 0} (P : A → Type 0) (o : Option A) (xs : List A) → IfSome o P → AllByRecursion P xs → AllByRecursion P (cons_option o xs)
cons_option-all P None xs p h = h
cons_option-all P (Some x) xs p h = (p, h)

filter_map-all : {A B : Type 0} (P : B → Type 0) (f : A → Option B) (xs : List A) → ((x : A) → IfSome (f x) P) → AllByRecursion P (filter_map f xs)
filter_map-all P f [] p = tt
filter_map-all P f (x ∷ xs) p = cons_option-all P (f x) _ (p x) (filter_map-all P f xs p)

counted-below : (d : DurableWorld) (name : List ℕ) (r : Option SessionRecord) → IfSome (counted d name r) (λ s. s.conn.0 < next_of d.last)
counted-below d name None = tt
counted-below d name (Some r) =
    elim (nat_lt r.conn.0 (next_of d.last)) as (λ b. nat_lt r.conn.0 (next_of d.last) ≡ b → IfSome {T = Session} (if b then Some (record { name = name; conn = r.conn }) else None) (λ s. s.conn.0 < next_of d.last)) [
      | true ↦ λ e. ltb-true r.conn.0 (next_of d.last) e
      | false ↦ λ e. tt
    ] refl

session_at-below : (d : DurableWorld) (name : Option (List ℕ)) (id : ObjectId) → IfSome (session_at d name id) (λ s. s.conn.0 < next_of d.last)
session_at-below d None id = tt
session_at-below d (Some name) id = counted-below d name (record_in (get d.objects id))

counting-below : (d : DurableWorld) → HaveBelow (next_of d.last) (counting d)
counting-below d = first_of_each-below (next_of d.last) [] (recorded d) (filter_map-all _ _ (entries d.names) (λ e. session_at-below d (login_of e.0) e.1))

-- the connections that stand at the opening have numbers of before
with_sessions-none : (n : ℕ) (sessions : List Session) (all : Connections) (conn : ConnNo) → HaveBelow n sessions → n ≤ conn.0 → get all conn ≡ None → get (with_sessions sessions all) conn ≡ None
with_sessions-none n [] all conn h le e = e
with_sessions-none n (s ∷ sessions) all conn h le e =
    let first : s.conn.0 < n = h.0 in
    with_sessions-none n sessions (insert all s.conn (ended_connection s)) conn h.1 le
    (conn-insert all s.conn (ended_connection s) conn ∙ rw (unequal conn.0 s.conn.0 (λ same. omega arith)) e)

-- no run is claimed at the opening
pub opening_claims : (d : DurableWorld) (budget : Option ℕ) (run : RunNo) → get (opening d budget).claims run ≡ None
unfolding opening
opening_claims d budget run = get-empty run_cmp run

pub opening_below : (d : DurableWorld) (budget : Option ℕ) → AreBelow (opening d budget)
unfolding opening
opening_below d budget = record {
  claims = λ run le. opening_claims d budget run;
  connections = λ conn le. with_sessions-none (next_of d.last) (counting d) empty conn (counting-below d) le (get-empty conn_cmp conn);
}

-- ---- the events

with_outs-none : (outs : List (ConnNo × Out)) (all : Connections) (conn : ConnNo) → get all conn ≡ None → get (with_outs outs all) conn ≡ None
with_outs-none [] all conn e = e
with_outs-none (o ∷ outs) all conn e = with_outs-none outs (change_connection o.0 (with_out o.1) all) conn (change-none o.0 (with_out o.1) all conn e)

with_closed-none : (conns : List ConnNo) (all : Connections) (conn : ConnNo) → get all conn ≡ None → get (with_closed conns all) conn ≡ None
with_closed-none [] all conn e = e
with_closed-none (k ∷ conns) all conn e = with_closed-none conns (change_connection k close_off all) conn (change-none k close_off all conn e)

-- a commit makes no connection
pub delivered-none : (job : Job) (outs : List (ConnNo × Out)) (all : Connections) (conn : ConnNo) → get all conn ≡ None → get (delivered job outs all) conn ≡ None
delivered-none job outs all conn e =
    let left = for_conn (conn_of job) input_left all in
    for_conn-none (ended_by job) _ _ conn (with_closed-none (closed_by outs left) _ conn (with_outs-none outs left conn (for_conn-none (conn_of job) input_left all conn e)))

-- a world that has the same next number and lacks what the other lacks
below_from : (w after : World) → after.next ≡ w.next → ((run : RunNo) → get w.claims run ≡ None → get after.claims run ≡ None)
    → ((conn : ConnNo) → get w.connections conn ≡ None → get after.connections conn ≡ None) → AreBelow w → AreBelow after
below_from w after n c k b = record {
  claims = λ run le. c run (b.claims run (omega arith));
  connections = λ conn le. k conn (b.connections conn (omega arith));
}

swept_below : (w : World) → AreBelow w → AreBelow (swept w)
swept_below w b = below_from w (swept w) refl (λ run e. e) (λ conn e. without_done-none w.connections conn e) b

connect_below : (w : World) (name : List ℕ) (reply : ConnectReply) → AreBelow w → AreBelow (after_connect w name reply)
connect_below w name (connected.Number conn) b = swept_below (with_connection w name) record {
  claims = λ run le. b.claims run (omega arith);
  connections = λ conn le. conn-insert w.connections (record { 0 = w.next }) (new_connection name w.next) conn
      ∙ rw (unequal conn.0 w.next (λ same. omega arith)) (b.connections conn (omega arith));
}
connect_below w name (connected.Exhausted next) b = b

post_below : (w : World) (conn : ConnNo) (input : Input) (reply : PostReply) → AreBelow w → AreBelow (after_post w conn input reply)
post_below w conn input posted.Taken b =
    swept_below (with_input w conn input) (below_from w (with_input w conn input) refl (λ run e. e) (λ q e. change-none conn (put_last (waits.Input input)) w.connections q e) b)
post_below w conn input posted.Closed b = b
post_below w conn input (posted.QueueFull waiting) b = b

claim_below : (w : World) (pass : ℕ) (reply : ClaimReply) → AreBelow w → AreBelow (after_claim w pass reply)
claim_below w pass (claimed.Granted run at job) b = swept_below (with_claim w pass job) record {
  claims = λ q le. run-insert w.claims (record { 0 = w.next }) (record { pass = pass; job = job; at = w.moment }) q
      ∙ rw (unequal q.0 w.next (λ same. omega arith)) (b.claims q (omega arith));
  connections = λ q le. for_conn-none (conn_of job) (λ c. record c { turn = w.next }) w.connections q (b.connections q (omega arith));
}
claim_below w pass claimed.Nothing b = b
claim_below w pass (claimed.Spent granted) b = b
claim_below w pass (claimed.Exhausted next) b = b

removed-none : (m : FinMap run_cmp Claim) (run q : RunNo) → get m q ≡ None → get (remove m run) q ≡ None
removed-none m run q e = run-remove m run q ∙ rw e (elim (nat_eq q.0 run.0) as (λ b. cond {A = Option Claim} b None None ≡ None) [ true ↦ refl | false ↦ refl ])

commit_below : (rules : Meaning) (w : World) (run : RunNo) (claim : Option Claim) → AreBelow w → AreBelow (after_commit rules w run claim)
commit_below rules w run None b = b
commit_below rules w run (Some claim) b =
    let s = step_of rules w run claim in
    swept_below (committed w run claim.job s)
    (below_from w (committed w run claim.job s) refl (λ q e. removed-none w.claims run q e) (λ q e. delivered-none claim.job s.outs w.connections q e) b)

-- events keep numbers below the next one
pub event_below : (rules : Meaning) (w : World) (e : Event) → AreBelow w → AreBelow (after_event rules w e)
unfolding after_event
event_below rules w (event.Connect pass name reply) b = connect_below w name reply b
event_below rules w (event.Post pass conn input reply) b = post_below w conn input reply b
event_below rules w (event.Claim pass reply) b = claim_below w pass reply b
event_below rules w (event.Release pass run) b =
    swept_below (without_claim w run) (below_from w (without_claim w run) refl (λ q e. removed-none w.claims run q e) (λ q e. e) b)
event_below rules w (event.Commit pass run seq outcome) b = commit_below rules w run (get w.claims run) b
event_below rules w (event.Hand pass conn most outs end) b =
    swept_below (with_handed w conn most) (below_from w (with_handed w conn most) refl (λ q e. e) (λ q e. change-none conn (λ c. record c { outbox = drop most c.outbox }) w.connections q e) b)
event_below rules w (event.Tick pass moment) b = swept_below (ticked w moment) (below_from w (ticked w moment) refl (λ q e. e) (λ q e. e) b)

pub happens_below : (rules : Meaning) (w : World) (e : Event) (after : World) → AreBelow w → Happens rules w e after → AreBelow after
happens_below rules w e after b h = subst AreBelow (sym (event_leads rules w e after h)) (event_below rules w e b)

pub leads_below : (rules : Meaning) (w : World) (events : List Event) (after : World) → AreBelow w → Leads rules w events after → AreBelow after
leads_below rules w [] after b h = subst AreBelow (sym h) b
leads_below rules w (e ∷ events) after b h = leads_below rules h.0 events after (happens_below rules w e h.0 b h.1) h.2

-- ---- what an event does to one run

-- the run is granted: it is the next number
pub record IsGranted (w : World) (run : RunNo) (e : Event) (after : World) : Type 0 where
  pub claim : Claim
  pub drawn : run.0 ≡ w.next
  pub next : after.next ≡ w.next + 1
  pub held : get after.claims run ≡ Some claim
  pub grants : grants run e ≡ true
  pub commits : commits_run run e ≡ false

-- the run is released or committed
pub record IsLetGo (w : World) (run : RunNo) (e : Event) (after : World) : Type 0 where
  pub claim : Claim
  pub held : get w.claims run ≡ Some claim
  pub next : after.next ≡ w.next
  pub gone : get after.claims run ≡ None
  pub grants : grants run e ≡ false

-- the run stays claimed or unclaimed
pub record IsLeft (w : World) (run : RunNo) (e : Event) (after : World) : Type 0 where
  pub next : w.next ≤ after.next
  pub same : get after.claims run ≡ get w.claims run
  pub grants : grants run e ≡ false
  pub commits : commits_run run e ≡ false

abbrev pub Fate : World → RunNo → Event → World → Type 0
Fate w run e after = IsGranted w run e after ⊎ IsLetGo w run e after ⊎ IsLeft w run e after

module _ (run : RunNo) where
  connect_fate : (w : World) (pass : ℕ) (name : List ℕ) (reply : ConnectReply) (after : World) → Connects w name reply after → Fate w run (event.Connect pass name reply) after
  connect_fate w pass name (connected.Number conn) after h =
      inr (inr (subst (IsLeft w run (event.Connect pass name (connected.Number conn))) (sym h.2) record { next = omega arith; same = refl; grants = refl; commits = refl }))
  connect_fate w pass name (connected.Exhausted next) after h =
      inr (inr (subst (IsLeft w run (event.Connect pass name (connected.Exhausted next))) (sym h.2) record { next = omega arith; same = refl; grants = refl; commits = refl }))

  post_fate : (w : World) (pass : ℕ) (conn : ConnNo) (input : Input) (reply : PostReply) (after : World) → Posts w conn input reply after → Fate w run (event.Post pass conn input reply) after
  post_fate w pass conn input posted.Taken after h =
      inr (inr (subst (IsLeft w run (event.Post pass conn input posted.Taken)) (sym h.2) record { next = omega arith; same = refl; grants = refl; commits = refl }))
  post_fate w pass conn input posted.Closed after h =
      inr (inr (subst (IsLeft w run (event.Post pass conn input posted.Closed)) (sym h.1) record { next = omega arith; same = refl; grants = refl; commits = refl }))
  post_fate w pass conn input (posted.QueueFull waiting) after h =
      inr (inr (subst (IsLeft w run (event.Post pass conn input (posted.QueueFull waiting))) (sym h.3) record { next = omega arith; same = refl; grants = refl; commits = refl }))

  -- a claim of no run
  nothing_fate : (w : World) (pass : ℕ) (reply : ClaimReply) (after : World) → is_claim_of run reply ≡ false → after ≡ w → Fate w run (event.Claim pass reply) after
  nothing_fate w pass reply after g e = inr (inr (subst (IsLeft w run (event.Claim pass reply)) (sym e) record { next = omega arith; same = refl; grants = g; commits = refl }))

  granted_fate : (w : World) (pass : ℕ) (r : RunNo) (at : ℕ) (job : Job) → r ≡ record { 0 = w.next }
      → Fate w run (event.Claim pass (claimed.Granted r at job)) (swept (with_claim w pass job))
  granted_fate w pass r at job e =
      let claim : Claim = record { pass = pass; job = job; at = w.moment } in
      let n : r.0 ≡ w.next = ap (λ (x : RunNo). x.0) e in
      elim (eqb_tells r.0 run.0) [
        | inl t ↦ inl record {
          claim = claim;
          drawn = sym t.1 ∙ n;
          next = refl;
          held = run-insert w.claims (record { 0 = w.next }) claim run ∙ rw (equal run.0 w.next (sym t.1 ∙ n)) refl;
          grants = t.0;
          commits = refl;
        }
        | inr t ↦ inr (inr record {
          next = omega arith;
          same = run-insert w.claims (record { 0 = w.next }) claim run ∙ rw (unequal run.0 w.next (λ same. t.1 (n ∙ sym same))) refl;
          grants = t.0;
          commits = refl;
        })
      ]

  claim_fate : (w : World) (pass : ℕ) (reply : ClaimReply) (after : World) → Claims w pass reply after → Fate w run (event.Claim pass reply) after
  claim_fate w pass (claimed.Granted r at job) after h = subst (Fate w run (event.Claim pass (claimed.Granted r at job))) (sym h.5) (granted_fate w pass r at job h.3)
  claim_fate w pass claimed.Nothing after h = nothing_fate w pass claimed.Nothing after refl h.1
  claim_fate w pass (claimed.Spent granted) after h = nothing_fate w pass (claimed.Spent granted) after refl h.3
  claim_fate w pass (claimed.Exhausted next) after h = nothing_fate w pass (claimed.Exhausted next) after refl h.4

  -- a claim of another run goes, or that of this one
  removed_fate : (w : World) (e : Event) (r : RunNo) (claim : Claim) (after : World) → get w.claims r ≡ Some claim → after.next ≡ w.next → after.claims ≡ remove w.claims r
      → grants run e ≡ false → (r.0 ≢ run.0 → commits_run run e ≡ false) → Fate w run e after
  removed_fate w e r claim after h n c g k =
      let now : get after.claims run ≡ cond (nat_eq run.0 r.0) None (get w.claims run) = ap (λ (m : FinMap run_cmp Claim). get m run) c ∙ run-remove w.claims r run in
      elim (eqb_tells run.0 r.0) [
        | inl t ↦ inr (inl record {
          claim = claim;
          held = ap (get w.claims) (one_run run r t.1) ∙ h;
          next = n;
          gone = now ∙ rw t.0 refl;
          grants = g;
        })
        | inr t ↦ inr (inr record { next = omega arith; same = now ∙ rw t.0 refl; grants = g; commits = k (λ same. t.1 (sym same)) })
      ]

  -- what an event does to the run's claim
  pub fate : (rules : Meaning) (w : World) (e : Event) (after : World) → Happens rules w e after → Fate w run e after
  fate rules w (event.Connect pass name reply) after h = connect_fate w pass name reply after h
  fate rules w (event.Post pass conn input reply) after h = post_fate w pass conn input reply after h
  fate rules w (event.Claim pass reply) after h = claim_fate w pass reply after h
  fate rules w (event.Release pass r) after h =
      removed_fate w (event.Release pass r) r h.0 after h.1 (ap (λ (x : World). x.next) h.3) (ap (λ (x : World). x.claims) h.3) refl (λ _. refl)
  fate rules w (event.Commit pass r seq outcome) after h =
      removed_fate w (event.Commit pass r seq outcome) r h.0 after h.1 (ap (λ (x : World). x.next) h.5) (ap (λ (x : World). x.claims) h.5) refl (λ other. unequal r.0 run.0 other)
  fate rules w (event.Hand pass conn most outs end) after h =
      inr (inr (subst (IsLeft w run (event.Hand pass conn most outs end)) (sym h.2) record { next = omega arith; same = refl; grants = refl; commits = refl }))
  fate rules w (event.Tick pass moment) after h =
      inr (inr (subst (IsLeft w run (event.Tick pass moment)) (sym h) record { next = omega arith; same = refl; grants = refl; commits = refl }))

-- no event lowers the next number
pub next_grows : (rules : Meaning) (w : World) (e : Event) (after : World) → Happens rules w e after → w.next ≤ after.next
next_grows rules w e after h = elim (fate (record { 0 = 0 }) rules w e after h) [
  | inl g ↦ let n = g.next in omega arith
  | inr (inl g) ↦ let n = g.next in omega arith
  | inr (inr g) ↦ g.next
]

pub leads_grow : (rules : Meaning) (w : World) (events : List Event) (after : World) → Leads rules w events after → w.next ≤ after.next
leads_grow rules w [] after h = let n : after.next ≡ w.next = ap (λ (x : World). x.next) h in omega arith
leads_grow rules w (e ∷ events) after h = let a = next_grows rules w e h.0 h.1 in let b = leads_grow rules h.0 events after h.2 in omega arith

-- numbers end at 2^62
pub next_ends : (rules : Meaning) (w : World) (e : Event) (after : World) → w.next ≤ NUMBERS_END → Happens rules w e after → after.next ≤ NUMBERS_END
next_ends rules w (event.Connect pass name (connected.Number conn)) after le h = let n : after.next ≡ w.next + 1 = ap (λ (x : World). x.next) h.2 in let lt = h.0 in omega arith
next_ends rules w (event.Connect pass name (connected.Exhausted next)) after le h = let n : after.next ≡ w.next = ap (λ (x : World). x.next) h.2 in omega arith
next_ends rules w (event.Post pass conn input posted.Taken) after le h = let n : after.next ≡ w.next = ap (λ (x : World). x.next) h.2 in omega arith
next_ends rules w (event.Post pass conn input posted.Closed) after le h = let n : after.next ≡ w.next = ap (λ (x : World). x.next) h.1 in omega arith
next_ends rules w (event.Post pass conn input (posted.QueueFull waiting)) after le h = let n : after.next ≡ w.next = ap (λ (x : World). x.next) h.3 in omega arith
next_ends rules w (event.Claim pass (claimed.Granted run at job)) after le h = let n : after.next ≡ w.next + 1 = ap (λ (x : World). x.next) h.5 in let lt = h.2 in omega arith
next_ends rules w (event.Claim pass claimed.Nothing) after le h = let n : after.next ≡ w.next = ap (λ (x : World). x.next) h.1 in omega arith
next_ends rules w (event.Claim pass (claimed.Spent granted)) after le h = let n : after.next ≡ w.next = ap (λ (x : World). x.next) h.3 in omega arith
next_ends rules w (event.Claim pass (claimed.Exhausted next)) after le h = let n : after.next ≡ w.next = ap (λ (x : World). x.next) h.4 in omega arith
next_ends rules w (event.Release pass run) after le h = let n : after.next ≡ w.next = ap (λ (x : World). x.next) h.3 in omega arith
next_ends rules w (event.Commit pass run seq outcome) after le h = let n : after.next ≡ w.next = ap (λ (x : World). x.next) h.5 in omega arith
next_ends rules w (event.Hand pass conn most outs end) after le h = let n : after.next ≡ w.next = ap (λ (x : World). x.next) h.2 in omega arith
next_ends rules w (event.Tick pass moment) after le h = let n : after.next ≡ w.next = ap (λ (x : World). x.next) h in omega arith

-- ---- the durable world

-- a commit leaves what it stepped to; every other event leaves the durable world
abbrev pub left_by : DurableWorld → Option Stepped → DurableWorld
left_by d None = d
left_by d (Some s) = s.world

commit_durable : (rules : Meaning) (w : World) (run : RunNo) (claim : Option Claim) → (after_commit rules w run claim).durable ≡ left_by w.durable (stepped_at rules w run claim)
commit_durable rules w run None = refl
commit_durable rules w run (Some claim) = refl

pub event_durable : (rules : Meaning) (w : World) (e : Event) → (after_event rules w e).durable ≡ left_by w.durable (step_by rules w e)
unfolding after_event
event_durable rules w (event.Connect pass name (connected.Number conn)) = refl
event_durable rules w (event.Connect pass name (connected.Exhausted next)) = refl
event_durable rules w (event.Post pass conn input posted.Taken) = refl
event_durable rules w (event.Post pass conn input posted.Closed) = refl
event_durable rules w (event.Post pass conn input (posted.QueueFull waiting)) = refl
event_durable rules w (event.Claim pass (claimed.Granted run at job)) = refl
event_durable rules w (event.Claim pass claimed.Nothing) = refl
event_durable rules w (event.Claim pass (claimed.Spent granted)) = refl
event_durable rules w (event.Claim pass (claimed.Exhausted next)) = refl
event_durable rules w (event.Release pass run) = refl
event_durable rules w (event.Commit pass run seq outcome) = commit_durable rules w run (get w.claims run)
event_durable rules w (event.Hand pass conn most outs end) = refl
event_durable rules w (event.Tick pass moment) = refl
