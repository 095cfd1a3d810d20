-- A world in whose sessions and logins there is order: no record has the number of a login that is still to be run.
use Rattle.std.proofs.Common.{◌≡◌, ◌⊎◌, ℕ, Bool, true, false, cond, ◌||◌, nat_eq, if◌then◌else◌, drop, Option, Some, None, option_map, List, [], ◌∷◌, ◌++◌, refl, sym, ap, subst, ◌∙◌, inl, inr}
use Rattle.std.specs.FinMap.{get, insert}
use Rattle.std.specs.List.{AllByRecursion, list_any}
use Rattle.std.proofs.lemmas.Bool.Decides.{eqb_tells}
use Rattle.dk_types.specs.declared.number.ConnNo.{ConnNo}
use Rattle.dk_types.specs.declared.job.Session.{Session}
use Rattle.dk_types.specs.declared.job.Job.{Job}
use Rattle.dk_types.specs.declared.job.Job.TheVariants as job
use Rattle.dk_types.specs.declared.job.Input.{Input}
use Rattle.dk_types.specs.declared.job.Input.TheVariants as input
use Rattle.dk_types.specs.declared.job.Out.{Out}
use Rattle.dk_model.specs.declared.waiting.Waiting.{Waiting}
use Rattle.dk_model.specs.declared.waiting.Waiting.TheVariants as waits
use Rattle.dk_model.specs.DurableWorlds.{DurableWorld}
use Rattle.dk_model.specs.Worlds.{Connection, new_connection}
use Rattle.dk_model.specs.Deliveries.{Connections, change_connection, conn_of, for_conn, input_left, is_disconnect, with_disconnect, cut_off, is_full, delivered, without_done}
use Rattle.dk_model.specs.Openings.{ended_connection, with_sessions}
use Rattle.dk_model.specs.Events.{put_last}
use Rattle.dk_model.proofs.Maps.{conns_total, exact_conns, get-insert_cases, not_both, some_is}
use Rattle.dk_laws.proofs.NumberedMaps.{get-change}
use Rattle.dk_progress.proofs.Kept.{Relation, IsSteady, AtEach, IsDelivered, kept_change, kept_for_conn, kept_swept, kept_after_input}
use Rattle.dk_session_laws.specs.Numbers.{HasNumber, Opens}

-- ---- connections

-- an input that was posted, and no login
abbrev pub IsPosted : Waiting → Type 0
IsPosted waits.Login = ⊥
IsPosted (waits.Input posted) = Unit {0}

abbrev pub ArePosted : List Waiting → Type 0
ArePosted queue = AllByRecursion IsPosted queue

-- behind the first that waits is no login, and where the first is one, no record has the connection's number
pub record IsOrderlyConnection (d : DurableWorld) (conn : ConnNo) (c : Connection) : Type 0 where
  pub rest : ArePosted (drop 1 c.queue)
  pub first : ArePosted c.queue ⊎ (HasNumber d conn.0 → ⊥)

abbrev pub AreOrderly : DurableWorld → Connections → Type 0
AreOrderly d all = (conn : ConnNo) (c : Connection) → get all conn ≡ Some c → IsOrderlyConnection d conn c

-- no login comes to a queue
pub record AddsNoLogin (after before : List Waiting) : Type 0 where
  pub all : ArePosted before → ArePosted after
  pub rest : ArePosted (drop 1 before) → ArePosted (drop 1 after)

abbrev pub Milder : Relation
Milder None before = Unit {0}
Milder (Some after) None = ⊥
Milder (Some after) (Some before) = AddsNoLogin after.queue before.queue

same_queue : (queue : List Waiting) → AddsNoLogin queue queue
same_queue queue = record { all = λ h. h; rest = λ h. h }

milder_steady : IsSteady Milder
milder_steady = record { same = same; next = next; gone = λ o. tt }
  where
    same : (o : Option Connection) → Milder o o
    same None = tt
    same (Some c) = same_queue c.queue

    next : (a b c : Option Connection) → Milder a b → Milder b c → Milder a c
    next None b c p q = tt
    next (Some x) None c p q = absurd p
    next (Some x) (Some y) None p q = absurd q
    next (Some x) (Some y) (Some z) p q = record { all = λ h. p.all (q.all h); rest = λ h. p.rest (q.rest h) }

rest_posted : (queue : List Waiting) → ArePosted queue → ArePosted (drop 1 queue)
rest_posted [] h = tt
rest_posted (x ∷ queue) h = h.1

posted_last : (queue : List Waiting) (x : Waiting) → IsPosted x → ArePosted queue → ArePosted (queue ++ x ∷ [])
posted_last [] x is h = (is, tt)
posted_last (y ∷ queue) x is h = (h.0, posted_last queue x is h.1)

rest_last : (queue : List Waiting) (x : Waiting) → IsPosted x → ArePosted (drop 1 queue) → ArePosted (drop 1 (queue ++ x ∷ []))
rest_last [] x is h = tt
rest_last (y ∷ queue) x is h = posted_last queue x is h

one_more : (queue : List Waiting) (x : Waiting) → IsPosted x → AddsNoLogin (queue ++ x ∷ []) queue
one_more queue x is = record { all = posted_last queue x is; rest = rest_last queue x is }

end_last : (queue : List Waiting) → AddsNoLogin (with_disconnect queue) queue
end_last queue = elim (list_any is_disconnect queue) as (λ b. AddsNoLogin (if b then queue else queue ++ waits.Input (input.Disconnect false) ∷ []) queue) [
  | true ↦ same_queue queue
  | false ↦ one_more queue (waits.Input (input.Disconnect false)) tt
]

one_of_three : (P : Connection → Type 0) (a b : Bool) (x y z : Connection) → P x → P y → P z → P (if a then x else if b then y else z)
one_of_three P true b x y z p q r = p
one_of_three P false true x y z p q r = q
one_of_three P false false x y z p q r = r

milder_delivered : IsDelivered Milder
milder_delivered = record {
  steady = milder_steady;
  input = λ c. record { all = rest_posted c.queue; rest = rest_posted (drop 1 c.queue) };
  out = λ message c. one_of_three (λ x. AddsNoLogin x.queue c.queue) (c.cut || c.over) (is_full c) c (cut_off c) (record c { outbox = c.outbox ++ message ∷ [] }) (same_queue c.queue) (end_last c.queue) (same_queue c.queue);
  closed = λ c. record { all = λ h. tt; rest = λ h. tt };
  ended = λ c. same_queue c.queue;
}

-- connections stay orderly where no login comes
orderly_by : (d : DurableWorld) (conn : ConnNo) (c : Connection) (o : Option Connection) → Milder (Some c) o → ((b : Connection) → o ≡ Some b → IsOrderlyConnection d conn b) → IsOrderlyConnection d conn c
orderly_by d conn c None m h = absurd m
orderly_by d conn c (Some b) m h =
    let was = h b refl in record {
      rest = m.rest was.rest;
      first = elim was.first [
        | inl posted ↦ inl (m.all posted)
        | inr none ↦ inr none
      ];
    }

pub orderly_after : (d : DurableWorld) (after before : Connections) → AtEach Milder after before → AreOrderly d before → AreOrderly d after
orderly_after d after before m h conn c e = orderly_by d conn c (get before conn) (subst (λ o. Milder o (get before conn)) e (m conn)) (λ b f. h conn b f)

-- connections that are done go
pub orderly_swept : (d : DurableWorld) (all : Connections) → AreOrderly d all → AreOrderly d (without_done all)
orderly_swept d all h = orderly_after d (without_done all) all (kept_swept Milder milder_steady all) h

-- an input is put last
pub orderly_put : (d : DurableWorld) (all : Connections) (conn : ConnNo) (x : Input) → AreOrderly d all → AreOrderly d (change_connection conn (put_last (waits.Input x)) all)
orderly_put d all conn x h =
    orderly_after d (change_connection conn (put_last (waits.Input x)) all) all (kept_change Milder milder_steady conn (put_last (waits.Input x)) all (λ c. one_more c.queue (waits.Input x) tt)) h

-- a connection is changed, but for its queue
pub orderly_change : (d : DurableWorld) (all : Connections) (o : Option ConnNo) (change : Connection → Connection) → ((c : Connection) → (change c).queue ≡ c.queue) → AreOrderly d all → AreOrderly d (for_conn o change all)
orderly_change d all o change same h =
    orderly_after d (for_conn o change all) all (kept_for_conn Milder milder_steady o change all (λ c. subst (λ q. AddsNoLogin q c.queue) (sym (same c)) (same_queue c.queue))) h

-- a new connection, whose number no record has
pub orderly_new : (d : DurableWorld) (all : Connections) (conn : ConnNo) (name : List ℕ) (turn : ℕ) → (HasNumber d conn.0 → ⊥) → AreOrderly d all → AreOrderly d (insert all conn (new_connection name turn))
orderly_new d all conn name turn none h q c e = elim (get-insert_cases conns_total exact_conns all conn (new_connection name turn) q c e) [
  | inl p ↦
      let new : IsOrderlyConnection d conn (new_connection name turn) = record { rest = tt; first = inr none } in
      subst (λ (k : ConnNo). IsOrderlyConnection d k c) (sym p.0) (subst (IsOrderlyConnection d conn) p.1 new)
  | inr there ↦ h q c there
]

-- the connections of before a stop wait for their end
pub orderly_sessions : (d : DurableWorld) (sessions : List Session) (all : Connections) → AreOrderly d all → AreOrderly d (with_sessions sessions all)
orderly_sessions d [] all h = h
orderly_sessions d (s ∷ sessions) all h = orderly_sessions d sessions (insert all s.conn (ended_connection s)) (λ q c e. elim (get-insert_cases conns_total exact_conns all s.conn (ended_connection s) q c e) [
  | inl p ↦
      let ended : IsOrderlyConnection d s.conn (ended_connection s) = record { rest = tt; first = inl (tt, tt) } in
      subst (λ (k : ConnNo). IsOrderlyConnection d k c) (sym p.0) (subst (IsOrderlyConnection d s.conn) p.1 ended)
  | inr there ↦ h q c there
])

-- ---- a commit

-- the login that a job is, where it opens a session with this number
pub opens_login : (j : Job) (n : ℕ) → Opens j n → (conn : ConnNo) × (name : List ℕ) × (j ≡ job.Login conn name) × (n ≡ conn.0)
opens_login (job.Login conn name) n e = (conn, name, refl, e)
opens_login job.Initialize n e = absurd e
opens_login (job.Message conn name body) n e = absurd e
opens_login (job.Channel conn name channel body) n e = absurd e
opens_login (job.Disconnect conn name graceful) n e = absurd e
opens_login (job.Task key due period kind arg) n e = absurd e

-- no number came but the one that the job opens
abbrev pub OpensAlone : DurableWorld → DurableWorld → Job → Type 0
OpensAlone d after j = (n : ℕ) → HasNumber after n → HasNumber d n ⊎ Opens j n

orderly_still : (d after : DurableWorld) (j : Job) (conn : ConnNo) (c : Connection) → OpensAlone d after j → (Opens j conn.0 → ⊥) → IsOrderlyConnection d conn c → IsOrderlyConnection after conn c
orderly_still d after j conn c alone other h = record {
  rest = h.rest;
  first = elim h.first [
    | inl posted ↦ inl posted
    | inr none ↦ inr (λ has. elim (alone conn.0 has) [
      | inl was ↦ none was
      | inr opens ↦ other opens
    ])
  ];
}

-- the input of a connection has left its queue
left_there : (d after : DurableWorld) (j : Job) (all : Connections) (conn : ConnNo) → OpensAlone d after j → ((n : ℕ) → Opens j n → n ≡ conn.0) → AreOrderly d all
    → (q : ConnNo) (c : Connection) (o : Option Connection) → get all q ≡ o → cond (nat_eq q.0 conn.0) (option_map input_left o) o ≡ Some c → IsOrderlyConnection after q c
left_there d after j all conn alone one h q c None f e = absurd (none_left (nat_eq q.0 conn.0) e)
  where
    none_left : (b : Bool) → cond b (option_map input_left None) None ≡ Some c → ⊥
    none_left true g = cc
    none_left false g = cc
left_there d after j all conn alone one h q c (Some b) f e = elim (eqb_tells q.0 conn.0) [
  | inl w ↦
      let left : input_left b ≡ c = some_is (input_left b) c (sym (ap (λ t. cond t (option_map input_left (Some b)) (Some b)) w.0) ∙ e) in
      let was = h q b f in
      subst (IsOrderlyConnection after q) left (record { rest = rest_posted (drop 1 b.queue) was.rest; first = inl was.rest })
  | inr w ↦
      let same : b ≡ c = some_is b c (sym (ap (λ t. cond t (option_map input_left (Some b)) (Some b)) w.0) ∙ e) in
      subst (IsOrderlyConnection after q) same (orderly_still d after j q b alone (λ opens. w.1 (one q.0 opens)) (h q b f))
]

left_orderly : (d after : DurableWorld) (j : Job) (all : Connections) (o : Option ConnNo) → conn_of j ≡ o → OpensAlone d after j → AreOrderly d all → AreOrderly after (for_conn o input_left all)
left_orderly d after j all None e alone h q c f =
    orderly_still d after j q c alone (λ opens. let is = opens_login j q.0 opens in not_both (conn_of j) is.0 (ap conn_of is.2) e) (h q c f)
left_orderly d after j all (Some conn) e alone h q c f =
    let one : (n : ℕ) → Opens j n → n ≡ conn.0 = λ n opens.
    let is = opens_login j n opens in is.3 ∙ ap (λ (k : ConnNo). k.0) (some_is is.0 conn (sym (ap conn_of is.2) ∙ e)) in
    left_there d after j all conn alone one h q c (get all q) refl (sym (get-change conn input_left all q) ∙ f)

-- all that a commit does to the connections
pub orderly_delivered : (d after : DurableWorld) (j : Job) (outs : List (ConnNo × Out)) (all : Connections) → OpensAlone d after j → AreOrderly d all → AreOrderly after (delivered j outs all)
orderly_delivered d after j outs all alone h =
    orderly_after after (delivered j outs all) (for_conn (conn_of j) input_left all) (kept_after_input Milder milder_delivered j outs all) (left_orderly d after j all (conn_of j) refl alone h)
