-- Each event by rules that keep the sessions leaves a world in order, and so does a history from an opening on.
use Rattle.std.proofs.Common.{◌≡◌, ℕ, ◌<◌, drop, Option, Some, List, [], ◌∷◌, refl, sym, subst, arith}
use Rattle.std.specs.FinMap.{get, empty, get-empty}
use Rattle.std.specs.List.{AllByRecursion}
use Rattle.dk_types.specs.declared.number.RunNo.{RunNo}
use Rattle.dk_types.specs.declared.number.ConnNo.{ConnNo}
use Rattle.dk_types.specs.declared.job.Job.{Job}
use Rattle.dk_types.specs.declared.job.Job.TheVariants as job
use Rattle.dk_types.specs.declared.event.Event.{Event}
use Rattle.dk_types.specs.declared.event.Event.TheVariants as event
use Rattle.dk_types.specs.declared.event.ConnectReply.TheVariants as connected
use Rattle.dk_types.specs.declared.event.PostReply.TheVariants as posted
use Rattle.dk_types.specs.declared.event.ClaimReply.TheVariants as claimed
use Rattle.dk_types.specs.Names.{bytes_cmp}
use Rattle.dk_model.specs.Keys.{run_cmp, conn_cmp, id_cmp, key_cmp}
use Rattle.dk_model.specs.DurableWorlds.{DurableWorld, last_with, empty_world}
use Rattle.dk_model.specs.Validity.{IsValid, next_of}
use Rattle.dk_model.specs.Worlds.{World, Connection, Claim}
use Rattle.dk_model.specs.Deliveries.{conn_of}
use Rattle.dk_model.specs.Events.{Meaning, Happens, swept, with_connection, with_input, with_claim, without_claim, committed, with_handed, ticked, step_of}
use Rattle.dk_model.specs.Histories.{Leads}
use Rattle.dk_model.specs.Legal.{opening_of, world_after}
use Rattle.dk_model.specs.Openings.{opening, counting}
use Rattle.dk_model.specs.Picks.{pick}
use Rattle.dk_model.specs.Lawful.{AreLawful, IsWithinLimits}
use Rattle.dk_model.proofs.Maps.{not_both}
use Rattle.dk_laws.proofs.OneWorld.{events_lead}
use Rattle.dk_laws.proofs.Numbers.{AreBelow, connected_below, opening_below, happens_below}
use Rattle.dk_laws.proofs.OpenClaims.{next_of_with}
use Rattle.dk_laws.proofs.Sound.{IsSound}
use Rattle.dk_laws.proofs.SoundCommits.{claim_ready}
use Rattle.dk_laws.proofs.SoundEvents.{happens_sound}
use Rattle.dk_laws.proofs.SoundOpenings.{opening_sound}
use Rattle.dk_laws.proofs.SoundHistories.{worlds_valid}
use Rattle.dk_session_laws.specs.Sessions.{SessionsStand, KeepSessions}
use Rattle.dk_session_laws.specs.SessionsLaw.{EverySessionCounts, SessionsStayCounted, LegalSessionsCount, StoresCount}
use Rattle.dk_session_laws.specs.Numbers.{HasNumber, MayBegin, LeadsTo}
use Rattle.dk_session_laws.proofs.Works.{step_led}
use Rattle.dk_session_laws.proofs.Counted.{standing_count, counting_stand, empty_count}
use Rattle.dk_session_laws.proofs.Orderly.{AreOrderly, orderly_swept, orderly_put, orderly_change, orderly_new, orderly_sessions, orderly_delivered}
use Rattle.dk_session_laws.proofs.Logins.{AreOrderlyClaims, claims_granted, claims_left, claims_committed}

-- the sessions stand, and the logins that are still to be run have numbers that no record has
pub record IsInOrder (w : World) : Type 0 where
  pub stands : SessionsStand w.durable
  pub connections : AreOrderly w.durable w.connections
  pub claims : AreOrderlyClaims w.durable w.claims

order_swept : (w : World) → IsInOrder w → IsInOrder (swept w)
order_swept w o = record { stands = o.stands; connections = orderly_swept w.durable w.connections o.connections; claims = o.claims }

-- the number of a record was drawn
number_below : (w : World) (n : ℕ) → IsSound w → HasNumber w.durable n → n < w.next
number_below w n s h = let last = s.last in let below = h.2.below in let is = h.3 in omega arith

order_connect : (w : World) (name : List ℕ) → IsSound w → IsInOrder w → IsInOrder (with_connection w name)
order_connect w name s o = record {
  stands = o.stands;
  connections = orderly_new w.durable w.connections (record { 0 = w.next }) name w.next (λ h. let lt = number_below w w.next s h in absurd (omega (arith, lt))) o.connections;
  claims = o.claims;
}

order_claim : (w : World) (pass : ℕ) (j : Job) → AreBelow w → IsInOrder w → pick w ≡ Some j → IsInOrder (with_claim w pass j)
order_claim w pass j below o picked = record {
  stands = o.stands;
  connections = orderly_change w.durable w.connections (conn_of j) (λ c. record c { turn = w.next }) (λ c. refl) o.connections;
  claims = claims_granted w o.connections o.claims (λ conn c e. connected_below w conn c below e) j (record { pass = pass; job = j; at = w.moment }) picked refl;
}

-- a claimed job may begin
may_begin : (w : World) (run : RunNo) (claim : Claim) → IsInOrder w → get w.claims run ≡ Some claim → (j : Job) → claim.job ≡ j → MayBegin w.durable (next_of (last_with w.durable.last run)) j
may_begin w run claim o held (job.Login conn name) is =
    let free = o.claims.free run claim conn name held is in
    let lt = free.0 in
    let next = next_of_with w.durable.last run in
    (omega (arith, lt, next), free.1)
may_begin w run claim o held job.Initialize is = tt
may_begin w run claim o held (job.Message conn name body) is = tt
may_begin w run claim o held (job.Channel conn name channel body) is = tt
may_begin w run claim o held (job.Disconnect conn name graceful) is = tt
may_begin w run claim o held (job.Task key due period kind arg) is = tt

order_commit : (rules : Meaning) → KeepSessions rules → (w : World) (run : RunNo) (claim : Claim) → IsSound w → IsInOrder w → get w.claims run ≡ Some claim → IsInOrder (committed w run claim.job (step_of rules w run claim))
order_commit rules keep w run claim s o held =
    let ready = claim_ready w run claim s held in
    let led : LeadsTo w.durable claim.job (step_of rules w run claim).world = step_led rules keep claim.job run claim.at w.durable o.stands ready.job ready.new (may_begin w run claim o held claim.job refl) in record {
      stands = led.stands;
      connections = orderly_delivered w.durable (step_of rules w run claim).world claim.job (step_of rules w run claim).outs w.connections led.numbers o.connections;
      claims = claims_committed w.durable (step_of rules w run claim).world w.claims run claim held led.numbers o.claims;
    }

order_hand : (w : World) (conn : ConnNo) (most : ℕ) → IsInOrder w → IsInOrder (with_handed w conn most)
order_hand w conn most o = record {
  stands = o.stands;
  connections = orderly_change w.durable w.connections (Some conn) (λ c. record c { outbox = drop most c.outbox }) (λ c. refl) o.connections;
  claims = o.claims;
}

-- what an event leads to
pub happens_order : (rules : Meaning) → KeepSessions rules → (w : World) (e : Event) (after : World) → IsSound w → AreBelow w → IsInOrder w → Happens rules w e after → IsInOrder after
happens_order rules keep w (event.Connect pass name (connected.Number conn)) after s b o h = subst IsInOrder (sym h.2) (order_swept (with_connection w name) (order_connect w name s o))
happens_order rules keep w (event.Connect pass name (connected.Exhausted next)) after s b o h = subst IsInOrder (sym h.2) o
happens_order rules keep w (event.Post pass conn x posted.Taken) after s b o h =
    subst IsInOrder (sym h.2) (order_swept (with_input w conn x) (record { stands = o.stands; connections = orderly_put w.durable w.connections conn x o.connections; claims = o.claims }))
happens_order rules keep w (event.Post pass conn x posted.Closed) after s b o h = subst IsInOrder (sym h.1) o
happens_order rules keep w (event.Post pass conn x (posted.QueueFull waiting)) after s b o h = subst IsInOrder (sym h.3) o
happens_order rules keep w (event.Claim pass (claimed.Granted run at j)) after s b o h = subst IsInOrder (sym h.5) (order_swept (with_claim w pass j) (order_claim w pass j b o h.0))
happens_order rules keep w (event.Claim pass claimed.Nothing) after s b o h = subst IsInOrder (sym h.1) o
happens_order rules keep w (event.Claim pass (claimed.Spent granted)) after s b o h = subst IsInOrder (sym h.3) o
happens_order rules keep w (event.Claim pass (claimed.Exhausted next)) after s b o h = subst IsInOrder (sym h.4) o
happens_order rules keep w (event.Release pass run) after s b o h =
    subst IsInOrder (sym h.3) (order_swept (without_claim w run) (record { stands = o.stands; connections = o.connections; claims = claims_left w.durable w.claims run o.claims }))
happens_order rules keep w (event.Commit pass run seq outcome) after s b o h = subst IsInOrder (sym h.5) (order_swept _ (order_commit rules keep w run h.0 s o h.1))
happens_order rules keep w (event.Hand pass conn most outs end) after s b o h = subst IsInOrder (sym h.2) (order_swept (with_handed w conn most) (order_hand w conn most o))
happens_order rules keep w (event.Tick pass moment) after s b o h = subst IsInOrder (sym h) (order_swept (ticked w moment) (record { stands = o.stands; connections = o.connections; claims = o.claims }))

-- and what events lead to
pub leads_order : (rules : Meaning) → AreLawful rules → KeepSessions rules → (w : World) (events : List Event) (after : World) → IsSound w → AreBelow w → IsInOrder w → AllByRecursion IsWithinLimits events → Leads rules w events after → IsInOrder after
leads_order rules lawful keep w [] after s b o is h = subst IsInOrder (sym h) o
leads_order rules lawful keep w (e ∷ events) after s b o is h =
    leads_order rules lawful keep h.0 events after (happens_sound rules lawful w e h.0 s is.0 h.1) (happens_below rules w e h.0 b h.1) (happens_order rules keep w e h.0 s b o h.1) is.1 h.2

-- an opening world is in order
pub opening_order : (d : DurableWorld) (budget : Option ℕ) → SessionsStand d → IsInOrder (opening d budget)
unfolding opening
opening_order d budget st = record {
  stands = st;
  connections = orderly_sessions d (counting d) (empty {X = Connection} {R = conn_cmp}) (λ conn c e. not_both _ c e (get-empty conn_cmp conn));
  claims = record {
    free = λ run claim conn name e is. not_both _ claim e (get-empty run_cmp run);
    alone = λ run other claim c conn name alias e f is its. not_both _ claim e (get-empty run_cmp run);
  };
}

pub stay_counted : SessionsStayCounted
stay_counted rules d budget events w lawful keep v all within h =
    let stands = counting_stand d v all in
    standing_count w.durable (leads_order rules lawful keep (opening d budget) events w (opening_sound d budget v) (opening_below d budget) (opening_order d budget stands) within h).stands

pub legal_counted : LegalSessionsCount
legal_counted o events lawful keep all legal =
    let last = legal.history.last in
    let same : last ≡ world_after o events = events_lead o.rules (opening_of o) events last legal.history.leads in
    subst (λ (w : World). EverySessionCounts w.durable) same (stay_counted o.rules o.durable o.budget events last lawful keep legal.valid all legal.within legal.history.leads)

-- the empty world is valid
empty_valid : IsValid empty_world
empty_valid = record {
  objects = λ id object e. not_both _ object e (get-empty id_cmp id);
  names = λ name id e. not_both _ id e (get-empty bytes_cmp name);
  tasks = λ key task e. not_both _ task e (get-empty key_cmp key);
  last = omega arith;
  commits = omega arith;
  begun = (λ _. refl, λ _. refl);
}

-- one life after another
pub stores_count : StoresCount
stores_count [] d ours left = subst (λ (x : DurableWorld). IsValid x × EverySessionCounts x) (sym left) (empty_valid, empty_count)
stores_count (life ∷ earlier) d ours left =
    let before = stores_count earlier left.0 ours.1 left.1 in
    let w = left.3.0 in
    subst (λ (x : DurableWorld). IsValid x × EverySessionCounts x) left.3.2 (
      worlds_valid life.rules left.0 life.budget life.events w ours.0.0 before.0 left.2 left.3.1,
      stay_counted life.rules left.0 life.budget life.events w ours.0.0 ours.0.1 before.0 before.1 left.2 left.3.1,
    )
