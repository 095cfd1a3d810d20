-- The worlds of worked histories, and what a commit leads to.
use Rattle.std.proofs.Common.{◌≡◌, ℕ, ◌+◌, ◌<◌, max, min, take, drop, is_none, Bool, true, false, cond, not, Some, None, List, [], refl, sym, ap, ◌∙◌}
use Rattle.std.specs.Ordering.{eq_by_cmp}
use Rattle.std.specs.List.{filter_map}
use Rattle.std.specs.FinMap.{FinMap, empty, get, insert, remove, retain_keys, entries, from_entries, get-insert, get-empty, entries-insert}
use Rattle.std.specs.FinMap.Entries.{put, where_key, is_sorted}
use Rattle.dk_types.specs.declared.number.RunNo.{RunNo}
use Rattle.dk_types.specs.declared.number.ConnNo.{ConnNo}
use Rattle.dk_types.specs.declared.number.ObjectId.{ObjectId}
use Rattle.dk_types.specs.declared.job.Job.{Job}
use Rattle.dk_types.specs.declared.job.Input.{Input}
use Rattle.dk_types.specs.declared.job.Out.{Out}
use Rattle.dk_types.specs.declared.event.PostReply.TheVariants as posted
use Rattle.dk_model.specs.declared.waiting.Waiting.TheVariants as waits
use Rattle.dk_types.specs.declared.limits.TheConstants.{NUMBERS_END, MOMENT_MOST_MS}
use Rattle.dk_types.specs.declared.event.Event.TheVariants as event
use Rattle.dk_model.specs.Keys.{run_cmp, conn_cmp}
use Rattle.dk_model.specs.DurableWorlds.{DurableWorld, empty_world}
use Rattle.dk_model.specs.Worlds.{World, Connection, Claim, new_connection}
use Rattle.dk_model.specs.Deliveries.{Connections, change_connection, conn_of, for_conn, delivered, without_done}
use Rattle.dk_model.specs.Picks.{pick}
use Rattle.dk_model.specs.Events.{Meaning, Happens, swept, is_open, has_no_place, put_last, is_task, outbox, step_of}
use Rattle.dk_model.specs.Openings.{opening, login_of, session_at, first_of_each, with_sessions}
use Rattle.dk_model.specs.Finishes.{Report}
use Rattle.dk_model.proofs.Maps.{runs_total, exact_runs, conns_total, exact_conns}
use Rattle.dk_examples.specs.Worked.{run, conn, Runs}
use Rattle.dk_examples.specs.HistoryRows.{world, claim, connect}
use Rattle.dk_examples.specs.SessionRows.{alice}
use Rattle.dk_examples.proofs.MadeMaps.{entries-empty, entries-removed, entries-retained, same_made}
use Rattle.dk_examples.proofs.Running.{names_none}

pub claim_got : (m : FinMap run_cmp Claim) (k : RunNo) (v : Claim) (q : RunNo) → get (insert m k v) q ≡ cond (eq_by_cmp run_cmp q k) (Some v) (get m q)
claim_got = get-insert runs_total

pub claim_put : (m : FinMap run_cmp Claim) (k : RunNo) (v : Claim) → entries (insert m k v) ≡ put run_cmp k v (entries m)
claim_put = entries-insert runs_total

pub claim_cut : (m : FinMap run_cmp Claim) (k : RunNo) → entries (remove m k) ≡ where_key run_cmp (λ x. not (eq_by_cmp run_cmp k x)) (entries m)
claim_cut = entries-removed run_cmp runs_total exact_runs

pub claims_none : entries (empty {X = Claim} {R = run_cmp}) ≡ []
claims_none = entries-empty run_cmp

pub connection_got : (m : Connections) (k : ConnNo) (v : Connection) (q : ConnNo) → get (insert m k v) q ≡ cond (eq_by_cmp conn_cmp q k) (Some v) (get m q)
connection_got = get-insert conns_total

pub no_connection : (q : ConnNo) → get (empty {X = Connection} {R = conn_cmp}) q ≡ None
no_connection = get-empty conn_cmp

pub connection_put : (m : Connections) (k : ConnNo) (v : Connection) → entries (insert m k v) ≡ put conn_cmp k v (entries m)
connection_put = entries-insert conns_total

pub connection_kept : (m : Connections) (p : ConnNo → Bool) → entries (retain_keys m p) ≡ where_key conn_cmp p (entries m)
connection_kept = entries-retained conn_cmp conns_total exact_conns

pub connections_none : entries (empty {X = Connection} {R = conn_cmp}) ≡ []
connections_none = entries-empty conn_cmp

pub ruleset stands = (claim_got, claim_put, claim_cut, claims_none, connection_got, no_connection, connection_put, connection_kept, connections_none)

-- a world has these claims and connections
pub is_world : (d : DurableWorld) (moment next : ℕ) (after_task : Bool) (claims : FinMap run_cmp Claim) (connections : Connections) (cs : List (RunNo × Claim)) (ks : List (ConnNo × Connection))
    → entries claims ≡ cs → entries connections ≡ ks → is_sorted run_cmp cs ≡ true → is_sorted conn_cmp ks ≡ true
    → world d moment next after_task cs ks ≡ record { durable = d; moment = moment; next = next; budget = None; after_task = after_task; claims = claims; connections = connections }
is_world d moment next after_task claims connections cs ks c k s t i = record {
  durable = d;
  moment = moment;
  next = next;
  budget = None;
  after_task = after_task;
  claims = sym (same_made run_cmp runs_total claims cs c s) i;
  connections = sym (same_made conn_cmp conns_total connections ks k t) i;
}

-- the opening of the empty world
pub opens_empty : opening empty_world None ≡ world empty_world 0 0 false [] []
unfolding opening
opens_empty =
    ap (λ es. record { durable = empty_world; moment = 0; next = 0; budget = None; after_task = false; claims = empty; connections = with_sessions (first_of_each [] (filter_map (λ (e : List ℕ × ObjectId). session_at empty_world (login_of e.0) e.1) es)) empty })
    names_none

module _ (rules : Meaning) (d : DurableWorld) (m n : ℕ) (t : Bool) (cs : List (RunNo × Claim)) (ks : List (ConnNo × Connection)) where
  -- the world that an event happens in
  abbrev from : World
  from = world d m n t cs ks

  -- a claim of the job that is picked
  pub claims : (j : Job) (cs' : List (RunNo × Claim)) (ks' : List (ConnNo × Connection)) → pick from ≡ Some j → n < NUMBERS_END
      → entries (insert from.claims (run n) (record { pass = 0; job = j; at = m })) ≡ cs' → entries (without_done (for_conn (conn_of j) (λ c. record c { turn = n }) from.connections)) ≡ ks'
      → is_sorted run_cmp cs' ≡ true → is_sorted conn_cmp ks' ≡ true → Happens rules from (claim n m j) (world d m (n + 1) (is_task j) cs' ks')
  claims j cs' ks' picked lt c k s u = (picked, refl, lt, refl, refl, is_world d m (n + 1) (is_task j) _ _ cs' ks' c k s u)

  -- a commit of a claimed run that tells this
  pub commits : (number : ℕ) (c : Claim) (told : Report) (d' : DurableWorld) (cs' : List (RunNo × Claim)) (ks' : List (ConnNo × Connection)) → get from.claims (run number) ≡ Some c → 0 ≡ c.pass
      → Runs rules c.job (run number) c.at d told d' → entries (remove from.claims (run number)) ≡ cs' → entries (without_done (delivered c.job told.outs from.connections)) ≡ ks'
      → is_sorted run_cmp cs' ≡ true → is_sorted conn_cmp ks' ≡ true
      → Happens rules from (event.Commit 0 (run number) (d.commits + 1) told.outcome) (world d' m n t cs' ks')
  commits number c told d' cs' ks' held mine runs cut kept s u =
      let step = step_of rules from (run number) c in (
        c,
        held,
        mine,
        refl,
        sym (ap (λ (x : Report). x.outcome) runs.tells),
        is_world d' m n t _ _ cs' ks' cut kept s u
            ∙ (λ i. swept (record from { durable = sym runs.leaves i; claims = remove from.claims (run number); connections = delivered c.job (sym (ap (λ (x : Report). x.outs) runs.tells) i) from.connections })),
      )

  -- a new connection of alice
  pub connects : (ks' : List (ConnNo × Connection)) → n < NUMBERS_END → entries (without_done (insert from.connections (conn n) (new_connection alice n))) ≡ ks' → is_sorted run_cmp cs ≡ true → entries from.claims ≡ cs → is_sorted conn_cmp ks' ≡ true
      → Happens rules from (connect n) (world d m (n + 1) t cs ks')
  connects ks' lt k s c u = (lt, refl, is_world d m (n + 1) t _ _ cs ks' c k s u)

  -- time goes on
  pub ticks : (moment : ℕ) → entries from.claims ≡ cs → entries (without_done from.connections) ≡ ks → is_sorted run_cmp cs ≡ true → is_sorted conn_cmp ks ≡ true
      → Happens rules from (event.Tick 0 moment) (world d (max m (min moment MOMENT_MOST_MS)) n t cs ks)
  ticks moment c k s u = is_world d (max m (min moment MOMENT_MOST_MS)) n t _ _ cs ks c k s u

  -- an input that is taken
  pub posts : (number : ℕ) (input : Input) (ks' : List (ConnNo × Connection)) → is_open from (conn number) ≡ true → has_no_place from (conn number) input ≡ false
      → entries (without_done (change_connection (conn number) (put_last (waits.Input input)) from.connections)) ≡ ks'
      → entries from.claims ≡ cs → is_sorted run_cmp cs ≡ true → is_sorted conn_cmp ks' ≡ true → Happens rules from (event.Post 0 (conn number) input posted.Taken) (world d m n t cs ks')
  posts number input ks' is_there has_place k c s u = (is_there, has_place, is_world d m n t _ _ cs ks' c k s u)

  -- messages that are handed
  pub hands : (number most : ℕ) (outs : List Out) (end : Bool) (ks' : List (ConnNo × Connection)) → outs ≡ take most (outbox from (conn number)) → end ≡ is_none (get (from_entries {R = conn_cmp} ks') (conn number))
      → entries (without_done (change_connection (conn number) (λ c. record c { outbox = drop most c.outbox }) from.connections)) ≡ ks'
      → entries from.claims ≡ cs → is_sorted run_cmp cs ≡ true → is_sorted conn_cmp ks' ≡ true → Happens rules from (event.Hand 0 (conn number) most outs end) (world d m n t cs ks')
  hands number most outs end ks' given last k c s u = (given, last, is_world d m n t _ _ cs ks' c k s u)
