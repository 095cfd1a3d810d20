-- A login that a claim takes is the first that waits at its connection, and no other claim has it.
use Rattle.std.proofs.Common.{◌≡◌, ℕ, ◌<◌, Bool, true, false, ◌==◌, if◌then◌else◌, Some, None, List, [], ◌∷◌, refl, sym, ap, subst, ◌∙◌, inl, inr, arith}
use Rattle.std.specs.FinMap.{get, insert, remove, entries, get-entries}
use Rattle.dk_types.specs.declared.number.RunNo.{RunNo}
use Rattle.dk_types.specs.declared.number.ConnNo.{ConnNo}
use Rattle.dk_types.specs.declared.job.Job.{Job}
use Rattle.dk_types.specs.declared.job.Job.TheVariants as job
use Rattle.dk_types.specs.declared.job.Input.TheVariants as input
use Rattle.dk_model.specs.declared.waiting.Waiting.{Waiting}
use Rattle.dk_model.specs.declared.waiting.Waiting.TheVariants as waits
use Rattle.dk_model.specs.DurableWorlds.{DurableWorld}
use Rattle.dk_model.specs.Worlds.{World, Connection, Claim}
use Rattle.dk_model.specs.Picks.{is_initialize, is_of, is_claimed, first_job, Turn, turn_of, input_of, inputs, task_job, due_tasks, first_runs, least, is_sooner, is_earlier, or_else, pick_task, pick_input, first_of_list, pick}
use Rattle.dk_model.proofs.Maps.{conns_total, runs_total, exact_runs, get-insert_cases, get-remove_cases, get-remove_here, not_both, some_is}
use Rattle.dk_laws.proofs.NumberedMaps.{equal, one_conn}
use Rattle.dk_laws.proofs.Entries.{all_filter_map, all_entries}
use Rattle.dk_laws.proofs.OpenClaims.{TheClaims}
use Rattle.dk_laws.proofs.Picked.{If, least_has, mapped_has, or_else_has, either, turn_has}
use Rattle.dk_laws.proofs.SoundClaims.{any_found}
use Rattle.dk_session_laws.specs.Numbers.{HasNumber}
use Rattle.dk_session_laws.proofs.Orderly.{ArePosted, IsOrderlyConnection, AreOrderly, OpensAlone, opens_login}

-- a login that waits first at a connection of which nothing is claimed
pub record WaitsFirst (w : World) (conn : ConnNo) : Type 0 where
  pub connection : Connection
  pub there : get w.connections conn ≡ Some connection
  pub rest : List Waiting
  pub queue : connection.queue ≡ waits.Login ∷ rest
  pub free : is_claimed (is_of conn) w ≡ false

-- a job that is no login, or one that waits first
abbrev pub IsFree : World → Job → Type 0
IsFree w (job.Login conn name) = WaitsFirst w conn
IsFree w job.Initialize = Unit {0}
IsFree w (job.Message conn name body) = Unit {0}
IsFree w (job.Channel conn name channel body) = Unit {0}
IsFree w (job.Disconnect conn name graceful) = Unit {0}
IsFree w (job.Task key due period kind arg) = Unit {0}

module _ (w : World) where
  first_free : (conn : ConnNo) (c : Connection) → get w.connections conn ≡ Some c → is_claimed (is_of conn) w ≡ false → (queue : List Waiting) → c.queue ≡ queue → If (IsFree w) (first_job conn c.name queue)
  first_free conn c there free [] q j e = absurd cc
  first_free conn c there free (waits.Login ∷ rest) q j e = subst (IsFree w) (some_is _ j e) (record { connection = c; there = there; rest = rest; queue = q; free = free })
  first_free conn c there free (waits.Input (input.Message body) ∷ rest) q j e = subst (IsFree w) (some_is _ j e) tt
  first_free conn c there free (waits.Input (input.Channel channel body) ∷ rest) q j e = subst (IsFree w) (some_is _ j e) tt
  first_free conn c there free (waits.Input (input.Disconnect graceful) ∷ rest) q j e = subst (IsFree w) (some_is _ j e) tt

  input_free : (conn : ConnNo) (c : Connection) → get w.connections conn ≡ Some c → If (λ (t : Turn). IsFree w t.job) (input_of w (conn, c))
  input_free conn c there t e =
      elim (is_claimed (is_of conn) w) as (λ b. is_claimed (is_of conn) w ≡ b → (if b then None else turn_of c.turn (first_job conn c.name c.queue)) ≡ Some t → IsFree w t.job) [
        | true ↦ λ claimed f. absurd cc
        | false ↦ λ free f. turn_has (IsFree w) w c.turn (first_job conn c.name c.queue) (first_free conn c there free c.queue refl) t f
      ] refl e

  input_picked : If (IsFree w) (pick_input w)
  input_picked =
      let each = all_filter_map (λ (t : Turn). IsFree w t.job) (input_of w) (entries w.connections) (all_entries conns_total (λ e. If (λ (t : Turn). IsFree w t.job) (input_of w e)) w.connections (λ k x e. input_free k x e)) in
      mapped_has (IsFree w) (λ (t : Turn). t.job) (least is_earlier (inputs w)) (least_has (λ (t : Turn). IsFree w t.job) is_earlier (inputs w) each)

  task_picked : If (IsFree w) (pick_task w)
  task_picked = mapped_has (IsFree w) task_job (least is_sooner (due_tasks w)) (λ e is. tt)

  first_picked : (b : Bool) → If (IsFree w) (first_of_list (if b then [] else job.Initialize ∷ []))
  first_picked true j e = absurd cc
  first_picked false j e = subst (IsFree w) (some_is _ j e) tt

  -- the job that is picked
  pub picked_free : If (IsFree w) (pick w)
  picked_free =
      either (IsFree w) (w.durable.commits == 0) (first_of_list (first_runs w)) (if w.after_task then or_else (pick_input w) (pick_task w) else or_else (pick_task w) (pick_input w)) (first_picked (is_claimed is_initialize w))
      (either (IsFree w) w.after_task (or_else (pick_input w) (pick_task w)) (or_else (pick_task w) (pick_input w))
      (or_else_has (IsFree w) (pick_input w) (pick_task w) input_picked task_picked) (or_else_has (IsFree w) (pick_task w) (pick_input w) task_picked input_picked))

-- ---- claims

-- The number of a claimed login is below its run's, and no record has it; and no login is claimed twice.
pub record AreOrderlyClaims (d : DurableWorld) (claims : TheClaims) : Type 0 where
  pub free : (run : RunNo) (claim : Claim) (conn : ConnNo) (name : List ℕ) → get claims run ≡ Some claim → claim.job ≡ job.Login conn name → (conn.0 < run.0) × (HasNumber d conn.0 → ⊥)
  pub alone : (run other : RunNo) (claim c : Claim) (conn : ConnNo) (name alias : List ℕ) → get claims run ≡ Some claim → get claims other ≡ Some c → claim.job ≡ job.Login conn name → c.job ≡ job.Login conn alias → run ≡ other

both_ways : (b : Bool) → b ≡ true → b ≡ false → ⊥
both_ways b e f = cc

-- of a connection of which nothing is claimed there is no claim
unclaimed : (w : World) (conn : ConnNo) (run : RunNo) (c : Claim) (name : List ℕ) → is_claimed (is_of conn) w ≡ false → get w.claims run ≡ Some c → c.job ≡ job.Login conn name → ⊥
unclaimed w conn run c name free e is =
    both_ways _ (any_found (λ claim. is_of conn claim.job) run c (entries w.claims) (sym (get-entries w.claims run) ∙ e) (ap (is_of conn) is ∙ equal conn.0 conn.0 refl)) free

no_login : (queue rest : List Waiting) → queue ≡ waits.Login ∷ rest → ArePosted queue → ⊥
no_login queue rest e h = (subst ArePosted e h).0

-- the number of a login that waits first is no record's
none_has : (d : DurableWorld) (conn : ConnNo) (c : Connection) (rest : List Waiting) → c.queue ≡ waits.Login ∷ rest → IsOrderlyConnection d conn c → HasNumber d conn.0 → ⊥
none_has d conn c rest q h has = elim h.first [
  | inl posted ↦ no_login c.queue rest q posted
  | inr none ↦ none has
]

module _ (w : World) (orderly : AreOrderly w.durable w.connections) (claims : AreOrderlyClaims w.durable w.claims) (below : (conn : ConnNo) (c : Connection) → get w.connections conn ≡ Some c → conn.0 < w.next) where
  waits_first : (j : Job) (conn : ConnNo) (name : List ℕ) → IsFree w j → j ≡ job.Login conn name → WaitsFirst w conn
  waits_first j conn name free is = subst (IsFree w) is free

  -- a claim is granted
  pub claims_granted : (j : Job) (new : Claim) → pick w ≡ Some j → new.job ≡ j → AreOrderlyClaims w.durable (insert w.claims (record { 0 = w.next }) new)
  claims_granted j new picked same =
      let no : RunNo = record { 0 = w.next } in
      let free = picked_free w j picked in record {
        free = λ run claim conn name e is. elim (get-insert_cases runs_total exact_runs w.claims no new run claim e) [
          | inl p ↦
              let first = waits_first j conn name free (sym same ∙ ap (λ (c : Claim). c.job) p.1 ∙ is) in
              let lt = below conn first.connection first.there in
              let at : run.0 ≡ w.next = ap (λ (r : RunNo). r.0) p.0 in
              (omega (arith, lt, at), none_has w.durable conn first.connection first.rest first.queue (orderly conn first.connection first.there))
          | inr there ↦ claims.free run claim conn name there is
        ];
        alone = λ run other claim c conn name alias e f is its. elim (get-insert_cases runs_total exact_runs w.claims no new run claim e) [
          | inl p ↦ elim (get-insert_cases runs_total exact_runs w.claims no new other c f) [
            | inl q ↦ p.0 ∙ sym q.0
            | inr there ↦ absurd (unclaimed w conn other c alias (waits_first j conn name free (sym same ∙ ap (λ (c : Claim). c.job) p.1 ∙ is)).free there its)
          ]
          | inr here ↦ elim (get-insert_cases runs_total exact_runs w.claims no new other c f) [
            | inl q ↦ absurd (unclaimed w conn run claim name (waits_first j conn alias free (sym same ∙ ap (λ (c : Claim). c.job) q.1 ∙ its)).free here is)
            | inr there ↦ claims.alone run other claim c conn name alias here there is its
          ]
        ];
      }

-- a claim goes
pub claims_left : (d : DurableWorld) (claims : TheClaims) (gone : RunNo) → AreOrderlyClaims d claims → AreOrderlyClaims d (remove claims gone)
claims_left d claims gone h = record {
  free = λ run claim conn name e is. h.free run claim conn name (get-remove_cases runs_total exact_runs claims gone run claim e) is;
  alone = λ run other claim c conn name alias e f is its.
      h.alone run other claim c conn name alias (get-remove_cases runs_total exact_runs claims gone run claim e) (get-remove_cases runs_total exact_runs claims gone other c f) is its;
}

-- a claim is committed: no other's login has the number that came
pub claims_committed : (d after : DurableWorld) (claims : TheClaims) (run : RunNo) (claim : Claim) → get claims run ≡ Some claim → OpensAlone d after claim.job → AreOrderlyClaims d claims → AreOrderlyClaims after (remove claims run)
claims_committed d after claims run claim held opens h =
    let left = claims_left d claims run h in record {
      free = λ other c conn name e is.
          let was = left.free other c conn name e is in (
            was.0,
            λ has. elim (opens conn.0 has) [
              | inl old ↦ was.1 old
              | inr new ↦
                  let login = opens_login claim.job conn.0 new in
                  let same : conn ≡ login.0 = one_conn conn login.0 login.3 in
                  let one : run ≡ other = h.alone run other claim c login.0 login.1 name held (get-remove_cases runs_total exact_runs claims run other c e) login.2 (is ∙ ap (λ (k : ConnNo). job.Login k name) same) in
                  not_both _ c (ap (get (remove claims run)) one ∙ e) (get-remove_here runs_total claims run)
            ],
          );
      alone = left.alone;
    }
