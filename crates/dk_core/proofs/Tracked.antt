-- The marks tell which connections and tasks claimed runs have, after each event.
use Rattle.std.proofs.Common.{◌≡◌, ℕ, ◌+◌, ◌<◌, Bool, true, false, ◌||◌, ◌&&◌, not, List, Some, None, sym, ap, ◌∙◌, arith, inl, inr}
use Rattle.std.specs.FinMap.{FinMap, get, insert, remove}
use Rattle.dk_types.specs.declared.number.RunNo.{RunNo}
use Rattle.dk_types.specs.declared.number.ConnNo.{ConnNo}
use Rattle.dk_types.specs.declared.number.TaskKey.{TaskKey}
use Rattle.dk_types.specs.declared.job.Job.{Job}
use Rattle.dk_types.specs.declared.job.Job.TheVariants as job
use Rattle.dk_types.specs.Keys.{key_cmp, conn_cmp}
use Rattle.dk_model.specs.DurableWorlds.{DurableWorld}
use Rattle.dk_model.specs.Worlds.{World, Claim, new_connection}
use Rattle.dk_model.specs.Picks.{is_of, is_task_of, is_claimed}
use Rattle.dk_model.proofs.Maps.{runs_total, exact_runs, conns_total, exact_conns, get-insert_cases, get-remove_cases}
use Rattle.dk_tasks.specs.Tasks.{Kept}
use Rattle.dk_connections.specs.MarkedConnections.{MarkedConnection, unclaimed, IsSwept, KeepsMarks, KeepsMarksBut, MarksBy}
use Rattle.dk_core.specs.Cores.{IsTracked}
use Rattle.dk_core.proofs.Having.{never, has_which, has_there, has_insert, has_remove}

-- the connections get one more, whose number was to be drawn next
pub tracked_connect : (w : World) (name : List ℕ) (all after : FinMap conn_cmp MarkedConnection) (tasks : FinMap key_cmp Kept) → IsTracked w all tasks
    → after ≡ insert all (record { 0 = w.next }) (unclaimed (new_connection name w.next)) → IsSwept after → (connections : _) → IsTracked (record w { next = w.next + 1; connections = connections }) after tasks
tracked_connect w name all after tasks t is swept connections = record {
  swept = swept;
  inputs = λ conn l e. elim (get-insert_cases conns_total exact_conns all (record { 0 = w.next }) (unclaimed (new_connection name w.next)) conn l (sym (ap (λ m. get m conn) is) ∙ e)) [
    | inl p ↦
        never (is_claimed (is_of conn) w) (λ h.
        let c = has_which (is_of conn) w.claims h in
        let below = t.below c.run c.claim conn c.there c.passes in
        let at : conn.0 ≡ w.next = ap (λ (x : ConnNo). x.0) p.0 in omega (arith, below, at)) ∙ ap (λ (x : MarkedConnection). x.claimed) p.1
    | inr there ↦ t.inputs conn l there
  ];
  tasks = t.tasks;
  first = t.first;
  alone = t.alone;
  below = λ run claim conn e own. let below = t.below run claim conn e own in omega (arith, below);
}

-- the connections keep their marks, and the claims stay
pub tracked_kept : (w : World) (all after : FinMap conn_cmp MarkedConnection) (tasks : FinMap key_cmp Kept) → IsTracked w all tasks → KeepsMarks all after → IsSwept after
    → (moment : ℕ) (connections : _) → IsTracked (record w { moment = moment; connections = connections }) after tasks
tracked_kept w all after tasks t keeps swept moment connections = record {
  swept = swept;
  inputs = λ conn l e. let k = keeps conn l e in t.inputs conn k.0 k.1 ∙ sym k.2;
  tasks = t.tasks;
  first = t.first;
  alone = t.alone;
  below = t.below;
}

-- each task that is left was there, with this mark
abbrev pub TasksBy : (TaskKey → Bool → Bool) → FinMap key_cmp Kept → FinMap key_cmp Kept → Type 0
TasksBy mark before after = (key : TaskKey) (t : Kept) → get after key ≡ Some t → (k : Kept) × (get before key ≡ Some k) × (t.claimed ≡ mark key k.claimed)

-- the input or the task of a job that is claimed is marked
abbrev pub InputClaimed : Job → FinMap conn_cmp MarkedConnection → FinMap conn_cmp MarkedConnection → Type 0
InputClaimed j = MarksBy (λ conn claimed. is_of conn j || claimed)

abbrev pub TaskClaimed : Job → FinMap key_cmp Kept → FinMap key_cmp Kept → Type 0
TaskClaimed j = TasksBy (λ key claimed. is_task_of key j || claimed)

abbrev pub TaskFreed : Job → FinMap key_cmp Kept → FinMap key_cmp Kept → Type 0
TaskFreed j = TasksBy (λ key claimed. claimed && not (is_task_of key j))

-- an input that may be claimed: no claimed run has one of its connection, which was made
pub record IsFree (w : World) (conn : ConnNo) : Type 0 where
  pub none : is_claimed (is_of conn) w ≡ false
  pub made : conn.0 < w.next

both_ways : (b : Bool) → b ≡ true → b ≡ false → ⊥
both_ways b e f = absurd cc

-- a job is claimed
pub tracked_claim : (w : World) (pass : ℕ) (j : Job) (all after : FinMap conn_cmp MarkedConnection) (tasks marked : FinMap key_cmp Kept) → IsTracked w all tasks
    → get w.claims (record { 0 = w.next }) ≡ None → (w.durable.commits ≡ 0 → j ≡ job.Initialize) → ((conn : ConnNo) → is_of conn j ≡ true → IsFree w conn)
    → InputClaimed j all after → IsSwept after → TaskClaimed j tasks marked
    → (budget : _) (after_task : Bool) (connections : _)
    → IsTracked (record w { next = w.next + 1; budget = budget; after_task = after_task; claims = insert w.claims (record { 0 = w.next }) (record { pass = pass; job = j; at = w.moment }); connections = connections }) after marked
tracked_claim w pass j all after tasks marked t none first free inputs swept claimed budget after_task connections =
    let no : RunNo = record { 0 = w.next } in
    let new : Claim = record { pass = pass; job = j; at = w.moment } in
    record {
      swept = swept;
      inputs = λ conn l e. let k = inputs conn l e in has_insert (is_of conn) w.claims no new none ∙ ap (λ b. is_of conn j || b) (t.inputs conn k.0 k.1) ∙ sym k.2;
      tasks = λ key x e. let k = claimed key x e in has_insert (is_task_of key) w.claims no new none ∙ ap (λ b. is_task_of key j || b) (t.tasks key k.0 k.1) ∙ sym k.2;
      first = λ zero run claim e. elim (get-insert_cases runs_total exact_runs w.claims no new run claim e) [
        | inl p ↦ ap (λ (c : Claim). c.job) (sym p.1) ∙ first zero
        | inr there ↦ t.first zero run claim there
      ];
      alone = λ conn run other a b e f own its. elim (get-insert_cases runs_total exact_runs w.claims no new run a e) [
        | inl p ↦ elim (get-insert_cases runs_total exact_runs w.claims no new other b f) [
          | inl q ↦ p.0 ∙ sym q.0
          | inr there ↦ absurd (both_ways _ (has_there (is_of conn) w.claims other b there its) (free conn (ap (λ (c : Claim). is_of conn c.job) p.1 ∙ own)).none)
        ]
        | inr here ↦ elim (get-insert_cases runs_total exact_runs w.claims no new other b f) [
          | inl q ↦ absurd (both_ways _ (has_there (is_of conn) w.claims run a here own) (free conn (ap (λ (c : Claim). is_of conn c.job) q.1 ∙ its)).none)
          | inr there ↦ t.alone conn run other a b here there own its
        ]
      ];
      below = λ run claim conn e own. elim (get-insert_cases runs_total exact_runs w.claims no new run claim e) [
        | inl p ↦ let made = (free conn (ap (λ (c : Claim). is_of conn c.job) p.1 ∙ own)).made in omega (arith, made)
        | inr there ↦ let below = t.below run claim conn there own in omega (arith, below)
      ];
    }

-- the task of a job has one run at most
abbrev pub TaskAlone : World → RunNo → Claim → Type 0
TaskAlone w run claim = (key : TaskKey) → is_task_of key claim.job ≡ true → (other : RunNo) (c : Claim) → get w.claims other ≡ Some c → is_task_of key c.job ≡ true → other ≡ run

-- a claim goes
pub tracked_less : (w : World) (run : RunNo) (claim : Claim) (all after : FinMap conn_cmp MarkedConnection) (tasks freed : FinMap key_cmp Kept) → IsTracked w all tasks
    → get w.claims run ≡ Some claim → TaskAlone w run claim → KeepsMarksBut claim.job all after → IsSwept after
    → ((key : TaskKey) (t : Kept) → get freed key ≡ Some t → t.claimed ≡ (is_claimed (is_task_of key) w && not (is_task_of key claim.job)))
    → (durable : DurableWorld) → (durable.commits ≡ 0 → w.durable.commits ≡ 0) → (budget : _) (connections : _)
    → IsTracked (record w { durable = durable; budget = budget; claims = remove w.claims run; connections = connections }) after freed
tracked_less w run claim all after tasks freed t held alone inputs swept left durable more budget connections = record {
  swept = swept;
  inputs = λ conn l e. let k = inputs conn l e in has_remove (is_of conn) w.claims run claim held (λ own other c f its. t.alone conn other run c claim f held its own)
      ∙ ap (λ b. b && not (is_of conn claim.job)) (t.inputs conn k.0 k.1) ∙ sym k.2;
  tasks = λ key x e. has_remove (is_task_of key) w.claims run claim held (alone key) ∙ sym (left key x e);
  first = λ zero q c e. t.first (more zero) q c (get-remove_cases runs_total exact_runs w.claims run q c e);
  alone = λ conn q other a b e f own its. t.alone conn q other a b (get-remove_cases runs_total exact_runs w.claims run q a e) (get-remove_cases runs_total exact_runs w.claims run other b f) own its;
  below = λ q c conn e own. t.below q c conn (get-remove_cases runs_total exact_runs w.claims run q c e) own;
}
