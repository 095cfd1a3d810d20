-- A history of the counters, from the empty world on: where it comes to rest it has come to the totals.
use Rattle.std.proofs.Common.{◌≡◌, ℕ, ◌+◌, ◌≤◌, ◌⊎◌, inl, inr, Bool, true, false, cond, not, ◌&&◌, ◌==◌, map, Option, Some, None, List, [], ◌∷◌, ◌++◌, refl, sym, ap, subst, ◌∙◌, arith, is_eq}
use Rattle.std.specs.declared.cmp.Ordering.TheVariants.{Less, Equal, Greater}
use Rattle.std.specs.List.{AllByRecursion, list_any, filter, filter_map}
use Rattle.std.specs.FinMap.{get, find, insert, remove, entries, get-entries, get-empty}
use Rattle.std.proofs.lemmas.Bool.{ne_eqb, le-leb}
use Rattle.dk_types.specs.declared.number.RunNo.{RunNo}
use Rattle.dk_types.specs.declared.number.ConnNo.{ConnNo}
use Rattle.dk_types.specs.declared.number.TaskKey.{TaskKey}
use Rattle.dk_types.specs.declared.job.Job.{Job}
use Rattle.dk_types.specs.declared.job.Job.TheVariants as job
use Rattle.dk_types.specs.declared.event.Event.{Event}
use Rattle.dk_types.specs.declared.event.Event.TheVariants as event
use Rattle.dk_types.specs.declared.event.PostReply.TheVariants as posted
use Rattle.dk_types.specs.declared.event.ClaimReply.TheVariants as claimed
use Rattle.dk_types.specs.declared.limits.TheConstants.{TASKS_MOST_COUNT}
use Rattle.dk_types.specs.Names.{bytes_cmp}
use Rattle.dk_model.specs.Keys.{id_cmp, key_cmp}
use Rattle.dk_model.specs.DurableWorlds.{DurableWorld, Task, empty_world}
use Rattle.dk_model.specs.Deliveries.{Connections, conn_of}
use Rattle.dk_model.specs.Events.{Meaning, Happens, swept, with_claim, step_of, committed, is_open_at}
use Rattle.dk_model.specs.Histories.{Leads}
use Rattle.dk_model.specs.Lawful.{IsWithinLimits}
use Rattle.dk_model.specs.Legal.{opening_of, world_after}
use Rattle.dk_model.specs.Openings.{opening}
use Rattle.dk_model.specs.Picks.{Turn, is_initialize, is_claimed, is_task_of, task_job, is_due, due_tasks, inputs, input_of, first_runs, runnable, least, is_sooner, is_earlier, mapped, or_else, pick_task, pick_input, first_of_list, pick}
use Rattle.dk_model.specs.Steps.{step}
use Rattle.dk_model.specs.Validity.{IsValid}
use Rattle.dk_model.specs.Worlds.{World, Connection, Claim}
use Rattle.dk_model.proofs.Maps.{runs_total, exact_runs, conns_total, keys_total, exact_keys, get-insert_cases, get-remove_cases, get-remove_here, some_is, not_both}
use Rattle.dk_model.proofs.Works.{IsOwnKey}
use Rattle.dk_laws.proofs.Entries.{all_entries, all_filter}
use Rattle.dk_laws.proofs.NumberedMaps.{for_conn-none, change-none, without_done-none}
use Rattle.dk_laws.proofs.Numbers.{opening_claims, opening_below, delivered-none}
use Rattle.dk_laws.proofs.OneWorld.{events_lead}
use Rattle.dk_laws.proofs.Picked.{If, least_has, mapped_has, or_else_has, either}
use Rattle.dk_laws.proofs.Sound.{IsSound}
use Rattle.dk_laws.proofs.SoundClaims.{any_found}
use Rattle.dk_laws.proofs.SoundEvents.{happens_sound}
use Rattle.dk_laws.proofs.SoundOpenings.{opening_sound}
use Rattle.dk_demos.specs.CountersRules.{counter_of_task, counters_rules}
use Rattle.dk_demos.specs.CountersLawful.{counters_lawful}
use Rattle.dk_demos.specs.CountersTotals.{AreTotals, is_connect, AreUnconnected, IsAtRest, CountersComeToTotals, plain_count}
use Rattle.dk_demos.proofs.CountersLeft.{task_key, left, left_none}
use Rattle.dk_demos.proofs.CountersBegin.{counter_id, counter_object, planned}
use Rattle.dk_demos.proofs.CountersCounting.{raises_this, IsCounting, first_counting, task_counting, others_pending}

-- nobody is connected
abbrev HasNone : Connections → Type 0
HasNone all = (conn : ConnNo) → get all conn ≡ None

-- before the first commit the first run alone may be claimed
record IsBeginning (w : World) : Type 0 where
  empty : ◌≡◌ {A = DurableWorld} w.durable empty_world
  jobs : (run : RunNo) (claim : Claim) → get w.claims run ≡ Some claim → (claim.job ≡ job.Initialize) × (claim.at ≤ w.moment)
  alone : (a b : RunNo) (c e : Claim) → get w.claims a ≡ Some c → get w.claims b ≡ Some e → a ≡ b

-- the job is a task that is pending
abbrev IsPending : DurableWorld → Job → Type 0
IsPending d j = (key : TaskKey) × (task : Task) × (get d.tasks key ≡ Some task) × (j ≡ task_job (key, task))

-- after it all tasks are due, and those that are claimed are pending
record IsGoing (seed tasks : ℕ) (w : World) : Type 0 where
  root : RunNo
  due : ℕ
  counting : IsCounting seed tasks root due w.durable
  late : due ≤ w.moment
  claims : (run : RunNo) (claim : Claim) → get w.claims run ≡ Some claim → IsPending w.durable claim.job

record IsOnWay (seed tasks : ℕ) (w : World) : Type 0 where
  nobody : HasNone w.connections
  where_it_is : IsBeginning w ⊎ IsGoing seed tasks w

-- ---- what is picked

empty_of : {A : Type 0} (xs : List A) → AllByRecursion (λ _. ⊥) xs → xs ≡ []
empty_of [] h = refl
empty_of (x ∷ xs) h = absurd h.0

no_inputs : (w : World) → HasNone w.connections → pick_input w ≡ None
no_inputs w nobody =
    let none : entries w.connections ≡ [] = empty_of (entries w.connections) (all_entries conns_total (λ _. ⊥) w.connections (λ conn c e. not_both (get w.connections conn) c e (nobody conn))) in
    ap (λ (es : List (ConnNo × Connection)). mapped (λ (t : Turn). t.job) (least is_earlier (filter_map (input_of w) es))) none

task_pending : (w : World) → If (IsPending w.durable) (pick_task w)
task_pending w =
    let Stands : TaskKey × Task → Type 0 = λ e. get w.durable.tasks e.0 ≡ Some e.1 in
    let all = all_filter Stands (is_due w) (entries w.durable.tasks) (all_entries keys_total Stands w.durable.tasks (λ k x e. e)) in
    mapped_has (IsPending w.durable) task_job (least is_sooner (due_tasks w)) (λ e is.
    let both = least_has (λ e. Stands e × (is_due w e ≡ true)) is_sooner (due_tasks w) all e is in (e.0, e.1, both.0, refl))

nothing_has : {A : Type 0} (P : A → Type 0) (o : Option A) → o ≡ None → If P o
nothing_has P o none x e = not_both o x e none

-- after the first commit a task is picked
pick_pending : (w : World) → HasNone w.connections → 1 ≤ w.durable.commits → If (IsPending w.durable) (pick w)
pick_pending w nobody some j e =
    let P = IsPending w.durable in
    let input = nothing_has P (pick_input w) (no_inputs w nobody) in
    let later : (w.durable.commits == 0) ≡ false = ne_eqb w.durable.commits 0 (λ none. omega (arith, none, some)) in
    either P w.after_task (or_else (pick_input w) (pick_task w)) (or_else (pick_task w) (pick_input w)) (or_else_has P (pick_input w) (pick_task w) input (task_pending w)) (or_else_has P (pick_task w) (pick_input w) (task_pending w) input) j
    (sym (ap (λ (b : Bool). cond b (first_of_list (first_runs w)) (cond w.after_task (or_else (pick_input w) (pick_task w)) (or_else (pick_task w) (pick_input w)))) later) ∙ e)

-- before it the first run is, where it is not claimed
first_picked : (w : World) (j : Job) (b : Bool) → first_of_list (cond b [] (job.Initialize ∷ [])) ≡ Some j → (b ≡ false) × (j ≡ job.Initialize)
first_picked w j true e = absurd cc
first_picked w j false e = (refl, sym (some_is job.Initialize j e))

pick_first : (w : World) (j : Job) → ◌≡◌ {A = DurableWorld} w.durable empty_world → pick w ≡ Some j → (is_claimed is_initialize w ≡ false) × (j ≡ job.Initialize)
pick_first w j none e =
    let first : (w.durable.commits == 0) ≡ true = ap (λ (d : DurableWorld). d.commits == 0) none in
    first_picked w j (is_claimed is_initialize w) (sym (ap (λ (b : Bool). cond b (first_of_list (first_runs w)) (cond w.after_task (or_else (pick_input w) (pick_task w)) (or_else (pick_task w) (pick_input w)))) first) ∙ e)

both_ways : (b : Bool) → b ≡ true → b ≡ false → ⊥
both_ways b e f = cc

-- where the first run is not claimed, and nothing else could be, nothing is
none_claimed : (w : World) → IsBeginning w → is_claimed is_initialize w ≡ false → (run : RunNo) (claim : Claim) → get w.claims run ≡ Some claim → ⊥
none_claimed w b none run claim e =
    both_ways _ (any_found (λ claim. is_initialize claim.job) run claim (entries w.claims) (sym (get-entries w.claims run) ∙ e) (ap is_initialize (b.jobs run claim e).0)) none

-- ---- events

module _ (seed tasks : ℕ) where
  -- other connections, of which there are none
  with_none : (w : World) (all : Connections) → HasNone all → IsOnWay seed tasks w → IsOnWay seed tasks (record w { connections = all })
  with_none w all none s = record {
    nobody = none;
    where_it_is = elim s.where_it_is [
      | inl b ↦ inl (record { empty = b.empty; jobs = b.jobs; alone = b.alone })
      | inr g ↦ inr (record { root = g.root; due = g.due; counting = g.counting; late = g.late; claims = g.claims })
    ];
  }

  way_swept : (w : World) → IsOnWay seed tasks w → IsOnWay seed tasks (swept w)
  way_swept w s = with_none w _ (λ conn. without_done-none w.connections conn (s.nobody conn)) s

  module _ (w : World) (s : IsOnWay seed tasks w) where
    -- a claim
    way_claimed : (pass : ℕ) (j : Job) → pick w ≡ Some j → IsOnWay seed tasks (with_claim w pass j)
    way_claimed pass j e =
        let new : Claim = record { pass = pass; job = j; at = w.moment } in
        let number : RunNo = record { 0 = w.next } in
        record {
          nobody = λ conn. for_conn-none (conn_of j) (λ c. record c { turn = w.next }) w.connections conn (s.nobody conn);
          where_it_is = elim s.where_it_is [
            | inl b ↦
                let p = pick_first w j b.empty e in
                let only : (run : RunNo) (claim : Claim) → get (insert w.claims number new) run ≡ Some claim → (run ≡ number) × (new ≡ claim) =
                λ run claim f. elim (get-insert_cases runs_total exact_runs w.claims number new run claim f) [
                  | inl q ↦ q
                  | inr there ↦ absurd (none_claimed w b p.0 run claim there)
                ] in
                inl (record {
                  empty = b.empty;
                  jobs = λ run claim f. subst (λ (c : Claim). (c.job ≡ job.Initialize) × (c.at ≤ w.moment)) (only run claim f).1 (p.1, omega arith);
                  alone = λ x y c d f g. (only x c f).0 ∙ sym (only y d g).0;
                })
            | inr g ↦
                let some = g.counting.some in
                inr (record {
                  root = g.root;
                  due = g.due;
                  counting = g.counting;
                  late = g.late;
                  claims = λ run claim f. elim (get-insert_cases runs_total exact_runs w.claims number new run claim f) [
                    | inl q ↦ subst (λ (c : Claim). IsPending w.durable c.job) q.1 (pick_pending w s.nobody some j e)
                    | inr there ↦ g.claims run claim there
                  ];
                })
          ];
        }

    -- a claim that goes
    way_released : (gone : RunNo) (budget : _) → IsOnWay seed tasks (record w { claims = remove w.claims gone; budget = budget })
    way_released gone budget = record {
      nobody = s.nobody;
      where_it_is = elim s.where_it_is [
        | inl b ↦ inl (record {
          empty = b.empty;
          jobs = λ run claim f. b.jobs run claim (get-remove_cases runs_total exact_runs w.claims gone run claim f);
          alone = λ x y c d f g. b.alone x y c d (get-remove_cases runs_total exact_runs w.claims gone x c f) (get-remove_cases runs_total exact_runs w.claims gone y d g);
        })
        | inr g ↦ inr (record { root = g.root; due = g.due; counting = g.counting; late = g.late; claims = λ run claim f. g.claims run claim (get-remove_cases runs_total exact_runs w.claims gone run claim f) })
      ];
    }

    -- time goes on
    way_ticked : (moment : ℕ) → w.moment ≤ moment → IsOnWay seed tasks (record w { moment = moment })
    way_ticked moment le = record {
      nobody = s.nobody;
      where_it_is = elim s.where_it_is [
        | inl b ↦ inl (record { empty = b.empty; jobs = λ run claim f. let j = b.jobs run claim f in let at = j.1 in (j.0, omega (arith, at, le)); alone = b.alone })
        | inr g ↦ inr (record { root = g.root; due = g.due; counting = g.counting; late = let late = g.late in omega (arith, late, le); claims = g.claims })
      ];
    }

    module _ (few : tasks ≤ TASKS_MOST_COUNT) (sound : IsSound w) (run : RunNo) (claim : Claim) (held : get w.claims run ≡ Some claim) where
      abbrev rules : Meaning
      rules = counters_rules seed tasks

      abbrev after : World
      after = committed w run claim.job (step_of rules w run claim)

      -- a claim that is left is another one
      another : (q : RunNo) (c : Claim) → get (remove w.claims run) q ≡ Some c → q ≡ run → ⊥
      another q c e same = not_both _ c e (ap (get (remove w.claims run)) same ∙ get-remove_here runs_total w.claims run)

      -- the first run
      first_going : IsBeginning w → IsGoing seed tasks after
      first_going b =
          let is = b.jobs run claim held in
          record {
            root = run;
            due = claim.at;
            counting = subst (λ (j : Job). IsCounting seed tasks run claim.at (step rules j run claim.at w.durable).world) (sym is.0)
                (subst (λ (d : DurableWorld). IsCounting seed tasks run claim.at (step rules job.Initialize run claim.at d).world) (sym b.empty) (first_counting seed tasks few run claim.at));
            late = is.1;
            claims = λ q c e. absurd (another q c e (b.alone q run c claim (get-remove_cases runs_total exact_runs w.claims run q c e) held));
          }

      -- a task
      task_going : IsGoing seed tasks w → IsGoing seed tasks after
      task_going g =
          let p = g.claims run claim held in
          let o = g.counting.pending p.0 p.1 p.2 in
          let k : ℕ = o.0 in
          let there : get w.durable.tasks (task_key g.root k) ≡ Some (planned seed g.due k) = ap (get w.durable.tasks) (sym o.2) ∙ p.2 ∙ ap Some o.3 in
          let is : claim.job ≡ job.Task (task_key g.root k) g.due 0 1 (counter_of_task seed (k + 1) ∷ []) = p.3 ∙ ap (λ (e : TaskKey × Task). task_job e) (λ i. (o.2 i, o.3 i)) in
          let own : IsOwnKey claim.job (task_key g.root k) = subst (λ (j : Job). IsOwnKey j (task_key g.root k)) (sym is) refl in
          record {
            root = g.root;
            due = g.due;
            counting = subst (λ (j : Job). IsCounting seed tasks g.root g.due (step rules j run claim.at w.durable).world) (sym is) (task_counting seed tasks few g.root g.due w.durable g.counting k there run claim.at);
            late = g.late;
            claims = λ q c e.
                let was = get-remove_cases runs_total exact_runs w.claims run q c e in
                let r = g.claims q c was in
                let apart : task_key g.root k ≡ r.0 → ⊥ = λ same.
                another q c e ((sound.claims run claim held).alone (task_key g.root k) q c own was (subst (λ (j : Job). IsOwnKey j (task_key g.root k)) (sym r.3) (sym same))) in
                (r.0, r.1, subst (λ (j : Job). get (step rules j run claim.at w.durable).world.tasks r.0 ≡ Some r.1) (sym is) (others_pending seed tasks few g.root g.due w.durable g.counting k there run claim.at r.0 r.1 apart r.2), r.3);
          }

      way_committed : IsOnWay seed tasks after
      way_committed = record {
        nobody = λ conn. delivered-none claim.job (step_of rules w run claim).outs w.connections conn (s.nobody conn);
        where_it_is = elim s.where_it_is [ inl b ↦ inr (first_going b) | inr g ↦ inr (task_going g) ];
      }

  -- one event
  way_on : tasks ≤ TASKS_MOST_COUNT → (w : World) (e : Event) (after : World) → IsSound w → IsOnWay seed tasks w → is_connect e ≡ false → Happens (counters_rules seed tasks) w e after → IsOnWay seed tasks after
  way_on few w (event.Connect pass name reply) after sound s none h = absurd cc
  way_on few w (event.Post pass conn x posted.Taken) after sound s none h = absurd (both_ways _ h.0 (ap is_open_at (s.nobody conn)))
  way_on few w (event.Post pass conn x posted.Closed) after sound s none h = subst (IsOnWay seed tasks) (sym h.1) s
  way_on few w (event.Post pass conn x (posted.QueueFull waiting)) after sound s none h = subst (IsOnWay seed tasks) (sym h.3) s
  way_on few w (event.Claim pass (claimed.Granted run at j)) after sound s none h = subst (IsOnWay seed tasks) (sym h.5) (way_swept _ (way_claimed w s pass j h.0))
  way_on few w (event.Claim pass claimed.Nothing) after sound s none h = subst (IsOnWay seed tasks) (sym h.1) s
  way_on few w (event.Claim pass (claimed.Spent granted)) after sound s none h = subst (IsOnWay seed tasks) (sym h.3) s
  way_on few w (event.Claim pass (claimed.Exhausted next)) after sound s none h = subst (IsOnWay seed tasks) (sym h.4) s
  way_on few w (event.Release pass run) after sound s none h = subst (IsOnWay seed tasks) (sym h.3) (way_swept _ (way_released w s run _))
  way_on few w (event.Commit pass run seq outcome) after sound s none h = subst (IsOnWay seed tasks) (sym h.5) (way_swept _ (way_committed w s few sound run h.0 h.1))
  way_on few w (event.Hand pass conn most outs end) after sound s none h = subst (IsOnWay seed tasks) (sym h.2) (way_swept _ (with_none w _ (λ c. change-none conn _ w.connections c (s.nobody c)) s))
  way_on few w (event.Tick pass moment) after sound s none h = subst (IsOnWay seed tasks) (sym h) (way_swept _ (way_ticked w s _ (omega arith)))

  -- and all of them
  way_along : tasks ≤ TASKS_MOST_COUNT → (w : World) (events : List Event) (after : World) → IsSound w → IsOnWay seed tasks w → AllByRecursion IsWithinLimits events → AreUnconnected events → Leads (counters_rules seed tasks) w events after
      → IsOnWay seed tasks after
  way_along few w [] after sound s within none h = subst (IsOnWay seed tasks) (sym h) s
  way_along few w (e ∷ events) after sound s within none h =
      way_along few h.0 events after (happens_sound (counters_rules seed tasks) (counters_lawful seed tasks) w e h.0 sound within.0 h.1) (way_on few w e h.0 sound s none.0 h.1) within.1 none.1 h.2

  -- nothing has happened at first
  way_first : (budget : Option ℕ) → IsOnWay seed tasks (opening empty_world budget)
  unfolding opening
  way_first budget = record {
    nobody = λ conn. (opening_below empty_world budget).connections conn (omega arith);
    where_it_is = inl (record {
      empty = refl;
      jobs = λ run claim e. absurd (not_both _ claim e (opening_claims empty_world budget run));
      alone = λ a b c d e f. absurd (not_both _ c e (opening_claims empty_world budget a));
    });
  }

-- ---- rest

first_of_two : {A : Type 0} (xs ys : List A) → xs ++ ys ≡ [] → xs ≡ []
first_of_two [] ys e = refl
first_of_two (x ∷ xs) ys e = absurd cc

of_map : {A B : Type 0} (f : A → B) (xs : List A) → map f xs ≡ [] → xs ≡ []
of_map f [] e = refl
of_map f (x ∷ xs) e = absurd cc

-- where a test keeps nothing of a list, it keeps no item that comes first
kept_first : {A : Type 0} (b : Bool) (x : A) (xs : List A) → cond b (x ∷ xs) xs ≡ [] → (b ≡ false) × (xs ≡ [])
kept_first true x xs e = absurd cc
kept_first false x xs e = (refl, e)

-- and none that is found
found_kept : (test : TaskKey × Task → Bool) (key : TaskKey) (task : Task) (es : List (TaskKey × Task)) → find key_cmp key es ≡ Some task → filter test es ≡ [] → test (key, task) ≡ true → ⊥
found_kept test key task [] e none t = absurd cc
found_kept test key task (x ∷ es) e none t =
    let k = kept_first (test x) x (filter test es) none in
    elim (key_cmp key x.0) as (λ o. key_cmp key x.0 ≡ o → cond (is_eq o) (Some x.1) (find key_cmp key es) ≡ Some task → ⊥) [
      | Less ↦ λ _ f. found_kept test key task es f k.1 t
      | Equal ↦ λ same f. both_ways (test x) (ap test (λ i. (sym (exact_keys key x.0 same) i, some_is x.1 task f i)) ∙ t) k.0
      | Greater ↦ λ _ f. found_kept test key task es f k.1 t
    ] refl e

module _ (w : World) (rest : IsAtRest w) where
  no_claims : entries w.claims ≡ []
  no_claims = empty_of (entries w.claims) (all_entries runs_total (λ _. ⊥) w.claims (λ run claim e. not_both _ claim e (rest.unclaimed run)))

  none_is_claimed : (test : Job → Bool) → is_claimed test w ≡ false
  none_is_claimed test = ap (λ (es : List (RunNo × Claim)). list_any (λ claim. test claim.job) (map (λ e. e.1) es)) no_claims

  -- a world in which nothing was run is not at rest
  not_beginning : IsBeginning w → ⊥
  not_beginning b =
      let first : (w.durable.commits == 0) ≡ true = ap (λ (d : DurableWorld). d.commits == 0) b.empty in
      let some : runnable w ≡ job.Initialize ∷ [] =
      ap (λ (t : Bool). cond t (first_runs w) (map task_job (due_tasks w) ++ map (λ t. t.job) (inputs w))) first ∙ ap (λ (t : Bool). cond t [] (job.Initialize ∷ [])) (none_is_claimed is_initialize) in
      let no : job.Initialize ∷ [] ≡ [] = sym some ∙ rest.nothing in absurd cc

  module _ (seed tasks : ℕ) (g : IsGoing seed tasks w) where
    none_due : due_tasks w ≡ []
    none_due =
        let some = g.counting.some in
        let later : (w.durable.commits == 0) ≡ false = ne_eqb w.durable.commits 0 (λ none. omega (arith, none, some)) in
        of_map task_job (due_tasks w) (first_of_two (map task_job (due_tasks w)) (map (λ t. t.job) (inputs w))
        (sym (ap (λ (t : Bool). cond t (first_runs w) (map task_job (due_tasks w) ++ map (λ t. t.job) (inputs w))) later) ∙ rest.nothing))

    due_now : (key : TaskKey) (task : Task) → get w.durable.tasks key ≡ Some task → is_due w (key, task) ≡ true
    due_now key task e =
        let o = g.counting.pending key task e in
        let late = g.late in
        let moment : task.due ≡ g.due = ap (λ (t : Task). t.due) o.3 in
        ap (λ (b : Bool). b && not (is_claimed (is_task_of key) w)) (le-leb task.due w.moment (omega (arith, moment, late))) ∙ ap not (none_is_claimed (is_task_of key))

    none_pending : (key : TaskKey) → get w.durable.tasks key ≡ None
    none_pending key = elim (get w.durable.tasks key) as (λ o. get w.durable.tasks key ≡ o → o ≡ None) [
      | None ↦ λ e. refl
      | Some task ↦ λ e. absurd (found_kept (is_due w) key task (entries w.durable.tasks) (sym (get-entries w.durable.tasks key) ∙ e) none_due (due_now key task e))
    ] refl

    -- so all were committed
    at_totals : AreTotals seed tasks w.durable
    at_totals =
        let committed = g.counting.committed in
        let none = left_none w.durable.tasks g.root (λ k. true) 0 tasks none_pending in
        record {
          commits = omega (arith, committed, none);
          counters = λ number lt.
              let c = g.counting.counters number lt in
              let total = c.total in
              let left = left_none w.durable.tasks g.root (raises_this seed number) 0 tasks none_pending in
              let is : c.count ≡ plain_count seed tasks number = omega (arith, total, left) in
              record { id = counter_id g.root number; bound = g.counting.names number lt; object = c.object ∙ ap (λ (n : ℕ). Some (counter_object n)) is };
        }

empty_valid : IsValid empty_world
empty_valid = record {
  objects = λ id object e. absurd (not_both _ object e (get-empty id_cmp id));
  names = λ name id e. absurd (not_both _ id e (get-empty bytes_cmp name));
  tasks = λ key task e. absurd (not_both _ task e (get-empty key_cmp key));
  last = omega arith;
  commits = omega arith;
  begun = (λ _. refl, λ _. refl);
}

-- the world at rest has come to the totals
pub come_to_totals : CountersComeToTotals
come_to_totals o seed tasks events is legal none rest =
    let rules : o.rules ≡ counters_rules seed tasks = is.rules in
    let at : World = legal.history.last in
    let begun : ◌≡◌ {A = World} (opening_of o) (opening empty_world o.budget) = ap (λ (d : DurableWorld). opening d o.budget) is.empty in
    let leads : Leads (counters_rules seed tasks) (opening empty_world o.budget) events at =
    subst (λ (w : World). Leads (counters_rules seed tasks) w events at) begun (subst (λ (m : Meaning). Leads m (opening_of o) events at) rules legal.history.leads) in
    let same : at ≡ world_after o events = events_lead o.rules (opening_of o) events at legal.history.leads in
    let way = way_along seed tasks is.few (opening empty_world o.budget) events at (opening_sound empty_world o.budget empty_valid) (way_first seed tasks o.budget) legal.within none leads in
    let s : IsOnWay seed tasks (world_after o events) = subst (IsOnWay seed tasks) same way in
    elim s.where_it_is [
      | inl b ↦ absurd (not_beginning (world_after o events) rest b)
      | inr g ↦ at_totals (world_after o events) rest seed tasks g
    ]
