-- Which job a claim takes in a world without tasks.
use Rattle.std.proofs.Common.{◌≡◌, ◌≢◌, ℕ, Bool, true, false, ◌==◌, if◌then◌else◌, Option, Some, None, List, [], ◌∷◌, ◌++◌, map, length, refl, sym, ap, ◌∙◌, arith}
use Rattle.std.specs.FinMap.{FinMap, get, entries, empty, len, len-empty, len-entries, get-empty}
use Rattle.std.specs.declared.cmp.Ordering.{Ordering}
use Rattle.std.specs.List.{AllByRecursion, filter}
use Rattle.dk_types.specs.declared.number.ConnNo.{ConnNo}
use Rattle.dk_types.specs.declared.job.Job.{Job}
use Rattle.dk_types.specs.declared.job.Input.TheVariants as input
use Rattle.dk_model.specs.declared.waiting.Waiting.{Waiting}
use Rattle.dk_model.specs.declared.waiting.Waiting.TheVariants as waits
use Rattle.dk_model.specs.Keys.{key_cmp}
use Rattle.dk_model.specs.Worlds.{World, Connection}
use Rattle.dk_model.specs.Deliveries.{conn_of}
use Rattle.dk_model.specs.Events.{is_task}
use Rattle.dk_model.specs.Picks.{is_of, is_claimed, job_of, first_job, Turn, turn_of, input_of, inputs, task_job, is_due, due_tasks, first_runs, runnable, least, is_sooner, is_earlier, mapped, or_else, pick_task, pick_input, first_of_list, pick}
use Rattle.dk_model.proofs.Maps.{conns_total, some_is, not_both}
use Rattle.dk_laws.proofs.Entries.{all_filter_map, all_entries}
use Rattle.dk_laws.proofs.Picked.{If, least_has, mapped_has, either, turn_has, picked}

-- a list of length 0 is empty
list_none : {A : Type 0} (xs : List A) → length xs ≡ 0 → xs ≡ []
list_none [] e = refl
list_none (x ∷ xs) e = absurd (omega (arith, e))

-- the empty map has no entries
pub no_entries : {K X : Type 0} {R : K → K → Ordering} (m : FinMap R X) → m ≡ empty → entries m ≡ []
no_entries {X = X} {R = R} m e = list_none (entries m) (sym (len-entries m) ∙ ap len e ∙ len-empty R X)

-- a job that is the first input of a connection that is there
pub record IsFirst (w : World) (j : Job) : Type 0 where
  pub conn : ConnNo
  pub c : Connection
  pub x : Waiting
  pub queue : List Waiting
  pub there : get w.connections conn ≡ Some c
  pub queued : c.queue ≡ x ∷ queue
  pub of : conn_of j ≡ Some conn

-- an input's job is of its connection
of_conn : (conn : ConnNo) (name : List ℕ) (x : Waiting) → conn_of (job_of conn name x) ≡ Some conn
of_conn conn name waits.Login = refl
of_conn conn name (waits.Input (input.Message body)) = refl
of_conn conn name (waits.Input (input.Channel channel body)) = refl
of_conn conn name (waits.Input (input.Disconnect graceful)) = refl

-- and it is no task
no_task_of : (conn : ConnNo) (name : List ℕ) (x : Waiting) → is_task (job_of conn name x) ≡ false
no_task_of conn name waits.Login = refl
no_task_of conn name (waits.Input (input.Message body)) = refl
no_task_of conn name (waits.Input (input.Channel channel body)) = refl
no_task_of conn name (waits.Input (input.Disconnect graceful)) = refl

-- one option, where the second is none
or_none : {A : Type 0} (a b : Option A) → b ≡ None → (x : A) → or_else a b ≡ Some x → a ≡ Some x
or_none None b none x e = absurd (not_both b x e none)
or_none (Some y) b none x e = e

-- the second option, where the first is none
none_or : {A : Type 0} (a b : Option A) → a ≡ None → (x : A) → or_else a b ≡ Some x → b ≡ Some x
none_or None b none x e = e
none_or (Some y) b none x e = absurd cc

-- the head of a list is one of those of which something is true
first_of_all : {A B : Type 0} (P : A → Type 0) (f : A → B) (xs : List A) → AllByRecursion P xs → (map f xs ≢ []) → (x : A) × P x
first_of_all P f [] h some = absurd (some refl)
first_of_all P f (x ∷ xs) h some = (x, h.0)

module _ (w : World) where
  -- the first job of a connection that is there
  first_input : (conn : ConnNo) (c : Connection) (queue : List Waiting) → get w.connections conn ≡ Some c → c.queue ≡ queue → If (IsFirst w) (first_job conn c.name queue)
  first_input conn c [] there e j f = absurd cc
  first_input conn c (x ∷ queue) there e j f = record {
    conn = conn;
    c = c;
    x = x;
    queue = queue;
    there = there;
    queued = e;
    of = ap conn_of (sym (some_is (job_of conn c.name x) j f)) ∙ of_conn conn c.name x;
  }

  -- so is the input that a connection offers
  input_has : (conn : ConnNo) (c : Connection) → get w.connections conn ≡ Some c → If (λ (t : Turn). IsFirst w t.job) (input_of w (conn, c))
  input_has conn c there =
      either (λ (t : Turn). IsFirst w t.job) (is_claimed (is_of conn) w) None (turn_of c.turn (first_job conn c.name c.queue)) (λ t f. absurd cc)
      (turn_has (IsFirst w) w c.turn (first_job conn c.name c.queue) (first_input conn c c.queue there refl))

  -- each input that can be run is a first one
  inputs_first : AllByRecursion (λ (t : Turn). IsFirst w t.job) (inputs w)
  inputs_first =
      all_filter_map (λ (t : Turn). IsFirst w t.job) (input_of w) (entries w.connections)
      (all_entries conns_total (λ e. If (λ (t : Turn). IsFirst w t.job) (input_of w e)) w.connections input_has)

  -- so is the input that is picked
  input_first : If (IsFirst w) (pick_input w)
  input_first = mapped_has (IsFirst w) (λ (t : Turn). t.job) (least is_earlier (inputs w)) (least_has (λ (t : Turn). IsFirst w t.job) is_earlier (inputs w) inputs_first)

  module _ (tasks : w.durable.tasks ≡ empty) where
    -- no task can be run
    none_due : due_tasks w ≡ []
    none_due = ap (filter (is_due w)) (no_entries w.durable.tasks tasks)

    -- so no task is picked
    no_task : pick_task w ≡ None
    no_task = ap (λ es. mapped task_job (least is_sooner es)) none_due

    -- whether inputs or tasks go first
    other_first : (b : Bool) → If (IsFirst w) (if b then or_else (pick_input w) (pick_task w) else or_else (pick_task w) (pick_input w))
    other_first true j e = input_first j (or_none (pick_input w) (pick_task w) no_task j e)
    other_first false j e = input_first j (none_or (pick_task w) (pick_input w) no_task j e)

    -- where the first run is over
    pick_first_where : (b : Bool) → b ≡ false
        → If (IsFirst w) (if b then first_of_list (first_runs w) else if w.after_task then or_else (pick_input w) (pick_task w) else or_else (pick_task w) (pick_input w))
    pick_first_where true later = absurd cc
    pick_first_where false later = other_first w.after_task

    -- after the first commit an input is picked
    pub pick_first : (w.durable.commits == 0) ≡ false → If (IsFirst w) (pick w)
    pick_first later = pick_first_where (w.durable.commits == 0) later

    -- only inputs can be run where the first run is over
    runnable_where : (b : Bool) → b ≡ false → (if b then first_runs w else map task_job (due_tasks w) ++ map (λ (t : Turn). t.job) (inputs w)) ≡ map (λ (t : Turn). t.job) (inputs w)
    runnable_where true later = absurd cc
    runnable_where false later = ap (λ es. map task_job es ++ map (λ (t : Turn). t.job) (inputs w)) none_due

    -- and where something can be run an input can
    pub runnable_first : (w.durable.commits == 0) ≡ false → runnable w ≢ [] → (t : Turn) × IsFirst w t.job
    runnable_first later some =
        first_of_all (λ (t : Turn). IsFirst w t.job) (λ (t : Turn). t.job) (inputs w) inputs_first
        (λ e. some (runnable_where (w.durable.commits == 0) later ∙ e))

    -- no task is picked
    pub pick_no_task : (j : Job) → pick w ≡ Some j → is_task j ≡ false
    pick_no_task =
        picked (λ j. is_task j ≡ false) w refl
        (λ key task e late none. absurd (not_both (get w.durable.tasks key) task e (ap (λ m. get m key) tasks ∙ get-empty key_cmp key)))
        (λ conn c x queue e is. no_task_of conn c.name x)
