-- What is true of every job that can be run is true of the one that is picked.
use Rattle.std.proofs.Common.{◌≡◌, ℕ, ◌≤◌, Bool, true, false, ◌&&◌, not, nat_le, ◌==◌, if◌then◌else◌, Option, Some, None, List, [], ◌∷◌, refl, subst, leb-true}
use Rattle.std.specs.FinMap.{get, entries}
use Rattle.std.specs.List.{AllByRecursion}
use Rattle.dk_types.specs.declared.number.ConnNo.{ConnNo}
use Rattle.dk_types.specs.declared.number.TaskKey.{TaskKey}
use Rattle.dk_types.specs.declared.job.Job.{Job}
use Rattle.dk_types.specs.declared.job.Job.TheVariants as job
use Rattle.dk_model.specs.declared.waiting.Waiting.{Waiting}
use Rattle.dk_model.specs.DurableWorlds.{Task}
use Rattle.dk_model.specs.Worlds.{World, Connection}
use Rattle.dk_model.specs.Picks.{is_initialize, is_of, is_claimed, is_task_of, job_of, first_job, Turn, turn_of, input_of, inputs, task_job, is_due, due_tasks, first_runs, lesser, least, is_sooner, is_earlier, mapped, or_else, pick_task, pick_input, first_of_list, pick}
use Rattle.dk_model.proofs.Maps.{conns_total, keys_total, some_is}
use Rattle.dk_laws.proofs.Entries.{all_filter, all_filter_map, all_entries}

-- an option has the property, where it is one
abbrev pub If : {A : Type 0} → (A → Type 0) → Option A → Type 0
If {A} P o = (x : A) → o ≡ Some x → P x

lesser_has : {A : Type 0} (P : A → Type 0) (before : A → A → Bool) (x : A) (o : Option A) → P x → If P o → If P (lesser before x o)
lesser_has P before x None p h y e = subst P (some_is x y e) p
lesser_has P before x (Some z) p h y e =
    elim (before z x) as (λ b. (if b then Some z else Some x) ≡ Some y → P y) [
      | true ↦ λ f. h y f
      | false ↦ λ f. subst P (some_is x y f) p
    ] e

-- the least of items that have the property has it
pub least_has : {A : Type 0} (P : A → Type 0) (before : A → A → Bool) (xs : List A) → AllByRecursion P xs → If P (least before xs)
least_has P before [] h y e = absurd cc
least_has P before (x ∷ xs) h y e = lesser_has P before x (least before xs) h.0 (least_has P before xs h.1) y e

-- what is true of an item as it is mapped
pub mapped_has : {A B : Type 0} (P : B → Type 0) (f : A → B) (o : Option A) → If (λ x. P (f x)) o → If P (mapped f o)
mapped_has P f None h y e = absurd cc
mapped_has P f (Some x) h y e = subst P (some_is (f x) y e) (h x refl)

pub or_else_has : {A : Type 0} (P : A → Type 0) (a b : Option A) → If P a → If P b → If P (or_else a b)
or_else_has P None b p q y e = q y e
or_else_has P (Some x) b p q y e = p y e

-- what is true of both options is true of either
pub either : {A : Type 0} (P : A → Type 0) (b : Bool) (x y : Option A) → If P x → If P y → If P (if b then x else y)
either P true x y p q = p
either P false x y p q = q

left_of : (a b : Bool) → (a && b) ≡ true → a ≡ true
left_of true b h = refl
left_of false b h = cc

pub right_of : (a b : Bool) → (a && b) ≡ true → b ≡ true
right_of true b h = h
right_of false b h = cc

module _ (P : Job → Type 0) (w : World) where
  -- each due task that is not claimed
  abbrev pub HoldsOfTasks : Type 0
  HoldsOfTasks = (key : TaskKey) (task : Task) → get w.durable.tasks key ≡ Some task → task.due ≤ w.moment → is_claimed (is_task_of key) w ≡ false → P (task_job (key, task))

  -- each first input
  abbrev pub HoldsOfInputs : Type 0
  HoldsOfInputs = (conn : ConnNo) (c : Connection) (x : Waiting) (queue : List Waiting) → get w.connections conn ≡ Some c → c.queue ≡ x ∷ queue → P (job_of conn c.name x)

  not_true : (b : Bool) → not b ≡ true → b ≡ false
  not_true true e = cc
  not_true false e = refl

  task_picked : HoldsOfTasks → If P (pick_task w)
  task_picked h =
      let Stands : TaskKey × Task → Type 0 = λ e. get w.durable.tasks e.0 ≡ Some e.1 in
      let due = all_filter Stands (is_due w) (entries w.durable.tasks) (all_entries keys_total Stands w.durable.tasks (λ k x e. e)) in
      mapped_has P task_job (least is_sooner (due_tasks w)) (λ e is.
      let both = least_has (λ e. Stands e × (is_due w e ≡ true)) is_sooner (due_tasks w) due e is in
      let late : nat_le e.1.due w.moment ≡ true = left_of _ (not (is_claimed (is_task_of e.0) w)) both.1 in
      h e.0 e.1 both.0 (leb-true _ _ late) (not_true _ (right_of (nat_le e.1.due w.moment) _ both.1)))

  pub turn_has : (turn : ℕ) (o : Option Job) → If P o → If (λ (t : Turn). P t.job) (turn_of turn o)
  turn_has turn None h t e = absurd cc
  turn_has turn (Some j) h t e = subst (λ (t : Turn). P t.job) (some_is _ t e) (h j refl)

  first_has : (conn : ConnNo) (name : List ℕ) (queue : List Waiting) → ((x : Waiting) (rest : List Waiting) → queue ≡ x ∷ rest → P (job_of conn name x)) → If P (first_job conn name queue)
  first_has conn name [] h j e = absurd cc
  first_has conn name (x ∷ queue) h j e = subst P (some_is _ j e) (h x queue refl)

  input_has : HoldsOfInputs → (conn : ConnNo) (c : Connection) → get w.connections conn ≡ Some c → If (λ (t : Turn). P t.job) (input_of w (conn, c))
  input_has h conn c e =
      either (λ (t : Turn). P t.job) (is_claimed (is_of conn) w) None (turn_of c.turn (first_job conn c.name c.queue)) (λ t f. absurd cc)
      (turn_has c.turn (first_job conn c.name c.queue) (first_has conn c.name c.queue (λ x rest is. h conn c x rest e is)))

  input_picked : HoldsOfInputs → If P (pick_input w)
  input_picked h =
      let each = all_filter_map (λ (t : Turn). P t.job) (input_of w) (entries w.connections) (all_entries conns_total (λ e. If (λ (t : Turn). P t.job) (input_of w e)) w.connections (λ k x e. input_has h k x e)) in
      mapped_has P (λ (t : Turn). t.job) (least is_earlier (inputs w)) (least_has (λ (t : Turn). P t.job) is_earlier (inputs w) each)

  first_run_has : P job.Initialize → (b : Bool) → If P (first_of_list (if b then [] else job.Initialize ∷ []))
  first_run_has p true j e = absurd cc
  first_run_has p false j e = subst P (some_is _ j e) p

  first_picked : P job.Initialize → If P (first_of_list (first_runs w))
  first_picked p = first_run_has p (is_claimed is_initialize w)

  -- the job that is picked
  pub picked : P job.Initialize → HoldsOfTasks → HoldsOfInputs → If P (pick w)
  picked p t i =
      either P (w.durable.commits == 0) (first_of_list (first_runs w)) (if w.after_task then or_else (pick_input w) (pick_task w) else or_else (pick_task w) (pick_input w)) (first_picked p)
      (either P w.after_task (or_else (pick_input w) (pick_task w)) (or_else (pick_task w) (pick_input w))
      (or_else_has P (pick_input w) (pick_task w) (input_picked i) (task_picked t)) (or_else_has P (pick_task w) (pick_input w) (task_picked t) (input_picked i)))
