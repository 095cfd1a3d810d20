-- Nothing is picked exactly where nothing can be run.
use Rattle.std.proofs.Common.{◌≡◌, ◌==◌, Bool, true, false, if◌then◌else◌, Option, Some, None, List, [], ◌∷◌, ◌++◌, map, refl, sym, ap, ◌∙◌}
use Rattle.dk_types.specs.declared.job.Job.{Job}
use Rattle.dk_model.specs.Worlds.{World}
use Rattle.dk_model.specs.Picks.{due_tasks, inputs, task_job, first_runs, runnable, lesser, least, is_sooner, is_earlier, mapped, or_else, pick_task, pick_input, first_of_list, pick}

lesser_there : {A : Type 0} (before : A → A → Bool) (x : A) (o : Option A) → lesser before x o ≡ None → ⊥
lesser_there before x None e = absurd cc
lesser_there before x (Some y) e = elim (before y x) as (λ b. (if b then Some y else Some x) ≡ None → ⊥) [
  | true ↦ λ f. absurd cc
  | false ↦ λ f. absurd cc
] e

least_of_none : {A : Type 0} (before : A → A → Bool) (xs : List A) → least before xs ≡ None → xs ≡ []
least_of_none before [] e = refl
least_of_none before (x ∷ xs) e = absurd (lesser_there before x (least before xs) e)

mapped_none : {A B : Type 0} (f : A → B) (o : Option A) → mapped f o ≡ None → o ≡ None
mapped_none f None e = refl
mapped_none f (Some x) e = absurd cc

neither : {A : Type 0} (a b : Option A) → or_else a b ≡ None → (a ≡ None) × (b ≡ None)
neither None b e = (refl, e)
neither (Some x) b e = absurd cc

first_none : {A : Type 0} (xs : List A) → first_of_list xs ≡ None → xs ≡ []
first_none [] e = refl
first_none (x ∷ xs) e = absurd cc

empty_map : {A B : Type 0} (f : A → B) (xs : List A) → map f xs ≡ [] → xs ≡ []
empty_map f [] e = refl
empty_map f (x ∷ xs) e = absurd cc

both_empty : {A : Type 0} (xs ys : List A) → xs ++ ys ≡ [] → (xs ≡ []) × (ys ≡ [])
both_empty [] ys e = (refl, e)
both_empty (x ∷ xs) ys e = absurd cc

module _ (w : World) where
  none_waits : pick_task w ≡ None → pick_input w ≡ None → map task_job (due_tasks w) ++ map (λ t. t.job) (inputs w) ≡ []
  none_waits e f =
      let tasks : due_tasks w ≡ [] = least_of_none is_sooner (due_tasks w) (mapped_none task_job (least is_sooner (due_tasks w)) e) in
      let clients : inputs w ≡ [] = least_of_none is_earlier (inputs w) (mapped_none (λ t. t.job) (least is_earlier (inputs w)) f) in
      λ i. map task_job (tasks i) ++ map (λ t. t.job) (clients i)

  pub nothing_runnable : pick w ≡ None → runnable w ≡ []
  nothing_runnable e =
      elim (w.durable.commits == 0) as (λ b.
      (if b then first_of_list (first_runs w) else if w.after_task then or_else (pick_input w) (pick_task w) else or_else (pick_task w) (pick_input w)) ≡ None
      → (if b then first_runs w else map task_job (due_tasks w) ++ map (λ t. t.job) (inputs w)) ≡ []) [
        | true ↦ λ f. first_none (first_runs w) f
        | false ↦ λ f.
            elim w.after_task as (λ b. (if b then or_else (pick_input w) (pick_task w) else or_else (pick_task w) (pick_input w)) ≡ None → map task_job (due_tasks w) ++ map (λ t. t.job) (inputs w) ≡ []) [
              | true ↦ λ g. let both = neither (pick_input w) (pick_task w) g in none_waits both.1 both.0
              | false ↦ λ g. let both = neither (pick_task w) (pick_input w) g in none_waits both.0 both.1
            ] f
      ] e

  none_picked : map task_job (due_tasks w) ++ map (λ t. t.job) (inputs w) ≡ [] → (pick_task w ≡ None) × (pick_input w ≡ None)
  none_picked e =
      let both = both_empty (map task_job (due_tasks w)) (map (λ t. t.job) (inputs w)) e in
      let tasks = empty_map task_job (due_tasks w) both.0 in
      let clients = empty_map (λ t. t.job) (inputs w) both.1 in
      (ap (λ xs. mapped task_job (least is_sooner xs)) tasks, ap (λ xs. mapped (λ t. t.job) (least is_earlier xs)) clients)

  pub picked_runnable : (j : Job) → pick w ≡ Some j → runnable w ≡ [] → ⊥
  picked_runnable j e =
      elim (w.durable.commits == 0) as (λ b.
      (if b then first_of_list (first_runs w) else if w.after_task then or_else (pick_input w) (pick_task w) else or_else (pick_task w) (pick_input w)) ≡ Some j
      → (if b then first_runs w else map task_job (due_tasks w) ++ map (λ t. t.job) (inputs w)) ≡ [] → ⊥) [
        | true ↦ λ f none. let no : None ≡ Some j = sym (ap first_of_list none) ∙ f in absurd cc
        | false ↦ λ f none.
            let both = none_picked none in
            elim w.after_task as (λ b. (if b then or_else (pick_input w) (pick_task w) else or_else (pick_task w) (pick_input w)) ≡ Some j → ⊥) [
              | true ↦ λ g. let no : None ≡ Some j = sym (λ i. or_else (both.1 i) (both.0 i)) ∙ g in absurd cc
              | false ↦ λ g. let no : None ≡ Some j = sym (λ i. or_else (both.0 i) (both.1 i)) ∙ g in absurd cc
            ] f
      ] e
