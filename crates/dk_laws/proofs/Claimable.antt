-- What is picked is one of those that can be run, and every claim is answered.
use Rattle.std.proofs.Common.{◌≡◌, ℕ, Bool, true, false, ◌==◌, if◌then◌else◌, map, Some, None, List, [], ◌∷◌, ◌++◌, Contains, inl, inr, refl, subst, arith}
use Rattle.std.specs.List.{AllByRecursion}
use Rattle.std.proofs.lemmas.Bool.Decides.{leb_tells}
use Rattle.std.proofs.lemmas.List.Elements.{Contains-push, Contains-append_left, Contains-append_right}
use Rattle.dk_types.specs.declared.job.Job.{Job}
use Rattle.dk_types.specs.declared.event.Event.TheVariants as event
use Rattle.dk_types.specs.declared.event.ClaimReply.{ClaimReply}
use Rattle.dk_types.specs.declared.event.ClaimReply.TheVariants as claimed
use Rattle.dk_types.specs.declared.limits.TheConstants.{NUMBERS_END}
use Rattle.dk_model.specs.Worlds.{World}
use Rattle.dk_model.specs.Picks.{Turn, due_tasks, inputs, task_job, first_runs, runnable, least, is_sooner, is_earlier, or_else, pick_task, pick_input, first_of_list, pick}
use Rattle.dk_model.specs.Events.{Meaning, Happens, has_left, granted_of, after_claim}
use Rattle.dk_model.proofs.Maps.{some_is}
use Rattle.dk_laws.specs.ClaimsLaw.{SomethingIsPicked, NothingIsPicked, granted_next, ClaimsAreGranted, ClaimsAreAnswered}
use Rattle.dk_laws.proofs.Entries.{all_weaker}
use Rattle.dk_laws.proofs.Picked.{If, least_has, mapped_has, or_else_has, either}
use Rattle.dk_laws.proofs.Runnable.{nothing_runnable, picked_runnable}

first_in : {A : Type 0} (x : A) (xs : List A) → Contains (x ∷ xs) x
first_in x xs = Contains-append_left (x ∷ []) xs x (Contains-push [] x)

-- what each is mapped to is in the mapped list
map_in : {A B : Type 0} (f : A → B) (xs : List A) → AllByRecursion (λ x. Contains (map f xs) (f x)) xs
map_in f [] = tt
map_in f (x ∷ xs) =
    (first_in (f x) (map f xs), all_weaker (λ y. Contains (map f xs) (f y)) (λ y. Contains (map f (x ∷ xs)) (f y)) (λ y h. Contains-append_right (f x ∷ []) (map f xs) (f y) h) xs (map_in f xs))

head_in : {A : Type 0} (xs : List A) → If (Contains xs) (first_of_list xs)
head_in [] y e = absurd cc
head_in (x ∷ xs) y e = subst (Contains (x ∷ xs)) (some_is x y e) (first_in x xs)

module _ (w : World) where
  abbrev Tasks : List Job
  Tasks = map task_job (due_tasks w)

  abbrev Inputs : List Job
  Inputs = map (λ (t : Turn). t.job) (inputs w)

  task_in : If (Contains (Tasks ++ Inputs)) (pick_task w)
  task_in j e = Contains-append_left Tasks Inputs j (mapped_has (Contains Tasks) task_job (least is_sooner (due_tasks w)) (least_has (λ t. Contains Tasks (task_job t)) is_sooner (due_tasks w) (map_in task_job (due_tasks w))) j e)

  input_in : If (Contains (Tasks ++ Inputs)) (pick_input w)
  input_in j e =
      Contains-append_right Tasks Inputs j
      (mapped_has (Contains Inputs) (λ (t : Turn). t.job) (least is_earlier (inputs w)) (least_has (λ (t : Turn). Contains Inputs t.job) is_earlier (inputs w) (map_in (λ (t : Turn). t.job) (inputs w))) j e)

  pick_where : (b : Bool)
      → If (Contains (if b then first_runs w else Tasks ++ Inputs)) (if b then first_of_list (first_runs w) else if w.after_task then or_else (pick_input w) (pick_task w) else or_else (pick_task w) (pick_input w))
  pick_where true = head_in (first_runs w)
  pick_where false =
      either (Contains (Tasks ++ Inputs)) w.after_task (or_else (pick_input w) (pick_task w)) (or_else (pick_task w) (pick_input w))
      (or_else_has (Contains (Tasks ++ Inputs)) (pick_input w) (pick_task w) input_in task_in) (or_else_has (Contains (Tasks ++ Inputs)) (pick_task w) (pick_input w) task_in input_in)

  pick_in : If (Contains (runnable w)) (pick w)
  pick_in = pick_where (w.durable.commits == 0)

pub something_picked : SomethingIsPicked
something_picked w some = elim (pick w) as (λ o. pick w ≡ o → (job : Job) × (pick w ≡ Some job) × Contains (runnable w) job) [
  | None ↦ λ e. absurd (some (nothing_runnable w e))
  | Some j ↦ λ e. (j, e, pick_in w j e)
] refl

pub nothing_picked : NothingIsPicked
nothing_picked w none = elim (pick w) as (λ o. pick w ≡ o → pick w ≡ None) [
  | None ↦ λ e. e
  | Some j ↦ λ e. absurd (picked_runnable w j e none)
] refl

pub claims_granted : ClaimsAreGranted
claims_granted rules w pass some left number = let p = something_picked w some in (p.0, p.1, (p.1, left, number, refl, refl, refl))

abbrev Answered : Meaning → World → ℕ → Type 0
Answered rules w pass = (reply : ClaimReply) × Happens rules w (event.Claim pass reply) (after_claim w pass reply)

by_number : (rules : Meaning) (w : World) (pass : ℕ) → (runnable w ≡ [] → ⊥) → has_left w.budget ≡ true → Answered rules w pass
by_number rules w pass some left = elim (leb_tells NUMBERS_END w.next) [
  | inl t ↦ (claimed.Exhausted w.next, (some, left, t.1, refl, refl))
  | inr t ↦ let g = claims_granted rules w pass some left (omega (arith, t.1)) in (granted_next w g.0, g.2)
]

by_budget : (rules : Meaning) (w : World) (pass : ℕ) → (runnable w ≡ [] → ⊥) → Answered rules w pass
by_budget rules w pass some = elim (has_left w.budget) as (λ b. has_left w.budget ≡ b → Answered rules w pass) [
  | true ↦ λ e. by_number rules w pass some e
  | false ↦ λ e. (claimed.Spent (granted_of w.budget), (some, e, refl, refl))
] refl

pub claims_answered : ClaimsAreAnswered
claims_answered rules w pass = elim (runnable w) as (λ js. runnable w ≡ js → Answered rules w pass) [
  | [] ↦ λ e. (claimed.Nothing, (e, refl))
  | j ∷ js ↦ λ e. by_budget rules w pass (λ f. absurd cc)
] refl
