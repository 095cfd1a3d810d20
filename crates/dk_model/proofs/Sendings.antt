-- How many messages each operation sends at most, and that none but those on tasks changes a task.
use Rattle.std.proofs.Common.{◌≡◌, Bool, true, false, if◌then◌else◌, Option, Some, None, List, [], ◌∷◌, Result, Ok, Err, ℕ, ◌+◌, ◌≤◌, ◌==◌, nat_le, refl, ap, ◌∙◌, length, length-append, arith}
use Rattle.std.specs.FinMap as map
use Rattle.std.specs.FinMap.{FinMap}
use Rattle.dk_types.specs.declared.number.ConnNo.{ConnNo}
use Rattle.dk_types.specs.declared.number.ObjectId.{ObjectId}
use Rattle.dk_types.specs.declared.object.Object.{Object}
use Rattle.dk_types.specs.declared.fault.AppFault.{AppFault}
use Rattle.dk_types.specs.declared.job.Out.{Out}
use Rattle.dk_types.specs.declared.limits.TheConstants.{OBJECTS_MOST_COUNT, MESSAGES_MOST_COUNT}
use Rattle.dk_model.specs.Keys.{key_cmp}
use Rattle.dk_model.specs.DurableWorlds.{Task}
use Rattle.dk_model.specs.Runs as act
use Rattle.dk_model.specs.Runs.{Run, Act, give, and_then, carry_on, refuse, send}
use Rattle.dk_model.specs.References.{get_as, get_for_update_as, save_as}
use Rattle.dk_model.specs.Sendings.{SendsAtMost}

-- more is allowed
pub sends_more : {A : Type 0} {m : ℕ} {f : Act A} (n : ℕ) → m ≤ n → SendsAtMost m f → SendsAtMost n f
sends_more n h p = record { bound = λ s. omega (arith, p.bound s); tasks = λ s. p.tasks s }

-- where a step ended at most so many messages are sent in all, and these are the tasks
pub record Few {A : Type 0} (n : ℕ) (tasks : FinMap key_cmp Task) (p : Result A AppFault × Run) : Type 0 where
  pub few : length p.1.outs ≤ n
  pub kept : p.1.world.tasks ≡ tasks

-- whichever a test decides
pub either_few : {A : Type 0} {n : ℕ} {tasks : FinMap key_cmp Task} {x y : Result A AppFault × Run} (t : Bool) → Few n tasks x → Few n tasks y → Few n tasks (if t then x else y)
either_few true h k = h
either_few false h k = k

-- whichever step a test decides
pub either_sends : {A : Type 0} {n : ℕ} {f g : Act A} (t : Bool) → SendsAtMost n f → SendsAtMost n g → SendsAtMost n (if t then f else g)
either_sends true p q = p
either_sends false p q = q

-- a step that leaves the messages as they are
same : (s : Run) → length s.outs ≤ length s.outs + 0
same s = omega arith

-- so it sends few
pub few_none : {A : Type 0} {p : Result A AppFault × Run} (s : Run) → p.1.outs ≡ s.outs → p.1.world.tasks ≡ s.world.tasks → Few (length s.outs + 0) s.world.tasks p
few_none s sent same_tasks = record { few = omega (arith, ap length sent); kept = same_tasks }

-- a step that sends few from wherever it begins
pub each_few : {A : Type 0} {n : ℕ} {f : Act A} → ((s : Run) → Few (length s.outs + n) s.world.tasks (f s)) → SendsAtMost n f
each_few p = record { bound = λ s. (p s).few; tasks = λ s. (p s).kept }

-- and from this run
pub few_sends : {A : Type 0} {n : ℕ} {f : Act A} (s : Run) → SendsAtMost n f → Few (length s.outs + n) s.world.tasks (f s)
few_sends s p = record { few = p.bound s; kept = p.tasks s }

-- an answer sends nothing
pub give_sends : {A : Type 0} (r : Result A AppFault) → SendsAtMost 0 (give r)
unfolding give
give_sends r = record { bound = same; tasks = λ s. refl }

-- a refusal sends nothing
pub refuse_sends : {A : Type 0} (n : ℕ) → SendsAtMost {A = A} 0 (refuse n)
refuse_sends n = record { bound = same; tasks = λ s. refl }

-- nor does a look at an object
pub get_sends : (id : ObjectId) → SendsAtMost 0 (act.get id)
unfolding act.get
get_sends id = record { bound = same; tasks = λ s. refl }

-- nor at a name
pub bound_sends : (name : List ℕ) → SendsAtMost 0 (act.bound name)
unfolding act.bound
bound_sends name = record { bound = same; tasks = λ s. refl }

-- nor does a name that is bound
pub bind_sends : (name : List ℕ) (id : ObjectId) → SendsAtMost 0 (act.bind name id)
unfolding act.bind
bind_sends name id = each_few (λ s. either_few (act.is_reserved_name s.mode name) (few_none s refl refl) (few_none s refl refl))

-- nor an object that is made
pub create_sends : (kind : ℕ) (bytes : List ℕ) → SendsAtMost 0 (act.create kind bytes)
unfolding act.create
create_sends kind bytes =
    each_few (λ s. either_few (act.is_reserved_kind s.mode kind) (few_none s refl refl)
    (either_few (act.is_too_long bytes) (few_none s refl refl) (either_few (nat_le OBJECTS_MOST_COUNT s.objects_made) (few_none s refl refl) (few_none s refl refl))))

-- nor one that is changed
change_few : (o : Option Object) (id : ObjectId) (change : Object → Option Object) (s : Run) → Few (length s.outs + 0) s.world.tasks (act.change_found o id change s)
change_few None id change s = few_none s refl refl
change_few (Some object) id change s = either_few (act.is_reserved_kind s.mode object.kind) (few_none s refl refl) (few_none s refl refl)

-- nor one that is saved
pub save_sends : (id : ObjectId) (bytes : List ℕ) → SendsAtMost 0 (act.save id bytes)
unfolding act.save
save_sends id bytes = each_few (λ s. either_few (act.is_too_long bytes) (few_none s refl refl) (change_few (map.get s.world.objects id) id (λ object. Some (record { kind = object.kind; bytes = bytes })) s))

-- one message, or none where it is refused
pub send_sends : (to : ConnNo) (message : Out) → SendsAtMost 1 (send to message)
unfolding send
send_sends to message =
    each_few (λ s. either_few (act.is_too_long (act.body_of message)) (record { few = omega arith; kept = refl })
    (either_few (nat_le MESSAGES_MOST_COUNT (length s.outs)) (record { few = omega arith; kept = refl }) (record { few = omega (arith, length-append s.outs ((to, message) ∷ [])); kept = refl })))

-- what follows a step sends so many, or nothing where the step was refused
carried : {A B : Type 0} {n : ℕ} (r : Result A AppFault) (g : A → Act B) → ((x : A) → SendsAtMost n (g x)) → (s : Run) → length ((carry_on r g s).1.outs) ≤ length s.outs + n
carried (Ok x) g q s = (q x).bound s
carried (Err e) g q s = omega arith

-- and leaves the tasks as they are
carried_tasks : {A B : Type 0} {n : ℕ} (r : Result A AppFault) (g : A → Act B) → ((x : A) → SendsAtMost n (g x)) → (s : Run) → (carry_on r g s).1.world.tasks ≡ s.world.tasks
carried_tasks (Ok x) g q s = (q x).tasks s
carried_tasks (Err e) g q s = refl

-- one step, and then the next
pub then_sends : {A B : Type 0} {m n : ℕ} {f : Act A} {g : A → Act B} → SendsAtMost m f → ((x : A) → SendsAtMost n (g x)) → SendsAtMost (m + n) (and_then f g)
unfolding and_then
then_sends {f = f} {g = g} p q = record { bound = λ s. omega (arith, p.bound s, carried (f s).0 g q (f s).1); tasks = λ s. carried_tasks (f s).0 g q (f s).1 ∙ p.tasks s }

-- a value is read and nothing sent
pub get_as_sends : {A : Type 0} (kind : ℕ) (read : List ℕ → Option A) (id : ObjectId) → SendsAtMost 0 (get_as kind read id)
unfolding get_as
get_as_sends kind read id = then_sends (get_sends id) (λ object. each_few (λ s. either_few (object.kind == kind) (few_none s refl refl) (few_none s refl refl)))

-- nor does a mark of an object
pub mark_sends : (id : ObjectId) → SendsAtMost 0 (act.mark id)
unfolding act.mark
mark_sends id = each_few (λ s. change_few (map.get s.world.objects id) id (λ object. Some object) s)

-- nor a value that is read for a change
pub get_for_update_as_sends : {A : Type 0} (kind : ℕ) (read : List ℕ → Option A) (id : ObjectId) → SendsAtMost 0 (get_for_update_as kind read id)
unfolding get_for_update_as
get_for_update_as_sends kind read id = then_sends (get_as_sends kind read id) (λ x. then_sends (mark_sends id) (λ _. give_sends (Ok x)))

-- nor one that is saved under its kind
pub save_as_sends : (kind : ℕ) (id : ObjectId) (bytes : List ℕ) → SendsAtMost 0 (save_as kind id bytes)
unfolding save_as
save_as_sends kind id bytes = then_sends (get_sends id) (λ object. either_sends (object.kind == kind) (save_sends id bytes) (refuse_sends act.WRONG_KIND))
