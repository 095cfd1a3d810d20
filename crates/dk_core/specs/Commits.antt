-- What a commit leaves.
use Rattle.std.specs.Prelude.{◌≡◌, ℕ, ◌+◌, ◌||◌, Bool, true, false, if◌then◌else◌, Option, Some, None, List, is_some}
use Rattle.std.specs.List.{list_any}
use Rattle.std.specs.Cmp.Lexicographic.{pointwise}
use Rattle.std.specs.FinMap.{get}
use Rattle.std.specs.Prelude.{nat_eq}
use Rattle.dk_types.specs.declared.number.RunNo.{RunNo}
use Rattle.dk_types.specs.declared.number.ObjectId.{ObjectId}
use Rattle.dk_types.specs.declared.number.TaskKey.{TaskKey}
use Rattle.dk_types.specs.declared.item.Item.{Item}
use Rattle.dk_types.specs.declared.item.Item.TheVariants as ask
use Rattle.dk_types.specs.declared.durable.Effects.{Effects}
use Rattle.dk_types.specs.declared.durable.Entry.{Entry}
use Rattle.dk_model.specs.DurableWorlds.{DurableWorld, task_answer, last_with}
use Rattle.dk_model.specs.Effects.{same_id}
use Rattle.dk_model.specs.Lawful.{Lacks}
use Rattle.dk_model.specs.Sights.{same_item, same_key, stamped_by}
use Rattle.dk_model.specs.Steps.{Stepped}
use Rattle.dk_model.specs.Finishes.{Report, step_report}
use Rattle.dk_laws.specs.EffectsLaw.{DifferInDue}
use Rattle.dk_tasks.specs.Tasks.{Kept}
use Rattle.dk_core.specs.StampedWorlds.{Stamped, durable_of, stamp_in, HasStamps}

-- the commit that comes next
abbrev pub next_entry : Stamped → RunNo → Effects → Entry
next_entry w run e = record { seq = w.commits + 1; run = run; effects = e }

-- whether the effects set what stands at an item; a new due moment does not
abbrev pub sets : Effects → Item → Bool
sets e (ask.Object id) = list_any (λ w. same_id id w.0) e.written
sets e (ask.Bound name) = list_any (λ b. pointwise nat_eq name b.0) e.bound
sets e (ask.NextAfter after) = false
sets e (ask.Task key) = list_any (λ p. same_key key p.key) e.added

-- each item that stands after the commit has its number where it was set or listed as touched, and else the stamp that it had
abbrev pub StampsAfter : Stamped → Stamped → Effects → List Item → Type 0
StampsAfter old new e touched =
    (item : Item) → is_some (stamp_in new item) ≡ true
    → stamp_in new item ≡ (if sets e item || list_any (same_item item) touched then Some (old.commits + 1) else stamp_in old item)

-- whether what was found is a task that a run has
abbrev pub claimed_at : Option Kept → Bool
claimed_at None = false
claimed_at (Some t) = t.claimed

-- each task that stands after the commit is claimed where it was; a task that was added is not
abbrev pub ClaimsAfter : Stamped → Stamped → Effects → Type 0
ClaimsAfter old new e =
    (key : TaskKey) (t : Kept) → get new.tasks key ≡ Some t → t.claimed ≡ (if sets e (ask.Task key) then false else claimed_at (get old.tasks key))

-- a step that may be committed next on d as this run: one commit more, which keeps what it does not list, and changes of a task
-- that stands before and after nothing but its due moment
pub record StepsFrom (d : DurableWorld) (run : RunNo) (s : Stepped) : Type 0 where
  pub commits : s.world.commits ≡ d.commits + 1
  pub last : s.world.last ≡ last_with d.last run
  pub objects : (id : ObjectId) → Lacks s.touched (ask.Object id) → get s.world.objects id ≡ get d.objects id
  pub names : (name : List ℕ) → Lacks s.touched (ask.Bound name) → get s.world.names name ≡ get d.names name
  pub tasks : (key : TaskKey) → Lacks s.touched (ask.Task key) → task_answer (get s.world.tasks key) ≡ task_answer (get d.tasks key)
  pub due : DifferInDue d s.world

-- the world after the step s: its durable world is the step's, and its stamps are those of before with the step's own number
-- where the step wrote
pub record ComesTo (old new : Stamped) (s : Stepped) : Type 0 where
  pub world : durable_of new ≡ s.world
  pub stamps : (stamps : Item → ℕ) → HasStamps stamps old → HasStamps (λ item. stamped_by item (stamps item) (Some s)) new
  pub touched : (item : Item) → is_some (stamp_in new item) ≡ true → stamp_in new item ≡ (if list_any (same_item item) s.touched then Some s.world.commits else stamp_in old item)
  pub claims : (key : TaskKey) (t : Kept) → get new.tasks key ≡ Some t → t.claimed ≡ claimed_at (get old.tasks key)

-- a run that tells what a step does that may be committed next leaves what that step leaves
abbrev pub CommitsSteps : Stamped → Stamped → RunNo → Report → Type 0
CommitsSteps old new run told = (s : Stepped) → StepsFrom (durable_of old) run s → told ≡ step_report (durable_of old) s → ComesTo old new s
