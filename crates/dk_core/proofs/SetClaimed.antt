-- A claim changes nothing that a read sees.
use Rattle.std.proofs.Common.{◌≡◌, refl, sym, ap, ◌∙◌, Bool}
use Rattle.std.specs.FinMap.{FinMap, same_map}
use Rattle.dk_types.specs.declared.number.TaskKey.{TaskKey}
use Rattle.dk_types.specs.declared.item.Item.{Item}
use Rattle.dk_types.specs.declared.item.Item.TheVariants as ask
use Rattle.dk_types.specs.Keys.{key_cmp}
use Rattle.dk_model.proofs.Maps.{keys_total, exact_keys}
use Rattle.dk_tasks.specs.Tasks.{Kept, with_claim, changed_at, durable_tasks}
use Rattle.dk_tasks.proofs.Durable.{get-durable}
use Rattle.dk_core.specs.StampedWorlds.{Stamped, durable_of, sight_of, seen_now}
use Rattle.dk_core.proofs.MapFacts.{part-Changed}

-- the world with a task claimed or not
abbrev pub claiming : Stamped → TaskKey → Bool → Stamped
claiming w key claimed = record w { tasks = changed_at (with_claim claimed) key w.tasks }

pub durable_claimed : (w : Stamped) (key : TaskKey) (claimed : Bool) → durable_of (claiming w key claimed) ≡ durable_of w
durable_claimed w key claimed =
    let left : durable_tasks (changed_at (with_claim claimed) key w.tasks) ≡ durable_tasks w.tasks
    = same_map keys_total exact_keys _ _ (λ q.
    get-durable (changed_at (with_claim claimed) key w.tasks) q ∙ part-Changed keys_total exact_keys (λ (t : Kept). t.task) (with_claim claimed) (λ _. refl) w.tasks key q ∙ sym (get-durable w.tasks q)) in
    λ i. record (durable_of w) { tasks = left i }

pub seen_claimed : (w : Stamped) (key : TaskKey) (claimed : Bool) (item : Item) → seen_now (claiming w key claimed) item ≡ seen_now w item
seen_claimed w key claimed (ask.Object id) = refl
seen_claimed w key claimed (ask.Bound name) = refl
seen_claimed w key claimed (ask.NextAfter after) = refl
seen_claimed w key claimed (ask.Task q) = ap sight_of (part-Changed keys_total exact_keys (λ (t : Kept). t.stamp) (with_claim claimed) (λ _. refl) w.tasks key q)

-- the same by the clauses of the stores
pub claiming_durable : (v w : Stamped) (key : TaskKey) (claimed : Bool) (tasks : FinMap key_cmp Kept) → v ≡ w → tasks ≡ changed_at (with_claim claimed) key v.tasks
    → durable_of (record v { tasks = tasks }) ≡ durable_of w
claiming_durable v w key claimed tasks e f = ap (λ ts. durable_of (record v { tasks = ts })) f ∙ durable_claimed v key claimed ∙ ap durable_of e

pub claiming_seen : (v w : Stamped) (key : TaskKey) (claimed : Bool) (tasks : FinMap key_cmp Kept) → v ≡ w → tasks ≡ changed_at (with_claim claimed) key v.tasks
    → (item : Item) → seen_now (record v { tasks = tasks }) item ≡ seen_now w item
claiming_seen v w key claimed tasks e f item = ap (λ ts. seen_now (record v { tasks = ts }) item) f ∙ seen_claimed v key claimed item ∙ ap (λ x. seen_now x item) e
