-- The durable world: what outlives a stop, when it is valid, and what it answers.
use Rattle.std.specs.Prelude.{◌≡◌, ℕ, Option, Some, None, List, max}
use Rattle.std.specs.declared.cmp.Ordering.{Ordering}
use Rattle.std.specs.FinMap.{FinMap, get, entries, insert, remove, empty}
use Rattle.std.specs.List.{AllByRecursion}
use Rattle.dk_types.specs.declared.number.RunNo.{RunNo}
use Rattle.dk_types.specs.declared.number.ObjectId.{ObjectId}
use Rattle.dk_types.specs.declared.object.Object.{Object}
use Rattle.dk_types.specs.declared.item.Item.{Item}
use Rattle.dk_types.specs.declared.item.Item.TheVariants as ask
use Rattle.dk_types.specs.declared.item.Answer.{Answer}
use Rattle.dk_types.specs.declared.item.Answer.TheVariants as said
use Rattle.dk_types.specs.declared.item.Read.{Read}
use Rattle.dk_types.specs.Names.{bytes_cmp}
use Rattle.dk_model.specs.Keys.{id_cmp, key_cmp}
pub use Rattle.dk_types.specs.Values.{Task, is_above, first_key}

-- the managed objects, the names that are bound to them, the pending tasks, the number of commits, and the largest committed run
pub record DurableWorld : Type 0 where
  pub objects : FinMap id_cmp Object
  pub names : FinMap bytes_cmp ObjectId
  pub tasks : FinMap key_cmp Task
  pub commits : ℕ
  pub last : Option RunNo

-- the world before the first run
abbrev pub empty_world : DurableWorld
empty_world = record { objects = empty; names = empty; tasks = empty; commits = 0; last = None }

-- the greater of the largest committed run and this one
abbrev pub last_with : Option RunNo → RunNo → Option RunNo
last_with None run = Some run
last_with (Some last) run = Some (record { 0 = max last.0 run.0 })

-- the map with a value at a key, or with none there
abbrev pub with_value : {K X : Type 0} {R : K → K → Ordering} → FinMap R X → K → Option X → FinMap R X
with_value m k None = remove m k
with_value m k (Some v) = insert m k v

-- the least bound name above the given one, or the least of all
unfoldable pub next_name : FinMap bytes_cmp ObjectId → Option (List ℕ) → Option (List ℕ)
next_name names after = first_key (is_above after) (entries names)

-- what was found under an id, as an answer
abbrev pub object_answer : Option Object → Answer
object_answer None = said.NoObject
object_answer (Some object) = said.Object object

-- what was found under a name, as an answer
abbrev pub name_answer : Option ObjectId → Answer
name_answer None = said.NoName
name_answer (Some id) = said.Named id

-- what was found under a task's key, as an answer
abbrev pub task_answer : Option Task → Answer
task_answer None = said.NoTask
task_answer (Some task) = said.Task

-- what the world answers to a read
abbrev pub answer : DurableWorld → Item → Answer
answer d (ask.Object id) = object_answer (get d.objects id)
answer d (ask.Bound name) = name_answer (get d.names name)
answer d (ask.NextAfter after) = said.Next (next_name d.names after)
answer d (ask.Task key) = task_answer (get d.tasks key)

-- the world gives each of the answers that were read
unfoldable pub Agrees : DurableWorld → List (Item × Read) → Type 0
Agrees d reads = AllByRecursion (λ r. answer d r.0 ≡ r.1.answer) reads
