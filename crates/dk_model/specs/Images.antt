-- The image of a durable world as bytes: by the number of a format, which worlds have one, what it is, and where bytes that are none go wrong.
use Rattle.std.specs.Prelude.{◌≡◌, ℕ, ◌-◌, ◌==◌, ◌&&◌, Bool, true, nat_le, not, if◌then◌else◌, List, ◌++◌, map, Option, Some, None, Result, Ok}
use Rattle.std.specs.FinMap.{entries}
use Rattle.dk_types.specs.declared.number.RunNo.{RunNo}
use Rattle.dk_types.specs.declared.durable.Durable.{Durable}
use Rattle.dk_types.specs.declared.limits.TheConstants.{NUMBERS_END}
use Rattle.dk_types.specs.Rest.{Rest}
use Rattle.dk_types.specs.Fields.{IsU64, u64_spelling}
use Rattle.dk_types.specs.Reading.{◌>>=◌}
use Rattle.dk_types.specs.Payload.{next_u64, checked}
use Rattle.dk_types.specs.Lists.{IsList, list_spelling, list_at}
use Rattle.dk_model.specs.DurableWorlds.{DurableWorld}
use Rattle.dk_model.specs.Validity.{next_of}
use Rattle.dk_model.specs.Effects.{pending_of}
use Rattle.dk_model.specs.Entries.{IsObjectItem, object_spelling, object_at, IsBinding, binding_spelling, binding_at, IsPendingItem, pending_spelling, pending_at}

-- the largest committed run, of one more than it, or 0 where none is committed
abbrev pub last_of : ℕ → Option RunNo
last_of next = if next == 0 then None else Some (record { 0 = next - 1 })

-- The second number may stand behind the first: it is at most the end of numbers, there are no more commits than it, and there are none exactly where it is 0.
abbrev pub agrees_with : ℕ → ℕ → Bool
agrees_with commits next = nat_le next NUMBERS_END && nat_le commits next && (if commits == 0 then next == 0 else not (next == 0))

-- a durable world as lists, which ascend strictly by their ids, names and keys
pub record IsImageValue (format : ℕ) (d : Durable) : Type 0 where
  pub commits : IsU64 d.commits
  pub next : agrees_with d.commits (next_of d.last) ≡ true
  pub objects : IsList (IsObjectItem format) d.objects
  pub names : IsList IsBinding d.names
  pub tasks : IsList (IsPendingItem format) d.tasks

-- the number of commits, one more than the largest committed run, and the three lists
abbrev pub image_spelling : Durable → List ℕ
image_spelling d = u64_spelling d.commits ++ (u64_spelling (next_of d.last) ++ (list_spelling object_spelling d.objects ++ (list_spelling binding_spelling d.names ++ list_spelling pending_spelling d.tasks)))

-- reading an image: commits, the next run, objects, names and tasks
unfoldable pub image_at : ℕ → Rest → Result (Durable × Rest) ℕ
image_at format r = do
  commits ← next_u64 r
  next ← checked (agrees_with commits.0) next_u64 commits.1
  objects ← list_at (object_at format) next.1
  names ← list_at binding_at objects.1
  tasks ← list_at (pending_at format) names.1
  Ok (record { commits = commits.0; last = last_of next.0; objects = objects.0; names = names.0; tasks = tasks.0 }, tasks.1)

-- a durable world as lists in order
abbrev pub world_lists : DurableWorld → Durable
world_lists d = record { commits = d.commits; last = d.last; objects = entries d.objects; names = entries d.names; tasks = map pending_of (entries d.tasks) }

-- THE RELATION: in this format this world is spelled so
pub record SpellsImage (format : ℕ) (d : DurableWorld) (payload : List ℕ) : Type 0 where
  pub value : IsImageValue format (world_lists d)
  pub bytes : payload ≡ image_spelling (world_lists d)
