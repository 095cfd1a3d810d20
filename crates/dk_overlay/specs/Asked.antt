-- What was asked so far: a list of reads, and the places of its items.
use Rattle.std.specs.Prelude.{◌≡◌, ◌⊎◌, ℕ, ◌<◌, Option, Some, None, List, [], length, slice_get}
use Rattle.dk_types.specs.declared.number.ObjectId.{ObjectId}
use Rattle.dk_types.specs.declared.number.TaskKey.{TaskKey}
use Rattle.dk_types.specs.declared.item.Item.{Item}
use Rattle.dk_types.specs.declared.item.Item.TheVariants as ask
use Rattle.dk_types.specs.declared.item.Read.{Read}
use Rattle.dk_types.specs.declared.item.Answer.{Answer}
use Rattle.dk_types.specs.Names.{bytes_cmp}
use Rattle.dk_map.specs.Entries.{find}
use Rattle.dk_types.specs.Keys.{id_cmp, key_cmp}
use Rattle.dk_overlay.specs.declared.reads.TheConstants.{FEW_READS}

-- the item was read so
abbrev pub WasRead : List (Item × Read) → Item → Read → Type 0
WasRead reads item read = (at : ℕ) × (slice_get reads at ≡ Some (item, read))

-- the item was not read
abbrev pub WasNotRead : List (Item × Read) → Item → Type 0
WasNotRead reads item = (read : Read) → WasRead reads item read → ⊥

-- the item was read, and answered so
abbrev pub WasAnswered : List (Item × Read) → Item → Answer → Type 0
WasAnswered reads item said = (read : Read) × WasRead reads item read × (said ≡ read.answer)

-- the item was read
abbrev pub IsAsked : List (Item × Read) → Item → Type 0
IsAsked reads item = (read : Read) × WasRead reads item read

-- no item was read twice
abbrev pub IsOnce : List (Item × Read) → Type 0
IsOnce reads = (i j : ℕ) (a b : Item × Read) → slice_get reads i ≡ Some a → slice_get reads j ≡ Some b → a.0 ≡ b.0 → i ≡ j

-- the places of objects, names, the first name, next names and tasks
pub record Places : Type 0 where
  pub objects : List (ObjectId × ℕ)
  pub names : List (List ℕ × ℕ)
  pub first : Option ℕ
  pub nexts : List (List ℕ × ℕ)
  pub tasks : List (TaskKey × ℕ)

-- the places before the first read
abbrev pub no_places : Places
no_places = record { objects = []; names = []; first = None; nexts = []; tasks = [] }

-- the place of an item
abbrev pub place_in : Places → Item → Option ℕ
place_in p (ask.Object id) = find id_cmp id p.objects
place_in p (ask.Bound name) = find bytes_cmp name p.names
place_in p (ask.NextAfter None) = p.first
place_in p (ask.NextAfter (Some after)) = find bytes_cmp after p.nexts
place_in p (ask.Task key) = find key_cmp key p.tasks

-- an item got a place, and each other one has its own
abbrev pub AddsPlace : (Item → Option ℕ) → (Item → Option ℕ) → Item → ℕ → Type 0
AddsPlace old new item at = (new item ≡ Some at) × ((q : Item) → (q ≡ item) ⊎ (new q ≡ old q))

-- the places are those of the list's items
pub record IsIndexed (reads : List (Item × Read)) (place : Item → Option ℕ) : Type 0 where
  pub right : (item : Item) (at : ℕ) → place item ≡ Some at → (read : Read) × (slice_get reads at ≡ Some (item, read))
  pub whole : (at : ℕ) (e : Item × Read) → slice_get reads at ≡ Some e → place e.0 ≡ Some at

-- the places are those of a list that is long
abbrev pub IsIndexedLong : List (Item × Read) → Places → Type 0
IsIndexedLong reads p = FEW_READS < length reads → IsIndexed reads (place_in p)
