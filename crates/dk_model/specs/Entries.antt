-- Commit entries as bytes: by the number of a format, which entries have a spelling, what it is, and where bytes that are none go wrong.
--
-- The formats differ in the most bytes of a blob alone. An entry is spelled alike in each format that has it.
use Rattle.std.specs.Prelude.{◌≡◌, ◌⊎◌, ℕ, ◌+◌, ◌==◌, Bool, true, not, nat_le, nat_lt, if◌then◌else◌, List, ◌++◌, length, Option, Some, None, Result, Ok}
use Rattle.std.specs.Ordering.{is_lt}
use Rattle.std.specs.declared.cmp.Ordering.{Ordering}
use Rattle.dk_types.specs.Names.{IsName, bytes_cmp}
use Rattle.dk_types.specs.declared.number.ObjectId.{ObjectId}
use Rattle.dk_types.specs.declared.number.TaskKey.{TaskKey}
use Rattle.dk_types.specs.declared.object.Object.{Object}
use Rattle.dk_types.specs.declared.durable.Pending.{Pending}
use Rattle.dk_types.specs.declared.durable.Effects.{Effects}
use Rattle.dk_types.specs.declared.durable.Entry.{Entry}
use Rattle.dk_types.specs.declared.limits.TheConstants.{NUMBERS_END, MOMENT_MOST_MS, DELAY_MOST_MS, PERIOD_MOST_MS}
use Rattle.dk_types.specs.Rest.{Rest}
use Rattle.dk_types.specs.Fields.{IsU16, IsU64, IsBlob, IsId, IsKey, u16_spelling, u64_spelling, name_spelling, blob_spelling, id_spelling, key_spelling}
use Rattle.dk_types.specs.Reading.{◌>>=◌}
use Rattle.dk_types.specs.Payload.{next_u16, next_u64, next_name, next_blob, next_id, next_key, checked}
use Rattle.dk_types.specs.Lists.{IsList, list_spelling, list_at}
use Rattle.dk_model.specs.Keys.{id_cmp, key_cmp}

-- the formats of a store: the first is read, the second is read and written
abbrev pub IsFormat : ℕ → Type 0
IsFormat format = (format ≡ 1) ⊎ (format ≡ 2)

-- the most bytes of an object or of a task's argument
abbrev pub blob_most : ℕ → ℕ
blob_most format = if format == 1 then 65535 else 1048576

-- this key is above that of the item before it, if there is one
abbrev pub is_above_last : {A K : Type 0} → (K → K → Ordering) → (A → K) → Option A → K → Bool
is_above_last cmp key None k = true
is_above_last cmp key (Some before) k = is_lt (cmp (key before) k)

-- an object under its id, behind another
pub record IsObjectItem (format : ℕ) (before : Option (ObjectId × Object)) (item : ObjectId × Object) : Type 0 where
  pub id : IsId item.0
  pub above : is_above_last id_cmp (λ (e : ObjectId × Object). e.0) before item.0 ≡ true
  pub kind : IsU16 item.1.kind
  pub bytes : IsBlob (blob_most format) item.1.bytes

-- the id, the kind and the bytes
abbrev pub object_spelling : ObjectId × Object → List ℕ
object_spelling item = id_spelling item.0 ++ (u16_spelling item.1.kind ++ blob_spelling item.1.bytes)

-- reading an object, whose id is above the one before it
unfoldable pub object_at : ℕ → Option (ObjectId × Object) → Rest → Result ((ObjectId × Object) × Rest) ℕ
object_at format before r = do
  id ← checked (is_above_last id_cmp (λ (e : ObjectId × Object). e.0) before) next_id r
  kind ← next_u16 id.1
  bytes ← next_blob (blob_most format) kind.1
  Ok ((id.0, record { kind = kind.0; bytes = bytes.0 }), bytes.1)

-- an id, behind another
abbrev pub IsIdItem : Option ObjectId → ObjectId → Type 0
IsIdItem before id = IsId id × (is_above_last id_cmp (λ (e : ObjectId). e) before id ≡ true)

-- reading an id, which is above the one before it
unfoldable pub id_item_at : Option ObjectId → Rest → Result (ObjectId × Rest) ℕ
id_item_at before r = checked (is_above_last id_cmp (λ (e : ObjectId). e) before) next_id r

-- a name with the id that it is bound to, behind another
pub record IsBinding (before : Option (List ℕ × ObjectId)) (item : List ℕ × ObjectId) : Type 0 where
  pub name : IsName item.0
  pub above : is_above_last bytes_cmp (λ (e : List ℕ × ObjectId). e.0) before item.0 ≡ true
  pub id : IsId item.1

-- the name and the id
abbrev pub binding_spelling : List ℕ × ObjectId → List ℕ
binding_spelling item = name_spelling item.0 ++ id_spelling item.1

-- reading a binding, whose name is above the one before it
unfoldable pub binding_at : Option (List ℕ × ObjectId) → Rest → Result ((List ℕ × ObjectId) × Rest) ℕ
binding_at before r = do
  name ← checked (is_above_last bytes_cmp (λ (e : List ℕ × ObjectId). e.0) before) next_name r
  id ← next_id name.1
  Ok ((name.0, id.0), id.1)

-- a name, behind another
abbrev pub IsNameItem : Option (List ℕ) → List ℕ → Type 0
IsNameItem before name = IsName name × (is_above_last bytes_cmp (λ (e : List ℕ). e) before name ≡ true)

-- reading a name, which is above the one before it
unfoldable pub name_item_at : Option (List ℕ) → Rest → Result (List ℕ × Rest) ℕ
name_item_at before r = checked (is_above_last bytes_cmp (λ (e : List ℕ). e) before) next_name r

-- the latest due moment: the longest delay after the latest moment
abbrev pub is_due : ℕ → Bool
is_due due = nat_le due (MOMENT_MOST_MS + DELAY_MOST_MS)

-- whether a number is a period, or 0 for none
abbrev pub is_period : ℕ → Bool
is_period period = nat_le period PERIOD_MOST_MS

-- a pending task under its key, behind another
pub record IsPendingItem (format : ℕ) (before : Option Pending) (task : Pending) : Type 0 where
  pub key : IsKey task.key
  pub above : is_above_last key_cmp (λ (e : Pending). e.key) before task.key ≡ true
  pub due : is_due task.due ≡ true
  pub period : is_period task.period ≡ true
  pub kind : IsU16 task.kind
  pub arg : IsBlob (blob_most format) task.arg

-- the key, the due moment, the period, the kind and the argument
abbrev pub pending_spelling : Pending → List ℕ
pending_spelling task = key_spelling task.key ++ (u64_spelling task.due ++ (u64_spelling task.period ++ (u16_spelling task.kind ++ blob_spelling task.arg)))

-- reading a pending task, whose key is above the one before it
unfoldable pub pending_at : ℕ → Option Pending → Rest → Result (Pending × Rest) ℕ
pending_at format before r = do
  key ← checked (is_above_last key_cmp (λ (e : Pending). e.key) before) next_key r
  due ← checked is_due next_u64 key.1
  period ← checked is_period next_u64 due.1
  kind ← next_u16 period.1
  arg ← next_blob (blob_most format) kind.1
  Ok (record { key = key.0; due = due.0; period = period.0; kind = kind.0; arg = arg.0 }, arg.1)

-- a task's key, behind another
abbrev pub IsKeyItem : Option TaskKey → TaskKey → Type 0
IsKeyItem before key = IsKey key × (is_above_last key_cmp (λ (e : TaskKey). e) before key ≡ true)

-- reading a task's key, which is above the one before it
unfoldable pub key_item_at : Option TaskKey → Rest → Result (TaskKey × Rest) ℕ
key_item_at before r = checked (is_above_last key_cmp (λ (e : TaskKey). e) before) next_key r

-- a task's key with its new due moment, behind another
pub record IsMovedItem (before : Option (TaskKey × ℕ)) (item : TaskKey × ℕ) : Type 0 where
  pub key : IsKey item.0
  pub above : is_above_last key_cmp (λ (e : TaskKey × ℕ). e.0) before item.0 ≡ true
  pub due : is_due item.1 ≡ true

-- the key and the due moment
abbrev pub moved_spelling : TaskKey × ℕ → List ℕ
moved_spelling item = key_spelling item.0 ++ u64_spelling item.1

-- reading a task's new due moment, whose key is above the one before it
unfoldable pub moved_at_place : Option (TaskKey × ℕ) → Rest → Result ((TaskKey × ℕ) × Rest) ℕ
moved_at_place before r = do
  key ← checked (is_above_last key_cmp (λ (e : TaskKey × ℕ). e.0) before) next_key r
  due ← checked is_due next_u64 key.1
  Ok ((key.0, due.0), due.1)

-- seven lists, each of which ascends strictly by its id, name or key
pub record AreEffects (format : ℕ) (effects : Effects) : Type 0 where
  pub written : IsList (IsObjectItem format) effects.written
  pub removed : IsList IsIdItem effects.removed
  pub bound : IsList IsBinding effects.bound
  pub unbound : IsList IsNameItem effects.unbound
  pub added : IsList (IsPendingItem format) effects.added
  pub dropped : IsList IsKeyItem effects.dropped
  pub requeued : IsList IsMovedItem effects.requeued

-- the lists in this order
abbrev pub effects_spelling : Effects → List ℕ
effects_spelling e =
    list_spelling object_spelling e.written ++ (list_spelling id_spelling e.removed ++ (list_spelling binding_spelling e.bound ++ (list_spelling name_spelling e.unbound
    ++ (list_spelling pending_spelling e.added ++ (list_spelling key_spelling e.dropped ++ list_spelling moved_spelling e.requeued)))))

-- reading the seven lists of the effects of a commit
unfoldable pub effects_at : ℕ → Rest → Result (Effects × Rest) ℕ
effects_at format r = do
  written ← list_at (object_at format) r
  removed ← list_at id_item_at written.1
  bound ← list_at binding_at removed.1
  unbound ← list_at name_item_at bound.1
  added ← list_at (pending_at format) unbound.1
  dropped ← list_at key_item_at added.1
  requeued ← list_at moved_at_place dropped.1
  Ok (record { written = written.0; removed = removed.0; bound = bound.0; unbound = unbound.0; added = added.0; dropped = dropped.0; requeued = requeued.0 }, requeued.1)

-- commits are counted from 1
abbrev pub is_seq : ℕ → Bool
is_seq seq = nat_le 1 seq

-- whether a number is that of a run
abbrev pub is_run : ℕ → Bool
is_run run = nat_lt run NUMBERS_END

-- a commit: its number, its run and its effects
pub record IsEntry (format : ℕ) (entry : Entry) : Type 0 where
  pub seq : IsU64 entry.seq
  pub counted : is_seq entry.seq ≡ true
  pub run : is_run entry.run.0 ≡ true
  pub effects : AreEffects format entry.effects

-- the bytes of an entry: the commit's number, its run and its effects
abbrev pub entry_spelling : Entry → List ℕ
entry_spelling entry = u64_spelling entry.seq ++ (u64_spelling entry.run.0 ++ effects_spelling entry.effects)

-- reading an entry
unfoldable pub entry_at : ℕ → Rest → Result (Entry × Rest) ℕ
entry_at format r = do
  seq ← checked is_seq next_u64 r
  run ← checked is_run next_u64 seq.1
  effects ← effects_at format run.1
  Ok (record { seq = seq.0; run = record { 0 = run.0 }; effects = effects.0 }, effects.1)

-- there is an entry
abbrev pub is_some_entry : List Entry → Bool
is_some_entry entries = not (length entries == 0)

-- the payload of a record: entries, at least one
abbrev pub AreEntries : ℕ → List Entry → Type 0
AreEntries format entries = IsList (λ (before : Option Entry). IsEntry format) entries × (is_some_entry entries ≡ true)

-- the bytes of a payload of entries
abbrev pub entries_spelling : List Entry → List ℕ
entries_spelling entries = list_spelling entry_spelling entries

-- reading a payload of entries, of which there is at least one
unfoldable pub entries_at : ℕ → Rest → Result (List Entry × Rest) ℕ
entries_at format r = checked is_some_entry (list_at (λ (before : Option Entry). entry_at format)) r

-- THE RELATION: in this format these entries are spelled so
pub record SpellsEntries (format : ℕ) (entries : List Entry) (payload : List ℕ) : Type 0 where
  pub are : AreEntries format entries
  pub bytes : payload ≡ entries_spelling entries
