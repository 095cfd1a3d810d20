-- A longer limit admits what a shorter one does.
use Rattle.std.proofs.Common.{List, [], ◌∷◌, Option, Some, None, arith}
use Rattle.dk_types.specs.declared.number.ObjectId.{ObjectId}
use Rattle.dk_types.specs.declared.object.Object.{Object}
use Rattle.dk_types.specs.declared.durable.Pending.{Pending}
use Rattle.dk_types.specs.declared.durable.Effects.{Effects}
use Rattle.dk_types.specs.declared.durable.Entry.{Entry}
use Rattle.dk_types.specs.Lists.{AreChained, IsList}
use Rattle.dk_model.specs.Entries.{IsObjectItem, IsPendingItem, AreEffects, IsEntry, AreEntries}

chained_more : {A : Type 0} (Fits Other : Option A → A → Type 0) → ((before : Option A) (x : A) → Fits before x → Other before x) → (before : Option A) (xs : List A) → AreChained Fits before xs → AreChained Other before xs
chained_more Fits Other more before [] are = tt
chained_more Fits Other more before (x ∷ xs) are = (more before x are.0, chained_more Fits Other more (Some x) xs are.1)

pub list_more : {A : Type 0} (Fits Other : Option A → A → Type 0) → ((before : Option A) (x : A) → Fits before x → Other before x) → (xs : List A) → IsList Fits xs → IsList Other xs
list_more Fits Other more xs is = record { count = is.count; each = chained_more Fits Other more None xs is.each }

pub object_more : (before : Option (ObjectId × Object)) (item : ObjectId × Object) → IsObjectItem 1 before item → IsObjectItem 2 before item
object_more before item is = record { id = is.id; above = is.above; kind = is.kind; bytes = omega (arith, is.bytes) }

pub pending_more : (before : Option Pending) (task : Pending) → IsPendingItem 1 before task → IsPendingItem 2 before task
pending_more before task is = record { key = is.key; above = is.above; due = is.due; period = is.period; kind = is.kind; arg = omega (arith, is.arg) }

effects_more : (effects : Effects) → AreEffects 1 effects → AreEffects 2 effects
effects_more e is = record {
  written = list_more (IsObjectItem 1) (IsObjectItem 2) object_more e.written is.written;
  removed = is.removed;
  bound = is.bound;
  unbound = is.unbound;
  added = list_more (IsPendingItem 1) (IsPendingItem 2) pending_more e.added is.added;
  dropped = is.dropped;
  requeued = is.requeued;
}

entry_more : (before : Option Entry) (entry : Entry) → IsEntry 1 entry → IsEntry 2 entry
entry_more before entry is = record { seq = is.seq; counted = is.counted; run = is.run; effects = effects_more entry.effects is.effects }

pub entries_more : (entries : List Entry) → AreEntries 1 entries → AreEntries 2 entries
entries_more entries are = (list_more (λ before. IsEntry 1) (λ before. IsEntry 2) entry_more entries are.0, are.1)
