-- What a piece of a run does, in every world that agrees with what was read.
use Rattle.std.specs.Prelude.{◌≡◌, ℕ, Bool, true, false, not, ◌&&◌, Option, Some, None, is_some, List, ◌++◌, Result, Ok, Err}
use Rattle.std.specs.List.{AllByRecursion}
use Rattle.std.specs.FinMap as map
use Rattle.std.specs.Option.{option_map}
use Rattle.dk_types.specs.declared.number.ObjectId.{ObjectId}
use Rattle.dk_types.specs.declared.number.TaskKey.{TaskKey}
use Rattle.dk_types.specs.declared.object.Object.{Object}
use Rattle.dk_types.specs.declared.item.Item.{Item}
use Rattle.dk_types.specs.declared.item.Read.{Read}
use Rattle.dk_types.specs.declared.fault.AppFault.{AppFault}
use Rattle.dk_types.specs.Names.{bytes_cmp}
use Rattle.dk_model.specs.DurableWorlds.{DurableWorld, Agrees, is_above}
use Rattle.dk_model.specs.Runs.{Act, change_object, is_reserved_kind}
use Rattle.dk_overlay.specs.declared.change.Change.{Change}
use Rattle.dk_overlay.specs.Changes.{value_now, task_now}
use Rattle.dk_txn.specs.Layers.{layered}
use Rattle.dk_overlay.specs.Least.{passes, Least}
use Rattle.dk_overlay.specs.ReadsAndWrites.{ReadsAndWrites}
use Rattle.dk_txn.specs.Current.{current}
use Rattle.dk_model.specs.Finishes.{IsNew}
use Rattle.dk_txn.specs.Knowing.{IsSound, MovesAlone}
use Rattle.dk_txn.specs.declared.txn.Txn.{Txn}
use Rattle.dk_txn.specs.declared.refusal.Refusal.{Refusal}
use Rattle.dk_txn.specs.Refusals.{refusal_fault}
use Rattle.dk_txn.specs.Sights.{Sights}
use Rattle.dk_txn.specs.Asks.{AsksAny}

-- only reads were added
abbrev pub SameChanges : ReadsAndWrites → ReadsAndWrites → Type 0
SameChanges a b = b ≡ record a { reads = b.reads }

-- each read was given by the view
pub record AllGiven {S : Type 0} (sights : Sights S) (t : Txn S ReadsAndWrites) : Type 0 where
  pub given : AllByRecursion (λ r. sights.gave t.view.now r.0 r.1) t.set.reads

-- what a call keeps, however it ends: the view is the same, or what it becomes as it is asked, for no item that was read by then; reads were only
-- added, each of them given by the view; the changes know what was there before, and no task was moved but those for which P holds, of its key and its due moment
pub record KeepsFor (P : TaskKey → ℕ → Type 0) {S : Type 0} (sights : Sights S) (a b : Txn S ReadsAndWrites) : Type 0 where
  pub same_view : b.view.ghost_name ≡ a.view.ghost_name
  pub reads_stay : (more : List (Item × Read)) × (b.set.reads ≡ a.set.reads ++ more)
  pub becomes : sights.becomes a.view.now b.view.now
  pub asks : AsksAny sights a b
  pub given : AllGiven sights a → AllGiven sights b
  pub same_run : b.set.run ≡ a.set.run
  pub same_at : b.set.at ≡ a.set.at
  pub sound : IsSound a.set → IsSound b.set
  pub moves : (key : TaskKey) (due : ℕ) → P key due → MovesAlone key due a.set → MovesAlone key due b.set

-- the outcome of a fault, if there is one
abbrev pub failure : {A : Type 0} → Option AppFault → Option (Result A AppFault)
failure None = None
failure (Some fault) = Some (Err fault)

-- the outcome that a result tells: none, where memory was refused
abbrev pub outcome_of_result : {E A : Type 0} → (E → Option AppFault) → Result A E → Option (Result A AppFault)
outcome_of_result told (Ok x) = Some (Ok x)
outcome_of_result told (Err e) = failure (told e)

-- in every agreeing world, the call does f and answers as f does; `told` says which fault an error tells
pub record DoesFor (P : TaskKey → ℕ → Type 0) {S E A : Type 0} (sights : Sights S) (told : E → Option AppFault) (a b : Txn S ReadsAndWrites) (f : Act A) (r : Result A E) : Type 0 where
  pub keeps : KeepsFor P sights a b
  pub does : (s : Result A AppFault) → outcome_of_result told r ≡ Some s → (d : DurableWorld) → Agrees d b.set.reads → f (current a.set d) ≡ (s, current b.set d)

-- in every agreeing world, what was left to do at first is what is left to do now
pub record ResumesFor (P : TaskKey → ℕ → Type 0) {S C : Type 0} (sights : Sights S) (a b : Txn S ReadsAndWrites) (f g : Act C) : Type 0 where
  pub keeps : KeepsFor P sights a b
  pub leads : (d : DurableWorld) → Agrees d b.set.reads → f (current a.set d) ≡ g (current b.set d)

-- no task is moved
abbrev pub Every : TaskKey → ℕ → Type 0
Every key due = Unit {0}

-- no task is moved but this one, from this due moment
abbrev pub Only : TaskKey → ℕ → TaskKey → ℕ → Type 0
Only key due k from = (k ≡ key) × (from ≡ due)

-- what a call keeps that moves no task
abbrev pub Keeps : {S : Type 0} → Sights S → Txn S ReadsAndWrites → Txn S ReadsAndWrites → Type 0
Keeps = KeepsFor Every

-- the call does f, and moves no task
abbrev pub Does : {S E A : Type 0} → Sights S → (E → Option AppFault) → Txn S ReadsAndWrites → Txn S ReadsAndWrites → Act A → Result A E → Type 0
Does = DoesFor Every

-- what was left to do at first is what is left to do now, and no task was moved
abbrev pub Resumes : {S C : Type 0} → Sights S → Txn S ReadsAndWrites → Txn S ReadsAndWrites → Act C → Act C → Type 0
Resumes = ResumesFor Every

-- o is what an object is
abbrev pub IsNow : ReadsAndWrites → ObjectId → Option Object → Type 0
IsNow t id o = (d : DurableWorld) → Agrees d t.reads → map.get (layered value_now t.objects d.objects) id ≡ o

-- c is what an object was and is
pub record KnownObject (t : ReadsAndWrites) (id : ObjectId) (c : Change Object) : Type 0 where
  pub after : (d : DurableWorld) → Agrees d t.reads → map.get (layered value_now t.objects d.objects) id ≡ c.after
  pub before : IsSound t → (d : DurableWorld) → Agrees d t.reads → IsNew d t.run → c.before ≡ map.get d.objects id

-- in each agreeing world there is an object under the id
abbrev pub Stands : ReadsAndWrites → ObjectId → Type 0
Stands t id = (d : DurableWorld) → Agrees d t.reads → is_some (map.get (current t d).world.objects id) ≡ true

-- c is that of an object that stands and may be touched
pub record CanChange (t : ReadsAndWrites) (id : ObjectId) (c : Change Object) : Type 0 where
  pub known : KnownObject t id c
  pub there : (object : Object) × (c.after ≡ Some object) × (is_reserved_kind t.mode object.kind ≡ false)

-- before is what an object was, and kind that of what it is
pub record KnownKind (t : ReadsAndWrites) (id : ObjectId) (before : Option Object) (kind : Option ℕ) : Type 0 where
  pub change : Change Object
  pub known : KnownObject t id change
  pub same_before : before ≡ change.before
  pub same_kind : kind ≡ option_map (λ (object : Object). object.kind) change.after

-- the same of an object that stands and may be touched
pub record MayTouch (t : ReadsAndWrites) (id : ObjectId) (before : Option Object) (kind : ℕ) : Type 0 where
  pub change : Change Object
  pub can : CanChange t id change
  pub same_before : before ≡ change.before
  pub same_kind : kind ≡ can.there.0.kind

-- any change of the object is refused so
abbrev pub RefusesChange : ReadsAndWrites → ObjectId → Refusal → Type 0
RefusesChange t id e = (fault : AppFault) → refusal_fault e ≡ Some fault → (change : Object → Option Object) (d : DurableWorld) → Agrees d t.reads → change_object id change (current t d) ≡ (Err fault, current t d)

-- c is what a name was bound to and is
pub record KnownName (t : ReadsAndWrites) (name : List ℕ) (c : Change ObjectId) : Type 0 where
  pub after : (d : DurableWorld) → Agrees d t.reads → map.get (layered value_now t.names d.names) name ≡ c.after
  pub before : IsSound t → (d : DurableWorld) → Agrees d t.reads → IsNew d t.run → c.before ≡ map.get d.names name

-- b says whether a task is pending
abbrev pub KnownTask : ReadsAndWrites → TaskKey → Bool → Type 0
KnownTask t key b = (d : DurableWorld) → Agrees d t.reads → is_some (map.get (layered task_now t.tasks d.tasks) key) ≡ b

-- whether a name above the given one stands in d and was not changed
abbrev pub is_standing : ReadsAndWrites → DurableWorld → Option (List ℕ) → List ℕ → Bool
is_standing t d after q = passes (is_above after) (λ _. true) q (map.get d.names q) && not (is_some (map.get t.names q))

-- r is the least such name
pub record NextStanding (t : ReadsAndWrites) (after : Option (List ℕ)) (r : Option (List ℕ)) : Type 0 where
  pub least : (d : DurableWorld) → Agrees d t.reads → Least bytes_cmp (is_standing t d after) r
