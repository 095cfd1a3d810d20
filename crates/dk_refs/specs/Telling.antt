-- What a refusal tells of an object.
use Rattle.std.specs.Prelude.{◌≡◌, ℕ, Option, Some, None, List, if◌then◌else◌}
use Rattle.std.specs.FinMap.{get}
use Rattle.dk_types.specs.declared.number.ObjectId.{ObjectId}
use Rattle.dk_types.specs.declared.object.Object.{Object}
use Rattle.dk_model.specs.DurableWorlds.{DurableWorld, Agrees}
use Rattle.dk_model.specs.Records.{is_name_too_long}
use Rattle.dk_overlay.specs.ReadsAndWrites.{ReadsAndWrites}
use Rattle.dk_txn.specs.Current.{current}
use Rattle.dk_txn.specs.declared.refusal.Refusal.{Refusal}
use Rattle.dk_txn.specs.declared.refusal.Refusal.TheVariants as refusal
use Rattle.dk_txn.specs.Refusals.{TellsLength}

-- the kind of an object, if there is one
abbrev pub kind_of : Option Object → Option ℕ
kind_of None = None
kind_of (Some object) = Some object.kind

-- a refusal over the kind of an object tells the one that it has, in every agreeing world
abbrev pub TellsKind : ReadsAndWrites → ObjectId → Refusal → Type 0
TellsKind t id (refusal.WrongKind found) = (d : DurableWorld) → Agrees d t.reads → kind_of (get (current t d).world.objects id) ≡ Some found
TellsKind t id refusal.NameNotBound = Unit {0}
TellsKind t id refusal.ObjectNotFound = Unit {0}
TellsKind t id (refusal.TooLong len) = Unit {0}
TellsKind t id refusal.BadDelay = Unit {0}
TellsKind t id refusal.Reserved = Unit {0}
TellsKind t id refusal.NoMemory = Unit {0}
TellsKind t id refusal.TooMany = Unit {0}
TellsKind t id refusal.NameExists = Unit {0}
TellsKind t id refusal.BadBytes = Unit {0}

-- the kind of the object that an id names in a world, if there is one
abbrev pub kind_at : Option ObjectId → DurableWorld → Option ℕ
kind_at None world = None
kind_at (Some id) world = kind_of (get world.objects id)

-- what a platform name is bound to in a world; one that would pass 255 bytes is bound to nothing
abbrev pub bound_to : List ℕ → DurableWorld → Option ObjectId
bound_to name world = if is_name_too_long name then None else get world.names name

-- the kind of the object that a platform name leads to, if there is one
abbrev pub kind_under : List ℕ → DurableWorld → Option ℕ
kind_under name world = kind_at (bound_to name world) world

-- the value that an object's bytes are, where they are one
abbrev pub value_of_bytes : {A : Type 0} → (List ℕ → Option A) → Option Object → Option A
value_of_bytes read None = None
value_of_bytes read (Some object) = read object.bytes

-- the value of the object that an id names in a world, where there is one
abbrev pub value_at : {A : Type 0} → (List ℕ → Option A) → Option ObjectId → DurableWorld → Option A
value_at read None world = None
value_at read (Some id) world = value_of_bytes read (get world.objects id)

-- the value of the object that a platform name leads to, where there is one
abbrev pub value_under : {A : Type 0} → (List ℕ → Option A) → List ℕ → DurableWorld → Option A
value_under read name world = value_at read (bound_to name world) world

-- a refusal over a kind tells the one that is so found in the world, in every agreeing one
abbrev pub TellsKindOf : ReadsAndWrites → (DurableWorld → Option ℕ) → Refusal → Type 0
TellsKindOf t kind (refusal.WrongKind found) = (d : DurableWorld) → Agrees d t.reads → kind (current t d).world ≡ Some found
TellsKindOf t kind refusal.NameNotBound = Unit {0}
TellsKindOf t kind refusal.ObjectNotFound = Unit {0}
TellsKindOf t kind (refusal.TooLong len) = Unit {0}
TellsKindOf t kind refusal.BadDelay = Unit {0}
TellsKindOf t kind refusal.Reserved = Unit {0}
TellsKindOf t kind refusal.NoMemory = Unit {0}
TellsKindOf t kind refusal.TooMany = Unit {0}
TellsKindOf t kind refusal.NameExists = Unit {0}
TellsKindOf t kind refusal.BadBytes = Unit {0}

-- a refusal over a length tells that of these bytes, in every agreeing world
abbrev pub TellsLengthIn : ReadsAndWrites → List ℕ → Refusal → Type 0
TellsLengthIn t bytes e = (d : DurableWorld) → Agrees d t.reads → TellsLength bytes e

-- a refusal over a length tells that of the bytes that are so found in the world as it was before, in every agreeing one
abbrev pub TellsLengthOf : ReadsAndWrites → ReadsAndWrites → (DurableWorld → List ℕ) → Refusal → Type 0
TellsLengthOf before after bytes e = (d : DurableWorld) → Agrees d after.reads → TellsLength (bytes (current before d).world) e
