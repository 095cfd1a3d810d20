-- The bytes of what an entry makes are bytes, as those of each payload are.
use Rattle.std.specs.Prelude.{ℕ, ◌<◌, List}
use Rattle.std.specs.Prelude.{All}
use Rattle.std.specs.List.{AllByRecursion}
use Rattle.dk_types.specs.declared.number.ObjectId.{ObjectId}
use Rattle.dk_types.specs.declared.object.Object.{Object}
use Rattle.dk_types.specs.declared.durable.Pending.{Pending}
use Rattle.dk_types.specs.declared.durable.Effects.{Effects}
use Rattle.dk_types.specs.declared.durable.Entry.{Entry}

-- each number is a byte
abbrev pub AreBytes : List ℕ → Type 0
AreBytes bytes = All (λ b. b < 256) bytes

-- of each object and of each task's argument
abbrev pub HaveObjectBytes : List (ObjectId × Object) → Type 0
HaveObjectBytes objects = AllByRecursion (λ (o : ObjectId × Object). AreBytes o.1.bytes) objects

-- each task's argument has bytes
abbrev pub HaveTaskBytes : List Pending → Type 0
HaveTaskBytes tasks = AllByRecursion (λ (p : Pending). AreBytes p.arg) tasks

-- of what effects write and add
abbrev pub HaveBytes : Effects → Type 0
HaveBytes e = HaveObjectBytes e.written × HaveTaskBytes e.added

-- each entry has bytes
abbrev pub EachHasBytes : List Entry → Type 0
EachHasBytes entries = AllByRecursion (λ (e : Entry). HaveBytes e.effects) entries
