-- Which of a run's reads no longer stands.
use Rattle.std.specs.Prelude.{◌≡◌, Option, Some, None, List, ◌∷◌, ◌++◌}
use Rattle.std.specs.List.{AllByRecursion}
use Rattle.dk_types.specs.declared.item.Item.{Item}
use Rattle.dk_types.specs.declared.item.Read.{Read}
pub use Rattle.dk_model.specs.Retries.{same_seen}
use Rattle.dk_model.specs.Retries.{Stale}
use Rattle.dk_core.specs.StampedWorlds.{Stamped, seen_now}
use Rattle.dk_core.specs.declared.durable.conflicts.Conflict.{Conflict}

-- the read saw what is seen now
abbrev pub Stands : Stamped → Item × Read → Type 0
Stands w r = r.1.seen ≡ seen_now w r.0

-- the first of the reads that does not stand: what it saw, and what is seen now
pub record IsFirstConflict (w : Stamped) (reads : List (Item × Read)) (c : Conflict) : Type 0 where
  pub before : List (Item × Read)
  pub read : Read
  pub behind : List (Item × Read)
  pub listed : reads ≡ before ++ (c.item, read) ∷ behind
  pub stand : AllByRecursion (Stands w) before
  pub found : c.found ≡ read.seen
  pub now : c.now ≡ seen_now w c.item
  pub differ : c.found ≡ c.now → ⊥

-- none where all reads stand, and else the first that does not
abbrev pub TellsConflict : Stamped → List (Item × Read) → Option Conflict → Type 0
TellsConflict w reads None = AllByRecursion (Stands w) reads
TellsConflict w reads (Some c) = IsFirstConflict w reads c

-- what the model says of it
abbrev pub stale_of : Conflict → Stale
stale_of c = record { item = c.item; found = c.found; now = c.now }
