-- The durable world that two files hold, or what is wrong with them.
use Rattle.std.specs.Prelude.{◌≡◌, ◌≢◌, ◌⊎◌, ℕ, ◌+◌, ◌<◌, ◌≤◌, ◌^◌, List, [], ◌∷◌, ◌++◌, length, take, drop, slice_index}
use Rattle.dk_types.specs.declared.side.Side.{Side}
use Rattle.dk_types.specs.declared.side.Side.TheVariants.{Zero, One}
use Rattle.dk_types.specs.declared.durable.Entry.{Entry}
use Rattle.dk_types.specs.Fields.{blob_spelling}
use Rattle.dk_model.specs.DurableWorlds.{DurableWorld, empty_world}
use Rattle.dk_model.specs.Validity.{IsValid}
use Rattle.dk_model.specs.Effects.{effects, after}
use Rattle.dk_model.specs.Entries.{SpellsEntries}
use Rattle.dk_model.specs.Images.{SpellsImage}
use Rattle.dk_model.specs.Stores.{StoreHeader, header_spelling, records, AreSized, end_of, Reads, NoStore, StandsOn, NoneStands, standing}

-- The entry fits this world: it has the next number, its lists are the effects between the world before it and the one after it, and that one is valid.
pub record IsNext (d : DurableWorld) (entry : Entry) : Type 0 where
  pub seq : entry.seq ≡ d.commits + 1
  pub effects : entry.effects ≡ effects d (after entry d)
  pub valid : IsValid (after entry d)

-- entries that fit, one after another, from this world to that one
abbrev pub Follow : DurableWorld → List Entry → DurableWorld → Type 0
Follow d [] end_ = d ≡ end_
Follow d (entry ∷ entries) end_ = IsNext d entry × Follow (after entry d) entries end_

-- a payload of entries takes this world to that one
pub record Takes (format : ℕ) (d : DurableWorld) (payload : List ℕ) (end_ : DurableWorld) : Type 0 where
  pub entries : List Entry
  pub spelled : SpellsEntries format entries payload
  pub follow : Follow d entries end_

-- payloads of entries, one after another
abbrev pub TakeAll : ℕ → DurableWorld → List (List ℕ) → DurableWorld → Type 0
TakeAll format d [] end_ = d ≡ end_
TakeAll format d (payload ∷ payloads) end_ = (mid : DurableWorld) × Takes format d payload mid × TakeAll format mid payloads end_

-- the first payload is the image of a valid world, and the others are entries
pub record BeginsWithImage (format : ℕ) (payloads : List (List ℕ)) (d : DurableWorld) : Type 0 where
  pub image : List ℕ
  pub others : List (List ℕ)
  pub parts : payloads ≡ image ∷ others
  pub first : DurableWorld
  pub spelled : SpellsImage format first image
  pub valid : IsValid first
  pub rest : TakeAll format first others d

-- The world of a file's payloads: the empty world in the first epoch, else the image, and the entries behind it.
abbrev pub HasWorld : StoreHeader → List (List ℕ) → DurableWorld → Type 0
HasWorld header payloads d =
    ((header.epoch ≡ 0) × TakeAll header.format empty_world payloads d) ⊎ ((0 < header.epoch) × BeginsWithImage header.format payloads d)

-- a live file that holds this world
pub record HoldsWorld (file : List ℕ) (header : StoreHeader) (d : DurableWorld) : Type 0 where
  pub payloads : List (List ℕ)
  pub reads : Reads file (header_spelling header) payloads
  pub world : HasWorld header payloads d

-- no whole record that fits behind these stands at this place, with a gate behind it
abbrev pub HasNoNext : List ℕ → StoreHeader → List (List ℕ) → ℕ → Type 0
HasNoNext file header good at =
    (payload rest : List ℕ) (d : DurableWorld) → length payload < 2 ^ 32 → drop at file ≡ 1 ∷ (blob_spelling payload ++ rest) → 1 ≤ length rest → HasWorld header (good ++ payload ∷ []) d → ⊥

-- Damaged at this gate: the records before it fit, and it is open before one that does not; or it is the first gate, closed, and an image should be behind it.
pub record IsDamaged (file : List ℕ) (header : StoreHeader) (at : ℕ) : Type 0 where
  pub good : List (List ℕ)
  pub fit : (good ≡ []) ⊎ ((d : DurableWorld) × HasWorld header good d)
  pub sized : AreSized good
  pub front : take at file ≡ header_spelling header ++ records good
  pub place : at ≡ end_of (header_spelling header) good
  pub broken : ((slice_index file at ≡ 1) × HasNoNext file header good at) ⊎ ((slice_index file at ≢ 1) × (0 < header.epoch) × (good ≡ []))

-- what two files give
pub data Recovered : Type 0 where
  NotYet : Recovered
  Holding : (d : DurableWorld) → Recovered
  NotAStore : (side : Side) (at : ℕ) → Recovered
  Damaged : (side : Side) (at : ℕ) → Recovered

-- the file on this side
abbrev pub file_on : Side → List ℕ → List ℕ → List ℕ
file_on Zero zero one = zero
file_on One zero one = one

-- a store stands on this side under this header, and its file has P
abbrev pub OnStanding : List ℕ → List ℕ → Side → (List ℕ → StoreHeader → Type 0) → Type 0
OnStanding zero one side P = (header : StoreHeader) × (standing zero one ≡ StandsOn side header) × P (file_on side zero one) header

-- THE ANSWER, from the bytes of the two files alone
abbrev pub Recovers : List ℕ → List ℕ → Recovered → Type 0
Recovers zero one NotYet = standing zero one ≡ NoStore
Recovers zero one (Holding d) = (side : Side) × OnStanding zero one side (λ file header. HoldsWorld file header d)
Recovers zero one (NotAStore side at) = standing zero one ≡ NoneStands side at
Recovers zero one (Damaged side at) = OnStanding zero one side (λ file header. IsDamaged file header at)

-- no store yet counts as the empty world
abbrev pub HasDurable : List ℕ → List ℕ → DurableWorld → Type 0
HasDurable zero one d = Recovers zero one (Holding d) ⊎ (Recovers zero one NotYet × (d ≡ empty_world))
