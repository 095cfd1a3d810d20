-- The entries that a store's file has behind its image.
use Rattle.std.specs.Prelude.{◌≡◌, ◌⊎◌, ℕ, ◌<◌, ◌≤◌, List, [], ◌∷◌, ◌++◌}
use Rattle.dk_types.specs.declared.durable.Entry.{Entry}
use Rattle.dk_model.specs.DurableWorlds.{DurableWorld, empty_world}
use Rattle.dk_model.specs.Entries.{SpellsEntries}
use Rattle.dk_model.specs.Images.{SpellsImage}
use Rattle.dk_model.specs.Recovered.{Follow}
use Rattle.dk_model.specs.Stores.{StoreHeader, IsHeader, Reads, header_spelling}
use Rattle.dk_journal.specs.Scanning.{IsScanned}
use Rattle.dk_journal.specs.declared.scan.Scan.{Scan}

-- the first payload is the image of this world, and these are the others
pub record HasImage (format : ℕ) (payloads : List (List ℕ)) (first : DurableWorld) (others : List (List ℕ)) : Type 0 where
  pub image : List ℕ
  pub parts : payloads ≡ image ∷ others
  pub spelled : SpellsImage format first image

-- the world that a file begins with, and the payloads behind it: in the first epoch the empty world and all of them, else that of the image
abbrev pub BeginsWith : StoreHeader → List (List ℕ) → DurableWorld → List (List ℕ) → Type 0
BeginsWith header payloads first others =
    ((header.epoch ≡ 0) × (first ≡ empty_world) × (others ≡ payloads)) ⊎ ((0 < header.epoch) × HasImage header.format payloads first others)

-- payloads that spell these entries, one after another
abbrev pub Spell : ℕ → List (List ℕ) → List Entry → Type 0
Spell format [] entries = entries ≡ []
Spell format (payload ∷ payloads) entries = (here : List Entry) × ((rest : List Entry) × ((entries ≡ here ++ rest) × SpellsEntries format here payload × Spell format payloads rest))

-- THE LOG: the file begins with a world, and behind it has just these entries, which lead from there to this one
pub record HasLog (header : StoreHeader) (payloads : List (List ℕ)) (d : DurableWorld) (first : DurableWorld) (entries : List Entry) : Type 0 where
  pub others : List (List ℕ)
  pub begins : BeginsWith header payloads first others
  pub spelled : Spell header.format others entries
  pub follow : Follow first entries d

-- a file with this header and these payloads
pub record IsStoreFile (file : List ℕ) (header : StoreHeader) (payloads : List (List ℕ)) : Type 0 where
  pub fits : IsHeader header
  pub reads : Reads file (header_spelling header) payloads

-- a scan of the file has come to these payloads
pub record IsBehind (file : List ℕ) (header : StoreHeader) (payloads others : List (List ℕ)) (scan : Scan) : Type 0 where
  pub done : List (List ℕ)
  pub parts : payloads ≡ done ++ others
  pub scanned : IsScanned file (header_spelling header) done scan.at scan.end
  pub format : scan.format ≡ header.format

-- the file has this log, from a world of so many commits on to one of no fewer than so many
pub record IsLogOf (bytes : List ℕ) (header : StoreHeader) (payloads : List (List ℕ)) (d first : DurableWorld) (all : List Entry) (before last : ℕ) : Type 0 where
  pub file : IsStoreFile bytes header payloads
  pub log : HasLog header payloads d first all
  pub begins : first.commits ≡ before
  pub enough : last ≤ d.commits
