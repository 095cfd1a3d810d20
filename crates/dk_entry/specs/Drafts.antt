-- A payload whose number is put in later.
use Rattle.std.specs.Prelude.{◌≡◌, ℕ, List, [], ◌∷◌, ◌++◌, take, drop}
use Rattle.dk_types.specs.declared.durable.Effects.{Effects}
use Rattle.dk_types.specs.declared.number.RunNo.{RunNo}
use Rattle.dk_types.specs.Fields.{u64_spelling}
use Rattle.dk_model.specs.Entries.{entries_spelling}

-- a payload of one entry, whose number is behind the count of four bytes, with this number
abbrev pub numbered : ℕ → List ℕ → List ℕ
numbered seq payload = take 4 payload ++ (u64_spelling seq ++ drop 12 payload)

-- with each number it is the payload of the commit of that number, of this run with these effects
abbrev pub IsDraft : RunNo → Effects → List ℕ → Type 0
IsDraft run effects payload = (seq : ℕ) → numbered seq payload ≡ entries_spelling (record { seq = seq; run = run; effects = effects } ∷ [])
