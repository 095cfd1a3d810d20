-- Where a journal stands on its file.
use Rattle.std.specs.Prelude.{◌≡◌, ℕ, ◌+◌, ◌≤◌, true, List, [], ◌∷◌, ◌++◌, length}
use Rattle.dk_types.specs.declared.side.Side.{Side}
use Rattle.dk_disk.specs.Disk.{settled}
use Rattle.dk_disk.specs.DiskHistories.{DiskHistory, now}
use Rattle.dk_types.specs.Fields.{blob_spelling}
use Rattle.dk_model.specs.Stores.{Reads, end_of, is_blank}

-- The file has these payloads with nothing pending, and the journal's length is the place behind its closed gate.
pub record Stands (side : Side) (journal_length : ℕ) (past : DiskHistory) (header : List ℕ) (payloads : List (List ℕ)) : Type 0 where
  pub settled : now past side ≡ settled (now past side).reads
  pub reads : Reads (now past side).reads header payloads
  pub place : journal_length ≡ end_of header payloads + 1

-- nothing is pending, and the place lies within the file
pub record IsAtRest (side : Side) (journal_length : ℕ) (past : DiskHistory) : Type 0 where
  pub settled : now past side ≡ settled (now past side).reads
  pub within : journal_length ≤ length (now past side).reads

-- nothing is pending, and the file is blank
pub record IsReady (side : Side) (past : DiskHistory) : Type 0 where
  pub settled : now past side ≡ settled (now past side).reads
  pub blank : is_blank (now past side).reads ≡ true

-- what an append writes behind the closed gate
abbrev pub behind_gate : List ℕ → List ℕ
behind_gate payload = blob_spelling payload ++ 0 ∷ []
