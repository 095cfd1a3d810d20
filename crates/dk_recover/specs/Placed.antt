-- Which of two files stands, or where what is no store.
use Rattle.std.specs.Prelude.{◌≡◌, List, ℕ, Option, Some, None, Result, Ok, Err}
use Rattle.dk_model.specs.Stores.{NoStore, NoneStands, standing}
use Rattle.dk_journal.specs.declared.header.Header.{Header}
use Rattle.dk_journal.specs.declared.scan.Scan.{Scan}
use Rattle.dk_recover.specs.Stood.{IsStanding}
use Rattle.dk_recover.specs.declared.standing.NotAStoreAt.{NotAStoreAt}

-- as the table of both files says
abbrev pub IsPlaced : List ℕ → List ℕ → Result (Option (Header × Scan)) NotAStoreAt → Type 0
IsPlaced zero one (Ok None) = standing zero one ≡ NoStore
IsPlaced zero one (Ok (Some found)) = IsStanding zero one found.0 found.1
IsPlaced zero one (Err place) = standing zero one ≡ NoneStands place.side place.at
