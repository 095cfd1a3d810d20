-- How far a journal's file was read.
use Rattle.std.specs.Prelude.{◌≡◌, ◌<◌, ◌^◌, ℕ, List, [], ◌∷◌, ◌++◌, length, take, drop}
use Rattle.dk_types.specs.Fields.{blob_spelling}
use Rattle.dk_model.specs.Stores.{records, AreSized, end_of}

-- These records are at the front of the file, and the gate behind them lies at this place, within the file.
pub record IsScanned (file header : List ℕ) (done : List (List ℕ)) (at end : ℕ) : Type 0 where
  pub front : take at file ≡ header ++ records done
  pub place : at ≡ end_of header done
  pub header_length : length header ≡ 64
  pub sized : AreSized done
  pub within : at < end
  pub ends : end ≡ length file

-- The gate at this place is open, and no whole record is behind it with a gate of its own within the file.
pub record IsCutOff (file : List ℕ) (at : ℕ) : Type 0 where
  pub opened : 1 ∷ [] ≡ take 1 (drop at file)
  pub none : (payload rest : List ℕ) → length payload < 2 ^ 32 → drop at file ≡ 1 ∷ (blob_spelling payload ++ rest) → length rest ≡ 0
