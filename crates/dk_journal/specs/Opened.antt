-- A file that was opened as a store's.
use Rattle.std.specs.Prelude.{◌≡◌, ℕ, List, []}
use Rattle.dk_types.specs.declared.side.Side.{Side}
use Rattle.dk_model.specs.Stores.{IsHeader, header_spelling, look, Live}
use Rattle.dk_journal.specs.declared.header.Header.{Header}
use Rattle.dk_journal.specs.declared.scan.Scan.{Scan}
use Rattle.dk_journal.specs.Headers.{store_header}
use Rattle.dk_journal.specs.Scanning.{IsScanned}

-- The file is live under this header, and the scan is at its first gate.
pub record IsOpened (file : List ℕ) (file_side : Side) (header : Header) (scan : Scan) : Type 0 where
  pub looks : look file ≡ Live (store_header header)
  pub fits : IsHeader (store_header header)
  pub scanned : IsScanned file (header_spelling (store_header header)) [] scan.at scan.end
  pub side : scan.side ≡ file_side
  pub epoch : scan.epoch ≡ header.epoch
  pub format : scan.format ≡ header.format
