-- A header as the code has it.
use Rattle.std.specs.Prelude.{◌≡◌, None, List, ℕ, slice_index}
use Rattle.dk_model.specs.Stores.{StoreHeader, IsHeader, header_spelling, header_in, header_fault}
use Rattle.dk_journal.specs.declared.header.Header.{Header}

-- a header that was read, as the model has it
abbrev pub store_header : Header → StoreHeader
store_header header = record { game = header.game; epoch = header.epoch; format = header.format }

-- these bytes of a file are without a fault, and behind an open gate they are this header's
pub record IsRead (bytes : List ℕ) (header : StoreHeader) : Type 0 where
  pub fine : header_fault bytes ≡ None
  pub same : header_in bytes ≡ header
  pub fits : IsHeader header
  pub spelled : slice_index bytes 0 ≡ 1 → bytes ≡ header_spelling header
