-- A sheet: a list of numbers, as the bytes of a managed object.
use Rattle.std.specs.Prelude.{ℕ, ◌+◌, ◌-◌, ◌^◌, Option, List, min, map, replicate, Result, Ok}
use Rattle.dk_types.specs.Rest.{Rest}
use Rattle.dk_types.specs.Fields.{u64_spelling}
use Rattle.dk_types.specs.Reading.{◌>>=◌}
use Rattle.dk_types.specs.Payload.{next_u64}
use Rattle.dk_types.specs.Lists.{list_spelling, list_at}
use Rattle.dk_model.specs.Records.{value_of}
use Rattle.dk_bench.specs.declared.sheet.Sheet.{Sheet}

-- the kind of a sheet
abbrev pub SHEET : ℕ
SHEET = 1

-- a sheet is the list of its numbers
abbrev pub sheet_bytes : Sheet → List ℕ
sheet_bytes s = list_spelling u64_spelling s.numbers

-- a sheet at the front
unfoldable pub next_sheet : Rest → Result (Sheet × Rest) ℕ
next_sheet rest = do
  numbers ← list_at (λ _. next_u64) rest
  Ok (record { numbers = numbers.0 }, numbers.1)

-- the sheet that these bytes are, where they are one
unfoldable pub sheet_of : List ℕ → Option Sheet
sheet_of = value_of next_sheet

-- a sheet of 2,048 numbers, each 0
unfoldable pub blank : Sheet
blank = record { numbers = replicate 2048 0 }

-- each number raised by one; the greatest number stays
abbrev pub raised : Sheet → Sheet
raised s = record { numbers = map (λ n. min (n + 1) (2 ^ 64 - 1)) s.numbers }
