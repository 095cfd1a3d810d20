-- What a sheet has to be to be spelled, and that it is read exactly.
use Rattle.std.proofs.Common.{ℕ, Option, None, refl}
use Rattle.dk_types.specs.Fields.{IsU64, u64_spelling}
use Rattle.dk_types.specs.Exact.{IsExact}
use Rattle.dk_types.specs.Lists.{IsList}
use Rattle.dk_types.specs.Payload.{next_u64}
use Rattle.dk_types.proofs.Composing.{last_exact}
use Rattle.dk_types.proofs.NextLaws.{next_u64_exact}
use Rattle.dk_types.proofs.ListLaws.{list_exact}
use Rattle.dk_refs.specs.Managing.{ReadsExactly, reads_exactly}
use Rattle.dk_bench.specs.declared.sheet.Sheet.{Sheet}
use Rattle.dk_bench.specs.Sheet.{sheet_bytes, next_sheet, sheet_of}

-- fewer than 2^32 numbers of 64 bits
pub record IsSheet (s : Sheet) : Type 0 where
  pub numbers : IsList (λ _. IsU64) s.numbers

-- reading a number takes back what its bytes say, and nothing else
pub each_number_exact : (before : Option ℕ) → IsExact IsU64 u64_spelling next_u64
each_number_exact before = next_u64_exact

-- the same of a sheet
pub each_sheet_exact : (before : Option Sheet) → IsExact IsSheet sheet_bytes next_sheet
unfolding next_sheet
each_sheet_exact before =
    last_exact (λ (s : Sheet). s.numbers) (λ numbers. record { numbers = numbers }) (list_exact each_number_exact) (λ s is. is.numbers)
    (λ numbers are. record { numbers = are }) (λ numbers. refl) (λ s is. refl)

-- the same for an object's whole bytes
pub sheet_reads : ReadsExactly IsSheet sheet_bytes sheet_of
unfolding sheet_of
sheet_reads = reads_exactly IsSheet sheet_bytes next_sheet (each_sheet_exact None)
