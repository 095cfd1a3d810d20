-- A file that is closed and then made anew.
use Rattle.std.proofs.Common.{◌≡◌, inl, inr, ⊎_elim, ℕ, ◌+◌, ◌≤◌, List, length, arith}
use Rattle.dk_types.specs.declared.side.Side.{Side}
use Rattle.dk_disk.specs.DiskHistories.{DiskHistory}
use Rattle.dk_journal.specs.Moments.{Runs, AreSameOrBlank, AreBlankOr, IsBlankUpTo}
use Rattle.dk_journal.proofs.Going.{weakened, goes_further}
use Rattle.dk_checkpoint.specs.Given.{IsReplacing}

module _ (side : Side) (file new_file : List ℕ) (old mid : DiskHistory) (first : Runs side (AreSameOrBlank file) old mid) where
  pub closed_only : Runs side (IsReplacing file new_file) old mid
  closed_only = weakened side (AreSameOrBlank file) (IsReplacing file new_file) old mid (λ d are. ((λ image left. ⊎_elim (λ same. inl same) (λ blank. inr (inl blank)) (are.0 image left)), are.1)) first

  pub replaced : (new : DiskHistory) (most : ℕ) → Runs side (AreBlankOr most new_file) mid new → Runs side (IsReplacing file new_file) old new
  replaced new most run =
      goes_further side (IsReplacing file new_file) old mid new closed_only
      (weakened side (AreBlankOr most new_file) (IsReplacing file new_file) mid new (λ d are. ((λ image left. ⊎_elim (λ (blank : IsBlankUpTo most image). inr (inl blank.0)) (λ (made : image ≡ new_file). inr (inr made)) (are.0 image left)), are.1)) run)

-- as many bytes as both files have
pub room : (file behind : List ℕ) → (length file ≤ length file + (1 + length behind)) × (1 + length behind ≤ length file + (1 + length behind))
room file behind = (omega arith, omega arith)
