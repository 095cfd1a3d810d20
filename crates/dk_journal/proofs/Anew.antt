-- The phases of making a file anew, one after another.
use Rattle.std.proofs.Common.{◌≡◌, ℕ, ◌+◌, ◌≤◌, List, [], ◌∷◌, length, ◌∙◌, ap, arith}
use Rattle.dk_types.specs.declared.side.Side.{Side}
use Rattle.dk_disk.specs.Disk.{Disk, settled, overwritten}
use Rattle.dk_disk.specs.DiskHistories.{DiskHistory, now}
use Rattle.dk_journal.specs.Moments.{Runs, IsWriting, IsClearing, AreBlankOr}
use Rattle.dk_journal.specs.Standing.{IsReady}
use Rattle.dk_journal.proofs.Going.{weakened, goes_further}
use Rattle.dk_journal.proofs.Blanks.{clearing, closing, filling, opening, behind_one}

module _ (side : Side) (rest : List ℕ) (old : DiskHistory) (ready : IsReady side old) (most : ℕ) (short : length (now old side).reads ≤ most) (room : 1 + length rest ≤ most) where
  pub cleared : (a : DiskHistory) → Runs side (IsClearing (now old side)) old a → Runs side (AreBlankOr most (1 ∷ rest)) old a
  cleared a run = weakened side (IsClearing (now old side)) (AreBlankOr most (1 ∷ rest)) old a (λ d. clearing most (1 ∷ rest) (now old side).reads (now old side) d ready.settled (ready.blank, short)) run

  module _ (a : DiskHistory) (one : Runs side (IsClearing (now old side)) old a) (is_clear : now a side ≡ settled []) where
    pub closed : (b : DiskHistory) → Runs side (IsWriting 0 (0 ∷ []) (now a side)) a b → Runs side (AreBlankOr most (1 ∷ rest)) old b
    closed b run = goes_further side (AreBlankOr most (1 ∷ rest)) old a b (cleared a one) (weakened side _ (AreBlankOr most (1 ∷ rest)) a b (λ d. closing most (1 ∷ rest) (now a side) d is_clear (omega (arith, room))) run)

    module _ (b : DiskHistory) (two : Runs side (IsWriting 0 (0 ∷ []) (now a side)) a b) (is_closed : now b side ≡ settled (overwritten 0 (0 ∷ []) (now a side).reads)) where
      shut : now b side ≡ settled (0 ∷ [])
      shut = is_closed ∙ ap (λ (d : Disk). settled (overwritten 0 (0 ∷ []) d.reads)) is_clear

      pub filled : (c : DiskHistory) → Runs side (IsWriting 1 rest (now b side)) b c → Runs side (AreBlankOr most (1 ∷ rest)) old c
      filled c run = goes_further side (AreBlankOr most (1 ∷ rest)) old b c (closed b two) (weakened side _ (AreBlankOr most (1 ∷ rest)) b c (λ d. filling most (1 ∷ rest) rest (now b side) d shut room) run)

      module _ (c : DiskHistory) (three : Runs side (IsWriting 1 rest (now b side)) b c) (is_filled : now c side ≡ settled (overwritten 1 rest (now b side).reads)) where
        full : now c side ≡ settled (0 ∷ rest)
        full = is_filled ∙ ap (λ (d : Disk). settled (overwritten 1 rest d.reads)) shut ∙ ap settled (behind_one 0 rest)

        pub opened : (d : DiskHistory) → Runs side (IsWriting 0 (1 ∷ []) (now c side)) c d → Runs side (AreBlankOr most (1 ∷ rest)) old d
        opened d run = goes_further side (AreBlankOr most (1 ∷ rest)) old c d (filled c three) (weakened side _ (AreBlankOr most (1 ∷ rest)) c d (λ e. opening most rest (now c side) e full room) run)
