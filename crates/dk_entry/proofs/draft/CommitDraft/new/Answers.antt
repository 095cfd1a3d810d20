use Rattle.std.proofs.Common.{ℕ, ◌≤◌, List, length, subst, sym}
use Rattle.dk_entry.proofs.OneEntry.{has_number}
use Rattle.dk_entry.proofs.draft.CommitDraft.new.Goals as goal

-- src/draft.rt:49:9
pub invariant_of-result : goal.invariant_of-result
invariant_of-result c = subst (λ (bytes : List ℕ). 12 ≤ length bytes) (sym c.in_ok-payload.ensures) (has_number _)
