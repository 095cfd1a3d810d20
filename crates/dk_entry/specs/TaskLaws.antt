-- Tasks, their keys and their moved due moments in ascending lists are read exactly.
use Rattle.std.proofs.Common.{◌≡◌, ℕ, ◌+◌, true, Option, refl, arith}
use Rattle.std.proofs.lemmas.Bool.{leb-true}
use Rattle.dk_types.specs.declared.number.TaskKey.{TaskKey}
use Rattle.dk_types.specs.declared.durable.Pending.{Pending}
use Rattle.dk_types.specs.declared.limits.TheConstants.{MOMENT_MOST_MS, DELAY_MOST_MS, PERIOD_MOST_MS}
use Rattle.dk_types.specs.Fields.{IsU64, key_spelling}
use Rattle.dk_types.specs.Exact.{IsExact}
use Rattle.dk_types.proofs.Composing.{then_exact, last_exact, checked_exact}
use Rattle.dk_types.proofs.NextLaws.{next_u16_exact, next_u64_exact, next_blob_exact, next_key_exact}
use Rattle.dk_model.specs.Keys.{key_cmp}
use Rattle.dk_model.specs.Entries.{blob_most, is_above_last, is_due, is_period, IsPendingItem, pending_spelling, pending_at, IsKeyItem, key_item_at, IsMovedItem, moved_spelling, moved_at_place}
use Rattle.dk_entry.specs.ItemLaws.{blob_small}

due_small : (due : ℕ) → is_due due ≡ true → IsU64 due
due_small due is = omega (arith, leb-true due (MOMENT_MOST_MS + DELAY_MOST_MS) is)

period_small : (period : ℕ) → is_period period ≡ true → IsU64 period
period_small period is = omega (arith, leb-true period PERIOD_MOST_MS is)

-- reading a pending task takes back what its bytes say, and nothing else
pub pending_exact : (format : ℕ) (before : Option Pending) → IsExact (IsPendingItem format before) pending_spelling (pending_at format before)
unfolding pending_at
pending_exact format before =
    then_exact (λ (p : Pending). p.key) _ (checked_exact (is_above_last key_cmp (λ (e : Pending). e.key) before) next_key_exact) (λ p is. (is.key, is.above)) (λ key fits.
    then_exact (λ (p : Pending). p.due) _ (checked_exact is_due next_u64_exact) (λ p is. (due_small p.due is.0.due, is.0.due)) (λ due due_fits.
    then_exact (λ (p : Pending). p.period) _ (checked_exact is_period next_u64_exact) (λ p is. (period_small p.period is.0.0.period, is.0.0.period)) (λ period period_fits.
    then_exact (λ (p : Pending). p.kind) _ next_u16_exact (λ p is. is.0.0.0.kind) (λ kind small.
    last_exact (λ (p : Pending). p.arg) (λ arg. record { key = key; due = due; period = period; kind = kind; arg = arg }) (next_blob_exact (blob_most format) (blob_small format)) (λ p is. is.0.0.0.0.arg)
    (λ arg fit. ((((record { key = fits.0; above = fits.1; due = due_fits.1; period = period_fits.1; kind = small; arg = fit }, refl), refl), refl), refl)) (λ arg. refl)
    (λ p is i. record { key = is.0.0.0.1 i; due = is.0.0.1 i; period = is.0.1 i; kind = is.1 i; arg = p.arg })))))

-- the same of a task's key
pub key_item_exact : (before : Option TaskKey) → IsExact (IsKeyItem before) key_spelling (key_item_at before)
unfolding key_item_at
key_item_exact before = checked_exact (is_above_last key_cmp (λ (e : TaskKey). e) before) next_key_exact

-- the same of a task's new due moment
pub moved_exact : (before : Option (TaskKey × ℕ)) → IsExact (IsMovedItem before) moved_spelling (moved_at_place before)
unfolding moved_at_place
moved_exact before =
    then_exact (λ (item : TaskKey × ℕ). item.0) _ (checked_exact (is_above_last key_cmp (λ (e : TaskKey × ℕ). e.0) before) next_key_exact) (λ item is. (is.key, is.above)) (λ key fits.
    last_exact (λ (item : TaskKey × ℕ). item.1) (λ due. (key, due)) (checked_exact is_due next_u64_exact) (λ item is. (due_small item.1 is.0.due, is.0.due))
    (λ due is. (record { key = fits.0; above = fits.1; due = is.1 }, refl)) (λ due. refl) (λ item is i. (is.1 i, item.1)))
