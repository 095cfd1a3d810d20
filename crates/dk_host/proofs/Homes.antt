-- The home of a store is the one that was handed in, over each call that writes.
use Rattle.std.proofs.Common.{◌≡◌, ◌≤◌, ℕ, Option, None, Some, Result, Ok, Err, OnOk, IfErr, IsErrOf, inl, inr, refl, sym, subst, ◌∙◌, arith}
use Rattle.dk_types.specs.Faults.{HasRisen}
use Rattle.dk_types.specs.declared.side.Side.{Side}
use Rattle.dk_disk.specs.Opening.{Opening}
use Rattle.dk_journal.specs.declared.journal.Journal.{Journal}
use Rattle.dk_journal.specs.declared.refused.JournalRefused.{JournalRefused}
use Rattle.dk_journal.specs.declared.refused.JournalRefused.TheVariants as journal_refused
use Rattle.dk_journal.specs.Refusals.{IsAppendFault}
use Rattle.dk_checkpoint.specs.declared.refused.CheckpointRefused.{CheckpointRefused as NotWritten}
use Rattle.dk_checkpoint.specs.declared.refused.CheckpointRefused.TheVariants as not_written
use Rattle.dk_commit_log.specs.declared.refused.LogRefused.{LogRefused}
use Rattle.dk_commit_log.specs.declared.refused.LogRefused.TheVariants as log
use Rattle.dk_host.specs.Checkpoints.{faults_after as stopped_after}
use Rattle.dk_host.specs.Stores.{IsSameHome, faults_after}

-- whether it is stopped is told otherwise
pub as_stopped : {begun : ℕ} {was : Opening} {now : ℕ} {opening : Opening} (v w : Option ℕ) → v ≡ w → IsSameHome begun was v now opening → IsSameHome begun was w now opening
as_stopped {begun = begun} {was = was} {now = now} {opening = opening} v w same h = subst (λ (x : Option ℕ). IsSameHome begun was x now opening) same h

module _ (begun : ℕ) (was : Opening) (old new n : ℕ) (opens opens_after : Opening) (h : IsSameHome begun was None old opens) (opening : opens_after ≡ opens) where
  -- the count stayed
  stayed : new ≡ old → IsSameHome begun was None new opens_after
  stayed same = record { counts = subst (λ (x : ℕ). begun ≤ x) (sym same) h.counts; same = opening ∙ h.same }

  -- the count rose, and the store is stopped
  rose : HasRisen old new → IsSameHome begun was (Some n) new opens_after
  rose risen = record { counts = (old, (h.counts, risen)); same = opening ∙ h.same }

  -- whatever the journal answered to an append
  pub appended_home : (r : Result (Unit {0}) JournalRefused) → OnOk r (new ≡ old) → (IsErrOf r journal_refused.DiskFault → HasRisen old new) → ((m : ℕ) → IsErrOf r (journal_refused.Full m) → new ≡ old) → IfErr r IsAppendFault
      → IsSameHome begun was (faults_after r n) new opens_after
  appended_home (Ok x) steady cause untouched only = stayed steady
  appended_home (Err journal_refused.DiskFault) steady cause untouched only = rose (cause refl)
  appended_home (Err (journal_refused.Full m)) steady cause untouched only = stayed (untouched m refl)
  appended_home (Err (journal_refused.NotAStore at)) steady cause untouched only = absurd only
  appended_home (Err (journal_refused.Damaged at)) steady cause untouched only = absurd only
  appended_home (Err journal_refused.NoMemory) steady cause untouched only = absurd only

  -- whatever a checkpoint answered
  pub rewritten_home : (r : Result (Journal × Side) NotWritten) → (IsErrOf r not_written.DiskFault → HasRisen old new) → ((IsErrOf r not_written.DiskFault → ⊥) → new ≡ old) → IsSameHome begun was (stopped_after r n) new opens_after
  rewritten_home (Ok made) cause steady = stayed (steady (λ no. absurd cc))
  rewritten_home (Err not_written.DiskFault) cause steady = rose (cause refl)
  rewritten_home (Err (not_written.TooLarge m)) cause steady = stayed (steady (λ no. absurd cc))
  rewritten_home (Err (not_written.EpochEnd m)) cause steady = stayed (steady (λ no. absurd cc))
  rewritten_home (Err not_written.NoMemory) cause steady = stayed (steady (λ no. absurd cc))

-- a count that rose is no less
no_less : (begun old new : ℕ) → begun ≤ old → HasRisen old new → begun ≤ new
no_less begun old new le (inl more) = omega (arith, le, more)
no_less begun old new le (inr ends) = subst (λ (n : ℕ). begun ≤ n) (ends.0 ∙ sym ends.1) le

-- whatever came of reading the log of a store that runs
module _ (begun : ℕ) (was : Opening) (old new : ℕ) (opens opens_after : Opening) (h : IsSameHome begun was None old opens) (opening : opens_after ≡ opens) where
  read_on : begun ≤ new → IsSameHome begun was None new opens_after
  read_on le = record { counts = le; same = opening ∙ h.same }

  pub read_home : {A : Type 0} (r : Result A LogRefused) → (IsErrOf r log.DiskFault → HasRisen old new) → ((IsErrOf r log.DiskFault → ⊥) → new ≡ old) → IsSameHome begun was None new opens_after
  read_home (Ok x) cause steady = read_on (subst (λ (n : ℕ). begun ≤ n) (sym (steady (λ no. absurd cc))) h.counts)
  read_home (Err log.DiskFault) cause steady = read_on (no_less begun old new h.counts (cause refl))
  read_home (Err log.NoMemory) cause steady = read_on (subst (λ (n : ℕ). begun ≤ n) (sym (steady (λ no. absurd cc))) h.counts)
  read_home (Err (log.Damaged at)) cause steady = read_on (subst (λ (n : ℕ). begun ≤ n) (sym (steady (λ no. absurd cc))) h.counts)
