-- How a run of calls on one file goes on.
use Rattle.std.proofs.Common.{◌≡◌, ◌⊎◌, inl, inr, ⊎_elim, ℕ, ◌<◌, ◌≤◌, refl, sym, ◌∙◌, ap, subst, arith}
use Rattle.std.proofs.lemmas.Bool.{cases_lt}
use Rattle.dk_types.specs.declared.side.Side.{Side}
use Rattle.dk_disk.specs.Disk.{Disk}
use Rattle.dk_disk.specs.DiskHistories.{DiskHistory, now, other_side, Elapses, Stays}
use Rattle.dk_journal.specs.Moments.{Runs, Looks}

-- a moment is one of before the call, or has what there is now
at_moment : (old new : DiskHistory) (t : ℕ) (s : Side) → Elapses old new → t ≤ new.clock → ((t ≤ old.clock) × (new.disks t s ≡ old.disks t s)) ⊎ ((old.clock < t) × (new.disks t s ≡ now new s))
at_moment old new t s time le = ⊎_elim (λ lt. inr (lt, time.since t s lt le)) (λ before. inl (before, time.kept t s before)) (cases_lt old.clock t)

pub begun : (side : Side) (P : Disk → Type 0) (past : DiskHistory) → P (now past side) → Runs side P past past
begun side P past here = record {
  later = omega arith;
  kept = λ t s le. refl;
  other = λ t from to. ap (λ k. past.disks k (other_side side)) (omega (arith, from, to));
  each = λ t from to. let e : past.clock ≡ t = omega (arith, from, to) in subst (λ k. P (past.disks k side)) e here;
}

-- one call more
pub goes_on : (side : Side) (P : Disk → Type 0) (old mid new : DiskHistory) → Runs side P old mid → Elapses mid new → P (now new side) → now new (other_side side) ≡ now mid (other_side side) → Runs side P old new
goes_on side P old mid new so_far time here same = record {
  later = omega (arith, so_far.later, time.later);
  kept = λ t s le. time.kept t s (omega (arith, le, so_far.later)) ∙ so_far.kept t s le;
  other = λ t from to. ⊎_elim
      (λ (before : (t ≤ mid.clock) × (new.disks t (other_side side) ≡ mid.disks t (other_side side))). before.1 ∙ so_far.other t from before.0)
      (λ (since : (mid.clock < t) × (new.disks t (other_side side) ≡ now new (other_side side))). since.1 ∙ same ∙ so_far.other mid.clock so_far.later (omega arith))
      (at_moment mid new t (other_side side) time to);
  each = λ t from to. ⊎_elim
      (λ (before : (t ≤ mid.clock) × (new.disks t side ≡ mid.disks t side)). subst P (sym before.1) (so_far.each t from before.0))
      (λ (since : (mid.clock < t) × (new.disks t side ≡ now new side)). subst P (sym since.1) here)
      (at_moment mid new t side time to);
}

-- one run and then another
pub goes_further : (side : Side) (P : Disk → Type 0) (old mid new : DiskHistory) → Runs side P old mid → Runs side P mid new → Runs side P old new
goes_further side P old mid new first second = record {
  later = omega (arith, first.later, second.later);
  kept = λ t s le. second.kept t s (omega (arith, le, first.later)) ∙ first.kept t s le;
  other = λ t from to. ⊎_elim
      (λ after. second.other t (omega (arith, after)) to ∙ first.other mid.clock first.later (omega arith))
      (λ before. second.kept t (other_side side) before ∙ first.other t from before)
      (cases_lt mid.clock t);
  each = λ t from to. ⊎_elim
      (λ after. second.each t (omega (arith, after)) to)
      (λ before. subst P (sym (second.kept t side before)) (first.each t from before))
      (cases_lt mid.clock t);
}

pub weakened : (side : Side) (P Q : Disk → Type 0) (old new : DiskHistory) → ((d : Disk) → P d → Q d) → Runs side P old new → Runs side Q old new
weakened side P Q old new to run = record { later = run.later; kept = run.kept; other = run.other; each = λ t from le. to (new.disks t side) (run.each t from le) }

-- a call that leaves both files
pub looks_once : (old new : DiskHistory) → Elapses old new → Stays old new → Looks old new
looks_once old new time same = record {
  later = time.later;
  kept = time.kept;
  each = λ t s from to. ⊎_elim
      (λ (before : (t ≤ old.clock) × (new.disks t s ≡ old.disks t s)). before.1 ∙ ap (λ k. old.disks k s) (omega (arith, from, before.0)))
      (λ (since : (old.clock < t) × (new.disks t s ≡ now new s)). since.1 ∙ same s)
      (at_moment old new t s time to);
}

pub looks_on : (old mid new : DiskHistory) → Looks old mid → Looks mid new → Looks old new
looks_on old mid new first second = record {
  later = omega (arith, first.later, second.later);
  kept = λ t s le. second.kept t s (omega (arith, le, first.later)) ∙ first.kept t s le;
  each = λ t s from to. ⊎_elim
      (λ after. second.each t s (omega (arith, after)) to ∙ first.each mid.clock s first.later (omega arith))
      (λ before. second.kept t s before ∙ first.each t s from before)
      (cases_lt mid.clock t);
}

pub looks_now : (old new : DiskHistory) → Looks old new → (s : Side) → now new s ≡ now old s
looks_now old new looks s = looks.each new.clock s looks.later (omega arith)

-- calls that only look, behind a run
pub looked_runs : (side : Side) (P : Disk → Type 0) (old mid new : DiskHistory) → Runs side P old mid → Looks mid new → Runs side P old new
looked_runs side P old mid new run looks = record {
  later = omega (arith, run.later, looks.later);
  kept = λ t s le. looks.kept t s (omega (arith, le, run.later)) ∙ run.kept t s le;
  other = λ t from to. ⊎_elim
      (λ after. looks.each t (other_side side) (omega (arith, after)) to ∙ run.other mid.clock run.later (omega arith))
      (λ before. looks.kept t (other_side side) before ∙ run.other t from before)
      (cases_lt mid.clock t);
  each = λ t from to. ⊎_elim
      (λ after. subst P (sym (looks.each t side (omega (arith, after)) to)) (run.each mid.clock run.later (omega arith)))
      (λ before. subst P (sym (looks.kept t side before)) (run.each t from before))
      (cases_lt mid.clock t);
}
