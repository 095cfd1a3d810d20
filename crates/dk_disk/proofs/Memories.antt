-- The moments of a home in memory after a call.
use Rattle.std.proofs.Common.{◌≡◌, ◌⊎◌, inl, inr, ℕ, List, ◌+◌, ◌≤◌, Bool, true, false, not, refl, sym, ◌∙◌, ap, arith, ◌↔◌, IsTrue, IsErr, OnOk, OnErr, MatchResult, Result, Ok, Err}
use Rattle.dk_types.specs.declared.side.Side.{Side}
use Rattle.dk_types.specs.declared.side.Side.TheVariants.{Zero, One}
use Rattle.dk_types.specs.declared.fault.Failed.{Failed}
use Rattle.dk_disk.specs.Disk.{Disk, IsImage, settled}
use Rattle.dk_disk.specs.DiskHistories.{now, other_side, Elapses, Stays, Becomes}
use Rattle.dk_disk.specs.MemoryFiles.{Files}
use Rattle.dk_types.specs.FaultPlan.{fails_next, counted_up}
use Rattle.dk_disk.specs.Record.{Call, Change, AreUpTo, changed, made, failed, after_one}
use Rattle.dk_disk.specs.Memory.{Memory, past_of, first_of, next_call, looked, IsRecorded, IsRefused, Changes, IsConsistent, Opens}
use Rattle.dk_disk.proofs.Images.{settled_image}
use Rattle.dk_disk.proofs.Replays.{replayed_image, replayed_push, replayed_beyond, one_later, one_came, one_other, up_to_more, up_to_push, Fits, changed_made, changed_failed}

-- what a read gives is an image at every moment
pub read_image : (memory : Memory) (t : ℕ) (side : Side) → IsImage ((past_of memory).disks t side) ((past_of memory).disks t side).reads
read_image memory t side = replayed_image t side memory.calls (settled (first_of memory.zero memory.one side)) (settled_image (first_of memory.zero memory.one side))

-- the files are the same at every moment, and the clock may have gone on
same_elapses : (old new : Memory) → ((t : ℕ) (s : Side) → (past_of new).disks t s ≡ (past_of old).disks t s) → old.plan.calls ≤ new.plan.calls → AreUpTo old.plan.calls old.calls → Elapses (past_of old) (past_of new) × Stays (past_of old) (past_of new)
same_elapses old new same later up = (
  record {
    later = later;
    kept = λ t s le. same t s;
    since = λ t s lt le. same t s ∙ beyond t s (omega (arith, lt)) ∙ sym (beyond new.plan.calls s later) ∙ sym (same new.plan.calls s);
    image = λ s. read_image new new.plan.calls s;
  },
  λ s. same new.plan.calls s ∙ beyond new.plan.calls s later,
)
  where
    beyond : (t : ℕ) (s : Side) → old.plan.calls ≤ t → (past_of old).disks t s ≡ now (past_of old) s
    beyond t s le = replayed_beyond old.plan.calls t s old.calls (settled (first_of old.zero old.one s)) le up

pub refused_elapses : (old new : Memory) (n : ℕ) → IsRefused old new n → AreUpTo old.plan.calls old.calls → Elapses (past_of old) (past_of new) × Stays (past_of old) (past_of new)
refused_elapses old new n is up =
    same_elapses old new (λ t s. rw (ap (λ (m : Memory). m.zero) is.memory, ap (λ (m : Memory). m.one) is.memory, ap (λ (m : Memory). m.calls) is.memory) refl) (rw (ap (λ (m : Memory). m.plan.calls) is.memory) (omega arith)) up

pub opens_elapses : (old new : Memory) (dir : List ℕ) (result : Result (Unit {0}) Failed) → Opens old new dir result → AreUpTo old.plan.calls old.calls → Elapses (past_of old) (past_of new) × Stays (past_of old) (past_of new)
opens_elapses old new dir result opens up =
    elim opens [
      | inl p ↦ same_elapses old new (λ t s. rw (ap (λ (m : Memory). m.zero) p.0.memory, ap (λ (m : Memory). m.one) p.0.memory, ap (λ (m : Memory). m.calls) p.0.memory) refl) (omega (arith, ap (λ (m : Memory). m.plan.calls) p.0.memory)) up
      | inr p ↦ same_elapses old new (λ t s. rw (ap (λ (m : Memory). m.zero) p.0.memory, ap (λ (m : Memory). m.one) p.0.memory, ap (λ (m : Memory). m.calls) p.0.memory) refl) (omega (arith, ap (λ (m : Memory). m.plan.calls) p.0.memory)) up
    ]

pub looked_elapses : (old : Memory) → old.plan.calls ≤ counted_up old.plan.calls → AreUpTo old.plan.calls old.calls → Elapses (past_of old) (past_of (looked old)) × Stays (past_of old) (past_of (looked old))
looked_elapses old later up = same_elapses old (looked old) (λ t s. refl) later up

pub looked_consistent : (old : Memory) (files : Files) → old.plan.calls ≤ counted_up old.plan.calls → IsConsistent old files → IsConsistent (looked old) files
looked_consistent old files later is = record {
  numbered = up_to_more old.plan.calls (counted_up old.plan.calls) old.calls later is.numbered;
  reads = λ s. is.reads s ∙ ap (λ (d : Disk). d.reads) (sym ((looked_elapses old later is.numbered).1 s));
}

module _ (old new : Memory) (side : Side) (change : Change) (n : ℕ) (is : IsRecorded old new side change n) (up : AreUpTo old.plan.calls old.calls) where
  call : Call
  call = next_call old.plan side change

  clock_is : new.plan.calls ≡ old.plan.calls + 1
  clock_is = ap (λ (m : Memory). m.plan.calls) is.memory ∙ omega (arith, is.number)

  disks_are : (t : ℕ) (s : Side) → (past_of new).disks t s ≡ after_one t s (next_call old.plan side change) ((past_of old).disks t s)
  disks_are t s = rw (ap (λ (m : Memory). m.zero) is.memory, ap (λ (m : Memory). m.one) is.memory, ap (λ (m : Memory). m.calls) is.memory) (replayed_push t s old.calls (next_call old.plan side change) (settled (first_of old.zero old.one s)))

  now_is : (s : Side) → now (past_of new) s ≡ after_one new.plan.calls s (next_call old.plan side change) (now (past_of old) s)
  now_is s = disks_are new.plan.calls s ∙ ap (after_one new.plan.calls s (next_call old.plan side change)) (replayed_beyond old.plan.calls new.plan.calls s old.calls (settled (first_of old.zero old.one s)) (omega (arith, clock_is)) up)

  came : (next_call old.plan side change).number ≤ new.plan.calls
  came = omega (arith, clock_is)

  pub recorded_becomes : Becomes side (changed change (not (fails_next old.plan)) (now (past_of old) side)) (past_of old) (past_of new)
  recorded_becomes = record {
    this = now_is side ∙ one_came new.plan.calls side (next_call old.plan side change) (now (past_of old) side) came refl;
    other = now_is (other_side side) ∙ one_other new.plan.calls (other_side side) (next_call old.plan side change) (now (past_of old) (other_side side)) (twice side);
  }
    where
      twice : (s : Side) → s ≡ other_side (other_side s)
      twice Zero = refl
      twice One = refl

  pub recorded_elapses : Elapses (past_of old) (past_of new)
  recorded_elapses = record {
    later = omega (arith, clock_is);
    kept = λ t s le. disks_are t s ∙ one_later t s (next_call old.plan side change) ((past_of old).disks t s) (omega (arith, le, is.number));
    since = λ t s lt le. ap (λ k. (past_of new).disks k s) (omega (arith, lt, le, clock_is));
    image = λ s. read_image new new.plan.calls s;
  }

  pub recorded_up_to : AreUpTo new.plan.calls new.calls
  recorded_up_to = rw (ap (λ (m : Memory). m.calls) is.memory) (up_to_push new.plan.calls old.calls (next_call old.plan side change) (up_to_more old.plan.calls new.plan.calls old.calls (omega (arith, clock_is)) up) came)

none : false ≡ true → ⊥
none e = cc

-- what the call's outcome says of the file
fails_as : (b : Bool) (r : Result (Unit {0}) Failed) → (IsErr r ↔ IsTrue b) → MatchResult r (λ _. not b ≡ true) (λ _. not b ≡ false)
fails_as true (Ok x) is = absurd (none (is.1 refl))
fails_as true (Err e) is = refl
fails_as false (Ok x) is = refl
fails_as false (Err e) is = absurd (none (is.0 refl))

pub changes_elapses : (old new : Memory) (side : Side) (change : Change) (n : ℕ) (r : Result (Unit {0}) Failed) → Changes old new side change n r → AreUpTo old.plan.calls old.calls → Elapses (past_of old) (past_of new)
changes_elapses old new side change n r (inl done) up = recorded_elapses old new side change n done.0 up
changes_elapses old new side change n r (inr refused) up = (refused_elapses old new n refused.0 up).0

pub changes_done : (old new : Memory) (side : Side) (change : Change) (n : ℕ) (r : Result (Unit {0}) Failed) → Changes old new side change n r → AreUpTo old.plan.calls old.calls → Fits change (now (past_of old) side) → OnOk r (Becomes side (made change (now (past_of old) side)) (past_of old) (past_of new))
changes_done old new side change n (Ok x) (inl done) up fits = rw (← changed_made change (now (past_of old) side) fits, ← fails_as (fails_next old.plan) (Ok x) done.1) (recorded_becomes old new side change n done.0 up)
changes_done old new side change n (Ok x) (inr refused) up fits = absurd (none refused.1)
changes_done old new side change n (Err e) changes up fits = tt

pub changes_failed : (old new : Memory) (side : Side) (change : Change) (n : ℕ) (r : Result (Unit {0}) Failed) → Changes old new side change n r → AreUpTo old.plan.calls old.calls → OnErr r (Stays (past_of old) (past_of new) ⊎ Becomes side (failed change (now (past_of old) side)) (past_of old) (past_of new))
changes_failed old new side change n (Ok x) changes up = tt
changes_failed old new side change n (Err e) (inl done) up = inr (rw (← changed_failed change (now (past_of old) side), ← fails_as (fails_next old.plan) (Err e) done.1) (recorded_becomes old new side change n done.0 up))
changes_failed old new side change n (Err e) (inr refused) up = inl (refused_elapses old new n refused.0 up).1
