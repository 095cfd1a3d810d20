-- What a home in memory is after its parts changed.
use Rattle.std.proofs.Common.{◌≡◌, ℕ, ◌+◌, ◌<◌, ◌≤◌, true, false, not, if◌then◌else◌, nat_le, ◌^◌, List, [], ◌∷◌, length, refl, sym, ap, ◌∙◌, ◌⊎◌, inl, inr, arith, OnOk, OnErr, Result, Ok, Err}
use Rattle.std.proofs.lemmas.Bool.Decides.{nat_tests}
use Rattle.dk_types.specs.declared.side.Side.{Side}
use Rattle.dk_types.specs.declared.side.Side.TheVariants.{Zero, One}
use Rattle.dk_disk.specs.DiskHistories.{other_side}
use Rattle.dk_disk.specs.MemoryFiles.{File, Files, file_of, size_of, AreReserved, Takes}
use Rattle.dk_disk.specs.Step.{change_of, reads_after, step_size, IsWithin}
use Rattle.dk_disk.specs.declared.step.Step.{Step}
use Rattle.dk_disk.specs.UndoRecord.{Undo, Undos, HasSpare, IsSpared, IsPushed, undo_for}
use Rattle.dk_disk.specs.Unwinding.{Unwound, unwound}
use Rattle.dk_disk.specs.Opening.{HomeOpening, NotCalled, Refused, Opened, opening_of}
use Rattle.dk_types.specs.declared.fault.Failed.{Failed}
use Rattle.dk_types.specs.FaultPlan.{Plan, after_call, after_fault, counted_up, fails_next}
use Rattle.dk_disk.specs.Memory.{memory_of, next_call, HasRoom, IsReady, IsRecorded, IsRefused, IsRoomy, IsOpened, IsKeptOut, Opens, IsConsistent}
use Rattle.dk_disk.proofs.Unwindings.{joined, unwound_made, both_balance}

none : false ≡ true → ⊥
none e = cc

-- the room for calls falls by no more than so many
calls_left : (a b a' b' x y n : ℕ) → (a ≤ b → a' ≤ b') → x ≤ y + n → (if nat_le a b then x else 0) ≤ (if nat_le a' b' then y else 0) + n
calls_left a b a' b' x y n stays le = grind (arith, nat_tests)

-- where there is room for a call, the files' bytes have theirs
both_fit : (a b x : ℕ) → 1 ≤ (if nat_le a b then x else 0) → (a ≤ b) × (1 ≤ x)
both_fit a b x le = grind (arith, nat_tests)

-- the parts have the room that the home has
pub ready : (files : Files) (undos : Undos) (plan : Plan) (entrance : HomeOpening) (side : Side) (n : ℕ) → HasRoom (memory_of files undos plan entrance) n → IsReady files undos plan side n
ready files undos plan entrance side n has =
    let fit = both_fit (size_of files) undos.spare_bytes undos.spare_calls has.calls in
    record { place = place side; spare = record { calls_fit = fit.1; bytes_fit = omega (arith, has.bytes, fit.0) }; number = has.number }
  where
    place : (s : Side) → n ≤ (file_of files s).room
    place Zero = omega (arith, has.bytes)
    place One = omega (arith, has.bytes)

-- both files are as long as before
same_size : (files files' : Files) → AreReserved files files' → size_of files' ≡ size_of files
same_size files files' reserved = omega (arith, ap (λ (l : List ℕ). length l) (reserved Zero).reads, ap (λ (l : List ℕ). length l) (reserved One).reads)

-- the calls are taken back to the same
same_past : (files files' : Files) (undos undos' : Undos) → AreReserved files files' → IsSpared undos undos' → unwound undos'.undos files'.zero.reads files'.one.reads ≡ unwound undos.undos files.zero.reads files.one.reads
same_past files files' undos undos' reserved spared = λ i. unwound (spared.same i) ((reserved Zero).reads i) ((reserved One).reads i)

pub refused : (files files' : Files) (undos undos' : Undos) (plan : Plan) (entrance : HomeOpening) (side : Side) (n : ℕ) → AreReserved files files' → IsSpared undos undos' → (IsReady files undos plan side n → ⊥)
    → IsRefused (memory_of files undos plan entrance) (memory_of files' undos' (after_fault plan) entrance) n
refused files files' undos undos' plan entrance side n reserved spared lacks =
    let past = same_past files files' undos undos' reserved spared in
    let size = same_size files files' reserved in
    record {
      memory = λ i. record { zero = (past i).zero; one = (past i).one; calls = (past i).calls; plan = after_fault plan; opening = entrance.opening; open_fails = entrance.fails; room = (memory_of files' undos' (after_fault plan) entrance).room };
      calls = omega (arith, calls_left (size_of files) undos.spare_bytes (size_of files') undos'.spare_bytes undos.spare_calls undos'.spare_calls 0 (λ le. omega (arith, le, size, spared.bytes_fit)) (omega (arith, spared.calls_fit)));
      bytes = omega (arith, (reserved Zero).room, (reserved One).room, spared.bytes_fit, size);
      full = λ has. lacks (ready files undos plan entrance side n has);
    }

-- the record has no room for the call
pub lacks : {E : Type 0} (files files' : Files) (undos : Undos) (plan : Plan) (side : Side) (size n : ℕ) (r : Result (Unit {0}) E) → AreReserved files files' → size ≡ size_of files' → OnErr r (HasSpare undos 1 (size + n) → ⊥) → OnErr r (IsReady files undos plan side n → ⊥)
lacks files files' undos plan side size n (Ok u) reserved is none = tt
lacks files files' undos plan side size n (Err e) reserved is none = λ is_ready. none (record { calls_fit = is_ready.spare.calls_fit; bytes_fit = omega (arith, is_ready.spare.bytes_fit, is, same_size files files' reserved) })

-- both files' bytes and n more are counted by 64 bits
pub sum_fits : (files : Files) (side : Side) (n : ℕ) → ((s : Side) → length (file_of files s).reads < 2 ^ 63) → length (file_of files side).reads + n < 2 ^ 63 → size_of files + n < 2 ^ 64
sum_fits files Zero n small fits = omega (arith, small One, fits)
sum_fits files One n small fits = omega (arith, small Zero, fits)

-- a home whose parts have more room is as consistent
pub still_consistent : (files files' : Files) (undos undos' : Undos) (plan plan' : Plan) (entrance entrance' : HomeOpening) → AreReserved files files' → IsSpared undos undos' → plan'.calls ≡ plan.calls
    → IsConsistent (memory_of files undos plan entrance) files → IsConsistent (memory_of files' undos' plan' entrance') files'
still_consistent files files' undos undos' plan plan' entrance entrance' reserved spared calls is =
    let past = same_past files files' undos undos' reserved spared in
    record {
      numbered = rw (past, calls) is.numbered;
      reads = λ s. (reserved s).reads ∙ rw (past, calls) (is.reads s);
    }

pub recorded : (files files1 files2 : Files) (undos undos1 undos2 : Undos) (plan : Plan) (entrance : HomeOpening) (side : Side) (s : Step) → AreReserved files files1 → IsSpared undos undos1 → IsReady files1 undos1 plan side (step_size s)
    → IsWithin s (file_of files1 side).reads → ((t : Side) → Takes (file_of files1 t) (file_of files2 t) (step_size s))
    → IsPushed undos1 undos2 (undo_for (counted_up plan.calls) side s (not (fails_next plan)) (file_of files1 side).reads)
    → (file_of files2 side).reads ≡ (if fails_next plan then (file_of files1 side).reads else reads_after s (file_of files1 side).reads) → file_of files2 (other_side side) ≡ file_of files1 (other_side side)
    → IsRecorded (memory_of files undos plan entrance) (memory_of files2 undos2 (after_call plan) entrance) side (change_of s) (step_size s)
recorded files files1 files2 undos undos1 undos2 plan entrance side s reserved spared is_ready within takes pushed this other =
    let other_reads : (file_of files2 (other_side side)).reads ≡ (file_of files1 (other_side side)).reads = ap (λ (f : File). f.reads) other in
    let past : unwound undos2.undos files2.zero.reads files2.one.reads ≡ joined (unwound undos.undos files.zero.reads files.one.reads) (next_call plan side (change_of s) ∷ []) =
    ap (λ (us : List Undo). unwound us files2.zero.reads files2.one.reads) pushed.pushed
    ∙ unwound_made undos1.undos (counted_up plan.calls) side s (fails_next plan) files1 files2 within this other_reads
    ∙ ap (λ (p : Unwound). joined p (next_call plan side (change_of s) ∷ [])) (same_past files files1 undos undos1 reserved spared) in
    let size = same_size files files1 reserved in
    let grown = both_balance side s (fails_next plan) files1 files2 within this other_reads in
    record {
      memory = λ i. record { zero = (past i).zero; one = (past i).one; calls = (past i).calls; plan = after_call plan; opening = entrance.opening; open_fails = entrance.fails; room = (memory_of files2 undos2 (after_call plan) entrance).room };
      calls = calls_left (size_of files) undos.spare_bytes (size_of files2) undos2.spare_bytes undos.spare_calls undos2.spare_calls 1 (λ _. omega (arith, grown, pushed.bytes_left, is_ready.spare.bytes_fit)) (omega (arith, spared.calls_fit, pushed.calls_left));
      bytes = omega (arith, (reserved Zero).room, (reserved One).room, takes Zero, takes One, spared.bytes_fit, pushed.bytes_left, grown, size);
      number = is_ready.number;
    }

-- room that was made
pub has_room : (files files' : Files) (undos undos' : Undos) (plan : Plan) (entrance entrance' : HomeOpening) → AreReserved files files' → IsSpared undos undos' → entrance'.opening ≡ entrance.opening → entrance'.fails ≡ entrance.fails → entrance.room ≤ entrance'.room
    → IsRoomy (memory_of files undos plan entrance) (memory_of files' undos' plan entrance')
has_room files files' undos undos' plan entrance entrance' reserved spared opening fails room =
    let past = same_past files files' undos undos' reserved spared in
    let size = same_size files files' reserved in
    record {
      memory = λ i. record { zero = (past i).zero; one = (past i).one; calls = (past i).calls; plan = plan; opening = opening i; open_fails = fails i; room = (memory_of files' undos' plan entrance').room };
      calls = omega (arith, calls_left (size_of files) undos.spare_bytes (size_of files') undos'.spare_bytes undos.spare_calls undos'.spare_calls 0 (λ le. omega (arith, le, size, spared.bytes_fit)) (omega (arith, spared.calls_fit)));
      bytes = omega (arith, (reserved Zero).room, (reserved One).room, spared.bytes_fit, room, size);
    }

-- with another count of faults
recounted : (plan plan' : Plan) → (plan'.failing ≡ plan.failing) × (plan'.calls ≡ plan.calls) → plan' ≡ record { failing = plan.failing; calls = plan.calls; faults = plan'.faults }
recounted plan plan' kept = λ i. record { failing = kept.0 i; calls = kept.1 i; faults = plan'.faults }

module _ (files : Files) (undos : Undos) (plan plan' : Plan) (entrance entrance' : HomeOpening) (dir : List ℕ) (kept : (plan'.failing ≡ plan.failing) × (plan'.calls ≡ plan.calls)) (fails : entrance'.fails ≡ entrance.fails) where
  -- the folder's name was kept
  opened : entrance'.opening ≡ opening_of true (not entrance.fails) dir → entrance.room ≤ entrance'.room + length dir → IsOpened (memory_of files undos plan entrance) (memory_of files undos plan' entrance') dir
  opened opening room = record {
    memory = λ i. record { zero = (memory_of files undos plan entrance).zero; one = (memory_of files undos plan entrance).one; calls = (memory_of files undos plan entrance).calls; plan = recounted plan plan' kept i; opening = opening i; open_fails = fails i; room = (memory_of files undos plan' entrance').room };
    calls = omega arith;
    bytes = omega (arith, room);
  }

  -- there was no room for it
  kept_out : entrance'.opening ≡ entrance.opening → entrance.room < length dir → entrance.room ≤ entrance'.room → IsKeptOut (memory_of files undos plan entrance) (memory_of files undos plan' entrance') dir
  kept_out opening full room = record {
    memory = λ i. record { zero = (memory_of files undos plan entrance).zero; one = (memory_of files undos plan entrance).one; calls = (memory_of files undos plan entrance).calls; plan = recounted plan plan' kept i; opening = opening i; open_fails = fails i; room = (memory_of files undos plan' entrance').room };
    calls = omega arith;
    bytes = omega (arith, room);
    full = omega (arith, full);
  }

  -- what came of an opening
  pub opens : (outcome : Result (Unit {0}) Failed) → entrance.opening ≡ NotCalled → entrance.room ≤ entrance'.room + length dir
      → OnOk outcome ((entrance'.opening ≡ Opened dir) × (entrance.fails ≡ false))
      → OnErr outcome (((entrance'.opening ≡ Refused dir) × (entrance.fails ≡ true)) ⊎ ((entrance'.opening ≡ NotCalled) × (entrance.room < length dir) × (entrance.room ≤ entrance'.room)))
      → Opens (memory_of files undos plan entrance) (memory_of files undos plan' entrance') dir outcome
  opens (Ok u) uncalled room ok err = inl (opened (ok.0 ∙ ap (λ b. opening_of true (not b) dir) (sym ok.1)) room, (λ e. cc, λ t. absurd (none (sym ok.1 ∙ t))))
  opens (Err e) uncalled room ok err =
      elim err [
        | inl p ↦ inl (opened (p.0 ∙ ap (λ b. opening_of true (not b) dir) (sym p.1)) room, (λ _. p.1, λ _. refl))
        | inr p ↦ inr (kept_out (p.0 ∙ sym uncalled) p.1 p.2, refl)
      ]
