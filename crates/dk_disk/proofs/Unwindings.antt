-- The calls that were taken back last go before those that were taken back already, and a call that was just made is taken back.
use Rattle.std.proofs.Common.{◌≡◌, ℕ, ◌+◌, ◌≤◌, Bool, true, false, not, if◌then◌else◌, List, [], ◌∷◌, ◌++◌, length, take, drop, refl, sym, ◌∙◌, ap, arith, ◌-◌, ◌<◌, Some, slice_get}
use Rattle.std.proofs.lemmas.List.{append_assoc, append-nil, take-append-drop, length-take, length-drop, take_more, take_all}
use Rattle.std.proofs.lemmas.Option.{slice_get_within, get_or_from_slice_get}
use Rattle.std.proofs.Math.Seq.{drop-append_seam, take-append_seam, take-add}
use Rattle.dk_types.specs.declared.side.Side.{Side}
use Rattle.dk_types.specs.declared.side.Side.TheVariants.{Zero, One}
use Rattle.dk_disk.specs.Disk.{overwritten}
use Rattle.dk_disk.specs.DiskHistories.{other_side}
use Rattle.dk_disk.specs.MemoryFiles.{Files, file_of, size_of}
use Rattle.dk_disk.specs.Record.{Call, Write}
use Rattle.dk_disk.specs.Step.{change_of, reads_after, step_size, IsWithin}
use Rattle.dk_disk.specs.declared.step.Step.{Step}
use Rattle.dk_disk.specs.declared.step.Step.TheVariants as step
use Rattle.dk_disk.specs.UndoRecord.{Undo, undo_for, traced, kept_of}
use Rattle.dk_disk.specs.Unwinding.{Unwound, undone, change_behind, before, unwound}
use Rattle.dk_disk.proofs.Images.{overwritten_length}

-- these calls behind the others
abbrev pub joined : Unwound → List Call → Unwound
joined past calls = record { zero = past.zero; one = past.one; calls = past.calls ++ calls }

before_joined : (side : Side) (undo : Undo) (past : Unwound) (calls : List Call) → joined (before side undo past) calls ≡ before side undo (joined past calls)
before_joined Zero undo past calls = refl
before_joined One undo past calls = refl

last_joined : (side : Side) (undo : Undo) (zero one : List ℕ) (calls : List Call)
    → joined (before side undo (record { zero = zero; one = one; calls = [] })) calls ≡ before side undo (record { zero = zero; one = one; calls = calls })
last_joined Zero undo zero one calls = refl
last_joined One undo zero one calls = refl

-- the last call is taken back first
pub unwound_push : (undos : List Undo) (undo : Undo) (past : Unwound)
    → joined (unwound (undos ++ undo ∷ []) past.zero past.one) past.calls ≡ joined (unwound undos (before undo.side undo past).zero (before undo.side undo past).one) (before undo.side undo past).calls
unwound_push [] undo past = last_joined undo.side undo past.zero past.one past.calls
unwound_push (u ∷ us) undo past =
    before_joined u.side u (unwound (us ++ undo ∷ []) past.zero past.one) past.calls
    ∙ ap (λ (p : Unwound). before u.side u p) (unwound_push us undo past)
    ∙ sym (before_joined u.side u (unwound us (before undo.side undo past).zero (before undo.side undo past).one) (before undo.side undo past).calls)

-- nothing behind the others
pub joined_none : (past : Unwound) → joined past [] ≡ past
joined_none past = λ i. record { zero = past.zero; one = past.one; calls = append-nil past.calls i }

seam_take : (n : ℕ) (xs ys : List ℕ) → length xs ≡ n → take n (xs ++ ys) ≡ xs
seam_take n xs ys is = ap (λ (k : ℕ). take k (xs ++ ys)) (sym is) ∙ take-append_seam xs ys

seam_drop : (n : ℕ) (xs ys : List ℕ) → length xs ≡ n → drop n (xs ++ ys) ≡ ys
seam_drop n xs ys is = ap (λ (k : ℕ). drop k (xs ++ ys)) (sym is) ∙ drop-append_seam xs ys

module _ (at : ℕ) (bytes file : List ℕ) (le : at ≤ length file) where
  front : length (take at file) ≡ at
  front = omega (arith, length-take at file, le)

  abbrev rest : List ℕ
  rest = drop (at + length bytes) file

  parts : overwritten at bytes file ≡ take at file ++ (bytes ++ rest)
  parts = append_assoc (take at file) bytes rest

  behind : drop at (overwritten at bytes file) ≡ bytes ++ rest
  behind = ap (drop at) parts ∙ seam_drop at (take at file) (bytes ++ rest) front

  written : take (length bytes) (drop at (overwritten at bytes file)) ≡ bytes
  written = ap (take (length bytes)) behind ∙ take-append_seam bytes rest

  unwritten : take at (overwritten at bytes file) ++ take (length bytes) (drop at file) ++ drop (length bytes) (drop at (overwritten at bytes file)) ≡ file
  unwritten =
      ap (λ (l : List ℕ). l ++ take (length bytes) (drop at file) ++ drop (length bytes) (drop at (overwritten at bytes file))) (ap (take at) parts ∙ seam_take at (take at file) (bytes ++ rest) front)
      ∙ ap (λ (l : List ℕ). take at file ++ take (length bytes) (drop at file) ++ l) (ap (drop (length bytes)) behind ∙ drop-append_seam bytes rest)
      ∙ ap (λ (l : List ℕ). l ++ rest) (sym (take-add at (length bytes) file))
      ∙ take-append-drop (at + length bytes) file

-- a call that was just made is taken back from the file
undone_is : (s : Step) (fails : Bool) (file : List ℕ) → IsWithin s file → undone (traced s) (not fails) (kept_of s (not fails) file) (if fails then file else reads_after s file) ≡ file
undone_is (step.Write at bytes) true file within = refl
undone_is (step.Write at bytes) false file within = unwritten at bytes.now file within
undone_is (step.Cut to) true file within = append-nil file
undone_is (step.Cut to) false file within = take-append-drop to file
undone_is step.Sync true file within = refl
undone_is step.Sync false file within = refl

-- what it did is read from the file
change_is : (s : Step) (fails : Bool) (file : List ℕ) → IsWithin s file → change_behind (traced s) (not fails) (kept_of s (not fails) file) (if fails then file else reads_after s file) ≡ change_of s
change_is (step.Write at bytes) true file within = refl
change_is (step.Write at bytes) false file within = ap (Write at) (written at bytes.now file within)
change_is (step.Cut to) true file within = refl
change_is (step.Cut to) false file within = refl
change_is step.Sync true file within = refl
change_is step.Sync false file within = refl

-- the call of this number
abbrev call_for : ℕ → Side → Step → Bool → Call
call_for number side s fails = record { number = number; side = side; change = change_of s; is_made = not fails }

pub before_is : (number : ℕ) (side : Side) (s : Step) (fails : Bool) (old new : Files) → IsWithin s (file_of old side).reads
    → (file_of new side).reads ≡ (if fails then (file_of old side).reads else reads_after s (file_of old side).reads) → (file_of new (other_side side)).reads ≡ (file_of old (other_side side)).reads
    → before side (undo_for number side s (not fails) (file_of old side).reads) (record { zero = new.zero.reads; one = new.one.reads; calls = [] }) ≡ record { zero = old.zero.reads; one = old.one.reads; calls = call_for number side s fails ∷ [] }
before_is number Zero s fails old new within this other = λ i. record {
  zero = (ap (undone (traced s) (not fails) (kept_of s (not fails) old.zero.reads)) this ∙ undone_is s fails old.zero.reads within) i;
  one = other i;
  calls = record { number = number; side = Zero; change = (ap (change_behind (traced s) (not fails) (kept_of s (not fails) old.zero.reads)) this ∙ change_is s fails old.zero.reads within) i; is_made = not fails } ∷ [];
}
before_is number One s fails old new within this other = λ i. record {
  zero = other i;
  one = (ap (undone (traced s) (not fails) (kept_of s (not fails) old.one.reads)) this ∙ undone_is s fails old.one.reads within) i;
  calls = record { number = number; side = One; change = (ap (change_behind (traced s) (not fails) (kept_of s (not fails) old.one.reads)) this ∙ change_is s fails old.one.reads within) i; is_made = not fails } ∷ [];
}

-- one call more, which stands last
pub unwound_made : (undos : List Undo) (number : ℕ) (side : Side) (s : Step) (fails : Bool) (old new : Files) → IsWithin s (file_of old side).reads
    → (file_of new side).reads ≡ (if fails then (file_of old side).reads else reads_after s (file_of old side).reads) → (file_of new (other_side side)).reads ≡ (file_of old (other_side side)).reads
    → unwound (undos ++ undo_for number side s (not fails) (file_of old side).reads ∷ []) new.zero.reads new.one.reads ≡ joined (unwound undos old.zero.reads old.one.reads) (call_for number side s fails ∷ [])
unwound_made undos number side s fails old new within this other =
    sym (joined_none (unwound (undos ++ undo_for number side s (not fails) (file_of old side).reads ∷ []) new.zero.reads new.one.reads))
    ∙ unwound_push undos (undo_for number side s (not fails) (file_of old side).reads) (record { zero = new.zero.reads; one = new.one.reads; calls = [] })
    ∙ ap (λ (p : Unwound). joined (unwound undos p.zero p.one) p.calls) (before_is number side s fails old new within this other)

-- what a call keeps has room where the file's bytes and its own have it
pub kept_fits : (s : Step) (made : Bool) (file : List ℕ) → length (kept_of s made file) ≤ length file + step_size s
kept_fits (step.Write at bytes) true file = omega (arith, length-take (length bytes.now) (drop at file), length-drop at file)
kept_fits (step.Write at bytes) false file = omega arith
kept_fits (step.Cut to) true file = omega (arith, length-drop to file)
kept_fits (step.Cut to) false file = omega arith
kept_fits step.Sync made file = omega arith

-- what a call keeps and what the file has grown are no more than its bytes
balance : (s : Step) (fails : Bool) (file : List ℕ) → IsWithin s file → length (kept_of s (not fails) file) + length (if fails then file else reads_after s file) ≤ length file + step_size s
balance (step.Write at bytes) true file within = omega arith
balance (step.Write at bytes) false file within = omega (arith, length-take (length bytes.now) (drop at file), length-drop at file, overwritten_length at bytes.now file within, within)
balance (step.Cut to) true file within = omega arith
balance (step.Cut to) false file within = omega (arith, length-drop to file, length-take to file)
balance step.Sync true file within = omega arith
balance step.Sync false file within = omega arith

-- the same of both files
pub both_balance : (side : Side) (s : Step) (fails : Bool) (old new : Files) → IsWithin s (file_of old side).reads
    → (file_of new side).reads ≡ (if fails then (file_of old side).reads else reads_after s (file_of old side).reads) → (file_of new (other_side side)).reads ≡ (file_of old (other_side side)).reads
    → length (kept_of s (not fails) (file_of old side).reads) + size_of new ≤ size_of old + step_size s
both_balance Zero s fails old new within this other = omega (arith, balance s fails old.zero.reads within, ap (λ (l : List ℕ). length l) this, ap (λ (l : List ℕ). length l) other)
both_balance One s fails old new within this other = omega (arith, balance s fails old.one.reads within, ap (λ (l : List ℕ). length l) this, ap (λ (l : List ℕ). length l) other)

-- one file is no longer than both
pub within_size : (files : Files) (side : Side) → length (file_of files side).reads ≤ size_of files
within_size files Zero = omega arith
within_size files One = omega arith

-- all calls are still to be taken back
pub unwound_begins : (undos : List Undo) (n : ℕ) (zero one : List ℕ) (past : Unwound) → n ≡ length undos → past ≡ record { zero = zero; one = one; calls = [] } → joined (unwound (take (n - 0) undos) past.zero past.one) past.calls ≡ unwound undos zero one
unwound_begins undos n zero one past count is =
    let all : take (n - 0) undos ≡ undos = take_all (n - 0) undos (omega (arith, count)) in
    rw (is, all) (joined_none (unwound undos zero one))

-- one more is taken back
pub unwound_next : (undos : List Undo) (n done : ℕ) (undo : Undo) (past next : Unwound) → done < n → slice_get undos (n - 1 - done) ≡ Some undo → next ≡ before undo.side undo past
    → joined (unwound (take (n - (done + 1)) undos) next.zero next.one) next.calls ≡ joined (unwound (take (n - done) undos) past.zero past.one) past.calls
unwound_next undos n done undo past next lt got is =
    let here : n - (done + 1) ≡ n - 1 - done = omega arith in
    let more : n - done ≡ (n - 1 - done) + 1 = omega (arith, lt) in
    let last : take ((n - 1 - done) + 1) undos ≡ take (n - 1 - done) undos ++ undo ∷ [] =
    take_more undos (n - 1 - done) undo (slice_get_within undos (n - 1 - done) undo got) ∙ ap (λ (u : Undo). take (n - 1 - done) undos ++ u ∷ []) (get_or_from_slice_get undos (n - 1 - done) undo undo got) in
    rw (here, more, last, is) (sym (unwound_push (take (n - 1 - done) undos) undo past))

-- none is left
pub unwound_ends : (undos : List Undo) (n done : ℕ) (past all : Unwound) → n ≤ done → joined (unwound (take (n - done) undos) past.zero past.one) past.calls ≡ all → past ≡ all
unwound_ends undos n done past all le is =
    let gone : n - done ≡ 0 = omega (arith, le) in
    rw gone at is
