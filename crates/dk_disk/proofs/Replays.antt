-- How a replay goes on with one call more, and which calls it passes over.
use Rattle.std.proofs.Common.{◌≡◌, ℕ, zero, suc, ◌+◌, ◌<◌, ◌≤◌, Bool, true, false, List, [], ◌∷◌, ◌++◌, length, refl, ap, arith, add-one, nat_le, if◌then◌else◌, drop, Option, Some, None, slice_get}
use Rattle.std.proofs.lemmas.Bool.Decides.{nat_tests}
use Rattle.std.proofs.lemmas.Option.{none-some}
use Rattle.dk_types.specs.declared.side.Side.{Side}
use Rattle.dk_types.specs.declared.side.Side.TheVariants.{Zero, One}
use Rattle.dk_disk.specs.Disk.{Disk, IsImage, after_write}
use Rattle.dk_disk.specs.DiskHistories.{other_side}
use Rattle.dk_disk.specs.Record.{Call, Change, Write, Cut, Sync, AreUpTo, changed, made, failed, is_side, after_one, replayed}
use Rattle.dk_disk.proofs.Images.{settled_image, failed_write_image, write_image, failed_cut_image, cut_image}

pub up_to_more : (n m : ℕ) (calls : List Call) → n ≤ m → AreUpTo n calls → AreUpTo m calls
up_to_more n m [] le up = tt
up_to_more n m (c ∷ cs) le up = (omega (arith, le, up.0), up_to_more n m cs le up.1)

pub up_to_push : (n : ℕ) (calls : List Call) (call : Call) → AreUpTo n calls → call.number ≤ n → AreUpTo n (calls ++ call ∷ [])
up_to_push n [] call up le = (le, tt)
up_to_push n (c ∷ cs) call up le = (up.0, up_to_push n cs call up.1 le)

pub replayed_push : (t : ℕ) (side : Side) (calls : List Call) (call : Call) (disk : Disk) → replayed t side (calls ++ call ∷ []) disk ≡ after_one t side call (replayed t side calls disk)
replayed_push t side [] call disk = refl
replayed_push t side (c ∷ cs) call disk = replayed_push t side cs call (after_one t side c disk)

-- a call that came later
pub one_later : (t : ℕ) (side : Side) (call : Call) (disk : Disk) → t < call.number → after_one t side call disk ≡ disk
one_later t side call disk later = grind (arith, nat_tests)

-- a call that had come
pub one_came : (t : ℕ) (side : Side) (call : Call) (disk : Disk) → call.number ≤ t → call.side ≡ side → after_one t side call disk ≡ changed call.change call.is_made disk
one_came t Zero call disk came is = rw is (grind (arith, nat_tests))
one_came t One call disk came is = rw is (grind (arith, nat_tests))

same : (b : Bool) {disk : Disk} → (if b then disk else disk) ≡ disk
same true = refl
same false = refl

-- a call on the other file
pub one_other : (t : ℕ) (side : Side) (call : Call) (disk : Disk) → call.side ≡ other_side side → after_one t side call disk ≡ disk
one_other t Zero call disk is = rw is (same (nat_le call.number t))
one_other t One call disk is = rw is (same (nat_le call.number t))

-- after the last call nothing more comes
pub replayed_beyond : (n t : ℕ) (side : Side) (calls : List Call) (disk : Disk) → n ≤ t → AreUpTo n calls → replayed t side calls disk ≡ replayed n side calls disk
replayed_beyond n t side [] disk le up = refl
replayed_beyond n t side (c ∷ cs) disk le up =
    let one : after_one t side c disk ≡ after_one n side c disk = came (is_side c.side side) (changed c.change c.is_made disk) disk up.0 (omega (arith, le, up.0)) in
    rw one (replayed_beyond n t side cs (after_one n side c disk) le up.1)
  where
    came : (b : Bool) (x y : Disk) → c.number ≤ n → c.number ≤ t → (if nat_le c.number t then (if b then x else y) else y) ≡ (if nat_le c.number n then (if b then x else y) else y)
    came b x y l l' = grind (arith, nat_tests)

if_image : (b : Bool) (x y : Disk) → (b ≡ true → IsImage x x.reads) → IsImage y y.reads → IsImage (if b then x else y) (if b then x else y).reads
if_image true x y one two = one refl
if_image false x y one two = two

changed_image : (change : Change) (is_made : Bool) (disk : Disk) → IsImage disk disk.reads → IsImage (changed change is_made disk) (changed change is_made disk).reads
changed_image (Write at bytes) true disk is = if_image (nat_le at (length disk.reads)) (after_write at bytes disk) disk (λ le. write_image at bytes disk (grind (arith, nat_tests)) is) is
changed_image (Write at bytes) false disk is = failed_write_image at (length bytes) disk disk.reads is
changed_image (Cut to) true disk is = cut_image to disk is
changed_image (Cut to) false disk is = failed_cut_image to disk disk.reads is
changed_image Sync true disk is = settled_image disk.reads
changed_image Sync false disk is = is

one_image : (t : ℕ) (side : Side) (call : Call) (disk : Disk) → IsImage disk disk.reads → IsImage (after_one t side call disk) (after_one t side call disk).reads
one_image t side call disk is = if_image (nat_le call.number t) (if is_side call.side side then changed call.change call.is_made disk else disk) disk (λ le. if_image (is_side call.side side) (changed call.change call.is_made disk) disk (λ same. changed_image call.change call.is_made disk is) is) is

pub replayed_image : (t : ℕ) (side : Side) (calls : List Call) (disk : Disk) → IsImage disk disk.reads → IsImage (replayed t side calls disk) (replayed t side calls disk).reads
replayed_image t side [] disk is = is
replayed_image t side (c ∷ cs) disk is = replayed_image t side cs (after_one t side c disk) (one_image t side c disk is)

abbrev or_else : Call → Option Call → Call
or_else call None = call
or_else call (Some found) = found

-- the rest of the calls begins with the next
next_is : (calls : List Call) (i : ℕ) (call : Call) → slice_get calls i ≡ Some call → drop i calls ≡ call ∷ drop (suc i) calls
next_is [] i call is = absurd (none-some call is)
next_is (c ∷ cs) zero call is = ap (λ (x : Call). x ∷ cs) (ap (or_else c) is)
next_is (c ∷ cs) (suc i) call is = next_is cs i call is

-- a replay goes on with the next call
pub replayed_next : (t : ℕ) (side : Side) (calls : List Call) (i : ℕ) (call : Call) (disk next : Disk) → slice_get calls i ≡ Some call → next ≡ after_one t side call disk → replayed t side (drop (i + 1) calls) next ≡ replayed t side (drop i calls) disk
replayed_next t side calls i call disk next got is = rw (add-one i, is, next_is calls i call got) refl

-- it leaves no gap
abbrev pub Fits : Change → Disk → Type 0
Fits (Write at bytes) disk = at ≤ length disk.reads
Fits (Cut to) disk = Unit {0}
Fits Sync disk = Unit {0}

pub changed_made : (change : Change) (disk : Disk) → Fits change disk → changed change true disk ≡ made change disk
changed_made (Write at bytes) disk fits = grind (arith, nat_tests)
changed_made (Cut to) disk fits = refl
changed_made Sync disk fits = refl

pub changed_failed : (change : Change) (disk : Disk) → changed change false disk ≡ failed change disk
changed_failed (Write at bytes) disk = refl
changed_failed (Cut to) disk = refl
changed_failed Sync disk = refl
