-- The images that a crash gives are images.
use Rattle.std.proofs.Common.{ℕ, ◌≤◌, Bool, true, false, List, [], ◌∷◌, length, refl, arith, nat_le, if◌then◌else◌, Result, Ok, Err, IfOk}
use Rattle.dk_types.specs.declared.side.Side.{Side}
use Rattle.dk_disk.specs.Disk.{Disk, IsImage, settled, after_write}
use Rattle.dk_disk.specs.Record.{Call, Change, Write, Cut, Sync, changed, is_side, after_one, replayed}
use Rattle.dk_disk.specs.Torn.{IsTorn}
use Rattle.dk_disk.specs.declared.torn.Torn.{Torn}
use Rattle.dk_disk.specs.declared.torn.Torn.TheVariants.{Old, New, Zeros, Ones}

-- the synced contents have a length that a stop may leave
abbrev pub IsBounded : Disk → Type 0
IsBounded disk = (disk.least ≤ length disk.synced) × (length disk.synced ≤ disk.greatest)

if_bounded : (b : Bool) (x y : Disk) → IsBounded x → IsBounded y → IsBounded (if b then x else y)
if_bounded true x y one two = one
if_bounded false x y one two = two

changed_bounded : (change : Change) (is_made : Bool) (disk : Disk) → IsBounded disk → IsBounded (changed change is_made disk)
changed_bounded (Write at bytes) true disk is = if_bounded (nat_le at (length disk.reads)) (after_write at bytes disk) disk (is.0, omega (arith, is.1)) is
changed_bounded (Write at bytes) false disk is = (is.0, omega (arith, is.1))
changed_bounded (Cut to) true disk is = (omega (arith, is.0), is.1)
changed_bounded (Cut to) false disk is = (omega (arith, is.0), is.1)
changed_bounded Sync true disk is = (omega arith, omega arith)
changed_bounded Sync false disk is = is

one_bounded : (t : ℕ) (side : Side) (call : Call) (disk : Disk) → IsBounded disk → IsBounded (after_one t side call disk)
one_bounded t side call disk is = if_bounded (nat_le call.number t) (if is_side call.side side then changed call.change call.is_made disk else disk) disk (if_bounded (is_side call.side side) (changed call.change call.is_made disk) disk (changed_bounded call.change call.is_made disk is) is) is

replayed_bounded : (t : ℕ) (side : Side) (calls : List Call) (disk : Disk) → IsBounded disk → IsBounded (replayed t side calls disk)
replayed_bounded t side [] disk is = is
replayed_bounded t side (c ∷ cs) disk is = replayed_bounded t side cs (after_one t side c disk) (one_bounded t side c disk is)

torn_image : (torn : Torn) (disk : Disk) (image : List ℕ) → IsImage disk disk.reads → IsBounded disk → IsTorn torn disk image → IsImage disk image
torn_image Old disk image reads bounded is = rw is (record { no_shorter = bounded.0; no_longer = bounded.1; kept = λ i l k u. refl })
torn_image New disk image reads bounded is = rw is reads
torn_image Zeros disk image reads bounded is = record { no_shorter = omega (arith, is.length_is); no_longer = omega (arith, is.length_is, bounded.0, bounded.1); kept = λ i l k u. is.kept i (omega (arith, l, is.length_is)) k u }
torn_image Ones disk image reads bounded is = record { no_shorter = omega (arith, is.length_is, bounded.0, bounded.1); no_longer = omega (arith, is.length_is); kept = λ i l k u. is.kept i (omega (arith, l, is.length_is)) k u }

pub replayed_torn : (torn : Torn) (t : ℕ) (side : Side) (calls : List Call) (first image : List ℕ) → IsImage (replayed t side calls (settled first)) (replayed t side calls (settled first)).reads → IsTorn torn (replayed t side calls (settled first)) image → IsImage (replayed t side calls (settled first)) image
replayed_torn torn t side calls first image reads is = torn_image torn (replayed t side calls (settled first)) image reads (replayed_bounded t side calls (settled first) (omega arith, omega arith)) is

pub if_ok : {T E : Type 0} {P Q : T → Type 0} (r : Result T E) → ((x : T) → P x → Q x) → IfOk r P → IfOk r Q
if_ok (Ok x) to is = to x is
if_ok (Err e) to is = is
