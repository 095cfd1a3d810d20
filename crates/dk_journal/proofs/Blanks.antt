-- A file that is made anew is blank until its gate is opened.
use Rattle.std.proofs.Common.{◌≡◌, ◌≢◌, ◌⊎◌, inl, inr, ⊎_elim, ℕ, ◌+◌, ◌≤◌, ◌==◌, ◌||◌, not, leb, Bool, true, false, List, [], ◌∷◌, ◌++◌, length, get_or, refl, sym, ◌∙◌, ap, subst, arith, length-append}
use Rattle.std.proofs.lemmas.Bool.{cases_eq, cases_lt, le-leb, leb-true, ne_eqb, eqb-false}
use Rattle.std.proofs.Math.ListN.{drop_of_length-le}
use Rattle.std.proofs.lemmas.List.{append-nil}
use Rattle.dk_types.specs.declared.side.Side.{Side}
use Rattle.dk_disk.specs.Disk.{Disk, IsImage, settled, overwritten, after_write, after_failed_write, after_cut, after_failed_cut}
use Rattle.dk_disk.specs.DiskHistories.{DiskHistory, now}
use Rattle.dk_disk.proofs.Images.{settled_only, settled_image, failed_write_image}
use Rattle.dk_model.specs.Stores.{Reads, is_blank, header_fields, header_spelling, StoreHeader}
use Rattle.dk_journal.specs.Standing.{Stands, IsAtRest}
use Rattle.dk_journal.proofs.Going.{weakened}
use Rattle.dk_journal.specs.Moments.{Runs, IsWriting, IsClearing, IsBlankUpTo, HasSome, AreBlankOr, IsNewOrEmpty}
use Rattle.dk_journal.proofs.Gates.{one_byte, made_as_failed}

pub blank_short : (file : List ℕ) → length file ≤ 1 → is_blank file ≡ true
blank_short file le = rw (le-leb (length file) 1 le) refl

or_true : (b : Bool) → (b || true) ≡ true
or_true true = refl
or_true false = refl

pub blank_shut : (file : List ℕ) → get_or file 0 0 ≢ 1 → is_blank file ≡ true
blank_shut file shut = ap (λ (b : Bool). leb (length file) 1 || not b) (ne_eqb (get_or file 0 0) 1 shut) ∙ or_true (leb (length file) 1)

blank_of : (a b : Bool) → (a || not b) ≡ true → (a ≡ true) ⊎ (b ≡ false)
blank_of true b is = inl refl
blank_of false true is = absurd cc
blank_of false false is = inr refl

pub blank_is : (file : List ℕ) → is_blank file ≡ true → (length file ≤ 1) ⊎ (get_or file 0 0 ≢ 1)
blank_is file is = ⊎_elim (λ short. inl (leb-true (length file) 1 short)) (λ other. inr (eqb-false (get_or file 0 0) 1 other)) (blank_of (leb (length file) 1) (get_or file 0 0 == 1) is)

abbrev Blank : ℕ → List ℕ → List ℕ → Type 0
Blank most this image = IsBlankUpTo most image ⊎ (image ≡ this)

-- each image is so
abbrev Each : ℕ → List ℕ → Disk → Type 0
Each most this d = (image : List ℕ) → IsImage d image → IsBlankUpTo most image ⊎ (image ≡ this)

-- a file that is cut or written leaves itself, or what it was made
settled_some : (file : List ℕ) (d : Disk) → d ≡ settled file → HasSome d
settled_some file d is = (file, subst (λ (x : Disk). IsImage x file) (sym is) (settled_image file))

cleared_some : (file : List ℕ) (old d : Disk) → old ≡ settled file → IsClearing old d → HasSome d
cleared_some file old d is may =
    let cut : IsImage (after_failed_cut 0 (settled file)) file = record { no_shorter = omega arith; no_longer = omega arith; kept = λ i l k u. refl } in
    ⊎_elim
    (λ (e : d ≡ old). settled_some file d (e ∙ is))
    (λ others. ⊎_elim
    (λ (e : d ≡ after_failed_cut 0 old). (file, subst (λ (x : Disk). IsImage x file) (sym (e ∙ ap (after_failed_cut 0) is)) cut))
    (λ more. ⊎_elim
    (λ (e : d ≡ after_cut 0 old). (file, subst (λ (x : Disk). IsImage x file) (sym (e ∙ ap (after_cut 0) is)) (record { no_shorter = cut.no_shorter; no_longer = cut.no_longer; kept = cut.kept })))
    (λ (e : d ≡ settled []). settled_some [] d e)
    more)
    others)
    may

pub written_some : (at : ℕ) (bytes file : List ℕ) (old d : Disk) → old ≡ settled file → IsWriting at bytes old d → HasSome d
written_some at bytes file old d is may =
    let failed : IsImage (after_failed_write at (length bytes) (settled file)) file = failed_write_image at (length bytes) (settled file) file (settled_image file) in
    ⊎_elim
    (λ (e : d ≡ old). settled_some file d (e ∙ is))
    (λ others. ⊎_elim
    (λ (e : d ≡ after_failed_write at (length bytes) old). (file, subst (λ (x : Disk). IsImage x file) (sym (e ∙ ap (after_failed_write at (length bytes)) is)) failed))
    (λ more. ⊎_elim
    (λ (e : d ≡ after_write at bytes old). (file, subst (λ (x : Disk). IsImage x file) (sym (e ∙ ap (after_write at bytes) is)) (record { no_shorter = failed.no_shorter; no_longer = failed.no_longer; kept = failed.kept })))
    (λ (e : d ≡ settled (overwritten at bytes old.reads)). settled_some (overwritten at bytes old.reads) d e)
    more)
    others)
    may

-- an image of a file with nothing pending
only : (P : List ℕ → Type 0) (file : List ℕ) (d : Disk) → d ≡ settled file → P file → (image : List ℕ) → IsImage d image → P image
only P file d is here image left = subst P (sym (settled_only file image (subst (λ (e : Disk). IsImage e image) is left))) here

-- the front of a blank file is blank
shorter : (most : ℕ) (file : List ℕ) → IsBlankUpTo most file → (image : List ℕ) → IsImage (after_failed_cut 0 (settled file)) image → IsBlankUpTo most image
shorter most file blank image is =
    let fits : length image ≤ most = omega (arith, is.no_longer, blank.1) in
    ⊎_elim
    (λ long. ⊎_elim
    (λ short. absurd (omega (arith, long, short, is.no_longer)))
    (λ shut. (blank_shut image (λ e. shut (sym (is.kept 0 (omega (arith, long)) (omega (arith, long, is.no_longer)) tt) ∙ e)), fits))
    (blank_is file blank.0))
    (λ short. (blank_short image short, fits))
    (cases_lt 1 (length image))

cut_as_failed : (file image : List ℕ) → IsImage (after_cut 0 (settled file)) image → IsImage (after_failed_cut 0 (settled file)) image
cut_as_failed file image is = record { no_shorter = is.no_shorter; no_longer = is.no_longer; kept = is.kept }

-- while it is cut to nothing
clearing_each : (most : ℕ) (this file : List ℕ) (old d : Disk) → old ≡ settled file → IsBlankUpTo most file → IsClearing old d → Each most this d
clearing_each most this file old d is blank may =
    let P = Blank most this in
    ⊎_elim
    (λ (e : d ≡ old). only P file d (e ∙ is) (inl blank))
    (λ others. ⊎_elim
    (λ (e : d ≡ after_failed_cut 0 old). λ image left. inl (shorter most file blank image (subst (λ (x : Disk). IsImage x image) (e ∙ ap (after_failed_cut 0) is) left)))
    (λ more. ⊎_elim
    (λ (e : d ≡ after_cut 0 old). λ image left. inl (shorter most file blank image (cut_as_failed file image (subst (λ (x : Disk). IsImage x image) (e ∙ ap (after_cut 0) is) left))))
    (λ (e : d ≡ settled []). only P [] d e (inl (blank_short [] (omega arith), omega arith)))
    more)
    others)
    may

pub clearing : (most : ℕ) (this file : List ℕ) (old d : Disk) → old ≡ settled file → IsBlankUpTo most file → IsClearing old d → AreBlankOr most this d
clearing most this file old d is blank may = (clearing_each most this file old d is blank may, cleared_some file old d is may)

-- while a closed gate is put into the empty file
closing_each : (most : ℕ) (this : List ℕ) (old d : Disk) → old ≡ settled [] → 1 ≤ most → IsWriting 0 (0 ∷ []) old d → Each most this d
closing_each most this old d is room may =
    let P = Blank most this in
    ⊎_elim
    (λ (e : d ≡ old). only P [] d (e ∙ is) (inl (blank_short [] (omega arith), omega arith)))
    (λ others. ⊎_elim
    (λ (e : d ≡ after_failed_write 0 1 old). λ image left. short image (subst (λ (x : Disk). IsImage x image) (e ∙ ap (after_failed_write 0 1) is) left).no_longer)
    (λ more. ⊎_elim
    (λ (e : d ≡ after_write 0 (0 ∷ []) old). λ image left. short image (subst (λ (x : Disk). IsImage x image) (e ∙ ap (after_write 0 (0 ∷ [])) is) left).no_longer)
    (λ (e : d ≡ settled (overwritten 0 (0 ∷ []) old.reads)). only P (0 ∷ []) d (e ∙ ap (λ (x : Disk). settled (overwritten 0 (0 ∷ []) x.reads)) is) (inl (blank_short (0 ∷ []) (omega arith), room)))
    more)
    others)
    may
  where
    short : (image : List ℕ) → length image ≤ 1 → IsBlankUpTo most image ⊎ (image ≡ this)
    short image le = inl (blank_short image le, omega (arith, le, room))

pub closing : (most : ℕ) (this : List ℕ) (old d : Disk) → old ≡ settled [] → 1 ≤ most → IsWriting 0 (0 ∷ []) old d → AreBlankOr most this d
closing most this old d is room may = (closing_each most this old d is room may, written_some 0 (0 ∷ []) [] old d is may)

-- behind one byte
pub behind_one : (byte : ℕ) (rest : List ℕ) → overwritten 1 rest (byte ∷ []) ≡ byte ∷ rest
behind_one byte rest = ap (λ (l : List ℕ). (byte ∷ rest) ++ l) (drop_of_length-le (byte ∷ []) {i = 1 + length rest} (omega arith)) ∙ append-nil (byte ∷ rest)

-- while the bytes are put behind the closed gate
filling_each : (most : ℕ) (this rest : List ℕ) (old d : Disk) → old ≡ settled (0 ∷ []) → 1 + length rest ≤ most → IsWriting 1 rest old d → Each most this d
filling_each most this rest old d is room may =
    let P = Blank most this in
    ⊎_elim
    (λ (e : d ≡ old). only P (0 ∷ []) d (e ∙ is) (inl (blank_short (0 ∷ []) (omega arith), omega (arith, room))))
    (λ others. ⊎_elim
    (λ (e : d ≡ after_failed_write 1 (length rest) old). λ image left. shut image (subst (λ (x : Disk). IsImage x image) (e ∙ ap (after_failed_write 1 (length rest)) is) left))
    (λ more. ⊎_elim
    (λ (e : d ≡ after_write 1 rest old). λ image left. shut_made image (subst (λ (x : Disk). IsImage x image) (e ∙ ap (after_write 1 rest) is) left))
    (λ (e : d ≡ settled (overwritten 1 rest old.reads)). only P (0 ∷ rest) d (e ∙ ap (λ (x : Disk). settled (overwritten 1 rest x.reads)) is ∙ ap settled (behind_one 0 rest)) (inl (blank_shut (0 ∷ rest) (omega arith), omega (arith, room))))
    more)
    others)
    may
  where
    shut : (image : List ℕ) → IsImage (after_failed_write 1 (length rest) (settled (0 ∷ []))) image → IsBlankUpTo most image ⊎ (image ≡ this)
    shut image left =
        let fits : length image ≤ most = omega (arith, left.no_longer, room) in
        ⊎_elim
        (λ long. inl (blank_shut image (λ e. let zero_is : 0 ≡ 1 = sym (left.kept 0 (omega (arith, long)) (omega arith) (inl (omega arith), tt)) ∙ e in absurd (omega (arith, zero_is))), fits))
        (λ le. inl (blank_short image le, fits))
        (cases_lt 1 (length image))

    shut_made : (image : List ℕ) → IsImage (after_write 1 rest (settled (0 ∷ []))) image → IsBlankUpTo most image ⊎ (image ≡ this)
    shut_made image left = shut image (record { no_shorter = left.no_shorter; no_longer = left.no_longer; kept = left.kept })

pub filling : (most : ℕ) (this rest : List ℕ) (old d : Disk) → old ≡ settled (0 ∷ []) → 1 + length rest ≤ most → IsWriting 1 rest old d → AreBlankOr most this d
filling most this rest old d is room may = (filling_each most this rest old d is room may, written_some 1 rest (0 ∷ []) old d is may)

-- while the gate is opened
opening_each : (most : ℕ) (rest : List ℕ) (old d : Disk) → old ≡ settled (0 ∷ rest) → 1 + length rest ≤ most → IsWriting 0 (1 ∷ []) old d → Each most (1 ∷ rest) d
opening_each most rest old d is room may =
    let P = Blank most (1 ∷ rest) in
    ⊎_elim
    (λ (e : d ≡ old). only P (0 ∷ rest) d (e ∙ is) (inl (blank_shut (0 ∷ rest) (omega arith), omega (arith, room))))
    (λ others. ⊎_elim
    (λ (e : d ≡ after_failed_write 0 1 old). λ image left. torn image (subst (λ (x : Disk). IsImage x image) (e ∙ ap (after_failed_write 0 1) is) left))
    (λ more. ⊎_elim
    (λ (e : d ≡ after_write 0 (1 ∷ []) old). λ image left. torn image (made_as_failed 0 1 (0 ∷ rest) image (subst (λ (x : Disk). IsImage x image) (e ∙ ap (after_write 0 (1 ∷ [])) is) left)))
    (λ (e : d ≡ settled (overwritten 0 (1 ∷ []) old.reads)). only P (1 ∷ rest) d (e ∙ ap (λ (x : Disk). settled (overwritten 0 (1 ∷ []) x.reads)) is) (inr refl))
    more)
    others)
    may
  where
    torn : (image : List ℕ) → IsImage (after_failed_write 0 1 (settled (0 ∷ rest))) image → IsBlankUpTo most image ⊎ (image ≡ 1 ∷ rest)
    torn image left =
        let whole : image ≡ get_or image 0 0 ∷ rest = one_byte 0 (0 ∷ rest) image (omega arith) left in
        ⊎_elim
        (λ open_gate. inr (whole ∙ ap (λ b. b ∷ rest) open_gate))
        (λ shut. inl (blank_shut image shut, omega (arith, ap length whole, room)))
        (cases_eq (get_or image 0 0) 1)

pub opening : (most : ℕ) (rest : List ℕ) (old d : Disk) → old ≡ settled (0 ∷ rest) → 1 + length rest ≤ most → IsWriting 0 (1 ∷ []) old d → AreBlankOr most (1 ∷ rest) d
opening most rest old d is room may = (opening_each most rest old d is room may, written_some 0 (1 ∷ []) (0 ∷ rest) old d is may)

-- the whole file is an empty journal
pub empty_reads : (header : StoreHeader) → length (header_spelling header) ≡ 64 → Reads (1 ∷ (header_fields header ++ 0 ∷ [])) (header_spelling header) []
empty_reads header long = record { gate = 0; behind = []; closed = omega arith; bytes = refl; header_length = long; sized = tt }

-- blank, or the empty journal
pub new_or_empty : (header : StoreHeader) → length (header_spelling header) ≡ 64 → (d : Disk) → AreBlankOr 65 (1 ∷ (header_fields header ++ 0 ∷ [])) d → IsNewOrEmpty (header_spelling header) d
new_or_empty header long d are image left = ⊎_elim
    (λ blank. inl blank)
    (λ (e : image ≡ 1 ∷ (header_fields header ++ 0 ∷ [])). inr (subst (λ (f : List ℕ). Reads f (header_spelling header) []) (sym e) (empty_reads header long)))
    (are.0 image left)

module _ (header : StoreHeader) (behind : List ℕ) (spelled : behind ≡ header_fields header ++ 0 ∷ []) (long : length (header_spelling header) ≡ 64) (side : Side) where
  pub behind_length : 1 + length behind ≡ 65
  behind_length = omega (arith, ap length spelled, length-append (header_fields header) (0 ∷ []), long)

  -- while an empty journal is made
  pub making : (old new : DiskHistory) → Runs side (AreBlankOr 65 (1 ∷ behind)) old new → Runs side (IsNewOrEmpty (header_spelling header)) old new
  making old new run =
      weakened side (AreBlankOr 65 (1 ∷ behind)) (IsNewOrEmpty (header_spelling header)) old new (λ d are. new_or_empty header long d (subst (λ (l : List ℕ). AreBlankOr 65 (1 ∷ l) d) spelled are)) run

  -- once it is made
  pub made_stands : (new : DiskHistory) → now new side ≡ settled (1 ∷ behind) → Stands side 65 new (header_spelling header) []
  made_stands new is =
      let whole : now new side ≡ settled (1 ∷ (header_fields header ++ 0 ∷ [])) = is ∙ ap (λ (l : List ℕ). settled (1 ∷ l)) spelled in
      record {
        settled = whole ∙ ap (λ (d : Disk). settled d.reads) (sym whole);
        reads = subst (λ (f : List ℕ). Reads f (header_spelling header) []) (ap (λ (d : Disk). d.reads) (sym whole)) (empty_reads header long);
        place = omega (arith, long);
      }

  pub made_rests : (new : DiskHistory) → now new side ≡ settled (1 ∷ behind) → IsAtRest side 65 new
  made_rests new is = record { settled = is ∙ ap (λ (d : Disk). settled d.reads) (sym is); within = omega (arith, behind_length, ap (λ (d : Disk). length d.reads) is) }

-- and some image is there while it is made
pub some_while : (side : Side) (most : ℕ) (this : List ℕ) (old new : DiskHistory) → Runs side (AreBlankOr most this) old new → Runs side HasSome old new
some_while side most this old new run = weakened side (AreBlankOr most this) HasSome old new (λ d are. are.1) run
