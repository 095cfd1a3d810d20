-- A file whose header is being closed is as it was, or blank.
use Rattle.std.proofs.Common.{◌≡◌, ◌⊎◌, inl, inr, ⊎_elim, ℕ, ◌<◌, true, List, [], ◌∷◌, length, get_or, drop, sym, ◌∙◌, ap, subst, arith}
use Rattle.std.proofs.lemmas.Bool.{cases_eq}
use Rattle.std.proofs.lemmas.List.{drop_more}
use Rattle.dk_types.specs.declared.side.Side.{Side}
use Rattle.dk_disk.specs.Disk.{Disk, IsImage, settled, overwritten, after_write, after_failed_write}
use Rattle.dk_disk.specs.DiskHistories.{DiskHistory, now}
use Rattle.dk_disk.proofs.Images.{settled_only, settled_image}
use Rattle.dk_model.specs.Stores.{is_blank}
use Rattle.dk_journal.specs.Moments.{Runs, Looks, IsWriting, AreSameOrBlank}
use Rattle.dk_journal.proofs.Going.{begun, weakened, goes_further, looked_runs, looks_now}
use Rattle.dk_journal.proofs.Gates.{one_byte, made_as_failed}
use Rattle.dk_journal.proofs.Blanks.{blank_shut, written_some}

pub same_settled : (file : List ℕ) (d : Disk) → d ≡ settled file → AreSameOrBlank file d
same_settled file d is = (λ image left. inl (settled_only file image (subst (λ (x : Disk). IsImage x image) is left)), (file, subst (λ (x : Disk). IsImage x file) (sym is) (settled_image file)))

-- while the gate is being closed
closing_each : (file : List ℕ) (old d : Disk) → old ≡ settled file → 0 < length file → get_or file 0 0 ≡ 1 → IsWriting 0 (0 ∷ []) old d → (image : List ℕ) → IsImage d image → (image ≡ file) ⊎ (is_blank image ≡ true)
closing_each file old d is some gate may =
    ⊎_elim
    (λ (e : d ≡ old). (same_settled file d (e ∙ is)).0)
    (λ others. ⊎_elim
    (λ (e : d ≡ after_failed_write 0 1 old). λ image left. torn image (subst (λ (x : Disk). IsImage x image) (e ∙ ap (after_failed_write 0 1) is) left))
    (λ more. ⊎_elim
    (λ (e : d ≡ after_write 0 (0 ∷ []) old). λ image left. torn image (made_as_failed 0 0 file image (subst (λ (x : Disk). IsImage x image) (e ∙ ap (after_write 0 (0 ∷ [])) is) left)))
    (λ (e : d ≡ settled (overwritten 0 (0 ∷ []) old.reads)). λ image left. inr (closed image (settled_only _ image (subst (λ (x : Disk). IsImage x image) (e ∙ ap (λ (x : Disk). settled (overwritten 0 (0 ∷ []) x.reads)) is) left))))
    more)
    others)
    may
  where
    closed : (image : List ℕ) → image ≡ overwritten 0 (0 ∷ []) file → is_blank image ≡ true
    closed image e = blank_shut image (λ open_gate. let no : 0 ≡ 1 = ap (λ (l : List ℕ). get_or l 0 0) (sym e) ∙ open_gate in absurd (omega (arith, no)))

    first_back : get_or file 0 0 ∷ drop 1 file ≡ file
    first_back = sym (drop_more file 0 0 some)

    torn : (image : List ℕ) → IsImage (after_failed_write 0 1 (settled file)) image → (image ≡ file) ⊎ (is_blank image ≡ true)
    torn image left =
        let whole : image ≡ get_or image 0 0 ∷ drop 1 file = one_byte 0 file image some left in
        ⊎_elim
        (λ (open_image : get_or image 0 0 ≡ 1). inl (whole ∙ ap (λ b. b ∷ drop 1 file) (open_image ∙ sym gate) ∙ first_back))
        (λ shut. inr (blank_shut image shut))
        (cases_eq (get_or image 0 0) 1)

pub closing_gate : (file : List ℕ) (old d : Disk) → old ≡ settled file → 0 < length file → get_or file 0 0 ≡ 1 → IsWriting 0 (0 ∷ []) old d → AreSameOrBlank file d
closing_gate file old d is some gate may = (closing_each file old d is some gate may, written_some 0 (0 ∷ []) file old d is may)

-- a file that is only looked at
pub looked_same : (side : Side) (old new : DiskHistory) → now old side ≡ settled (now old side).reads → Looks old new → Runs side (AreSameOrBlank (now old side).reads) old new
looked_same side old new is looks = looked_runs side (AreSameOrBlank (now old side).reads) old old new (begun side (AreSameOrBlank (now old side).reads) old (same_settled (now old side).reads (now old side) is)) looks

-- looked at, and then closed
pub closed_runs : (side : Side) (old mid new : DiskHistory) → now old side ≡ settled (now old side).reads → Looks old mid → 0 < length (now old side).reads → get_or (now old side).reads 0 0 ≡ 1 → Runs side (IsWriting 0 (0 ∷ []) (now mid side)) mid new → Runs side (AreSameOrBlank (now old side).reads) old new
closed_runs side old mid new is looks some gate run =
    goes_further side (AreSameOrBlank (now old side).reads) old mid new (looked_same side old mid is looks)
    (weakened side (IsWriting 0 (0 ∷ []) (now mid side)) (AreSameOrBlank (now old side).reads) mid new (λ d. closing_gate (now old side).reads (now mid side) d (looks_now old mid looks side ∙ is) some gate) run)
