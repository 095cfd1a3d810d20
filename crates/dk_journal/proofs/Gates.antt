-- What a stop leaves of a file while an append is under way, and after it.
use Rattle.std.proofs.Common.{◌≡◌, ◌⊎◌, inl, inr, ℕ, ◌+◌, ◌-◌, ◌<◌, ◌≤◌, ◌^◌, List, [], ◌∷◌, ◌++◌, length, get_or, take, drop, sym, ◌∙◌, ap, subst, arith, append_assoc, length-append, length-drop, take-append-drop}
use Rattle.std.proofs.lemmas.List.{length-take, take_at, drop_at, same_lists, get_or-take, get_or-drop, get_or_default, drop_more}
use Rattle.dk_types.specs.declared.side.Side.{Side}
use Rattle.dk_disk.specs.Disk.{Disk, IsImage, settled, overwritten, after_write, after_failed_write}
use Rattle.dk_disk.specs.DiskHistories.{DiskHistory, now}
use Rattle.dk_disk.proofs.Images.{settled_image, settled_only, failed_write_image}
use Rattle.dk_types.specs.Fields.{blob_spelling}
use Rattle.dk_wire.proofs.LengthLaws.{length-blob}
use Rattle.dk_model.specs.Stores.{records, Reads, end_of}
use Rattle.dk_journal.specs.Moments.{IsFrontSafe, HasOrNot, IsBetween}
use Rattle.dk_journal.specs.Standing.{Stands, behind_gate}
use Rattle.dk_journal.proofs.Readings.{front_of, front_is, front_then, front_reads, reads_within, reads_any, reads_opened, records_push}
use Rattle.dk_journal.proofs.Fronts.{safe_image}

-- while one byte is written, no other changes
pub one_byte : (at : ℕ) (file image : List ℕ) → at < length file → IsImage (after_failed_write at 1 (settled file)) image → image ≡ take at file ++ get_or image at 0 ∷ drop (at + 1) file
one_byte at file image within is =
    let long : length image ≡ length file = omega (arith, is.no_shorter, is.no_longer, within) in
    let same : (i d : ℕ) → i < length file → (i < at) ⊎ (at + 1 ≤ i) → get_or image i d ≡ get_or file i d =
    λ i d lt out. get_or_default image i d 0 (omega (arith, lt, long)) ∙ is.kept i (omega (arith, lt, long)) lt (out, tt) ∙ get_or_default file i 0 d lt in
    let front : take at image ≡ take at file =
    same_lists _ _ (omega (arith, length-take at image, length-take at file, long)) (λ k d lt. let below : k < at = omega (arith, lt, length-take at image) in
    get_or-take at image k d below ∙ same k d (omega (arith, below, within)) (inl below) ∙ sym (get_or-take at file k d below)) in
    let back : drop (at + 1) image ≡ drop (at + 1) file =
    same_lists _ _ (omega (arith, length-drop (at + 1) image, length-drop (at + 1) file, long)) (λ k d lt.
    get_or-drop (at + 1) image k d ∙ same (at + 1 + k) d (omega (arith, lt, length-drop (at + 1) image, long)) (inr (omega arith)) ∙ sym (get_or-drop (at + 1) file k d)) in
    sym (take-append-drop at image) ∙ ap (λ (l : List ℕ). l ++ drop at image) front ∙ ap (λ (l : List ℕ). take at file ++ l) (drop_more image at 0 (omega (arith, within, long)) ∙ ap (λ (l : List ℕ). get_or image at 0 ∷ l) back)

pub made_as_failed : (at : ℕ) (byte : ℕ) (file image : List ℕ) → IsImage (after_write at (byte ∷ []) (settled file)) image → IsImage (after_failed_write at 1 (settled file)) image
made_as_failed at byte file image is = record { no_shorter = is.no_shorter; no_longer = is.no_longer; kept = is.kept }

failed_as_made : (at : ℕ) (byte : ℕ) (file image : List ℕ) → IsImage (after_failed_write at 1 (settled file)) image → IsImage (after_write at (byte ∷ []) (settled file)) image
failed_as_made at byte file image is = record { no_shorter = is.no_shorter; no_longer = is.no_longer; kept = is.kept }

module _ (side : Side) (at : ℕ) (header : List ℕ) (payloads : List (List ℕ)) (payload : List ℕ) (old : DiskHistory) (stands : Stands side at old header payloads) (fits : length payload < 2 ^ 32) where
  file : List ℕ
  file = (now old side).reads

  pub within : at ≤ length (now old side).reads
  within = omega (arith, stands.place, reads_within (now old side).reads header payloads stands.reads)

  front_length : length (take at (now old side).reads) ≡ at
  front_length = omega (arith, within, length-take at (now old side).reads)

  same_front : (other : List ℕ) → take (length (take at (now old side).reads)) other ≡ take at (now old side).reads → Reads other header payloads
  same_front other same =
      front_reads (now old side).reads other header payloads stands.reads (ap (λ n. take n other) (omega (arith, stands.place, front_length)) ∙ same ∙ ap (λ n. take n (now old side).reads) stands.place)

  -- the closed gate stands
  pub between_front : (disk : Disk) → IsFrontSafe (take at (now old side).reads) disk → IsBetween header payloads payload disk
  between_front disk safe = record {
    each = λ image is. inl (same_front image (safe_image _ disk image safe is));
    least = (disk.reads, safe.image, same_front disk.reads safe.reads);
  }

  behind : List ℕ
  behind = drop (at + length (behind_gate payload)) (now old side).reads

  front : take at (now old side).reads ≡ front_of header payloads stands.reads.gate
  front = ap (λ n. take n (now old side).reads) stands.place ∙ front_is (now old side).reads header payloads stands.reads

  -- the record stands behind the closed gate
  pub staged : overwritten at (behind_gate payload) (now old side).reads ≡ header ++ (records payloads ++ stands.reads.gate ∷ (blob_spelling payload ++ 0 ∷ drop (at + length (behind_gate payload)) (now old side).reads))
  staged =
      let rest = drop (at + length (behind_gate payload)) (now old side).reads in
      ap (λ (l : List ℕ). l ++ behind_gate payload ++ rest) front
      ∙ append_assoc (front_of header payloads stands.reads.gate) (behind_gate payload) rest
      ∙ front_then header payloads stands.reads.gate (behind_gate payload ++ rest)
      ∙ ap (λ (l : List ℕ). header ++ (records payloads ++ stands.reads.gate ∷ l)) (append_assoc (blob_spelling payload) (0 ∷ []) rest)

  gate_at : at - 1 ≡ end_of header payloads
  gate_at = omega (arith, stands.place)

  front_of_gate : (gate : ℕ) (more : List ℕ) → take (at - 1) (header ++ (records payloads ++ gate ∷ more)) ≡ header ++ records payloads
  front_of_gate gate more =
      ap (take (at - 1)) (sym (append_assoc header (records payloads) (gate ∷ more))) ∙ take_at (header ++ records payloads) (gate ∷ more) (at - 1) (omega (arith, gate_at, length-append header (records payloads)))

  back_of_gate : (gate : ℕ) (more : List ℕ) → drop (at - 1 + 1) (header ++ (records payloads ++ gate ∷ more)) ≡ more
  back_of_gate gate more =
      ap (drop (at - 1 + 1)) (sym (front_then header payloads gate more)) ∙ drop_at (front_of header payloads gate) more (at - 1 + 1) (omega (arith, gate_at, length-append header (records payloads ++ gate ∷ []), length-append (records payloads) (gate ∷ [])))

  -- a file whose gate is another byte
  with_gate : (gate other : ℕ) (more : List ℕ) → take (at - 1) (header ++ (records payloads ++ gate ∷ more)) ++ other ∷ drop (at - 1 + 1) (header ++ (records payloads ++ gate ∷ more)) ≡ header ++ (records payloads ++ other ∷ more)
  with_gate gate other more =
      ap (λ (l : List ℕ). l ++ other ∷ drop (at - 1 + 1) (header ++ (records payloads ++ gate ∷ more))) (front_of_gate gate more)
      ∙ ap (λ (l : List ℕ). (header ++ records payloads) ++ other ∷ l) (back_of_gate gate more)
      ∙ append_assoc header (records payloads) (other ∷ more)

  more : List ℕ
  more = blob_spelling payload ++ 0 ∷ drop (at + length (behind_gate payload)) (now old side).reads

  gate_within : (gate : ℕ) (rest : List ℕ) → at - 1 < length (header ++ (records payloads ++ gate ∷ rest))
  gate_within gate rest = omega (arith, gate_at, length-append header (records payloads ++ gate ∷ rest), length-append (records payloads) (gate ∷ rest))

  -- the gate is being opened: the record counts or it does not
  pub torn_gate : (image : List ℕ) → IsImage (after_failed_write (at - 1) 1 (settled (overwritten at (behind_gate payload) (now old side).reads))) image → Reads image header payloads ⊎ Reads image header (payloads ++ payload ∷ [])
  torn_gate image is =
      let rest = blob_spelling payload ++ 0 ∷ drop (at + length (behind_gate payload)) (now old side).reads in
      let here = subst (λ (g : List ℕ). IsImage (after_failed_write (at - 1) 1 (settled g)) image) staged is in
      let whole : image ≡ header ++ (records payloads ++ get_or image (at - 1) 0 ∷ rest) =
      one_byte (at - 1) (header ++ (records payloads ++ stands.reads.gate ∷ rest)) image (gate_within stands.reads.gate rest) here ∙ with_gate stands.reads.gate (get_or image (at - 1) 0) rest in
      subst (λ (g : List ℕ). Reads g header payloads ⊎ Reads g header (payloads ++ payload ∷ [])) (sym whole) (reads_any header payloads payload stands.reads.header_length stands.reads.sized fits (get_or image (at - 1) 0) (drop (at + length (behind_gate payload)) (now old side).reads))

  staged_reads : Reads (overwritten at (behind_gate payload) (now old side).reads) header payloads
  staged_reads = record { gate = stands.reads.gate; behind = blob_spelling payload ++ 0 ∷ drop (at + length (behind_gate payload)) (now old side).reads; closed = stands.reads.closed; bytes = staged; header_length = stands.reads.header_length; sized = stands.reads.sized }

  pub between_failed : IsBetween header payloads payload (after_failed_write (at - 1) 1 (settled (overwritten at (behind_gate payload) (now old side).reads)))
  between_failed = record {
    each = torn_gate;
    least = (overwritten at (behind_gate payload) (now old side).reads, failed_write_image _ _ _ _ (settled_image _), staged_reads);
  }

  pub between_made : IsBetween header payloads payload (after_write (at - 1) (1 ∷ []) (settled (overwritten at (behind_gate payload) (now old side).reads)))
  between_made = record {
    each = λ image is. torn_gate image (made_as_failed _ _ _ image is);
    least = (overwritten at (behind_gate payload) (now old side).reads, failed_as_made _ _ _ _ (failed_write_image _ _ _ _ (settled_image _)), staged_reads);
  }

  -- the gate is open
  pub opened : Reads (overwritten (at - 1) (1 ∷ []) (overwritten at (behind_gate payload) (now old side).reads)) header (payloads ++ payload ∷ [])
  opened =
      let rest = blob_spelling payload ++ 0 ∷ drop (at + length (behind_gate payload)) (now old side).reads in
      let whole : overwritten (at - 1) (1 ∷ []) (overwritten at (behind_gate payload) (now old side).reads) ≡ header ++ (records payloads ++ 1 ∷ rest) =
      ap (overwritten (at - 1) (1 ∷ [])) staged
      ∙ append_assoc (take (at - 1) (header ++ (records payloads ++ stands.reads.gate ∷ rest))) (1 ∷ []) (drop (at - 1 + 1) (header ++ (records payloads ++ stands.reads.gate ∷ rest)))
      ∙ with_gate stands.reads.gate 1 rest in
      subst (λ (g : List ℕ). Reads g header (payloads ++ payload ∷ [])) (sym whole) (reads_opened header payloads payload stands.reads.header_length stands.reads.sized fits (drop (at + length (behind_gate payload)) (now old side).reads))

  pub next_place : at + 5 + length payload ≡ end_of header (payloads ++ payload ∷ []) + 1
  next_place =
      omega (arith, stands.place, ap length (records_push payloads payload []), length-append (records (payloads ++ payload ∷ [])) [], length-append (records payloads) (1 ∷ (blob_spelling payload ++ [])), length-append (blob_spelling payload) [], length-blob payload)

  -- and on the disk
  pub stands_next : (new : DiskHistory) → now new side ≡ settled (overwritten (at - 1) (1 ∷ []) (overwritten at (behind_gate payload) (now old side).reads)) → Stands side (at + 5 + length payload) new header (payloads ++ payload ∷ [])
  stands_next new is = record {
    settled = is ∙ ap (λ (d : Disk). settled d.reads) (sym is);
    reads = subst (λ (g : List ℕ). Reads g header (payloads ++ payload ∷ [])) (ap (λ (d : Disk). d.reads) (sym is)) opened;
    place = next_place;
  }

  pub has_next : (disk : Disk) → disk ≡ settled (overwritten (at - 1) (1 ∷ []) (overwritten at (behind_gate payload) (now old side).reads)) → HasOrNot header payloads payload disk
  has_next disk is image left =
      inr (subst (λ (g : List ℕ). Reads g header (payloads ++ payload ∷ [])) (sym (settled_only _ image (subst (λ (d : Disk). IsImage d image) is left))) opened)
