-- What a read gives is an image after each step.
use Rattle.std.proofs.Common.{◌≡◌, ◌⊎◌, ⊎_elim, ℕ, ◌+◌, ◌-◌, ◌<◌, ◌≤◌, min, max, List, [], ◌∷◌, ◌++◌, length, take, drop, refl, ◌∙◌, ap, arith}
use Rattle.std.specs.Prelude.{slice_index}
use Rattle.std.proofs.lemmas.List.{same_lists, length-take, length-drop, length-append, get_or-take, get_or-drop, get_or-append_right, get_or_append_left, get_or_default}
use Rattle.dk_disk.specs.Disk.{Disk, IsImage, IsUntouched, settled, overwritten, after_write, after_failed_write, after_cut, after_failed_cut}

pub settled_image : (bytes : List ℕ) → IsImage (settled bytes) bytes
settled_image bytes = record { no_shorter = omega arith; no_longer = omega arith; kept = λ i l k u. refl }

-- an image of what is settled is that
pub settled_only : (bytes image : List ℕ) → IsImage (settled bytes) image → image ≡ bytes
settled_only bytes image is =
    let len : length image ≡ length bytes = omega (arith, is.no_shorter, is.no_longer) in
    same_lists image bytes len (λ k d lt. get_or_default image k d 0 lt ∙ is.kept k lt (omega (arith, lt, len)) tt ∙ get_or_default bytes k 0 d (omega (arith, lt, len)))

pub overwritten_length : (at : ℕ) (bytes file : List ℕ) → at ≤ length file → length (overwritten at bytes file) ≡ max (length file) (at + length bytes)
overwritten_length at bytes file le =
    let tail = drop (at + length bytes) file in
    let whole : length (take at file ++ bytes ++ tail) ≡ length (take at file) + length bytes + length tail = length-append (take at file ++ bytes) tail ∙ ap (λ n. n + length tail) (length-append (take at file) bytes) in
    omega (arith, whole, length-take at file, length-drop (at + length bytes) file, le)

-- a position that the bytes do not reach stays
pub overwritten_stays : (at : ℕ) (bytes file : List ℕ) (i : ℕ) → at ≤ length file → i < length (overwritten at bytes file) → (i < at) ⊎ (at + length bytes ≤ i) → (slice_index (overwritten at bytes file) i ≡ slice_index file i) × (i < length file)
overwritten_stays at bytes file i le lt out =
    let len = overwritten_length at bytes file le in
    let here : i < length file = ⊎_elim (λ l. omega (arith, l, le)) (λ l. omega (arith, l, lt, len)) out in
    (⊎_elim (λ l. before l) (λ l. behind l) out, here)
  where
    front : length (take at file) ≡ at
    front = omega (arith, length-take at file, le)

    both : length (take at file ++ bytes) ≡ at + length bytes
    both = omega (arith, length-append (take at file) bytes, front)

    before : i < at → slice_index (overwritten at bytes file) i ≡ slice_index file i
    before l =
        get_or_append_left (take at file ++ bytes) (drop (at + length bytes) file) 0 i (omega (arith, l, both))
        ∙ get_or_append_left (take at file) bytes 0 i (omega (arith, l, front))
        ∙ get_or-take at file i 0 l

    behind : at + length bytes ≤ i → slice_index (overwritten at bytes file) i ≡ slice_index file i
    behind l =
        get_or-append_right (take at file ++ bytes) (drop (at + length bytes) file) (at + length bytes) i 0 both l
        ∙ get_or-drop (at + length bytes) file (i - (at + length bytes)) 0
        ∙ ap (λ k. slice_index file k) (omega (arith, l))

-- no range has a position, of all the ranges but the last and of the last
pub untouched_push : (ranges : List (ℕ × ℕ)) (range : ℕ × ℕ) (i : ℕ) → IsUntouched (ranges ++ range ∷ []) i → IsUntouched ranges i × ((i < range.0) ⊎ (range.0 + range.1 ≤ i))
untouched_push [] range i u = (tt, u.0)
untouched_push (r ∷ ranges) range i u = let rest = untouched_push ranges range i u.1 in ((u.0, rest.0), rest.1)

pub failed_write_image : (at n : ℕ) (disk : Disk) (image : List ℕ) → IsImage disk image → IsImage (after_failed_write at n disk) image
failed_write_image at n disk image is = record { no_shorter = is.no_shorter; no_longer = omega (arith, is.no_longer); kept = λ i l k u. is.kept i l k (untouched_push disk.touched (at, n) i u).0 }

pub write_image : (at : ℕ) (bytes : List ℕ) (disk : Disk) → at ≤ length disk.reads → IsImage disk disk.reads → IsImage (after_write at bytes disk) (after_write at bytes disk).reads
write_image at bytes disk le is =
    let len = overwritten_length at bytes disk.reads le in
    record {
      no_shorter = omega (arith, len, is.no_shorter);
      no_longer = omega (arith, len, is.no_longer);
      kept = λ i l k u.
          let out = untouched_push disk.touched (at, length bytes) i u in
          let stays = overwritten_stays at bytes disk.reads i le l out.1 in
          stays.0 ∙ is.kept i stays.1 k out.0;
    }

pub failed_cut_image : (to : ℕ) (disk : Disk) (image : List ℕ) → IsImage disk image → IsImage (after_failed_cut to disk) image
failed_cut_image to disk image is = record { no_shorter = omega (arith, is.no_shorter); no_longer = is.no_longer; kept = is.kept }

pub cut_image : (to : ℕ) (disk : Disk) → IsImage disk disk.reads → IsImage (after_cut to disk) (after_cut to disk).reads
cut_image to disk is =
    let len : length (take to disk.reads) ≡ min to (length disk.reads) = length-take to disk.reads in
    record {
      no_shorter = omega (arith, len, is.no_shorter);
      no_longer = omega (arith, len, is.no_longer);
      kept = λ i l k u. get_or-take to disk.reads i 0 (omega (arith, len, l)) ∙ is.kept i (omega (arith, len, l)) k u;
    }
