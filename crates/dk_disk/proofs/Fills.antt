-- A byte put at places of a list, range by range.
use Rattle.std.proofs.Common.{◌≡◌, ◌⊎◌, inl, inr, ⊎_elim, ℕ, ◌+◌, ◌-◌, ◌<◌, ◌≤◌, ◌^◌, min, max, List, [], ◌∷◌, ◌++◌, length, set, take, replicate, refl, ◌∙◌, arith, length-append}
use Rattle.std.specs.Prelude.{slice_index}
use Rattle.std.proofs.lemmas.List.{get_or-set_same, get_or-set_other, length-set, get_or_append_left, get_or-append_right, get_or-take, length-take, length-replicate, get_or-replicate}
use Rattle.std.proofs.lemmas.Bool.{cases_eq}
use Rattle.dk_disk.specs.Disk.{IsTouched, IsUntouched}
use Rattle.dk_disk.specs.Torn.{IsPainted, IsFilledOver}

pub painted_none : (start fill : ℕ) (old : List ℕ) → IsPainted start start fill old old
painted_none start fill old = record { length_is = refl; inside = λ i l m. absurd (omega (arith, l, m)); outside = λ i o. refl }

pub painted_more : (start at fill : ℕ) (old new : List ℕ) → start ≤ at → at < length old → IsPainted start at fill old new → IsPainted start (at + 1) fill old (set new at fill)
painted_more start at fill old new from lt is = record {
  length_is = length-set new at fill ∙ is.length_is;
  inside = λ i l m. elim (cases_eq i at) [
    | inl same ↦ rw same (get_or-set_same new at fill 0 (omega (arith, lt, is.length_is)))
    | inr differs ↦ get_or-set_other new at i fill 0 differs ∙ is.inside i l (grind arith)
  ];
  outside = λ i o. get_or-set_other new at i fill 0 (λ same. ⊎_elim (λ l. omega (arith, l, same, from)) (λ l. omega (arith, l, same)) o) ∙ is.outside i (⊎_elim (λ l. inl l) (λ l. inr (omega (arith, l))) o);
}

pub painted_end : (start at end fill : ℕ) (old new : List ℕ) → end ≤ at → at ≤ max start end → IsPainted start at fill old new → IsPainted start end fill old new
painted_end start at end fill old new past most is = record {
  length_is = is.length_is;
  inside = λ i l m. is.inside i l (omega (arith, m, past));
  outside = λ i o. is.outside i (⊎_elim (λ l. inl l) (λ l. behind i l) o);
}
  where
    behind : (i : ℕ) → end ≤ i → (i < start) ⊎ (at ≤ i)
    behind i l = grind arith

-- no range, over a list that was cut or filled up
pub filled_none : (fill size : ℕ) (synced : List ℕ) → IsFilledOver fill size synced [] (take size synced ++ replicate (size - length synced) fill)
filled_none fill size synced = record {
  length_is = omega (arith, length-append (take size synced) (replicate (size - length synced) fill), length-take size synced, length-replicate (size - length synced) fill);
  kept = λ i l k u. get_or_append_left (take size synced) (replicate (size - length synced) fill) 0 i (omega (arith, l, k, length-take size synced)) ∙ get_or-take size synced i 0 l;
  filled = λ i l t. ⊎_elim (λ past. behind i l past) (λ none. absurd none) t;
}
  where
    behind : (i : ℕ) → i < size → length synced ≤ i → slice_index (take size synced ++ replicate (size - length synced) fill) i ≡ fill
    behind i l past =
        get_or-append_right (take size synced) (replicate (size - length synced) fill) (length synced) i 0 (omega (arith, l, past, length-take size synced)) past
        ∙ get_or-replicate (size - length synced) (i - length synced) fill 0 (omega (arith, l, past))

-- a position is in the last range or in none of it
pub untouched_split : (ranges : List (ℕ × ℕ)) (range : ℕ × ℕ) (i : ℕ) → IsUntouched (ranges ++ range ∷ []) i → IsUntouched ranges i × ((i < range.0) ⊎ (range.0 + range.1 ≤ i))
untouched_split [] range i u = (tt, u.0)
untouched_split (r ∷ ranges) range i u = let rest = untouched_split ranges range i u.1 in ((u.0, rest.0), rest.1)

pub touched_split : (ranges : List (ℕ × ℕ)) (range : ℕ × ℕ) (i : ℕ) → IsTouched (ranges ++ range ∷ []) i → IsTouched ranges i ⊎ ((range.0 ≤ i) × (i < range.0 + range.1))
touched_split [] range i (inl here) = inr here
touched_split [] range i (inr none) = absurd none
touched_split (r ∷ ranges) range i (inl here) = inl (inl here)
touched_split (r ∷ ranges) range i (inr there) = ⊎_elim (λ t. inl (inr t)) (λ t. inr t) (touched_split ranges range i there)

within : (i at n : ℕ) → ((at ≤ i) × (i < at + n)) ⊎ ((i < at) ⊎ (at + n ≤ i))
within i at n = grind arith

-- one range more
filled_push : (fill size : ℕ) (synced : List ℕ) (ranges : List (ℕ × ℕ)) (range : ℕ × ℕ) (start end : ℕ) (old new : List ℕ) → IsFilledOver fill size synced ranges old
    → ((i : ℕ) → i < size → (range.0 ≤ i) × (i < range.0 + range.1) → (start ≤ i) × (i < end)) → ((i : ℕ) → i < size → (i < range.0) ⊎ (range.0 + range.1 ≤ i) → (i < start) ⊎ (end ≤ i))
    → IsPainted start end fill old new → IsFilledOver fill size synced (ranges ++ range ∷ []) new
filled_push fill size synced ranges range start end old new is reaches leaves painted = record {
  length_is = painted.length_is ∙ is.length_is;
  kept = λ i l k u. let split = untouched_split ranges range i u in painted.outside i (leaves i l split.1) ∙ is.kept i l k split.0;
  filled = λ i l t. fills i l t (within i range.0 range.1);
}
  where
    fills : (i : ℕ) → i < size → (length synced ≤ i) ⊎ IsTouched (ranges ++ range ∷ []) i → ((range.0 ≤ i) × (i < range.0 + range.1)) ⊎ ((i < range.0) ⊎ (range.0 + range.1 ≤ i)) → slice_index new i ≡ fill
    fills i l t (inl here) = let place = reaches i l here in painted.inside i place.0 place.1
    fills i l (inl past) (inr out) = painted.outside i (leaves i l out) ∙ is.filled i l (inl past)
    fills i l (inr touched) (inr out) = painted.outside i (leaves i l out) ∙ is.filled i l (⊎_elim (λ t. inr t) (λ t. absurd (⊎_elim (λ b. omega (arith, t.0, b)) (λ b. omega (arith, t.1, b)) out)) (touched_split ranges range i touched))

pub filled_more : (fill size : ℕ) (synced : List ℕ) (touched : List (ℕ × ℕ)) (k : ℕ) (range : ℕ × ℕ) (start sum end : ℕ) (old new : List ℕ) → IsFilledOver fill size synced (take k touched) old → size < 2 ^ 64
    → take (k + 1) touched ≡ take k touched ++ range ∷ [] → start ≡ min range.0 size → sum ≡ min (range.0 + range.1) (2 ^ 64 - 1) → end ≡ min sum size
    → IsPainted start end fill old new → IsFilledOver fill size synced (take (k + 1) touched) new
filled_more fill size synced touched k range start sum end old new is fits more start_is sum_is end_is painted =
    rw more (filled_push fill size synced (take k touched) range start end old new is (λ i l t. (omega (arith, start_is, l, t.0), omega (arith, end_is, sum_is, l, t.1, fits))) (λ i l o. ⊎_elim (λ b. inl (omega (arith, start_is, l, b))) (λ b. inr (omega (arith, end_is, sum_is, b))) o) painted)
