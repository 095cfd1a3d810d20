-- Items read one after the other, as a loop does.
use Rattle.std.proofs.Common.{◌≡◌, ℕ, suc, ◌-◌, ◌+◌, ◌≤◌, ◌<◌, List, [], ◌∷◌, ◌++◌, length, Option, Some, Result, Ok, Err, refl, sym, ap, ◌∙◌, append_assoc, length-append, arith}
use Rattle.std.specs.List.{slice_get}
use Rattle.std.proofs.lemmas.List.{append-nil}
use Rattle.dk_wire.specs.declared.payload.PayloadRefused.{PayloadRefused}
use Rattle.dk_wire.specs.declared.payload.PayloadRefused.TheVariants.{NotInGrammar, NoMemory}
use Rattle.dk_types.specs.Rest.{Rest}
use Rattle.dk_types.specs.Reading.{◌>>=◌}
use Rattle.dk_wire.specs.Payload.{Misses}
use Rattle.dk_types.specs.Lists.{items_at}

-- the last item, if there is one
abbrev pub last_of : {A : Type 0} → List A → Option A
last_of xs = slice_get xs (length xs - 1)

-- behind a `push` the last item is the one that was pushed
pub last_of-push : {A : Type 0} (xs : List A) (x : A) → last_of (xs ++ x ∷ []) ≡ Some x
last_of-push xs x = ap (slice_get (xs ++ x ∷ [])) (omega (arith, length-append xs (x ∷ []))) ∙ seam xs
  where
    seam : (xs : List _) → slice_get (xs ++ x ∷ []) (length xs) ≡ Some x
    seam [] = refl
    seam (y ∷ xs) = seam xs

-- the items that were read before, and those that are still read
abbrev pub with_front : {A : Type 0} → List A → Result (List A × Rest) ℕ → Result (List A × Rest) ℕ
with_front front read = read >>= λ x. Ok (front ++ x.0, x.1)

regroup : {A : Type 0} (front : List A) (x : A) (read : Result (List A × Rest) ℕ) → with_front front (read >>= λ xs. Ok (x ∷ xs.0, xs.1)) ≡ with_front (front ++ x ∷ []) read
regroup front x (Ok xs) = ap (λ (all : List _). Ok (all, xs.1)) (simp append_assoc)
regroup front x (Err at) = refl

-- one more item was read
pub goes_on : {A : Type 0} (item : Option A → Rest → Result (A × Rest) ℕ) (front : List A) (count i : ℕ) (r : Rest) (x : A) (after : Rest) (total : Result (List A × Rest) ℕ) → i < count → item (last_of front) r ≡ Ok (x, after)
    → with_front front (items_at item (last_of front) (count - i) r) ≡ total → with_front (front ++ x ∷ []) (items_at item (last_of (front ++ x ∷ [])) (count - (i + 1)) after) ≡ total
unfolding items_at
goes_on item front count i r x after total lt read so_far =
    let k : count - i ≡ suc (count - (i + 1)) = omega arith in
    let one : with_front front (items_at item (last_of front) (count - i) r) ≡ with_front (front ++ x ∷ []) (items_at item (Some x) (count - (i + 1)) after) = rw (k, read) (regroup front x (items_at item (Some x) (count - (i + 1)) after)) in
    ap (λ (before : Option _). with_front (front ++ x ∷ []) (items_at item before (count - (i + 1)) after)) (last_of-push front x) ∙ sym one ∙ so_far

-- an item was not read
pub ends : {A : Type 0} (item : Option A → Rest → Result (A × Rest) ℕ) (e : PayloadRefused) (front : List A) (count i : ℕ) (r : Rest) (total : Result (List A × Rest) ℕ) → i < count → Misses e (item (last_of front) r)
    → with_front front (items_at item (last_of front) (count - i) r) ≡ total → Misses e total
unfolding items_at
ends item NoMemory front count i r total lt misses so_far = tt
ends item (NotInGrammar at) front count i r total lt misses so_far =
    let k : count - i ≡ suc (count - (i + 1)) = omega arith in
    let one : with_front front (items_at item (last_of front) (count - i) r) ≡ Err at = rw (k, misses) refl in
    sym so_far ∙ one

-- all items were read
pub is_done : {A : Type 0} (item : Option A → Rest → Result (A × Rest) ℕ) (front : List A) (count i : ℕ) (r : Rest) (total : Result (List A × Rest) ℕ) → count ≤ i → with_front front (items_at item (last_of front) (count - i) r) ≡ total → total ≡ Ok (front, r)
unfolding items_at
is_done item front count i r total le so_far =
    let k : count - i ≡ 0 = omega arith in
    let one : with_front front (items_at item (last_of front) (count - i) r) ≡ Ok (front, r) = rw k (ap (λ (xs : List _). Ok (xs, r)) (append-nil front)) in
    sym so_far ∙ one
