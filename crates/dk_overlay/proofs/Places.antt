-- A key's place in a list of entries in order, looked for by halves.
use Rattle.std.proofs.Common.{◌≡◌, ℕ, suc, ◌+◌, ◌<◌, ◌≤◌, refl, sym, ap, subst, ◌∙◌, arith, Bool, true, false, cond, not, List, [], ◌∷◌, ◌++◌, append_assoc, append-nil, length, take, drop, get_or, Some, Ok, Err}
use Rattle.std.proofs.lemmas.List.{set_split, drop_all, take-append-drop}
use Rattle.std.proofs.lemmas.Option.{slice_get_read}
use Rattle.std.proofs.Math.Seq.{drop-cons, take-suc}
use Rattle.std.specs.declared.cmp.Ordering.{Ordering}
use Rattle.std.specs.declared.cmp.Ordering.TheVariants.{Less, Equal, Greater}
use Rattle.std.specs.Ordering.{is_eq}
use Rattle.std.specs.Cmp.{IsTotalOrder}
use Rattle.std.specs.FinMap.Entries.{by_order}
use Rattle.dk_map.specs.Entries.{find, put, without, IsOrdered}
use Rattle.dk_map.proofs.Around.{AllAbove, AllBelow, AtEntry, above_less, at_entry, below_greater, find_above, find_middle, put_middle, without_middle}
use Rattle.dk_overlay.specs.SmallMaps.{IsPlace}

module _ {K V : Type 0} (R : K → K → Ordering) (k : K) where
  -- a search passes over keys below
  find_past : (l d : List (K × V)) → AllBelow R k l → find R k (l ++ d) ≡ find R k d
  find_past [] d a = refl
  find_past (e ∷ l) d a = ap (λ c. cond (is_eq c) (Some e.1) (find R k (l ++ d))) a.0 ∙ find_past l d a.1

  -- an entry goes past keys below it
  put_past : (v : V) (l d : List (K × V)) → AllBelow R k l → put R k v (l ++ d) ≡ l ++ put R k v d
  put_past v [] d a = refl
  put_past v (x ∷ l) d a = ap (λ c. by_order c ((k, v) ∷ x ∷ (l ++ d)) ((x.0, v) ∷ (l ++ d)) (x ∷ put R k v (l ++ d))) a.0 ∙ ap (λ t. x ∷ t) (put_past v l d a.1)

  -- and stands before keys above it
  put_first : (v : V) (d : List (K × V)) → AllAbove R k d → put R k v d ≡ (k, v) ∷ d
  put_first v [] a = refl
  put_first v (x ∷ d) a = ap (λ c. by_order c ((k, v) ∷ x ∷ d) ((x.0, v) ∷ d) (x ∷ put R k v d)) a.0

  -- keys below another stay
  without_past : (l d : List (K × V)) → AllBelow R k l → without R k (l ++ d) ≡ l ++ without R k d
  without_past [] d a = refl
  without_past (x ∷ l) d a = ap (λ c. cond (not (is_eq c)) (x ∷ without R k (l ++ d)) (without R k (l ++ d))) a.0 ∙ ap (λ t. x ∷ t) (without_past l d a.1)

  -- keys above another stay
  without_first : (d : List (K × V)) → AllAbove R k d → without R k d ≡ d
  without_first [] a = refl
  without_first (x ∷ d) a = ap (λ c. cond (not (is_eq c)) (x ∷ without R k d) (without R k d)) a.0 ∙ ap (λ t. x ∷ t) (without_first d a.1)

  -- one more key below
  below_next : (l : List (K × V)) (e : K × V) → AllBelow R k l → R k e.0 ≡ Greater → AllBelow R k (l ++ e ∷ [])
  below_next [] e a p = (p, tt)
  below_next (x ∷ l) e a p = (a.0, below_next l e a.1 p)

-- the first entries of es, so many as low, are below k, and those from high on are above it
pub record Between {K V : Type 0} (R : K → K → Ordering) (k : K) (es : List (K × V)) (low high : ℕ) : Type 0 where
  pub below : AllBelow R k (take low es)
  pub above : AllAbove R k (drop high es)
  pub ascends : low ≤ high
  pub within : high ≤ length es

module _ {K V : Type 0} {R : K → K → Ordering} (o : IsTotalOrder R) (k : K) (es : List (K × V)) where
  -- at first all entries are left to be looked at
  pub nothing_seen : (n : ℕ) → n ≡ length es → Between R k es 0 n
  nothing_seen n is =
      let none : drop n es ≡ [] = drop_all n es (omega (arith, is)) in
      record { below = tt; above = subst (AllAbove R k) (sym none) tt; ascends = omega arith; within = omega (arith, is) }

  -- the entry e at n is looked at
  module _ (n : ℕ) (e : K × V) (within : n < length es) (is : e ≡ get_or es n e) (h : IsOrdered R es) where
    split : drop n es ≡ e ∷ drop (suc n) es
    split = drop-cons es n e within ∙ ap (λ x. x ∷ drop (suc n) es) (sym is)

    around : AtEntry R es (take n es) e (drop (suc n) es)
    around = at_entry o (sym (take-append-drop n es) ∙ ap (λ d. take n es ++ d) split) h

    front : take (suc n) es ≡ take n es ++ e ∷ []
    front = take-suc es n e within ∙ ap (λ x. take n es ++ x ∷ []) (sym is)

    -- its key is below k
    pub passes : (low high : ℕ) → n < high → R k e.0 ≡ Greater → Between R k es low high → Between R k es (n + 1) high
    passes low high before p s =
        let next : suc n ≡ n + 1 = omega arith in
        let below : AllBelow R k (take (suc n) es) = subst (AllBelow R k) (sym front) (below_next R k (take n es) e (below_greater o k e.0 (take n es) p around.below) p) in
        record { below = subst (λ m. AllBelow R k (take m es)) next below; above = s.above; ascends = omega (arith, before); within = s.within }

    -- its key is above k
    pub stops : (low high : ℕ) → low ≤ n → R k e.0 ≡ Less → Between R k es low high → Between R k es low n
    stops low high behind p s =
        let above : AllAbove R k (e ∷ drop (suc n) es) = (p, above_less o k e.0 (drop (suc n) es) p around.above) in
        record { below = s.below; above = subst (AllAbove R k) (sym split) above; ascends = behind; within = omega (arith, within) }

    -- it is the entry of k
    pub arrives : R k e.0 ≡ Equal → IsPlace R k es (Ok n)
    arrives p = (
      e,
      slice_get_read es (length es) n e refl within is,
      find_middle o around k p,
      λ v. put_middle o around k v p ∙ sym (set_split es n (e.0, v) within),
      without_middle o around k p,
    )

  -- nothing is left to be looked at
  pub runs_out : (low high : ℕ) → high ≤ low → Between R k es low high → IsPlace R k es (Err low)
  runs_out low high over s =
      let same : high ≡ low = omega (arith, over, s.ascends) in
      let above : AllAbove R k (drop low es) = subst (λ m. AllAbove R k (drop m es)) same s.above in
      let whole : es ≡ take low es ++ drop low es = sym (take-append-drop low es) in (
        omega (arith, over, s.within),
        ap (find R k) whole ∙ find_past R k (take low es) (drop low es) s.below ∙ find_above R k (drop low es) above,
        λ v. ap (put R k v) whole ∙ put_past R k v (take low es) (drop low es) s.below ∙ ap (λ t. take low es ++ t) (put_first R k v (drop low es) above),
        ap (without R k) whole ∙ without_past R k (take low es) (drop low es) s.below ∙ ap (λ t. take low es ++ t) (without_first R k (drop low es) above) ∙ sym whole,
      )

-- an entry above all others goes last
pub put_last : {K V : Type 0} (R : K → K → Ordering) (k : K) (v : V) (es : List (K × V)) → AllBelow R k es → put R k v es ≡ es ++ (k, v) ∷ []
put_last R k v [] a = refl
put_last R k v (x ∷ es) a = ap (λ c. by_order c ((k, v) ∷ x ∷ es) ((x.0, v) ∷ es) (x ∷ put R k v es)) a.0 ∙ ap (λ t. x ∷ t) (put_last R k v es a.1)

-- the next of entries in order goes last among those before it
pub put_next : {K V : Type 0} {R : K → K → Ordering} → IsTotalOrder R → (es : List (K × V)) (k : K) (v : V) (rest : List (K × V)) → IsOrdered R (es ++ (k, v) ∷ rest) → put R k v es ≡ es ++ (k, v) ∷ []
put_next {R = R} o es k v rest h =
    let a : AtEntry R (es ++ (k, v) ∷ rest) es (k, v) rest = at_entry o refl h in
    put_last R k v es a.below

-- a loop that puts entries in order into a map that was empty: what was put, and what is left to put, is all
module _ {K V : Type 0} {R : K → K → Ordering} (o : IsTotalOrder R) (es left rest all fs : List (K × V)) (k : K) (v : V) where
  pub filling : left ≡ (k, v) ∷ rest → IsOrdered R all → es ++ left ≡ all → fs ≡ put R k v es → fs ++ rest ≡ all
  filling is h so_far done =
      let whole : es ++ (k, v) ∷ rest ≡ all = ap (λ l. es ++ l) (sym is) ∙ so_far in
      ap (λ l. l ++ rest) (done ∙ put_next o es k v rest (subst (IsOrdered R) (sym whole) h)) ∙ append_assoc es ((k, v) ∷ []) rest ∙ whole

-- and there is room for what is left
pub room_left : {A : Type 0} (left rest : List A) (x : A) (b : Bool) (first before now all : ℕ) → left ≡ x ∷ rest → first + length left ≤ before + all → now + cond b 0 1 ≡ before → first + length rest ≤ now + all
room_left left rest x true first before now all is room took = omega (arith, room, took, ap length is)
room_left left rest x false first before now all is room took = omega (arith, room, took, ap length is)
