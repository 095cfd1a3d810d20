-- What stands around an entry e of a list in order, and where a key's place is in it.
use Rattle.std.proofs.Common.{◌≡◌, refl, ap, subst, ◌∙◌, Bool, true, false, cond, not, ◌&&◌, List, [], ◌∷◌, ◌++◌, ◌<◌, length, length-append, arith}
use Rattle.std.specs.Prelude.{T, Option, None, Some}
use Rattle.std.specs.Option.{option_or}
use Rattle.std.specs.declared.cmp.Ordering.{Ordering}
use Rattle.std.specs.declared.cmp.Ordering.TheVariants.{Less, Equal, Greater}
use Rattle.std.specs.Ordering.{is_lt, is_eq, ordering_reverse, eq_by_cmp}
use Rattle.std.specs.Cmp.{IsTotalOrder}
use Rattle.std.specs.FinMap.Entries.{below_all, by_order}
use Rattle.dk_map.specs.Entries.{find, put, IsOrdered, without, first_above}

-- the first of two tests that both hold
first : (a b : Bool) → T (a && b) → T a
first true b p = tt
first false b p = absurd p

-- the second of two tests that both hold
second : (a b : Bool) → T (a && b) → T b
second true b p = p
second false b p = absurd p

-- both tests hold
both : (a b : Bool) → T a → T b → T (a && b)
both true b p q = q
both false b p q = absurd p

-- a test for `Less` that holds
less : (o : Ordering) → T (is_lt o) → o ≡ Less
less Less p = refl
less Equal p = absurd p
less Greater p = absurd p

-- each list beside an element is shorter than the whole
shorter_sides : {X : Type 0} (l : List X) (e : X) (r : List X) → (length l < length (l ++ e ∷ r)) × (length r < length (l ++ e ∷ r))
shorter_sides l e r = omega (arith, length-append l (e ∷ r))

module _ {K V : Type 0} (R : K → K → Ordering) where
  -- each key of the list is below q
  abbrev pub AllBelow : K → List (K × V) → Type 0
  AllBelow q [] = Unit {0}
  AllBelow q (e ∷ es) = (R q e.0 ≡ Greater) × AllBelow q es

  -- each key of the list is above q
  abbrev pub AllAbove : K → List (K × V) → Type 0
  AllAbove q [] = Unit {0}
  AllAbove q (e ∷ es) = (R q e.0 ≡ Less) × AllAbove q es

  -- entries d in order are a list l, an entry e and a list r, one after another
  pub record AtEntry (d l : List (K × V)) (e : K × V) (r : List (K × V)) : Type 0 where
    pub is : d ≡ l ++ e ∷ r
    pub left : IsOrdered R l
    pub right : IsOrdered R r
    pub below : AllBelow e.0 l
    pub above : AllAbove e.0 r
    pub shorter : (length l < length d) × (length r < length d)

  above_from : (x : K) (es : List (K × V)) → T (below_all R x es) → AllAbove x es
  above_from x [] h = tt
  above_from x (e ∷ es) h = (less _ (first _ _ h), above_from x es (second _ _ h))

  below_front : (x : K) (l m : List (K × V)) → T (below_all R x (l ++ m)) → T (below_all R x l)
  below_front x [] m h = tt
  below_front x (e ∷ l) m h = both _ _ (first _ _ h) (below_front x l m (second _ _ h))

  below_middle : (x : K) (l : List (K × V)) (e : K × V) (r : List (K × V)) → T (below_all R x (l ++ e ∷ r)) → R x e.0 ≡ Less
  below_middle x [] e r h = less _ (first _ _ h)
  below_middle x (y ∷ l) e r h = below_middle x l e r (second _ _ h)

module _ {K : Type 0} {R : K → K → Ordering} (o : IsTotalOrder R) where
  -- what is below y has y above it
  turned : (x y : K) → R x y ≡ Less → R y x ≡ Greater
  turned x y p = o.antisymm y x ∙ ap ordering_reverse p

  -- what is above y has y below it
  turned_back : (x y : K) → R x y ≡ Greater → R y x ≡ Less
  turned_back x y p = o.antisymm y x ∙ ap ordering_reverse p

module _ {K V : Type 0} {R : K → K → Ordering} (o : IsTotalOrder R) where
  -- what is above y is below all that y is below
  pub above_less : (q x : K) (es : List (K × V)) → R q x ≡ Less → AllAbove R x es → AllAbove R q es
  above_less q x [] p a = tt
  above_less q x (e ∷ es) p a = (o.trans q x e.0 p a.0, above_less q x es p a.1)

  pub above_tied : (q x : K) (es : List (K × V)) → R q x ≡ Equal → AllAbove R x es → AllAbove R q es
  above_tied q x [] p a = tt
  above_tied q x (e ∷ es) p a = (o.congr q x e.0 p ∙ a.0, above_tied q x es p a.1)

  pub below_greater : (q x : K) (es : List (K × V)) → R q x ≡ Greater → AllBelow R x es → AllBelow R q es
  below_greater q x [] p a = tt
  below_greater q x (e ∷ es) p a = (turned o e.0 q (o.trans e.0 x q (turned_back o x e.0 a.0) (turned_back o q x p)), below_greater q x es p a.1)

  pub below_tied : (q x : K) (es : List (K × V)) → R q x ≡ Equal → AllBelow R x es → AllBelow R q es
  below_tied q x [] p a = tt
  below_tied q x (e ∷ es) p a = (o.congr q x e.0 p ∙ a.0, below_tied q x es p a.1)

  -- what stands around an entry, where the whole is in order
  around : (l : List (K × V)) (e : K × V) (r : List (K × V)) → IsOrdered R (l ++ e ∷ r) → AtEntry R (l ++ e ∷ r) l e r
  around [] e r h = record { is = refl; left = tt; right = second _ _ h; below = tt; above = above_from R e.0 r (first _ _ h); shorter = shorter_sides [] e r }
  around (x ∷ l) e r h =
      let rest = around l e r (second _ _ h) in
      record {
        is = refl;
        left = both _ _ (below_front R x.0 l (e ∷ r) (first _ _ h)) rest.left;
        right = rest.right;
        below = (turned o x.0 e.0 (below_middle R x.0 l e r (first _ _ h)), rest.below);
        above = rest.above;
        shorter = shorter_sides (x ∷ l) e r;
      }

  -- the same of entries that are known to be so
  pub at_entry : {d l : List (K × V)} {e : K × V} {r : List (K × V)} → d ≡ l ++ e ∷ r → IsOrdered R d → AtEntry R d l e r
  at_entry {d} {l} {e} {r} is h =
      let a = around l e r (subst (IsOrdered R) is h) in
      record { is = is; left = a.left; right = a.right; below = a.below; above = a.above; shorter = rw is a.shorter }

module _ {K V : Type 0} (R : K → K → Ordering) where
  -- a key is not among keys above it
  pub find_above : (q : K) (es : List (K × V)) → AllAbove R q es → find R q es ≡ None
  find_above q [] a = refl
  find_above q (e ∷ es) a = ap (λ r. cond (is_eq r) (Some e.1) (find R q es)) a.0 ∙ find_above q es a.1

  -- a search passes over keys below
  pub find_below : (q : K) (l m : List (K × V)) → AllBelow R q l → find R q (l ++ m) ≡ find R q m
  find_below q [] m a = refl
  find_below q (e ∷ l) m a = ap (λ r. cond (is_eq r) (Some e.1) (find R q (l ++ m))) a.0 ∙ find_below q l m a.1

  -- a search passes over a list where its key is not
  find_front : (q : K) (l m : List (K × V)) → find R q m ≡ None → find R q (l ++ m) ≡ find R q l
  find_front q [] m none = none
  find_front q (e ∷ l) m none = ap (cond (eq_by_cmp R q e.0) (Some e.1)) (find_front q l m none)

  -- an entry whose key is below e goes to the left of it
  put_front : (k : K) (v : V) (l : List (K × V)) (e : K × V) (r : List (K × V)) → R k e.0 ≡ Less → put R k v (l ++ e ∷ r) ≡ put R k v l ++ e ∷ r
  put_front k v [] e r p = ap (λ r'. by_order r' ((k, v) ∷ e ∷ r) ((e.0, v) ∷ r) (e ∷ put R k v r)) p
  put_front k v (x ∷ l) e r p =
      elim (R k x.0) as (λ c. by_order c ((k, v) ∷ x ∷ (l ++ e ∷ r)) ((x.0, v) ∷ (l ++ e ∷ r)) (x ∷ put R k v (l ++ e ∷ r)) ≡ by_order c ((k, v) ∷ x ∷ l) ((x.0, v) ∷ l) (x ∷ put R k v l) ++ e ∷ r) [
        | Less ↦ refl
        | Equal ↦ refl
        | Greater ↦ ap (λ t. x ∷ t) (put_front k v l e r p)
      ]

  -- an entry goes past keys below it
  put_below : (k : K) (v : V) (l m : List (K × V)) → AllBelow R k l → put R k v (l ++ m) ≡ l ++ put R k v m
  put_below k v [] m a = refl
  put_below k v (x ∷ l) m a = ap (λ c. by_order c ((k, v) ∷ x ∷ (l ++ m)) ((x.0, v) ∷ (l ++ m)) (x ∷ put R k v (l ++ m))) a.0 ∙ ap (λ t. x ∷ t) (put_below k v l m a.1)

  -- to take a key out of two lists is to take it out of each
  without-append : (k : K) (l m : List (K × V)) → without R k (l ++ m) ≡ without R k l ++ without R k m
  without-append k [] m = refl
  without-append k (x ∷ l) m =
      elim (not (eq_by_cmp R k x.0)) as (λ b. cond b (x ∷ without R k (l ++ m)) (without R k (l ++ m)) ≡ cond b (x ∷ without R k l) (without R k l) ++ without R k m) [
        | true ↦ ap (λ t. x ∷ t) (without-append k l m)
        | false ↦ without-append k l m
      ]

  -- keys above another stay
  without_above : (k : K) (es : List (K × V)) → AllAbove R k es → without R k es ≡ es
  without_above k [] a = refl
  without_above k (x ∷ es) a = ap (λ c. cond (not (is_eq c)) (x ∷ without R k es) (without R k es)) a.0 ∙ ap (λ t. x ∷ t) (without_above k es a.1)

  -- keys below another stay
  without_below : (k : K) (es : List (K × V)) → AllBelow R k es → without R k es ≡ es
  without_below k [] a = refl
  without_below k (x ∷ es) a = ap (λ c. cond (not (is_eq c)) (x ∷ without R k es) (without R k es)) a.0 ∙ ap (λ t. x ∷ t) (without_below k es a.1)

  -- no key below q is above it
  above_below : (q : K) (l m : List (K × V)) → AllBelow R q l → first_above R q (l ++ m) ≡ first_above R q m
  above_below q [] m a = refl
  above_below q (x ∷ l) m a = ap (λ c. cond (is_lt c) (Some x) (first_above R q (l ++ m))) a.0 ∙ above_below q l m a.1

  -- the first entry above q stands before e or is e, where e is above q
  above_front : (q : K) (l : List (K × V)) (e : K × V) (r : List (K × V)) → R q e.0 ≡ Less → first_above R q (l ++ e ∷ r) ≡ option_or (first_above R q l) (Some e)
  above_front q [] e r p = ap (λ c. cond (is_lt c) (Some e) (first_above R q r)) p
  above_front q (x ∷ l) e r p =
      elim (is_lt (R q x.0)) as (λ b. cond b (Some x) (first_above R q (l ++ e ∷ r)) ≡ option_or (cond b (Some x) (first_above R q l)) (Some e)) [
        | true ↦ refl
        | false ↦ above_front q l e r p
      ]

-- of three answers, the last is not asked where the second is there
pub or_nearer : {A : Type 0} (r : Option A) (e : A) (far : Option A) → option_or (option_or r (Some e)) far ≡ option_or r (Some e)
or_nearer None e far = refl
or_nearer (Some x) e far = refl

-- the place of a key q among entries in order, by how it compares to the key of the entry e in the middle
module _ {K V : Type 0} {R : K → K → Ordering} (o : IsTotalOrder R) {d l : List (K × V)} {e : K × V} {r : List (K × V)} (a : AtEntry R d l e r) (q : K) where
  pub find_left : R q e.0 ≡ Less → find R q d ≡ find R q l
  find_left p = rw a.is (find_front R q l (e ∷ r) (find_above R q (e ∷ r) (p, above_less o q e.0 r p a.above)))

  pub find_middle : R q e.0 ≡ Equal → find R q d ≡ Some e.1
  find_middle p = rw a.is (find_below R q l (e ∷ r) (below_tied o q e.0 l p a.below) ∙ ap (λ c. cond (is_eq c) (Some e.1) (find R q r)) p)

  pub find_right : R q e.0 ≡ Greater → find R q d ≡ find R q r
  find_right p = rw a.is (find_below R q l (e ∷ r) (below_greater o q e.0 l p a.below) ∙ ap (λ c. cond (is_eq c) (Some e.1) (find R q r)) p)

  pub put_left : (v : V) → R q e.0 ≡ Less → put R q v d ≡ put R q v l ++ e ∷ r
  put_left v p = rw a.is (put_front R q v l e r p)

  pub put_middle : (v : V) → R q e.0 ≡ Equal → put R q v d ≡ l ++ (e.0, v) ∷ r
  put_middle v p = rw a.is (put_below R q v l (e ∷ r) (below_tied o q e.0 l p a.below) ∙ ap (λ c. l ++ by_order c ((q, v) ∷ e ∷ r) ((e.0, v) ∷ r) (e ∷ put R q v r)) p)

  pub put_right : (v : V) → R q e.0 ≡ Greater → put R q v d ≡ l ++ e ∷ put R q v r
  put_right v p = rw a.is (put_below R q v l (e ∷ r) (below_greater o q e.0 l p a.below) ∙ ap (λ c. l ++ by_order c ((q, v) ∷ e ∷ r) ((e.0, v) ∷ r) (e ∷ put R q v r)) p)

  pub without_left : R q e.0 ≡ Less → without R q d ≡ without R q l ++ e ∷ r
  without_left p = rw a.is (without-append R q l (e ∷ r) ∙ ap (λ t. without R q l ++ t) (without_above R q (e ∷ r) (p, above_less o q e.0 r p a.above)))

  pub without_middle : R q e.0 ≡ Equal → without R q d ≡ l ++ r
  without_middle p =
      rw a.is (without-append R q l (e ∷ r) ∙ ap (λ t. t ++ without R q (e ∷ r)) (without_below R q l (below_tied o q e.0 l p a.below))
      ∙ ap (λ c. l ++ cond (not (is_eq c)) (e ∷ without R q r) (without R q r)) p ∙ ap (λ t. l ++ t) (without_above R q r (above_tied o q e.0 r p a.above)))

  pub without_right : R q e.0 ≡ Greater → without R q d ≡ l ++ e ∷ without R q r
  without_right p =
      rw a.is (without-append R q l (e ∷ r) ∙ ap (λ t. t ++ without R q (e ∷ r)) (without_below R q l (below_greater o q e.0 l p a.below))
      ∙ ap (λ c. l ++ cond (not (is_eq c)) (e ∷ without R q r) (without R q r)) p)

  pub above_left : R q e.0 ≡ Less → first_above R q d ≡ option_or (first_above R q l) (Some e)
  above_left p = rw a.is (above_front R q l e r p)

  pub above_middle : R q e.0 ≡ Equal → first_above R q d ≡ first_above R q r
  above_middle p = rw a.is (above_below R q l (e ∷ r) (below_tied o q e.0 l p a.below) ∙ ap (λ c. cond (is_lt c) (Some e) (first_above R q r)) p)

  pub above_right : R q e.0 ≡ Greater → first_above R q d ≡ first_above R q r
  above_right p = rw a.is (above_below R q l (e ∷ r) (below_greater o q e.0 l p a.below) ∙ ap (λ c. cond (is_lt c) (Some e) (first_above R q r)) p)

  -- past an entry that is not above q, the first above q stands to the right
  pub above_beyond : (R q e.0 ≡ Less → ⊥) → first_above R q d ≡ first_above R q r
  above_beyond n =
      elim (R q e.0) as (λ c. R q e.0 ≡ c → first_above R q d ≡ first_above R q r) [
        | Less ↦ λ p. absurd (n p)
        | Equal ↦ λ p. above_middle p
        | Greater ↦ λ p. above_right p
      ] refl

  -- a key that is neither below e nor at it is above it
  pub otherwise : (R q e.0 ≡ Less → ⊥) → (R q e.0 ≡ Equal → ⊥) → R q e.0 ≡ Greater
  otherwise n m =
      elim (R q e.0) as (λ c. R q e.0 ≡ c → R q e.0 ≡ Greater) [
        | Less ↦ λ p. absurd (n p)
        | Equal ↦ λ p. absurd (m p)
        | Greater ↦ λ p. p
      ] refl
