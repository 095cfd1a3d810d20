-- An entry put in on a side of another, and a value swapped on a side of one or at it.
use Rattle.std.proofs.Common.{◌≡◌, ◌≤◌, refl, sym, ap, subst, ◌∙◌, arith, Bool, true, false, List, [], ◌∷◌, ◌++◌, length, length-append, Option, None, Some}
use Rattle.std.specs.declared.cmp.Ordering.{Ordering}
use Rattle.std.specs.declared.cmp.Ordering.TheVariants.{Less, Equal, Greater}
use Rattle.std.specs.Cmp.{IsTotalOrder}
use Rattle.dk_map.specs.Entries.{find}
use Rattle.dk_map.specs.Puts.{IsNew, IsPut, IsSwapped}
use Rattle.dk_map.proofs.Around.{AtEntry, find_left, find_middle, find_right, put_left, put_middle, put_right}

module _ {K V : Type 0} {R : K → K → Ordering} (o : IsTotalOrder R) {d l : List (K × V)} {e : K × V} {r : List (K × V)} (a : AtEntry R d l e r) (k : K) (v : V) where
  -- a value that is swapped in a side is swapped in the whole
  pub swapped_left : (w : V) (m : List (K × V)) (found : Bool) → R k e.0 ≡ Less → IsSwapped R k v w l m found → IsSwapped R k v w d (m ++ e ∷ r) found
  swapped_left w m true p s = (find_left o a k p ∙ s.0, ap (λ t. t ++ e ∷ r) s.1 ∙ sym (put_left o a k v p))
  swapped_left w m false p s = (find_left o a k p ∙ s.0, s.1, ap (λ t. t ++ e ∷ r) s.2 ∙ sym a.is)

  pub swapped_right : (w : V) (m : List (K × V)) (found : Bool) → R k e.0 ≡ Greater → IsSwapped R k v w r m found → IsSwapped R k v w d (l ++ e ∷ m) found
  swapped_right w m true p s = (find_right o a k p ∙ s.0, ap (λ t. l ++ e ∷ t) s.1 ∙ sym (put_right o a k v p))
  swapped_right w m false p s = (find_right o a k p ∙ s.0, s.1, ap (λ t. l ++ e ∷ t) s.2 ∙ sym a.is)

  -- at the entry itself the values change places
  pub swapped_middle : (w u : V) → w ≡ e.1 → u ≡ v → R k e.0 ≡ Equal → IsSwapped R k v w d (l ++ (e.0, u) ∷ r) true
  swapped_middle w u was now p = (find_middle o a k p ∙ ap Some (sym was), ap (λ z. l ++ (e.0, z) ∷ r) now ∙ sym (put_middle o a k v p))

  module _ {x : Option (K × V)} (i : x ≡ Some (k, v)) where
    -- a new key of the whole is a new key of the side on which it stands
    pub new_left : R k e.0 ≡ Less → IsNew R x d → IsNew R (Some (k, v)) l
    new_left p h = sym (find_left o a k p) ∙ subst (λ y. IsNew R y d) i h

    pub new_right : R k e.0 ≡ Greater → IsNew R x d → IsNew R (Some (k, v)) r
    new_right p h = sym (find_right o a k p) ∙ subst (λ y. IsNew R y d) i h

    -- and does not tie with the entry itself
    pub not_new : R k e.0 ≡ Equal → IsNew R x d → ⊥
    not_new p h = let both : Some e.1 ≡ None = sym (find_middle o a k p) ∙ subst (λ y. IsNew R y d) i h in cc

    -- what is put into a side is put into the whole
    pub is_put_left : (m : List (K × V)) → R k e.0 ≡ Less → IsPut R (Some (k, v)) l m → IsPut R x d (m ++ e ∷ r)
    is_put_left m p s = subst (λ y. IsPut R y d (m ++ e ∷ r)) (sym i) (ap (λ u. u ++ e ∷ r) s ∙ sym (put_left o a k v p))

    pub is_put_right : (m : List (K × V)) → R k e.0 ≡ Greater → IsPut R (Some (k, v)) r m → IsPut R x d (l ++ e ∷ m)
    is_put_right m p s = subst (λ y. IsPut R y d (l ++ e ∷ m)) (sym i) (ap (λ u. l ++ e ∷ u) s ∙ sym (put_right o a k v p))

-- where there are no entries, no value is swapped
pub swapped_nowhere : {K V : Type 0} (R : K → K → Ordering) (k : K) (v : V) (d m : List (K × V)) → d ≡ [] → m ≡ [] → IsSwapped R k v v d m false
swapped_nowhere R k v d m e f = (ap (find R k) e, refl, f ∙ sym e)

-- where a side is no shorter than it was, the whole is not
pub grows_left : {X : Type 0} (d l : List X) (e : X) (r m : List X) → d ≡ l ++ e ∷ r → length l ≤ length m → length d ≤ length (m ++ e ∷ r)
grows_left d l e r m is h = rw is (omega (arith, h, length-append l (e ∷ r), length-append m (e ∷ r)))

pub grows_right : {X : Type 0} (d l : List X) (e : X) (r m : List X) → d ≡ l ++ e ∷ r → length r ≤ length m → length d ≤ length (l ++ e ∷ m)
grows_right d l e r m is h = rw is (omega (arith, h, length-append l (e ∷ r), length-append l (e ∷ m)))
