-- A value changed at a key that is there: on which side of an entry it stands, and that it keeps the order.
use Rattle.std.proofs.Common.{◌≡◌, sym, ap, subst, ◌∙◌, List, [], ◌∷◌, ◌++◌, Option, None, Some}
use Rattle.std.specs.Option.{IsSomeAnd}
use Rattle.std.specs.declared.cmp.Ordering.{Ordering}
use Rattle.std.specs.declared.cmp.Ordering.TheVariants.{Less, Equal, Greater}
use Rattle.std.specs.Cmp.{IsTotalOrder}
use Rattle.dk_map.specs.Entries.{find, IsOrdered, IsChanged}
use Rattle.dk_map.proofs.Around.{AtEntry, find_left, find_middle, find_right, put_left, put_middle, put_right}
use Rattle.dk_map.proofs.Counts.{ordered_put}

module _ {K V A : Type 0} {R : K → K → Ordering} (o : IsTotalOrder R) {d l : List (K × V)} {e : K × V} {r : List (K × V)} (a : AtEntry R d l e r) (q : K) (P : V → V → A → Type 0) where
  -- a change to the left of an entry whose key is above
  pub changed_left : (m : List (K × V)) (answer : Option A) → R q e.0 ≡ Less → IsChanged R q P l m answer → IsChanged R q P d (m ++ e ∷ r) answer
  changed_left m (Some _) p h = (h.0, h.1, find_left o a q p ∙ h.2, h.3, ap (λ t. t ++ e ∷ r) h.4 ∙ sym (put_left o a q h.1 p))
  changed_left m None p h = (find_left o a q p ∙ h.0, ap (λ t. t ++ e ∷ r) h.1 ∙ sym a.is)

  -- at the entry itself
  pub changed_middle : (v : V) (answer : A) (told : Option A) → R q e.0 ≡ Equal → P e.1 v answer → told ≡ Some answer → IsChanged R q P d (l ++ (e.0, v) ∷ r) told
  changed_middle v answer told p h is = subst (λ t. IsChanged R q P d (l ++ (e.0, v) ∷ r) t) (sym is) (e.1, v, find_middle o a q p, h, sym (put_middle o a q v p))

  -- to the right of an entry whose key is below
  pub changed_right : (m : List (K × V)) (answer : Option A) → R q e.0 ≡ Greater → IsChanged R q P r m answer → IsChanged R q P d (l ++ e ∷ m) answer
  changed_right m (Some _) p h = (h.0, h.1, find_right o a q p ∙ h.2, h.3, ap (λ t. l ++ e ∷ t) h.4 ∙ sym (put_right o a q h.1 p))
  changed_right m None p h = (find_right o a q p ∙ h.0, ap (λ t. l ++ e ∷ t) h.1 ∙ sym a.is)

-- where there are no entries
pub changed_nowhere : {K V A : Type 0} (R : K → K → Ordering) (q : K) (P : V → V → A → Type 0) (d m : List (K × V)) (told : Option A) → d ≡ [] → m ≡ [] → told ≡ None → IsChanged R q P d m told
changed_nowhere R q P d m told e f is = subst (λ t. IsChanged R q P d m t) (sym is) (ap (find R q) e, f ∙ sym e)

-- entries in order stay in order
pub ordered_changed : {K V A : Type 0} {R : K → K → Ordering} (o : IsTotalOrder R) (q : K) (P : V → V → A → Type 0) (d e : List (K × V)) (answer : Option A) → IsOrdered R d → IsChanged R q P d e answer → IsOrdered R e
ordered_changed o q P d e (Some _) h s = rw s.4 (ordered_put o q d h s.1)
ordered_changed o q P d e None h s = rw s.1 h

-- what each change that is there ensures, where it follows from what else it does
pub and_so : {F : Type 0} {P Q : F → Type 0} (r : Option F) → ((f : F) → P f → Q f) → IsSomeAnd r P → IsSomeAnd r Q
and_so None h s = absurd s
and_so (Some f) h s = h f s
