-- A change of a map by what is set and what goes is the effects between the map before it and after it, exactly where it is one.
use Rattle.std.proofs.Common.{◌≡◌, Bool, true, false, cond, not, ◌&&◌, is_some, Option, Some, None, List, [], ◌∷◌, refl, sym, ap, ◌∙◌}
use Rattle.std.specs.declared.cmp.Ordering.{Ordering}
use Rattle.std.specs.Ordering.{eq_by_cmp}
use Rattle.std.specs.Cmp.{IsTotalOrder}
use Rattle.std.specs.List.{list_any}
use Rattle.std.specs.FinMap.{FinMap, IsAntisymmetric, get, entries_sorted, same_map, retain_keys}
use Rattle.std.specs.FinMap.Entries.{same_entries, is_some-find}
use Rattle.dk_types.specs.Values.{same_value}
use Rattle.dk_map.specs.Entries.{find, put, without, IsOrdered}
use Rattle.dk_map.specs.AsMap.{map_of}
use Rattle.dk_map.proofs.Counts.{ordered_put, ordered_without}
use Rattle.dk_map.proofs.Maps.{get-map_of, map_of-put, map_of-without}
use Rattle.dk_model.specs.Effects.{set_in, gone_in, with_set, without_keys}
use Rattle.dk_model.proofs.Maps.{not_both}
use Rattle.dk_laws.proofs.EffectsMade.{Tells, and_left, and_right, first_some, Kept, get-with_set, get-without_keys, find-kept}
use Rattle.dk_recover.specs.Changes.{with_put, without_all, all_there, all_differ, none_there, changed_by, is_change}
use Rattle.dk_recover.proofs.Found.{bare, both_true, keys_hold, hold_keys, entries_hold, hold_entries, keys_same}

pub not_true : (b : Bool) → not b ≡ true → b ≡ false
not_true true h = cc
not_true false h = refl

pub false_not : (b : Bool) → b ≡ false → not b ≡ true
false_not b h = rw h refl

pub false_unless : (b : Bool) → (b ≡ true → ⊥) → b ≡ false
false_unless true never = absurd (never refl)
false_unless false never = refl

pub none_is : {X : Type 0} (o : Option X) → is_some o ≡ false → o ≡ None
none_is None h = refl
none_is (Some x) h = cc

pub same_both : {A : Type 0} (b : Bool) (x : A) → cond b x x ≡ x
same_both true x = refl
same_both false x = refl

-- lists that are put in order, as the maps of them
module _ {K X : Type 0} (R : K → K → Ordering) (o : IsTotalOrder R) (exact : IsAntisymmetric R) where
  pub put_ordered : (set es : List (K × X)) → IsOrdered R es → IsOrdered R (with_put R set es)
  put_ordered [] es h = h
  put_ordered (e ∷ set) es h = put_ordered set (put R e.0 e.1 es) (ordered_put o e.0 es h e.1)

  pub without_ordered : (gone : List K) (es : List (K × X)) → IsOrdered R es → IsOrdered R (without_all R gone es)
  without_ordered [] es h = h
  without_ordered (k ∷ gone) es h = without_ordered gone (without R k es) (ordered_without o k es h)

  pub put_is : (set es : List (K × X)) → IsOrdered R es → map_of R (with_put R set es) ≡ with_set set (map_of R es)
  put_is [] es h = refl
  put_is (e ∷ set) es h = put_is set (put R e.0 e.1 es) (ordered_put o e.0 es h e.1) ∙ ap (with_set set) (map_of-put o es h e.0 e.1)

  pub without_is : (gone : List K) (es : List (K × X)) → IsOrdered R es → map_of R (without_all R gone es) ≡ without_keys gone (map_of R es)
  without_is [] es h = refl
  without_is (k ∷ gone) es h = without_is gone (without R k es) (ordered_without o k es h) ∙ ap (without_keys gone) (map_of-without o es h k exact)

  -- what is found without some keys
  pub find-without_all : (gone : List K) (es : List (K × X)) → IsOrdered R es → (q : K) → find R q (without_all R gone es) ≡ cond (list_any (eq_by_cmp R q) gone) None (find R q es)
  find-without_all gone es h q =
      sym (get-map_of R (without_all R gone es) (without_ordered gone es h) q) ∙ ap (λ (m : FinMap R X). get m q) (without_is gone es h)
      ∙ get-without_keys R o exact gone (map_of R es) q ∙ ap (cond (list_any (eq_by_cmp R q) gone) None) (get-map_of R es h q)

  -- what is found once some are set
  pub find-with_put : (set es : List (K × X)) → IsOrdered R set → IsOrdered R es → (q : K) → find R q (with_put R set es) ≡ first_some (find R q set) (find R q es)
  find-with_put set es s h q =
      sym (get-map_of R (with_put R set es) (put_ordered set es h) q) ∙ ap (λ (m : FinMap R X). get m q) (put_is set es h)
      ∙ get-with_set R o exact set s (map_of R es) q ∙ ap (first_some (find R q set)) (get-map_of R es h q)

module _ {X : Type 0} {same : X → X → Bool} (t : Tells same) where
  set_case : (f : Option X) (g : Bool) (v : Option X) → ((x : X) → f ≡ Some x → same_value same v (Some x) ≡ false) → (g ≡ true → f ≡ None)
      → f ≡ cond (not (same_value same v (cond g None (first_some f v)))) (cond g None (first_some f v)) None
  unfolding first_some
  set_case None true v differ apart = sym (same_both _ None)
  set_case None false None differ apart = refl
  set_case None false (Some y) differ apart = rw (t.itself y) refl
  set_case (Some x) true v differ apart = apart refl ∙ sym (same_both _ None)
  set_case (Some x) false v differ apart = rw (differ x refl) refl

gone_case : {X : Type 0} (f : Option X) (g : Bool) (v : Option X) → (g ≡ true → is_some v ≡ true) → (g ≡ true → f ≡ None) → g ≡ is_some (cond (not (is_some (cond g None (first_some f v)))) v None)
unfolding first_some
gone_case f true v there apart = sym (there refl)
gone_case None false None there apart = refl
gone_case None false (Some y) there apart = refl
gone_case (Some x) false v there apart = refl

set_back : {X : Type 0} (same : X → X → Bool) (f v n : Option X) → f ≡ cond (not (same_value same v n)) n None → (x : X) → f ≡ Some x → (n ≡ Some x) × (same_value same v (Some x) ≡ false)
set_back same f v n is x some = elim (same_value same v n) as (λ b. same_value same v n ≡ b → f ≡ cond (not b) n None → (n ≡ Some x) × (same_value same v (Some x) ≡ false)) [
  | true ↦ λ _ none. absurd cc
  | false ↦ λ apart here. let value : n ≡ Some x = sym here ∙ some in (value, ap (same_value same v) (sym value) ∙ apart)
] refl is

pub gone_back : {X : Type 0} (g : Bool) (v n : Option X) → g ≡ is_some (cond (not (is_some n)) v None) → g ≡ true → (n ≡ None) × (is_some v ≡ true)
gone_back g v None is here = (refl, sym is ∙ here)
gone_back g v (Some x) is here = absurd cc

-- what is set differs from what was, what goes was there, and nothing is both
pub record IsClean {K X : Type 0} {R : K → K → Ordering} (same : X → X → Bool) (m : FinMap R X) (set : List (K × X)) (gone : List K) : Type 0 where
  pub differ : (q : K) (x : X) → find R q set ≡ Some x → same_value same (get m q) (Some x) ≡ false
  pub there : (q : K) → list_any (eq_by_cmp R q) gone ≡ true → is_some (get m q) ≡ true
  pub apart : (q : K) → list_any (eq_by_cmp R q) gone ≡ true → find R q set ≡ None

module _ {K X : Type 0} (R : K → K → Ordering) (o : IsTotalOrder R) (exact : IsAntisymmetric R) {same : X → X → Bool} (t : Tells same) (set : List (K × X)) (gone : List K) (s : IsOrdered R set) where
  pub get-made : (m : FinMap R X) (q : K) → get (without_keys gone (with_set set m)) q ≡ cond (list_any (eq_by_cmp R q) gone) None (first_some (find R q set) (get m q))
  get-made m q = get-without_keys R o exact gone (with_set set m) q ∙ ap (cond (list_any (eq_by_cmp R q) gone) None) (get-with_set R o exact set s m q)

  pub set_is : (m : FinMap R X) → IsClean same m set gone → set ≡ set_in same m (without_keys gone (with_set set m))
  unfolding set_in
  set_is m c =
      let n = without_keys gone (with_set set m) in
      let p = λ (k : K). not (same_value same (get m k) (get n k)) in
      same_entries R o exact set (Kept n p) s (entries_sorted (retain_keys n p)) (λ q.
      set_case t (find R q set) (list_any (eq_by_cmp R q) gone) (get m q) (c.differ q) (c.apart q)
      ∙ ap (λ v. cond (not (same_value same (get m q) v)) v None) (sym (get-made m q))
      ∙ sym (find-kept R o exact n p q))

  pub gone_is : IsOrdered R (bare gone) → (m : FinMap R X) → IsClean same m set gone → gone ≡ gone_in m (without_keys gone (with_set set m))
  unfolding gone_in
  gone_is g m c =
      let n = without_keys gone (with_set set m) in
      let p = λ (k : K). not (is_some (get n k)) in
      keys_same R o exact gone (Kept m p) g (entries_sorted (retain_keys m p)) (λ q.
      gone_case (find R q set) (list_any (eq_by_cmp R q) gone) (get m q) (c.there q) (c.apart q)
      ∙ ap (λ v. is_some (cond (not (is_some v)) (get m q) None)) (sym (get-made m q))
      ∙ ap is_some (sym (find-kept R o exact m p q)))

  pub is_clean : (m : FinMap R X) → set ≡ set_in same m (without_keys gone (with_set set m)) → gone ≡ gone_in m (without_keys gone (with_set set m)) → IsClean same m set gone
  unfolding set_in gone_in
  is_clean m set_same gone_same =
      let n = without_keys gone (with_set set m) in
      let p = λ (k : K). not (same_value same (get m k) (get n k)) in
      let r = λ (k : K). not (is_some (get n k)) in
      let of_set : (q : K) → find R q set ≡ cond (not (same_value same (get m q) (get n q))) (get n q) None = λ q. ap (find R q) set_same ∙ find-kept R o exact n p q in
      let of_gone : (q : K) → list_any (eq_by_cmp R q) gone ≡ is_some (cond (not (is_some (get n q))) (get m q) None) =
      λ q. ap (list_any (eq_by_cmp R q)) gone_same ∙ sym (is_some-find R q (Kept m r)) ∙ ap is_some (find-kept R o exact m r q) in
      record {
        differ = λ q x found. (set_back same (find R q set) (get m q) (get n q) (of_set q) x found).1;
        there = λ q among. (gone_back _ (get m q) (get n q) (of_gone q) among).1;
        apart = λ q among. none_unless (find R q set) (λ x found.
            let none : get n q ≡ None = (gone_back _ (get m q) (get n q) (of_gone q) among).0 in
            let some : get n q ≡ Some x = (set_back same (find R q set) (get m q) (get n q) (of_set q) x found).0 in cc);
      }
    where
      none_unless : (f : Option X) → ((x : X) → f ≡ Some x → ⊥) → f ≡ None
      none_unless None never = refl
      none_unless (Some x) never = absurd (never x refl)

  module _ (es : List (K × X)) (h : IsOrdered R es) where
    find-changed : (q : K) → find R q (changed_by R set gone es) ≡ first_some (find R q set) (cond (list_any (eq_by_cmp R q) gone) None (find R q es))
    find-changed q = find-with_put R o exact set (without_all R gone es) s (without_ordered R o exact gone es h) q ∙ ap (first_some (find R q set)) (find-without_all R o exact gone es h q)

    pub check_clean : is_change R same set gone es ≡ true → IsClean same (map_of R es) set gone
    unfolding first_some
    check_clean is =
        let first : (all_there R es gone && all_differ R same (without_all R gone es) set) ≡ true = and_left _ _ is in
        let there_all : all_there R es gone ≡ true = and_left _ _ first in
        let differ_all : all_differ R same (without_all R gone es) set ≡ true = and_right _ _ first in
        let none_all : none_there R (changed_by R set gone es) gone ≡ true = and_right _ _ is in
        let apart : (q : K) → list_any (eq_by_cmp R q) gone ≡ true → find R q set ≡ None =
        λ q among.
        let none : find R q (changed_by R set gone es) ≡ None = none_is _ (not_true _ (keys_hold R o exact (λ k. not (is_some (find R k (changed_by R set gone es)))) gone none_all q among)) in
        first_none (find R q set) (ap (λ b. first_some (find R q set) (cond b None (find R q es))) (sym among) ∙ sym (find-changed q) ∙ none) in
        record {
          differ = λ q x found.
              let out : list_any (eq_by_cmp R q) gone ≡ false = false_unless _ (λ among. not_both (find R q set) x found (apart q among)) in
              ap (λ v. same_value same v (Some x)) (get-map_of R es h q ∙ ap (λ b. cond b None (find R q es)) (sym out) ∙ sym (find-without_all R o exact gone es h q))
              ∙ not_true _ (entries_hold R o exact (λ e. not (same_value same (find R e.0 (without_all R gone es)) (Some e.1))) set differ_all q x found);
          there = λ q among. ap is_some (get-map_of R es h q) ∙ keys_hold R o exact (λ k. is_some (find R k es)) gone there_all q among;
          apart = apart;
        }
      where
        first_none : (f : Option X) → first_some f None ≡ None → f ≡ None
        first_none None e = refl
        first_none (Some x) e = e

    pub clean_check : IsClean same (map_of R es) set gone → is_change R same set gone es ≡ true
    unfolding first_some
    clean_check c = both_true _ _
        (both_true _ _
        (hold_keys R o exact (λ k. is_some (find R k es)) gone (λ q among. ap is_some (sym (get-map_of R es h q)) ∙ c.there q among))
        (hold_entries R o exact (λ e. not (same_value same (find R e.0 (without_all R gone es)) (Some e.1))) set s (λ q x found.
        false_not _ (ap (λ v. same_value same v (Some x)) (find-without_all R o exact gone es h q) ∙ absent_or (list_any (eq_by_cmp R q) gone) q x (ap (λ v. same_value same v (Some x)) (sym (get-map_of R es h q)) ∙ c.differ q x found)))))
        (hold_keys R o exact (λ k. not (is_some (find R k (changed_by R set gone es)))) gone (λ q among.
        ap (λ v. not (is_some v)) (find-changed q ∙ ap (λ f. first_some f (cond (list_any (eq_by_cmp R q) gone) None (find R q es))) (c.apart q among) ∙ ap (λ b. cond b None (find R q es)) among)))
      where
        absent_or : (b : Bool) (q : K) (x : X) → same_value same (find R q es) (Some x) ≡ false → same_value same (cond b None (find R q es)) (Some x) ≡ false
        absent_or true q x e = refl
        absent_or false q x e = e

    pub changed_is : IsClean same (map_of R es) set gone → map_of R (changed_by R set gone es) ≡ without_keys gone (with_set set (map_of R es))
    unfolding first_some
    changed_is c =
        let m = map_of R es in
        put_is R o exact set (without_all R gone es) (without_ordered R o exact gone es h) ∙ ap (with_set set) (without_is R o exact gone es h)
        ∙ same_map o exact (with_set set (without_keys gone m)) (without_keys gone (with_set set m)) (λ q.
        get-with_set R o exact set s (without_keys gone m) q ∙ ap (first_some (find R q set)) (get-without_keys R o exact gone m q)
        ∙ turned (find R q set) (list_any (eq_by_cmp R q) gone) (get m q) (c.apart q)
        ∙ sym (get-made m q))
      where
        turned : (f : Option X) (g : Bool) (v : Option X) → (g ≡ true → f ≡ None) → first_some f (cond g None v) ≡ cond g None (first_some f v)
        turned f true v apart = ap (λ (f : Option X). first_some f None) (apart refl)
        turned f false v apart = refl
