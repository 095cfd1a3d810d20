-- Each kind of step keeps the rule.
use Rattle.std.proofs.Common.{◌≡◌, ◌≢◌, ℕ, zero, suc, ◌<◌, ◌==◌, true, ◌⊎◌, List, [], ◌∷◌, ◌++◌, length, set, refl, sym, ap, ◌∙◌, subst, ⊎_elim, inl, inr, eq-eqb, ne_eqb, arith}
use mathlib.Core.Option.{some, some-injective, some-ne-none}
use lib.ListN.{get_elem?}
use prog.Atomic.{either}
use Rattle.atomic_table.specs.Table.{Me, keeps, opening, Allows, Splits, Joins}
use Rattle.atomic_table.proofs.Lists.{at_set}
use Rattle.dk_notice.specs.declared.rule.View.{View}
use Rattle.dk_notice.specs.declared.told.Told.{Told}
use Rattle.dk_notice.specs.Notices.{nothing_told, GoesOn}
use Rattle.dk_notice.specs.Boards.{view, keeper_of, first_of, nobody, copy_of, later_of, taker_of, hearing, Fits, IsAgreed, told_so, IsCompared}

-- what was told goes on to itself, nothing to all, and on and on
goes_self : (t : Told) → GoesOn t t
goes_self t = record { counted = omega arith; stopped = λ n is. is }

goes_from_nothing : (t : Told) → GoesOn nothing_told t
goes_from_nothing t = record { counted = omega arith; stopped = λ n is. absurd (cc is) }

goes_then : (a b c : Told) → GoesOn a b → GoesOn b c → GoesOn a c
goes_then a b c ab bc = record { counted = let one = ab.counted in let two = bc.counted in omega (arith, one, two); stopped = λ n is. bc.stopped n (ab.stopped n is) }

-- what stands in a list that is one longer stands in the list, or is last
at_end : {A : Type 0} (l : List A) (a b : A) (j : ℕ) → get_elem? (l ++ a ∷ []) j ≡ some b → (get_elem? l j ≡ some b) ⊎ ((j ≡ length l) × (a ≡ b))
at_end [] a b zero e = inr (refl, some-injective _ _ e)
at_end [] a b (suc j) e = absurd (some-ne-none b (sym e))
at_end (x ∷ xs) a b zero e = inl e
at_end (x ∷ xs) a b (suc j) e = ⊎_elim inl (λ t. inr (ap suc t.0, t.1)) (at_end xs a b j e)

-- what is said of each seat goes on to the seats after a change of one
fits_set : (P Q : ℕ → View → Type 0) (views : List View) (id : ℕ) (w : View) → ((j : ℕ) (u : View) → get_elem? views j ≡ some u → P j u)
    → ((j : ℕ) (u : View) → j ≢ id → P j u → Q j u) → Q id w → (j : ℕ) (u : View) → get_elem? (set views id w) j ≡ some u → Q j u
fits_set P Q views id w all others mine j u e =
    ⊎_elim
    (λ (t : (j ≡ id) × (w ≡ u)). subst (λ (y : ℕ × View). Q y.0 y.1) (λ i. (sym t.0 i, t.1 i)) mine)
    (λ (t : (j ≢ id) × (get_elem? views j ≡ some u)). others j u t.0 (all j u t.1))
    (at_set views id j w u e)

-- and to those with a seat more
fits_end : (P : ℕ → View → Type 0) (views : List View) (w : View) → ((j : ℕ) (u : View) → get_elem? views j ≡ some u → P j u) → P (length views) w
    → (j : ℕ) (u : View) → get_elem? (views ++ w ∷ []) j ≡ some u → P j u
fits_end P views w all mine j u e =
    ⊎_elim
    (λ at. all j u at)
    (λ (t : (j ≡ length views) × (w ≡ u)). subst (λ (y : ℕ × View). P y.0 y.1) (λ i. (sym t.0 i, t.1 i)) mine)
    (at_end views w u j e)

-- one that is neither the board's nor the first of its count knows what was told by some moment
later_fits : (all known : Told) (keeper : ℕ) (place : ℕ → ℕ) (id : ℕ) → GoesOn known all → Fits all keeper place id (copy_of (view known true true))
later_fits all known keeper place id goes = record { keeps = λ is. absurd (cc is); known = goes; heard = goes_from_nothing all; first = λ is. absurd (cc is); apart = λ is. absurd (cc is) }

pub begins : {S : Type 0} (words : List ℕ) → IsAgreed (opening {S = S} words [] (keeper_of nothing_told))
begins words = record { all = nothing_told; keeper = 0; place = λ _. 0; fits = one }
  where
    first_seat : Fits nothing_told 0 (λ _. 0) 0 (keeper_of nothing_told)
    first_seat = record { keeps = λ is. (refl, refl); known = goes_self nothing_told; heard = goes_self nothing_told; first = λ is. absurd (cc is); apart = λ is. absurd (cc is) }

    one : (id : ℕ) (v : View) → get_elem? (keeper_of nothing_told ∷ []) id ≡ some v → Fits nothing_told 0 (λ _. 0) id v
    one zero v e = subst (Fits nothing_told 0 (λ _. 0) 0) (some-injective _ _ e) first_seat
    one (suc id) v e = absurd (some-ne-none v (sym e))

-- the board tells what it told, or more
module _ {S : Type 0} (slots id word : ℕ) (me : Me S View) (f : ℕ → ℕ) (b : Told) (mine : me.0.keeps ≡ true) (goes : GoesOn me.0.known b) where
  pub tells : Allows IsAgreed slots id me word f (λ _ after. told_so keeper_of (some b) after.0)
  tells s rule wide at small =
      let here = rule.fits id me.0 at in
      let before : GoesOn rule.all b = subst (λ (t : Told). GoesOn t b) (here.keeps mine).1 goes in (
        keeper_of b,
        keeps,
        tt,
        record {
          all = b;
          keeper = rule.keeper;
          place = rule.place;
          fits = fits_set (Fits rule.all rule.keeper rule.place) (Fits b rule.keeper rule.place) s.views id (keeper_of b) rule.fits
              (λ j u apart fit. record {
                keeps = λ is. absurd (apart ((fit.keeps is).0 ∙ sym (here.keeps mine).0));
                known = goes_then u.known rule.all b fit.known before;
                heard = goes_then u.heard rule.all b fit.heard before;
                first = fit.first;
                apart = fit.apart;
              })
              record { keeps = λ is. ((here.keeps mine).0, refl); known = goes_self b; heard = goes_from_nothing b; first = λ is. absurd (cc is); apart = λ is. absurd (cc is) };
        },
        λ c same. ap keeper_of (some-injective _ _ same),
      )

  pub tells_more : me.0.known.counted < b.counted → Allows IsAgreed slots id me word f (λ _ after. told_so first_of (some b) after.0)
  tells_more more s rule wide at small =
      let here = rule.fits id me.0 at in
      let before : GoesOn rule.all b = subst (λ (t : Told). GoesOn t b) (here.keeps mine).1 goes in
      let less : rule.all.counted < b.counted = subst (λ (t : Told). t.counted < b.counted) (here.keeps mine).1 more in
      let place : ℕ → ℕ = λ c. either (c == b.counted) rule.keeper (rule.place c) in (
        first_of b,
        keeps,
        tt,
        record {
          all = b;
          keeper = rule.keeper;
          place = place;
          fits = fits_set (Fits rule.all rule.keeper rule.place) (Fits b rule.keeper place) s.views id (first_of b) rule.fits
              (λ j u apart fit. record {
                keeps = λ is. absurd (apart ((fit.keeps is).0 ∙ sym (here.keeps mine).0));
                known = goes_then u.known rule.all b fit.known before;
                heard = goes_then u.heard rule.all b fit.heard before;
                first = λ is. let other : u.known.counted ≢ b.counted = λ same. let most = fit.known.counted in omega (arith, most, less, same) in
                    fit.first is ∙ sym (ap (λ x. either x rule.keeper (rule.place u.known.counted)) (ne_eqb u.known.counted b.counted other));
                apart = fit.apart;
              })
              record {
                keeps = λ is. ((here.keeps mine).0, refl);
                known = goes_self b;
                heard = goes_from_nothing b;
                first = λ is. (here.keeps mine).0 ∙ sym (ap (λ x. either x rule.keeper (rule.place b.counted)) (eq-eqb b.counted b.counted refl));
                apart = λ is no. absurd (cc no);
              };
        },
        λ c same. ap first_of (some-injective _ _ same),
      )

-- a seat gets what another knows
pub copies : {S : Type 0} (id : ℕ) (v : View) → Splits {S = S} IsAgreed id v v (copy_of v)
copies id v s rule at = record {
  all = rule.all;
  keeper = rule.keeper;
  place = rule.place;
  fits = fits_end (Fits rule.all rule.keeper rule.place) (set s.views id v) (copy_of v)
      (fits_set (Fits rule.all rule.keeper rule.place) (Fits rule.all rule.keeper rule.place) s.views id v rule.fits (λ j u _ fit. fit) (rule.fits id v at))
      (later_fits rule.all v.known rule.keeper rule.place _ (rule.fits id v at).known);
}

-- and is the first of its count instead
pub gives : {S : Type 0} (id : ℕ) (v : View) → v.first ≡ true → Splits {S = S} IsAgreed id v (later_of v) (taker_of v)
gives id v is_first s rule at =
    let mine = rule.fits id v at in
    let left : List View = set s.views id (later_of v) in
    let place : ℕ → ℕ = λ c. either (c == v.known.counted) (length left) (rule.place c) in
    record {
      all = rule.all;
      keeper = rule.keeper;
      place = place;
      fits = fits_end (Fits rule.all rule.keeper place) left (taker_of v)
          (fits_set (Fits rule.all rule.keeper rule.place) (Fits rule.all rule.keeper place) s.views id (later_of v) rule.fits
          (λ j u apart fit. record {
            keeps = fit.keeps;
            known = fit.known;
            heard = fit.heard;
            first = λ is. let other : u.known.counted ≢ v.known.counted = λ same. apart (fit.first is ∙ ap rule.place same ∙ sym (mine.first is_first)) in
                fit.first is ∙ sym (ap (λ x. either x (length left) (rule.place u.known.counted)) (ne_eqb u.known.counted v.known.counted other));
            apart = fit.apart;
          })
          record { keeps = mine.keeps; known = mine.known; heard = goes_from_nothing rule.all; first = λ is. absurd (cc is); apart = λ is. absurd (cc is) })
          record {
            keeps = λ is. absurd (cc is);
            known = mine.known;
            heard = goes_from_nothing rule.all;
            first = λ is. sym (ap (λ x. either x (length left) (rule.place v.known.counted)) (eq-eqb v.known.counted v.known.counted refl));
            apart = λ is no. absurd (cc no);
          };
    }

-- a seat hears what another knows
pub hears : {S : Type 0} (id : ℕ) (v : View) (other : ℕ) (w : View) → Joins {S = S} IsAgreed id v other w (hearing v w) nobody
hears id v other w s rule at apart there =
    let mine = rule.fits id v at in
    let was : get_elem? s.views other ≡ some w =
    ⊎_elim (λ (t : (other ≡ id) × (hearing v w ≡ w)). absurd (apart t.0)) (λ (t : (other ≢ id) × (get_elem? s.views other ≡ some w)). t.1) (at_set s.views id other (hearing v w) w there) in
    let theirs = rule.fits other w was in
    let Fit : ℕ → View → Type 0 = Fits rule.all rule.keeper rule.place in
    record {
      all = rule.all;
      keeper = rule.keeper;
      place = rule.place;
      fits = fits_set Fit Fit (set s.views id (hearing v w)) other nobody
          (fits_set Fit Fit s.views id (hearing v w) rule.fits (λ j u _ fit. fit) record {
            keeps = mine.keeps;
            known = mine.known;
            heard = theirs.known;
            first = mine.first;
            apart = λ one two same. apart (theirs.first two ∙ ap rule.place (sym same) ∙ sym (mine.first one));
          })
          (λ j u _ fit. fit)
          (later_fits rule.all nothing_told rule.keeper rule.place other (goes_from_nothing rule.all));
    }

-- a seat knows how what it heard stands to what it knows
pub compares : {S : Type 0} (slots id word : ℕ) (me : Me S View) → Allows IsAgreed slots id me word (λ n. n) (λ _ after. IsCompared me.0 after.0 × (after.1 ≡ me.1))
compares slots id word me s rule wide at small =
    let mine = rule.fits id me.0 at in
    let Fit : ℕ → View → Type 0 = Fits rule.all rule.keeper rule.place in
    let w : View = view me.0.known me.0.keeps me.0.first in (
      w,
      keeps,
      tt,
      record {
        all = rule.all;
        keeper = rule.keeper;
        place = rule.place;
        fits = fits_set Fit Fit s.views id w rule.fits (λ j u _ fit. fit) record { keeps = mine.keeps; known = mine.known; heard = goes_from_nothing rule.all; first = mine.first; apart = λ is no. absurd (cc no) };
      },
      (record { after = refl; goes_on = λ is. subst (GoesOn me.0.heard) (sym (mine.keeps is).1) mine.heard; apart = mine.apart }, refl),
    )
