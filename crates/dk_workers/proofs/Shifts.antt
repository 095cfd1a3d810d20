-- How rows that were served go together.
use Rattle.std.proofs.Common.{◌≡◌, List, [], ◌∷◌, ◌++◌, length, map, slice_index_or, slice_set, refl, sym, ap, ap₂, ◌∙◌, arith}
use Rattle.std.proofs.lemmas.List.{map-append}
use Rattle.std.proofs.lemmas.List.Elements.{All-nil, All-cons, All-append}
use Rattle.dk_workers.specs.Rows.{IsServed, Shift, first_of}
use Rattle.dk_workers.specs.declared.worked.Worked.{Worked}
use Rattle.dk_workers.specs.declared.worked.Worked.TheVariants as worked

first_alone : (end : Worked) → first_of (end ∷ []) ≡ end
first_alone worked.Idle = refl
first_alone (worked.Spent granted) = refl
first_alone (worked.Exhausted next) = refl
first_alone worked.DiskFault = refl
first_alone (worked.Stopped faults) = refl
first_alone (worked.JournalFull length) = refl
first_alone worked.NoMemory = refl

-- the first of two rows is that of the firsts of each
first_of_both : (xs ys : List Worked) → first_of (xs ++ ys) ≡ first_of (first_of xs ∷ first_of ys ∷ [])
first_of_both [] ys = sym (first_alone (first_of ys))
first_of_both (worked.Idle ∷ xs) ys = first_of_both xs ys
first_of_both (worked.Spent granted ∷ xs) ys = refl
first_of_both (worked.Exhausted next ∷ xs) ys = refl
first_of_both (worked.DiskFault ∷ xs) ys = refl
first_of_both (worked.Stopped faults ∷ xs) ys = refl
first_of_both (worked.JournalFull length ∷ xs) ys = refl
first_of_both (worked.NoMemory ∷ xs) ys = refl

module _ {X : Type 0} (serves : X → Worked → X → Type 0) where
  pub served_none : IsServed serves worked.Idle [] []
  served_none = record { shifts = []; before = refl; after = refl; each = All-nil (λ (s : Shift X). serves s.old s.end s.new); first = refl }

  pub served_one : (end : Worked) (old new : X) → serves old end new → IsServed serves end (old ∷ []) (new ∷ [])
  served_one end old new h = record {
    shifts = record { old = old; new = new; end = end } ∷ [];
    before = refl;
    after = refl;
    each = All-cons (λ (s : Shift X). serves s.old s.end s.new) (record { old = old; new = new; end = end }) [] h (All-nil (λ (s : Shift X). serves s.old s.end s.new));
    first = sym (first_alone end);
  }

  -- a row of one element, which was changed in its place
  pub served_alone : (xs : List X) (end : Worked) (d y : X) → length xs ≡ 1 → serves (slice_index_or xs 0 d) end y → IsServed serves end xs (slice_set xs 0 y)
  served_alone [] end d y one h = absurd (omega (arith, one))
  served_alone (a ∷ []) end d y one h = served_one end a y h
  served_alone (a ∷ b ∷ xs) end d y one h = absurd (omega (arith, one))

  -- two rows behind one another
  pub served_both : (one other : Worked) (a b c d : List X) → IsServed serves one a c → IsServed serves other b d → IsServed serves (first_of (one ∷ other ∷ [])) (a ++ b) (c ++ d)
  served_both one other a b c d f g = record {
    shifts = f.shifts ++ g.shifts;
    before = ap₂ ◌++◌ f.before g.before ∙ sym (map-append (λ (s : Shift X). s.old) f.shifts g.shifts);
    after = ap₂ ◌++◌ f.after g.after ∙ sym (map-append (λ (s : Shift X). s.new) f.shifts g.shifts);
    each = All-append (λ (s : Shift X). serves s.old s.end s.new) f.shifts g.shifts f.each g.each;
    first = ap₂ (λ x y. first_of (x ∷ y ∷ [])) f.first g.first
        ∙ (sym (first_of_both (map (λ (s : Shift X). s.end) f.shifts) (map (λ (s : Shift X). s.end) g.shifts)) ∙ ap first_of (sym (map-append (λ (s : Shift X). s.end) f.shifts g.shifts)));
  }
