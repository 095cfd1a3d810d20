-- A text is one script, or has one first line outside.
use Rattle.std.proofs.Common.{◌≡◌, ◌⊎◌, inl, inr, ℕ, ◌+◌, ◌<◌, ◌≤◌, List, [], ◌∷◌, ◌++◌, length, refl, sym, ap, ◌∙◌, subst, arith, append_assoc, length-append}
use Rattle.std.specs.FinSet as sets
use Rattle.std.specs.List.{AllByRecursion}
use Rattle.std.proofs.lemmas.Grind.{flat_map-append}
use Rattle.dk_types.specs.declared.limits.TheConstants.{SCRIPT_MOST_BYTES}
use Rattle.dk_model.specs.declared.script.Line.{Line}
use Rattle.dk_model.specs.Lines.{lines_of, text_of}
use Rattle.dk_model.specs.Scripts.{Spoken, LineNames, names_said, names_at, AreWithin, phases_said, IsScript, IsOutside, IsUnended, IsBadLine, first_line}
use Rattle.dk_script.specs.ScriptLaws.{ScriptsAreRead}
use Rattle.dk_script.proofs.SpokenLines.{Says-once}
use Rattle.dk_script.proofs.OrderTold.{lines_of-line}
use Rattle.dk_script.proofs.Cuts.{cut_first}

-- lines say one thing
within-once : (names : LineNames) (texts : List (List ℕ)) (a b : List Spoken) → AreWithin names texts a → AreWithin names texts b → a ≡ b
within-once names [] [] [] p q = refl
within-once names (t ∷ texts) (x ∷ a) (y ∷ b) p q =
    let same : x ≡ y = Says-once t x y p.0 q.0 in
    let rest = within-once (names_said names x) texts a b p.2 (subst (λ (s : Spoken). AreWithin (names_said names s) texts b) (sym same) q.2) in
    ap (λ (s : Spoken). s ∷ a) same ∙ ap (λ (l : List Spoken). y ∷ l) rest
within-once names [] [] (y ∷ b) p q = absurd q
within-once names [] (x ∷ a) b p q = absurd p
within-once names (t ∷ texts) [] b p q = absurd p
within-once names (t ∷ texts) (x ∷ a) [] p q = absurd q

-- what lines in two parts say
record AreParted (names : LineNames) (front back : List (List ℕ)) : Type 0 where
  first : List Spoken
  second : List Spoken
  before : AreWithin names front first
  behind : AreWithin (names_at names first) back second

within-parted : (names : LineNames) (front back : List (List ℕ)) (spoken : List Spoken) → AreWithin names (front ++ back) spoken → AreParted names front back
within-parted names [] back spoken w = record { first = []; second = spoken; before = tt; behind = w }
within-parted names (t ∷ front) back (s ∷ spoken) w =
    let p = within-parted (names_said names s) front back spoken w.2 in
    record { first = s ∷ p.first; second = p.second; before = (w.0, w.1, p.before); behind = p.behind }
within-parted names (t ∷ front) back [] w = absurd w

-- a line behind others that is within says something that may be said there
not-outside : (names : LineNames) (front : List (List ℕ)) (text : List ℕ) (back : List (List ℕ)) (spoken told : List Spoken) → AreWithin names (front ++ text ∷ back) spoken → AreWithin names front told → IsOutside (names_at names told) text → ⊥
not-outside names front text back spoken told w before outside =
    let p = within-parted names front (text ∷ back) spoken w in
    let same : p.first ≡ told = within-once names front p.first told p.before before in
    by p.second (subst (λ (x : List Spoken). AreWithin (names_at names x) (text ∷ back) p.second) same p.behind) where
      by : (second : List Spoken) → AreWithin (names_at names told) (text ∷ back) second → ⊥
      by (s ∷ second) b = outside s b.0 b.1
      by [] b = absurd b

-- the lines of whole lines and a rest
lines_parted : (before : List (List ℕ)) (rest : List ℕ) → AllByRecursion IsUnended before → lines_of (text_of before ++ rest) ≡ before ++ lines_of rest
lines_parted [] rest h = refl
lines_parted (line ∷ before) rest h =
    ap lines_of (append_assoc (line ++ 10 ∷ []) (text_of before) rest ∙ append_assoc line (10 ∷ []) (text_of before ++ rest)) ∙ lines_of-line line (text_of before ++ rest) h.0
    ∙ ap (λ (ls : List (List ℕ)). line ∷ ls) (lines_parted before rest h.1)

module _ (bytes : List ℕ) where
  module _ (line : ℕ) (b : IsBadLine bytes line) where
    -- a bad line has a byte
    bad_some : 0 < length b.rest
    bad_some = by b.bad where
      by : ((0 < length b.rest) × IsOutside (names_at sets.empty b.spoken) (first_line b.rest)) ⊎ ((SCRIPT_MOST_BYTES < length bytes) × (SCRIPT_MOST_BYTES ≤ length (text_of b.before) + length (first_line b.rest))) → 0 < length b.rest
      by (inl h) = h.0
      by (inr h) = omega (arith, h.0, b.reached, ap length b.parted, length-append (text_of b.before) b.rest)

    abbrev others : List (List ℕ)
    others = lines_of (cut_first b.rest bad_some).0

    bad_lines : lines_of bytes ≡ b.before ++ first_line b.rest ∷ others
    bad_lines = ap lines_of b.parted ∙ lines_parted b.before b.rest b.unended ∙ ap (λ (ls : List (List ℕ)). b.before ++ ls) (cut_first b.rest bad_some).1.lines

  -- a script has no bad line
  script_good : (phases : List (List Line)) (line : ℕ) → IsScript bytes phases → IsBadLine bytes line → ⊥
  script_good phases line s b = by b.bad where
    by : ((0 < length b.rest) × IsOutside (names_at sets.empty b.spoken) (first_line b.rest)) ⊎ ((SCRIPT_MOST_BYTES < length bytes) × (SCRIPT_MOST_BYTES ≤ length (text_of b.before) + length (first_line b.rest))) → ⊥
    by (inl h) = not-outside sets.empty b.before (first_line b.rest) (others line b) s.spoken b.spoken (subst (λ (ls : List (List ℕ)). AreWithin sets.empty ls s.spoken) (bad_lines line b) s.within) b.within h.1
    by (inr h) = omega (arith, h.0, s.short)

-- a longer front begins with the shorter and what follows it
longer_front : (xs : List (List ℕ)) (x : List ℕ) (ys zs ws : List (List ℕ)) → xs ++ x ∷ ys ≡ zs ++ ws → length xs < length zs → (mid : List (List ℕ)) × (zs ≡ xs ++ x ∷ mid)
longer_front xs x ys [] ws e less = absurd (omega (arith, less))
longer_front [] x ys (z ∷ zs) ws e less = (zs, ap (λ (y : List ℕ). y ∷ zs) (sym (head e))) where
  head : x ∷ ys ≡ z ∷ (zs ++ ws) → x ≡ z
  head e = cc
longer_front (y ∷ xs) x ys (z ∷ zs) ws e less =
    let rest = longer_front xs x ys zs ws (tail e) (omega (arith, less)) in
    (rest.0, ap (λ (w : List ℕ). w ∷ zs) (sym (head e)) ∙ ap (λ (l : List (List ℕ)). y ∷ l) rest.1) where
      tail : y ∷ (xs ++ x ∷ ys) ≡ z ∷ (zs ++ ws) → xs ++ x ∷ ys ≡ zs ++ ws
      tail e = cc

      head : y ∷ (xs ++ x ∷ ys) ≡ z ∷ (zs ++ ws) → y ≡ z
      head e = cc

module _ (bytes : List ℕ) (line other : ℕ) (b : IsBadLine bytes line) (c : IsBadLine bytes other) where
  -- none stands behind another
  not_later : length b.before < length c.before → ⊥
  not_later less =
      let more = longer_front b.before (first_line b.rest) (others bytes line b) c.before (lines_of c.rest) (sym (bad_lines bytes line b) ∙ ap lines_of c.parted ∙ lines_parted c.before c.rest c.unended) less in
      by more.0 more.1 b.bad where
        by : (mid : List (List ℕ)) → c.before ≡ b.before ++ first_line b.rest ∷ mid
            → ((0 < length b.rest) × IsOutside (names_at sets.empty b.spoken) (first_line b.rest)) ⊎ ((SCRIPT_MOST_BYTES < length bytes) × (SCRIPT_MOST_BYTES ≤ length (text_of b.before) + length (first_line b.rest))) → ⊥
        by mid e (inl h) = not-outside sets.empty b.before (first_line b.rest) mid c.spoken b.spoken (subst (λ (ls : List (List ℕ)). AreWithin sets.empty ls c.spoken) e c.within) b.within h.1
        by mid e (inr h) =
            let all : text_of c.before ≡ text_of b.before ++ ((first_line b.rest ++ 10 ∷ []) ++ text_of mid) = ap text_of e ∙ flat_map-append (λ l. l ++ 10 ∷ []) b.before (first_line b.rest ∷ mid) in
            omega (arith, h.1, c.reached, ap length all, length-append (text_of b.before) ((first_line b.rest ++ 10 ∷ []) ++ text_of mid), length-append (first_line b.rest ++ 10 ∷ []) (text_of mid), length-append (first_line b.rest) (10 ∷ []))

-- each text has one reading
pub scripts-are_read : ScriptsAreRead
scripts-are_read bytes = record {
  one_script = λ p q s t. s.said ∙ ap phases_said (within-once sets.empty (lines_of bytes) s.spoken t.spoken s.within t.within) ∙ sym t.said;
  not_both = λ p line s b. script_good bytes p line s b;
  one_line = λ line other b c. b.counted ∙ ap (λ n. n + 1) (same line other b c) ∙ sym c.counted;
} where
  same : (line other : ℕ) (b : IsBadLine bytes line) (c : IsBadLine bytes other) → length b.before ≡ length c.before
  same line other b c = let no_later = not_later bytes line other b c in let no_earlier = not_later bytes other line c b in omega (arith, no_later, no_earlier)
