-- A source that is read no further than a script may go.
use Rattle.std.proofs.Common.{◌≡◌, ◌⊎◌, inl, inr, ℕ, ◌+◌, ◌<◌, ◌≤◌, Bool, true, false, cond, not, Option, Some, None, List, [], ◌∷◌, ◌++◌, length, take, refl, sym, ap, ◌∙◌, subst, arith, append_assoc, length-append}
use Rattle.std.proofs.Math.Numerals.{one-add}
use Rattle.std.proofs.lemmas.List.{append-nil}
use Rattle.std.proofs.lemmas.Bool.{cases_lt}
use Rattle.std.specs.Prelude.{IfSome}
use Rattle.std.specs.List.{position_or_len}
use Rattle.std.specs.FinSet as sets
use Rattle.std.specs.Io.KnownBytes.{Consumes}
use Rattle.dk_types.specs.declared.limits.TheConstants.{SCRIPT_MOST_BYTES}
use Rattle.dk_streams.specs.declared.reading.TheConstants.{PIECE_BYTES}
use Rattle.dk_model.specs.declared.script.Line.{Line}
use Rattle.dk_model.specs.Lines.{text_of}
use Rattle.dk_model.specs.Scripts.{IsScript, IsBadLine, IsOutside, names_at, is_end, first_line}
use Rattle.dk_streams.specs.Sources.{ReadsAll, ReadsFront, ReadsNear, IsReadScript}

-- the first line with one byte before it
first_line-cons : (b : ℕ) (bs : List ℕ) (t : Bool) → is_end b ≡ t → first_line (b ∷ bs) ≡ cond t [] (b ∷ first_line bs)
first_line-cons b bs true e = ap (λ u. take (cond (not u) (1 + position_or_len is_end bs) 0) (b ∷ bs)) e
first_line-cons b bs false e = ap (λ u. take (cond (not u) (1 + position_or_len is_end bs) 0) (b ∷ bs)) e ∙ ap (λ n. take n (b ∷ bs)) (one-add (position_or_len is_end bs))

-- more bytes behind a text leave its first line, or that was all of the text
abbrev FirstOf : List ℕ → List ℕ → Type 0
FirstOf xs ys = (first_line (xs ++ ys) ≡ first_line xs) ⊎ ((first_line xs ≡ xs) × (length xs ≤ length (first_line (xs ++ ys))))

first-of : (xs ys : List ℕ) → FirstOf xs ys
first-of [] ys = inr (refl, omega arith)
first-of (b ∷ xs) ys = elim (is_end b) as (λ t. is_end b ≡ t → FirstOf (b ∷ xs) ys) [
  | true ↦ λ e. inl (first_line-cons b (xs ++ ys) true e ∙ sym (first_line-cons b xs true e))
  | false ↦ λ e. by e (first-of xs ys)
] refl where
  by : is_end b ≡ false → FirstOf xs ys → FirstOf (b ∷ xs) ys
  by e (inl same) = inl (first_line-cons b (xs ++ ys) false e ∙ ap (λ (l : List ℕ). b ∷ l) same ∙ sym (first_line-cons b xs false e))
  by e (inr all) =
      inr (first_line-cons b xs false e ∙ ap (λ (l : List ℕ). b ∷ l) all.0, let longer = ap length (first_line-cons b (xs ++ ys) false e) in omega (arith, longer, all.1))

module _ (bytes more : List ℕ) (line : ℕ) (b : IsBadLine bytes line) where
  -- the bad line of a front that is longer than a script may be
  long_bad : SCRIPT_MOST_BYTES < length bytes → IsBadLine (bytes ++ more) line
  long_bad long = record {
    before = b.before;
    rest = b.rest ++ more;
    parted = ap (λ (l : List ℕ). l ++ more) b.parted ∙ append_assoc (text_of b.before) b.rest more;
    unended = b.unended;
    counted = b.counted;
    spoken = b.spoken;
    within = b.within;
    reached = b.reached;
    bad = by b.bad (first-of b.rest more);
  } where
    all : length bytes ≡ length (text_of b.before) + length b.rest
    all = ap length b.parted ∙ length-append (text_of b.before) b.rest

    longer : SCRIPT_MOST_BYTES < length (bytes ++ more)
    longer = omega (arith, long, length-append bytes more)

    by : (((0 < length b.rest) × IsOutside (names_at sets.empty b.spoken) (first_line b.rest)) ⊎ ((SCRIPT_MOST_BYTES < length bytes) × (SCRIPT_MOST_BYTES ≤ length (text_of b.before) + length (first_line b.rest)))) → FirstOf b.rest more
        → ((0 < length (b.rest ++ more)) × IsOutside (names_at sets.empty b.spoken) (first_line (b.rest ++ more))) ⊎ ((SCRIPT_MOST_BYTES < length (bytes ++ more)) × (SCRIPT_MOST_BYTES ≤ length (text_of b.before) + length (first_line (b.rest ++ more))))
    by (inl h) (inl same) = inl (omega (arith, h.0, length-append b.rest more), subst (IsOutside (names_at sets.empty b.spoken)) (sym same) h.1)
    by (inl h) (inr rest) = inr (longer, omega (arith, long, all, rest.1))
    by (inr h) (inl same) = inr (longer, omega (arith, h.1, ap length same))
    by (inr h) (inr rest) = inr (longer, omega (arith, long, all, rest.1))

  -- a front that is not longer is the whole
  pub front_bad : (length bytes ≤ SCRIPT_MOST_BYTES → more ≡ []) → IsBadLine (bytes ++ more) line
  front_bad whole = elim (cases_lt SCRIPT_MOST_BYTES (length bytes)) [
    | inl long ↦ long_bad long
    | inr short ↦ subst (λ (l : List ℕ). IsBadLine l line) (sym (ap (λ (m : List ℕ). bytes ++ m) (whole short) ∙ append-nil bytes)) b
  ]

-- a script that was read is the whole of the source
pub script_read : (left left' : Option (List ℕ)) (bytes : List ℕ) (phases : List (List Line)) → ReadsFront left left' bytes → IsScript bytes phases → IsReadScript left left' phases
script_read left left' bytes phases front script = record { bytes = bytes; all = by left front; script = script } where
  by : (old : Option (List ℕ)) → ReadsFront old left' bytes → ReadsAll old left' bytes
  by None f = tt
  by (Some xs) f =
      let none = f.whole script.short in
      (sym (f.parted ∙ ap (λ (r : List ℕ). bytes ++ r) none ∙ append-nil bytes), f.left ∙ ap (λ (r : List ℕ). Some r) none)

-- a bad line that was read is the source's
pub bad_read : (left left' : Option (List ℕ)) (bytes : List ℕ) (line : ℕ) → ReadsFront left left' bytes → IsBadLine bytes line → IfSome left (λ xs. IsBadLine xs line)
bad_read None left' bytes line front bad = tt
bad_read (Some xs) left' bytes line front bad = subst (λ (l : List ℕ). IsBadLine l line) (sym front.parted) (front_bad bytes front.rest line bad front.whole)

-- what was read, and one piece more
pub near_read : (left mid left' : Option (List ℕ)) (bytes piece : List ℕ) → Consumes left mid bytes → Consumes mid left' piece → length bytes ≤ SCRIPT_MOST_BYTES → length piece ≤ PIECE_BYTES → ReadsNear left left'
near_read None mid left' bytes piece read last few short = tt
near_read (Some xs) None left' bytes piece read last few short = absurd read
near_read (Some xs) (Some ys) None bytes piece read last few short = absurd last
near_read (Some xs) (Some ys) (Some zs) bytes piece read last few short =
    record { bytes = bytes ++ piece; rest = zs; parted = read ∙ ap (λ (l : List ℕ). bytes ++ l) last ∙ sym (append_assoc bytes piece zs); left = refl; near = omega (arith, few, short, length-append bytes piece) }
