-- What a slice's `strip_prefix` says, as an equation.
use Rattle.std.proofs.Common.{◌≡◌, ℕ, ◌+◌, true, false, Option, Some, None, List, [], ◌∷◌, ◌++◌, length, take, drop, sym, ap, ◌∙◌}
use Rattle.std.specs.Prelude.{IfSome, IfNone, MatchOption}
use Rattle.dk_script.specs.Reading.{IsBehind}
use Rattle.std.specs.Cmp.Lexicographic.{pointwise}
use Rattle.std.specs.Prelude.{nat_eq}
use Rattle.std.proofs.lemmas.Slice.Eq.{bytes_eq-Decides}
use Rattle.std.proofs.lemmas.Bool.{false≢true}
use Rattle.std.proofs.lemmas.List.{take-append-drop}
use Rattle.std.proofs.Math.Seq.{take-append_seam}

-- a text whose prefix was taken off is the prefix and what is left
pub stripped : (s p x : List ℕ) → pointwise nat_eq (take (length p) s) p ≡ true → x ≡ drop (length p) s → s ≡ p ++ x
stripped s p x e r =
    let front = (bytes_eq-Decides (take (length p) s) p).0 e in
    sym (take-append-drop (length p) s) ∙ ap (λ (f : List ℕ). f ++ drop (length p) s) front ∙ ap (λ (t : List ℕ). p ++ t) (sym r)

-- a text with the prefix has it taken off
pub not_stripped : (s p x : List ℕ) → pointwise nat_eq (take (length p) s) p ≡ false → s ≡ p ++ x → ⊥
not_stripped s p x e r = false≢true (sym e ∙ (bytes_eq-Decides (take (length p) s) p).1 (ap (take (length p)) r ∙ take-append_seam p x))

-- what is left behind the prefix is told by it
prefix_only : (word rest other : List ℕ) → word ++ rest ≡ word ++ other → other ≡ rest
prefix_only [] rest other e = sym e
prefix_only (b ∷ word) rest other e = prefix_only word rest other (ap (drop 1) e)

-- what a prefix that was taken off leaves
pub behind_found : {X : Type 0} (now : X → List ℕ) (word line : List ℕ) (o : Option X)
    → MatchOption o (pointwise nat_eq (take (length word) line) word ≡ false) (λ x. (pointwise nat_eq (take (length word) line) word ≡ true) × (now x ≡ drop (length word) line) × (length (now x) + length word ≡ length line))
    → IfSome o (λ x. IsBehind word line (now x))
behind_found now word line None h = tt
behind_found now word line (Some x) h =
    let is = stripped line word (now x) h.0 h.1 in
    record { is = is; only = λ other e. prefix_only word (now x) other (sym is ∙ e) }

-- a prefix that was not there
pub behind_none : {X : Type 0} (now : X → List ℕ) (word line : List ℕ) (o : Option X)
    → MatchOption o (pointwise nat_eq (take (length word) line) word ≡ false) (λ x. (pointwise nat_eq (take (length word) line) word ≡ true) × (now x ≡ drop (length word) line) × (length (now x) + length word ≡ length line))
    → IfNone o ((rest : List ℕ) → line ≡ word ++ rest → ⊥)
behind_none now word line None h = λ rest e. not_stripped line word rest h e
behind_none now word line (Some x) h = tt
