-- A line that was seen stays at its place.
use Rattle.std.proofs.Common.{◌≡◌, ℕ, zero, suc, List, [], ◌∷◌, Some, sym, subst, ◌∙◌}
use Rattle.std.specs.List.{slice_get}
use mathlib.Core.List.{IsPrefix}
use Rattle.dk_turn.specs.Fronts.{Continues}
use Rattle.dk_turn_books.specs.declared.journal.Line.{Line}
use Rattle.dk_turn_books.specs.Lines.{line, HasLine}

pub prefix_get : {A : Type 0} (xs ys : List A) (k : ℕ) (x : A) → IsPrefix xs ys → slice_get xs k ≡ Some x → slice_get ys k ≡ Some x
prefix_get [] ys k x p h = absurd (cc h)
prefix_get (y ∷ xs) [] k x p h = absurd (cc (p.1))
prefix_get (y ∷ xs) (z ∷ ys) zero x p h = cc (p.1, h)
prefix_get (y ∷ xs) (z ∷ ys) (suc k) x p h = prefix_get xs ys k x (p.0, cc (p.1)) h

pub has_line_later : (n value place : ℕ) (front log : List Line) → HasLine n value place front → Continues (λ l. l.by) n front log → HasLine n value place log
has_line_later n value place front log has c = record {
  here = prefix_get front log place (line n value) c.begins has.here;
  alone = c.none_beyond ∙ has.alone;
}

-- the same, where the pass goes by another name for its number
pub has_line_on : (n m k value place : ℕ) (front log : List Line) → HasLine k value place front → k ≡ n → m ≡ n → Continues (λ l. l.by) m front log → HasLine n value place log
has_line_on n m k value place front log has is same c =
    has_line_later n value place front log (subst (λ (i : ℕ). HasLine i value place front) is has) (subst (λ (i : ℕ). Continues (λ l. l.by) i front log) same c)

-- what was read at the place is the line that stands there
pub line_read : (place n value : ℕ) (front seen : List Line) (got : Line) → HasLine n value place front → front ≡ seen → slice_get seen place ≡ Some got → got ≡ line n value
line_read place n value front seen got has same read = let here = has.here in let there = subst (λ (l : List Line). slice_get l place ≡ Some got) (sym same) read in cc
