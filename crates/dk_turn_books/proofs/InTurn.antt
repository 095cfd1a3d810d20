-- Whose leg is next.
use Rattle.std.proofs.Common.{◌≡◌, ℕ, ◌%◌, List, [], ◌∷◌, ◌++◌, length, Some, cond, refl, sym, ap, subst, ◌∙◌, eq-eqb}
use Rattle.std.specs.List.{slice_get}
use Rattle.std.proofs.lemmas.List.{append-nil, append_cancel_left}
use Rattle.dk_turn.specs.Fronts.{Continues}
use Rattle.dk_turn.proofs.Beginnings.{own-append}
use Rattle.dk_turn_books.specs.declared.relay.Leg.{Leg}
use Rattle.dk_turn_books.specs.Legs.{own_legs, IsInTurn}

-- after a list stands what follows it
get_next : {A : Type 0} (xs rest : List A) (x : A) → slice_get (xs ++ x ∷ rest) (length xs) ≡ Some x
get_next [] rest x = refl
get_next (y ∷ ys) rest x = get_next ys rest x

-- where the next leg is this pass's and it has run none that it has not seen, it has seen all
seen_all : (n : ℕ) (front more log : List Leg) → IsInTurn log → front ++ more ≡ log → own_legs n more ≡ [] → length front % 2 ≡ n → front ≡ log
seen_all n front [] log is whole none next = sym (append-nil front) ∙ whole
seen_all n front (l ∷ rest) log is whole none next =
    let at : slice_get log (length front) ≡ Some l = subst (λ (x : List Leg). slice_get x (length front) ≡ Some l) whole (get_next front rest l) in
    let by : l.by ≡ n = is (length front) l at ∙ next in
    let more : own_legs n (l ∷ rest) ≡ l ∷ own_legs n rest = ap (λ b. cond b (l ∷ own_legs n rest) (own_legs n rest)) (eq-eqb l.by n by) in
    absurd (cc (none, more))

-- so the next leg is still this pass's
pub still_next : (n : ℕ) (front log : List Leg) → IsInTurn log → Continues (λ l. l.by) n front log → length front % 2 ≡ n → length log % 2 ≡ n
still_next n front log is goes_on next =
    let more = goes_on.begins.0 in
    let whole : front ++ more ≡ log = goes_on.begins.1 in
    let none : own_legs n more ≡ [] = append_cancel_left (own_legs n front) (own_legs n more) []
    (sym (own-append (λ (l : Leg). l.by) n front more) ∙ (ap (own_legs n) whole ∙ (goes_on.none_beyond ∙ sym (append-nil (own_legs n front))))) in
    ap (λ (x : List Leg). length x % 2) (sym (seen_all n front more log is whole none next)) ∙ next
