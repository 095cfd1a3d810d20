-- The words as a list of references.
use Rattle.std.proofs.Common.{◌≡◌, ◌∙◌, ◌+◌, ◌≤◌, ◌++◌, ◌∷◌, ℕ, List, [], Some, take, length, sym, ap}
use Rattle.std.specs.Prelude.{slice_get}
use Rattle.std.specs.Borrow.{Bor}
use Rattle.std.proofs.lemmas.List.{map-append, take_all, take_more}
use Rattle.std.proofs.lemmas.Option.{get_or_from_slice_get, slice_get_within}
use Rattle.clap.specs.Words.{Text}
use Rattle.clap.specs.Walk.{texts}

-- one more element of a list
take_next : {X : Type 0} (xs : List X) (i : ℕ) (x : X) → slice_get xs i ≡ Some x → take (i + 1) xs ≡ take i xs ++ x ∷ []
take_next {X} xs i x at = take_more xs i x (slice_get_within xs i x at) ∙ ap (λ (y : X). take i xs ++ y ∷ []) (get_or_from_slice_get xs i x x at)

-- one more word
pub texts_more : (list : List (Bor Text)) (words : List Text) (i : ℕ) (word : Bor Text) → texts list ≡ take i words → slice_get words i ≡ Some word.now
    → texts (list ++ word ∷ []) ≡ take (i + 1) words
texts_more list words i word so_far at =
    map-append (λ s. s.now) list (word ∷ []) ∙ (ap (λ (xs : List Text). xs ++ word.now ∷ []) so_far ∙ sym (take_next words i word.now at))

-- all words
pub texts_whole : (list : List (Bor Text)) (words : List Text) (i : ℕ) → texts list ≡ take i words → length words ≤ i → texts list ≡ words
texts_whole list words i so_far far = so_far ∙ take_all i words far
