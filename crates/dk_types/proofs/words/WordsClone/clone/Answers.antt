use Rattle.std.proofs.Common.{◌≡◌, ◌∷◌, ◌∙◌, [], refl, List, String, Global, map, string_bytes}
use Rattle.std.specs.List.{AllZip}
use Rattle.dk_types.proofs.words.WordsClone.clone.Goals as goal

-- copies of texts have the same bytes
bytes_of_copies : (old new : List (String Global)) → AllZip (λ s t. string_bytes t ≡ string_bytes s) old new → map (λ s. string_bytes s) new ≡ map (λ s. string_bytes s) old
bytes_of_copies [] [] all = refl
bytes_of_copies [] (t ∷ new) all = absurd all
bytes_of_copies (s ∷ old) [] all = absurd all
bytes_of_copies (s ∷ old) (t ∷ new) all = λ i. all.0 i ∷ bytes_of_copies old new all.1 i

pub returns : goal.returns
returns c =
    record { cases = bytes_of_copies c.self.inside.words.items c.in_ok-words.words.items c.in_ok-words.ensures.cases.0 ∙ c.self.view_is }
