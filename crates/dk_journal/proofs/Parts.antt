-- A part of the bytes that a window holds.
use Rattle.std.proofs.Common.{◌≡◌, ℕ, ◌+◌, ◌-◌, ◌≤◌, List, [], ◌∷◌, length, get_or, take, drop, refl, ◌∙◌, ap, arith}
use Rattle.std.proofs.lemmas.List.{take-take, drop-take, drop-drop}

-- it is what the file has there
pub part_is : (file bytes : List ℕ) (from at count long : ℕ) → bytes ≡ take long (drop from file) → from ≤ at → at + count ≤ from + long → take count (drop (at - from) bytes) ≡ take count (drop at file)
part_is file bytes from at count long is behind within =
    let before = at - from in
    let rest = long - before in
    let more : long ≡ before + rest = omega (arith, behind, within) in
    let place : from + before ≡ at = omega (arith, behind) in
    ap (λ (b : List ℕ). take count (drop before b)) (is ∙ ap (λ n. take n (drop from file)) more)
    ∙ ap (take count) (drop-take before rest (drop from file))
    ∙ take-take count rest (drop before (drop from file)) (omega (arith, within, behind))
    ∙ ap (take count) (drop-drop before from file ∙ ap (λ n. drop n file) place)

-- a part of one byte
pub one_byte : (part : List ℕ) → length part ≡ 1 → get_or part 0 0 ∷ [] ≡ part
one_byte [] one = absurd (omega (arith, one))
one_byte (b ∷ []) one = refl
one_byte (b ∷ more ∷ others) one = absurd (omega (arith, one))
