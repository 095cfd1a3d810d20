-- Two threads that count lose no turn.
use Rattle.std.proofs.Common.{◌≡◌, ℕ, ◌+◌, ◌*◌, ◌-◌, ◌^◌, ◌<◌, ◌≤◌, List, [], ◌∷◌, length, refl, ap, ◌∙◌, arith, length-append}
use Rattle.std.specs.List.{All}
use mathlib.Core.Logic.{dite}
use native.Mathlib.Decide.{ℕ_discrete}
use mathlib.Core.List.{IsPrefix}
use Rattle.dk_turn.specs.Fronts.{Known, known, Continues, ContinuesAll}
use Rattle.dk_turn_books.specs.declared.tally.Tick.{Tick}
use Rattle.dk_turn_books.specs.Ticks.{own_ticks, Took}
use Rattle.dk_turn_books.proofs.Passes.{first_of_two, second_of_two}
use Rattle.dk_turn_books.proofs.Shares.{two_shares}

-- a beginning is no longer than the whole
prefix_shorter : (xs ys : List Tick) → IsPrefix xs ys → length xs ≤ length ys
prefix_shorter xs ys p = omega (arith, length-append xs p.0, ap length p.1)

-- a pass missed no turn where the tally was not full in the end
counted_all : (n turns counted : ℕ) (front log : List Tick) → Took n turns counted front → IsPrefix front log → length log < 2 ^ 64 - 1 → counted ≡ turns
counted_all n turns counted front log took begins small =
    let most = took.most in
    dite (ℕ_discrete counted turns)
    (λ e. e)
    (λ ne. absurd (omega (arith, took.all (omega arith), prefix_shorter front log begins)))

-- two threads that take so few turns that the tally can not be full leave twice as many ticks
pub none_lost : (turns passes total a b i j : ℕ) (one two : Known Tick) (log : List Tick) → turns < 2 ^ 62 → passes ≡ 2 → i ≡ 0 → j ≡ 1 → one.number ≡ i → two.number ≡ j
    → Took i turns a one.front → Took j turns b two.front → total ≡ length log → ContinuesAll (λ t. t.by) (one ∷ two ∷ []) log → All (λ t. t.by < passes) log → total ≡ 2 * turns
none_lost turns passes total a b i j one two log few both zero_is one_is same same' first second is all named =
    let sum : length log ≡ a + b = two_shares (λ t. t.by) passes a b i j one two log both zero_is one_is same same' first.each second.each all named in
    let most_1 = first.most in
    let most_2 = second.most in
    let small : length log < 2 ^ 64 - 1 = omega arith in
    let all_1 = counted_all i turns a one.front log first (first_of_two (λ t. t.by) one two log all).begins small in
    let all_2 = counted_all j turns b two.front log second (second_of_two (λ t. t.by) one two log all).begins small in
    omega arith

-- where one pass entered nothing and the other made no call, there is nothing
pub none_entered : (passes total : ℕ) (first one two : Known Tick) (log : List Tick) → passes ≡ 2 → first ≡ known 0 [] → two ≡ known 1 [] → one.number ≡ first.number
    → Continues (λ t. t.by) first.number first.front one.front → total ≡ length log → ContinuesAll (λ t. t.by) (one ∷ two ∷ []) log → All (λ t. t.by < passes) log → total ≡ 0
none_entered passes total first one two log both dealt_0 dealt_1 same seen is all named =
    let none : length (own_ticks first.number one.front) ≡ 0 = ap length seen.none_beyond ∙ ap (λ (k : Known Tick). length (own_ticks k.number k.front)) dealt_0 in
    let sum : length log ≡ 0 + 0 = two_shares (λ t. t.by) passes 0 0 first.number two.number one two log both (ap (λ k. k.number) dealt_0) (ap (λ k. k.number) dealt_1) same refl
    none (ap (λ (k : Known Tick). length (own_ticks k.number k.front)) dealt_1) all named in
    is ∙ sum
