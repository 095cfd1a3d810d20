-- Counts in 64 bits.
use Rattle.std.proofs.Common.{◌≡◌, ℕ, ◌+◌, ◌*◌, ◌<◌, min, nat_lt, List, [], ◌∷◌, length, take, get_or, sum_by, refl, sym, ap, ◌∙◌, arith, add_assoc, add_comm}
use Rattle.std.proofs.lemmas.Bool.Decides.{nat_tests}
use Rattle.std.proofs.lemmas.List.Sums.{sum_by_more, sum_by-cons}
use native.Mathlib.Nat.{zero-mul, suc-mul}
use Rattle.dk_types.specs.Faults.{COUNT_END}
use Rattle.dk_model.specs.Effects.{list_length}
use Rattle.dk_txn.specs.Counting.{Counts}

min_sum : (a b : ℕ) → min (min a COUNT_END + b) COUNT_END ≡ min (a + b) COUNT_END
min_sum a b = grind arith

min_both : (a b : ℕ) → min (min a COUNT_END + min b COUNT_END) COUNT_END ≡ min (a + b) COUNT_END
min_both a b = grind arith

-- a number of 64 bits counts itself
pub counts_itself : Counts 4 4
counts_itself = refl

-- a sum that stays at the greatest count counts the sum
pub counts_sum : (a b sum m n : ℕ) → sum ≡ min (a + b) COUNT_END → Counts a m → Counts b n → Counts sum (m + n)
counts_sum a b sum m n e k l = e ∙ ap (λ x. min (x + b) COUNT_END) k ∙ ap (λ y. min (min m COUNT_END + y) COUNT_END) l ∙ min_both m n

-- one item more of a list is counted
pub counts_turn : {X : Type 0} (size : X → ℕ) (xs : List X) (i : ℕ) (x : X) (a add sum : ℕ) → i < length xs → add ≡ size (get_or xs i x) → sum ≡ min (a + add) COUNT_END
    → Counts a (list_length size (take i xs)) → Counts sum (list_length size (take (i + 1) xs))
counts_turn size xs i x a add sum lt is e k =
    let more : list_length size (take i xs) + add ≡ list_length size (take (i + 1) xs) = ap (λ n. list_length size (take i xs) + n) is ∙ add_assoc 4 (sum_by size (take i xs)) (size (get_or xs i x)) ∙ ap (λ n. 4 + n) (sym (sum_by_more size xs i x lt)) in
    e ∙ ap (λ y. min (y + add) COUNT_END) k ∙ min_sum (list_length size (take i xs)) add ∙ ap (λ n. min n COUNT_END) more

-- a count tells whether a number is above a limit
pub counts_above : (count n limit : ℕ) → limit < COUNT_END → Counts count n → nat_lt limit count ≡ nat_lt limit n
counts_above count n limit low k = rw k (let e : nat_lt limit (min n COUNT_END) ≡ nat_lt limit n = grind (arith, nat_tests, low) in e)

equal_sizes : {X : Type 0} (n : ℕ) (xs : List X) → sum_by (λ x. n) xs ≡ length xs * n
equal_sizes n [] = sym (zero-mul n)
equal_sizes n (x ∷ xs) = sum_by-cons (λ _. n) x xs ∙ ap (λ m. n + m) (equal_sizes n xs) ∙ add_comm n (length xs * n) ∙ sym (suc-mul (length xs) n)

-- items that take as many bytes each are counted by how many there are
pub counts_equal : {X : Type 0} (n count len : ℕ) (xs : List X) → len ≡ length xs → Counts count (4 + len * n) → Counts count (list_length (λ x. n) xs)
counts_equal n count len xs e k = k ∙ ap (λ m. min (4 + m) COUNT_END) (ap (λ l. l * n) e ∙ sym (equal_sizes n xs))
