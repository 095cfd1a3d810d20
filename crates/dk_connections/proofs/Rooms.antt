-- What both trees have room for, after one connection less and after one more.
use Rattle.std.proofs.Common.{◌≡◌, ℕ, ◌+◌, min, if◌then◌else◌, Bool, true, false, sym, ◌∙◌, arith}

-- one connection out of both trees
pub one_out : (a b c d n : ℕ) (x y z : Bool) → min a b ≡ n → c ≡ a + (if x then 1 else 0) → d ≡ b + (if y then 1 else 0) → x ≡ z → y ≡ z → min c d ≡ n + (if z then 1 else 0)
one_out a b c d n true true true v e f p q = omega arith
one_out a b c d n true true false v e f p q = cc
one_out a b c d n true false z v e f p q = let both = p ∙ sym q in cc
one_out a b c d n false true z v e f p q = let both = p ∙ sym q in cc
one_out a b c d n false false true v e f p q = cc
one_out a b c d n false false false v e f p q = omega arith

-- one connection into both
pub one_in : (a b c d n : ℕ) (x y : Bool) → min a b ≡ n → c + (if x then 0 else 1) ≡ a → d + (if y then 0 else 1) ≡ b → x ≡ false → y ≡ false → min c d + 1 ≡ n
one_in a b c d n true y v e f p q = cc
one_in a b c d n false true v e f p q = cc
one_in a b c d n false false v e f p q = omega arith

-- one place out of its tree, and one into it
pub one_moved : (a b c d e n : ℕ) (x y : Bool) → min a b ≡ n → c ≡ a → d ≡ b + (if x then 1 else 0) → e + (if y then 0 else 1) ≡ d → x ≡ true → y ≡ false → min c e ≡ n
one_moved a b c d e n true false v f g h p q = omega arith
one_moved a b c d e n true true v f g h p q = cc
one_moved a b c d e n false y v f g h p q = cc
