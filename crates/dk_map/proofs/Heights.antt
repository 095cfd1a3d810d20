-- A balanced tree is low: its height is at most twice the logarithm of its entries.
use Rattle.std.proofs.Common.{◌≡◌, ℕ, suc, ◌+◌, ◌/◌, ◌^◌, ◌-◌, ◌<◌, ◌≤◌, max, ◌∷◌, length, length-append, ◌⊎◌, inl, inr, arith}
use Rattle.std.proofs.lemmas.Bool.{cases_order}
use Rattle.std.proofs.Math.Pow.{pow_mono}
use Rattle.std.proofs.Math.Nat.{two-pow-succ}
use Rattle.dk_map.specs.Balance.{IsLow, DifferByAtMost, node_entries, node_height}
use Rattle.dk_map.specs.declared.tree.Node.{Node}

-- a number is below two, or it is not
two_cases : (h : ℕ) → (h < 2) ⊎ (2 ≤ h)
two_cases h = elim (cases_order h 1) [ inl e ↦ inl (omega arith) | inr (inl e) ↦ inl (omega arith) | inr (inr e) ↦ inr (omega arith) ]

-- a height below two is low
low_small : (h n : ℕ) → h < 2 → IsLow h n
low_small h n p =
    let none : h / 2 ≡ 0 = omega arith in
    rw none (omega arith)

-- the step from the sides to the node
low_step : (h k l r m n : ℕ) → h / 2 ≡ suc k → k ≤ l / 2 → k ≤ r / 2 → IsLow l m → IsLow r n → IsLow h (m + suc n)
low_step h k l r m n e a b p q =
    let left = pow_mono a in
    let right = pow_mono b in
    rw (e, two-pow-succ) (omega arith)

-- a node on two low sides that differ by one at most is low
low_node : (l r m n : ℕ) → IsLow l m → IsLow r n → DifferByAtMost 1 l r → IsLow (max l r + 1) (m + suc n)
low_node l r m n p q d =
    elim (two_cases (max l r + 1)) [
      | inl small ↦ low_small _ _ small
      | inr large ↦ low_step (max l r + 1) ((max l r + 1) / 2 - 1) l r m n (omega arith) (omega arith) (omega arith) p q
    ]

-- the same of a node, at the height that is stored for it
pub low_entries : {K V : Type 0} (n : Node K V) (h : ℕ) → h ≡ node_height n → IsLow n.left.1 (length n.left.0) → IsLow n.right.1 (length n.right.0) → DifferByAtMost 1 n.left.1 n.right.1 → IsLow h (length (node_entries n))
low_entries n h is p q d = rw (is, length-append n.left.0 ((n.key, n.value) ∷ n.right.0)) (low_node n.left.1 n.right.1 (length n.left.0) (length n.right.0) p q d)

-- a height is below 128, or it is not
split : (h : ℕ) → (h < 128) ⊎ (128 ≤ h)
split h = elim (cases_order h 128) [ inl e ↦ inr (omega arith) | inr (inl e) ↦ inl e | inr (inr e) ↦ inr (omega arith) ]

-- a tree with fewer than 2^63 entries is lower than 128
pub low_fits : (h n : ℕ) → IsLow h n → n < 2 ^ 63 → h < 128
low_fits h n p q =
    elim (split h) [
      | inl small ↦ small
      | inr large ↦ absurd (let more : 2 ^ 64 ≤ 2 ^ (h / 2) = pow_mono {i = 64} {j = h / 2} (omega arith) in omega arith)
    ]
