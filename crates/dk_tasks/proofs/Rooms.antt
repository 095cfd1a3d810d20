-- What there is room for: a is the room of the tasks, b that of the places, of which c are kept for what runs have.
use Rattle.std.proofs.Common.{◌≡◌, ℕ, ◌+◌, ◌-◌, ◌<◌, ◌≤◌, min, Bool, true, false, arith}
use Rattle.dk_tasks.proofs.Held.{one_held}

module _ (a b c n : ℕ) (v : min a (b - c) ≡ n) (fits : c ≤ b) (a' b' c' : ℕ) where
  -- a task less that no run has
  pub free_out : (x : Bool) → x ≡ false → a ≤ a' → b' ≡ b + 1 → c' + one_held x ≡ c → (n ≤ min a' (b' - c')) × (c' ≤ b')
  free_out true p d e f = cc
  free_out false p d e f = (omega arith, omega arith)

  -- and one that a run has
  pub held_out : (x : Bool) → x ≡ true → a ≤ a' → c' + one_held x ≡ c → (n ≤ min a' (b - c')) × (c' ≤ b)
  held_out true p d f = (omega arith, omega arith)
  held_out false p d f = cc

  -- a task more that no run has
  pub free_in : (x : Bool) → x ≡ false → 0 < n → a' + 1 ≡ a → b' + 1 ≡ b → c' ≡ c + one_held x → (min a' (b' - c') + 1 ≡ n) × (c' ≤ b')
  free_in true p room d e f = cc
  free_in false p room d e f = (omega arith, omega arith)

  -- a run has it
  pub held_now : (x y : Bool) → x ≡ false → y ≡ true → a' ≡ a → b' ≡ b + 1 → c' + one_held x ≡ c + one_held y → (min a' (b' - c') ≡ n) × (c' ≤ b')
  held_now true y p q d e f = cc
  held_now false true p q d e f = (omega arith, omega arith)
  held_now false false p q d e f = cc

  -- no run has it any more
  pub free_now : (x y : Bool) → x ≡ true → y ≡ false → a' ≡ a → b' + 1 ≡ b → c' + one_held x ≡ c + one_held y → (min a' (b' - c') ≡ n) × (c' ≤ b')
  free_now true true p q d e f = cc
  free_now true false p q d e f = (omega arith, omega arith)
  free_now false y p q d e f = cc

  -- all is as before
  pub as_before : a' ≡ a → b' ≡ b → c' ≡ c → (min a' (b' - c') ≡ n) × (c' ≤ b')
  as_before d e f = (omega arith, omega arith)
