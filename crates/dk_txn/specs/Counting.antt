-- A count in 64 bits.
use Rattle.std.specs.Prelude.{◌≡◌, ℕ, min}
use Rattle.dk_types.specs.Faults.{COUNT_END}

-- it is the number, or the greatest count where the number is greater
abbrev pub Counts : ℕ → ℕ → Type 0
Counts count n = count ≡ min n COUNT_END
