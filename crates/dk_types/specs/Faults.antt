-- Counts of faults. A count never falls, and one that stands at the end of its type stays there and counts as risen.
use Rattle.std.specs.Prelude.{◌≡◌, ℕ, ◌<◌, ◌⊎◌}

-- the greatest number of 64 bits, at which a count stays
abbrev pub COUNT_END : ℕ
COUNT_END = 18446744073709551615

-- a fault was counted between these two counts of one object
abbrev pub HasRisen : ℕ → ℕ → Type 0
HasRisen before after = (before < after) ⊎ ((before ≡ COUNT_END) × (after ≡ COUNT_END))
