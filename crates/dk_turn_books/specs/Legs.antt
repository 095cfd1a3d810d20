-- What the steps of a relay give.
use Rattle.std.specs.Prelude.{◌≡◌, ℕ, ◌%◌, List, length, Some, slice_get}
use Rattle.dk_turn.specs.Fronts.{own}
use Rattle.dk_turn_books.specs.declared.relay.Leg.{Leg}

-- the leg of a pass
abbrev pub leg : ℕ → Leg
leg n = record { by = n }

-- the legs of one pass, in order
abbrev pub own_legs : ℕ → List Leg → List Leg
own_legs n legs = own (λ (l : Leg). l.by) n legs

-- and how many they are
abbrev pub legs_of : ℕ → List Leg → ℕ
legs_of n legs = length (own_legs n legs)

-- the legs at even places are those of pass 0, and the others of pass 1
abbrev pub IsInTurn : List Leg → Type 0
IsInTurn legs = (k : ℕ) (l : Leg) → slice_get legs k ≡ Some l → l.by ≡ k % 2
