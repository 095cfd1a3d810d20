-- What the steps of a tally give, and what a thread that counts was told.
use Rattle.std.specs.Prelude.{◌≡◌, ℕ, ◌+◌, ◌-◌, ◌^◌, ◌<◌, ◌≤◌, List, [], ◌∷◌, length, Option, MatchOption}
use Rattle.dk_turn.specs.Fronts.{own}
use Rattle.dk_turn_books.specs.declared.tally.Tick.{Tick}

-- the tick of a pass
abbrev pub tick : ℕ → Tick
tick n = record { by = n }

-- the ticks of one pass, in order
abbrev pub own_ticks : ℕ → List Tick → List Tick
own_ticks n ticks = own (λ (t : Tick). t.by) n ticks

-- and how many they are
abbrev pub ticks_of : ℕ → List Tick → ℕ
ticks_of n ticks = length (own_ticks n ticks)

-- one tick more, whose place is told, or none where the tally is full
abbrev pub counts : ℕ → List Tick → Option ℕ → List Tick → Type 0
counts n before reply added = MatchOption reply ((length before ≡ 2 ^ 64 - 1) × (added ≡ [])) (λ count. (count ≡ length before + 1) × (added ≡ tick n ∷ []))

-- Of the turns that a pass took, this many were counted, and each left one tick of it. Fewer than all only where the tally was full
pub record Took (n turns counted : ℕ) (front : List Tick) : Type 0 where
  pub each : ticks_of n front ≡ counted
  pub most : counted ≤ turns
  pub all : counted < turns → 2 ^ 64 - 1 ≤ length front
