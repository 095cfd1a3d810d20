-- What the steps of a journal give.
use Rattle.std.specs.Prelude.{◌≡◌, ℕ, ◌<◌, ◌/◌, List, [], ◌∷◌, length, Option, Some, MatchOption, slice_get, slice_index_or}
use Rattle.dk_turn.specs.Fronts.{own}
use Rattle.dk_turn_books.specs.declared.journal.Line.{Line}

-- a line of a pass
abbrev pub line : ℕ → ℕ → Line
line n value = record { by = n; value = value }

-- the lines of one pass, in order
abbrev pub own_lines : ℕ → List Line → List Line
own_lines n lines = own (λ (l : Line). l.by) n lines

-- a line more, whose place is told, or none where there is no memory
abbrev pub appends : ℕ → ℕ → List Line → Option ℕ → List Line → Type 0
appends n value before reply added = MatchOption reply (added ≡ []) (λ place. (place ≡ length before) × (added ≡ line n value ∷ []))

-- the line at a place, and nothing more
abbrev pub recalls : ℕ → List Line → Line → List Line → Type 0
recalls place before reply added = (added ≡ []) × (slice_get before place ≡ Some reply)

-- the line of a pass stands at this place, and it is the pass's only one
pub record HasLine (n value place : ℕ) (history : List Line) : Type 0 where
  pub here : slice_get history place ≡ Some (line n value)
  pub alone : own_lines n history ≡ line n value ∷ []

-- a line with a positive value stands at the place
abbrev pub is_positive : ℕ → List Line → Type 0
is_positive place history = (place < length history) × ((d : Line) → 0 < (slice_index_or history place d).value)

-- how many of the values that are asked for make the value at a place
abbrev pub portion : ℕ → ℕ → List Line → ℕ → Type 0
portion place total history reply = (d : Line) → reply ≡ total / (slice_index_or history place d).value
