-- What a pass has seen of a history.
use Rattle.std.specs.Prelude.{◌≡◌, ℕ, ◌<◌, ◌==◌, List, [], ◌++◌, length, Some, slice_get}
use Rattle.std.specs.List.{filter, All}
use mathlib.Core.List.{IsPrefix}

-- what contracts see of a pass: its number, and what it has seen
pub record Known (E : Type 0) : Type 0 where
  pub number : ℕ
  pub front : List E

-- what contracts see of a watcher: what it has seen
pub record Watched (E : Type 0) : Type 0 where
  pub front : List E

-- a watcher that has seen this
abbrev pub watched : {E : Type 0} → List E → Watched E
watched seen = record { front = seen }

-- the history begins with what was seen
abbrev pub Begins : {E : Type 0} → List E → List E → Type 0
Begins seen log = IsPrefix seen log

-- a pass of this number that has seen this
abbrev pub known : {E : Type 0} → ℕ → List E → Known E
known n seen = record { number = n; front = seen }

-- the entries of one pass, in order
abbrev pub own : {E : Type 0} → (E → ℕ) → ℕ → List E → List E
own number n entries = filter (λ e. number e == n) entries

-- the history begins with what the pass n has seen, and has no entry of this pass beyond it
pub record Continues {E : Type 0} (number : E → ℕ) (n : ℕ) (seen log : List E) : Type 0 where
  pub begins : IsPrefix seen log
  pub none_beyond : own number n log ≡ own number n seen

-- What a call tells: it came after a history that continues the old front, and the new front is this history with what the step added, each
-- entry in the name of the pass. Of the pass's own entries the new front has those of the old one and these, each once
pub record Called {E : Type 0} (number : E → ℕ) (n : ℕ) (gives : List E → List E → Type 0) (old new : List E) : Type 0 where
  pub before : List E
  pub added : List E
  pub continues : Continues number n old before
  pub front : new ≡ before ++ added
  pub by : All (λ e. number e ≡ n) added
  pub own_entries : own number n new ≡ own number n old ++ added
  pub given : gives before added

-- the passes of a new turn, in the order of their numbers
pub record IsDealt {E : Type 0} (count : ℕ) (passes : List (Known E)) : Type 0 where
  pub all : length passes ≡ count
  pub each : (k : ℕ) → k < count → slice_get passes k ≡ Some (known k [])

-- the history begins with what each of these passes has seen, and has no entry of such a pass beyond it
abbrev pub ContinuesAll : {E : Type 0} → (E → ℕ) → List (Known E) → List E → Type 0
ContinuesAll number passes log = All (λ p. Continues number p.number p.front log) passes
