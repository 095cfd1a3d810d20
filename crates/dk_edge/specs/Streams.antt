-- What a call on a stream does to the bytes that the stream tells. A stream that tells its bytes goes on telling them; of one that does not tell them nothing is said.
use Rattle.std.specs.Prelude.{◌≡◌, ℕ, ◌≤◌, List, length, take, Option, Result, MatchResult}
use Rattle.std.specs.Io.KnownBytes.{Consumes, Appends, Keeps, IsAtEnd}
use Rattle.dk_types.specs.declared.fault.Failed.{Failed}

-- the first n bytes of the buffer were the front of what was left, and the rest of it is left now; none come only where none was left
pub record Gives (left left' : Option (List ℕ)) (buffer : List ℕ) (n : ℕ) : Type 0 where
  pub within : n ≤ length buffer
  pub front : Consumes left left' (take n buffer)
  pub end : n ≡ 0 → IsAtEnd left

-- Ok n gives n bytes, and a call that failed lost none
abbrev pub Takes : Option (List ℕ) → Option (List ℕ) → List ℕ → Result ℕ Failed → Type 0
Takes left left' buffer result = MatchResult result (λ n. Gives left left' buffer n) (λ _. Keeps left left')

-- some of these bytes were appended, from the first on
abbrev pub AppendsPrefix : Option (List ℕ) → Option (List ℕ) → List ℕ → Type 0
AppendsPrefix contents contents' bytes = (n : ℕ) × (n ≤ length bytes) × Appends contents contents' (take n bytes)

-- Ok appended all the bytes, and a call that failed a prefix of them
abbrev pub Puts : {T : Type 0} → Option (List ℕ) → Option (List ℕ) → List ℕ → Result T Failed → Type 0
Puts contents contents' bytes result = MatchResult result (λ _. Appends contents contents' bytes) (λ _. AppendsPrefix contents contents' bytes)
