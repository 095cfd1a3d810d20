-- What `stress` writes.
use Rattle.std.specs.Prelude.{ℕ, ◌+◌, List, [], ◌∷◌, ◌++◌, codes, decimal}
use Rattle.std.proofs.Common.{zero, suc}
use Rattle.std.specs.List.{flat_map}
use Rattle.dk_demos.specs.CountersTotals.{plain_count}
use Rattle.dk_command.specs.Requests.{Asks, Stresses, Stressing}

-- where the words ask for a `stress`, this holds of it
abbrev pub ForStress : List (List ℕ) → (Stressing → Type 0) → Type 0
ForStress words P = (stress : Stressing) → Asks words (Stresses stress) → P stress

-- how often so many counters from this one on are in the generated list
unfoldable pub plain_counts_from : ℕ → ℕ → ℕ → ℕ → List ℕ
plain_counts_from seed tasks first zero = []
plain_counts_from seed tasks first (suc n) = plain_count seed tasks first ∷ plain_counts_from seed tasks (first + 1) n

-- THE PLAIN COUNTS of the sixteen counters
abbrev pub plain_counts : ℕ → ℕ → List ℕ
plain_counts seed tasks = plain_counts_from seed tasks 0 16

-- a number behind a space
abbrev pub spaced : ℕ → List ℕ
spaced n = 32 ∷ decimal n

-- two lines: the number of commits, and the counters
unfoldable pub lines_of : ℕ → List ℕ → List ℕ
lines_of commits counts = codes "commits " ++ (decimal commits ++ (codes "\ncounters" ++ (flat_map spaced counts ++ codes "\n")))

-- THE TEXT: the first run and each task are one commit, and each counter is as often raised as it is in the generated list
abbrev pub stress_text : ℕ → ℕ → List ℕ
stress_text seed tasks = lines_of (tasks + 1) (plain_counts seed tasks)
