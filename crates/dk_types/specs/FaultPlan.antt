-- Calls that are numbered from 1, some of which are to fail.
use Rattle.std.specs.Prelude.{ℕ, ◌+◌, min, List, Bool, ◌==◌, if◌then◌else◌}
use Rattle.std.specs.List.{list_any}
use Rattle.dk_types.specs.Faults.{COUNT_END}

-- the numbers of the calls that fail, how many calls were numbered, and how many faults were counted
pub record Plan : Type 0 where
  pub failing : List ℕ
  pub calls : ℕ
  pub faults : ℕ

-- one more, up to the greatest count
abbrev pub counted_up : ℕ → ℕ
counted_up n = min (n + 1) COUNT_END

-- whether the next call is to fail
abbrev pub fails_next : Plan → Bool
fails_next plan = list_any (λ n. n == counted_up plan.calls) plan.failing

-- with one more fault
abbrev pub after_fault : Plan → Plan
after_fault plan = record { failing = plan.failing; calls = plan.calls; faults = counted_up plan.faults }

-- with one more call, and with its fault where it is to fail
abbrev pub after_call : Plan → Plan
after_call plan = record { failing = plan.failing; calls = counted_up plan.calls; faults = if fails_next plan then counted_up plan.faults else plan.faults }
