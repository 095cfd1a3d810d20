-- Rows whose elements are served beside one another.
use Rattle.std.specs.Prelude.{◌≡◌, Bool, true, false, not, List, map, unwrap_or}
use Rattle.std.specs.List.{All, find}
use Rattle.dk_workers.specs.declared.worked.Worked.{Worked}
use Rattle.dk_workers.specs.declared.worked.Worked.TheVariants as worked

-- an element before and after it was served, and the answer to it
pub record Shift (X : Type 0) : Type 0 where
  pub old : X
  pub new : X
  pub end : Worked

-- whether an answer is that nothing can be run
abbrev pub is_idle : Worked → Bool
is_idle worked.Idle = true
is_idle (worked.Spent granted) = false
is_idle (worked.Exhausted next) = false
is_idle worked.DiskFault = false
is_idle (worked.Stopped faults) = false
is_idle (worked.JournalFull length) = false
is_idle worked.NoMemory = false

-- the first of these answers that is not Idle, or Idle
abbrev pub first_of : List Worked → Worked
first_of ends = unwrap_or (find (λ end. not (is_idle end)) ends) worked.Idle

-- each element was served once, and the answer is the first of theirs, in the order of the row, that is not Idle, or Idle
pub record IsServed {X : Type 0} (serves : X → Worked → X → Type 0) (end : Worked) (olds news : List X) : Type 0 where
  pub shifts : List (Shift X)
  pub before : olds ≡ map (λ (s : Shift X). s.old) shifts
  pub after : news ≡ map (λ (s : Shift X). s.new) shifts
  pub each : All (λ (s : Shift X). serves s.old s.end s.new) shifts
  pub first : end ≡ first_of (map (λ (s : Shift X). s.end) shifts)
