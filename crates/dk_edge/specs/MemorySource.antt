-- A source over bytes in memory.
use Rattle.std.specs.Prelude.{ℕ, min, List, length, drop}
use Rattle.dk_types.specs.FaultPlan.{Plan, after_call}

-- the bytes that are left, the most bytes that one call gives, and the calls that fail
pub record Feed : Type 0 where
  pub left : List ℕ
  pub piece : ℕ
  pub plan : Plan

-- how many bytes the next call gives into so much room
abbrev pub given_count : Feed → ℕ → ℕ
given_count feed room = min (min (length feed.left) feed.piece) room

-- after a call that gave so many bytes
abbrev pub after_take : Feed → ℕ → Feed
after_take feed n = record { left = drop n feed.left; piece = feed.piece; plan = after_call feed.plan }
