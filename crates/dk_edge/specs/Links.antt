-- What a poll of a link does to the bytes that the link tells, and to its counts.
use Rattle.std.specs.Prelude.{◌≡◌, ℕ, ◌<◌, ◌≤◌, List, length, take, Option, Result, Ok, Err}
use Rattle.std.specs.Io.KnownBytes.{Appends, Keeps}
use Rattle.futures.specs.declared.task.Poll.{Poll}
use Rattle.futures.specs.declared.task.Poll.TheVariants.{Ready, Pending}
use Rattle.dk_types.specs.declared.fault.Failed.{Failed}
use Rattle.dk_types.specs.Faults.{HasRisen}
use Rattle.dk_edge.specs.Streams.{Takes, AppendsPrefix}

-- a poll that is ready is a call of a source, and one that is pending took nothing
abbrev pub PollTakes : Option (List ℕ) → Option (List ℕ) → List ℕ → Poll (Result ℕ Failed) → Type 0
PollTakes left left' buffer (Ready result) = Takes left left' buffer result
PollTakes left left' buffer Pending = Keeps left left'

-- Ok n appended the first n of these bytes, and at least one where there are some
pub record AppendsSome (contents contents' : Option (List ℕ)) (bytes : List ℕ) (n : ℕ) : Type 0 where
  pub within : n ≤ length bytes
  pub some : 0 < length bytes → 0 < n
  pub appends : Appends contents contents' (take n bytes)

-- a poll that is ready appended some of these bytes, or failed and appended a prefix of them, and one that is pending appended nothing
abbrev pub PollPuts : Option (List ℕ) → Option (List ℕ) → List ℕ → Poll (Result ℕ Failed) → Type 0
PollPuts contents contents' bytes (Ready (Ok n)) = AppendsSome contents contents' bytes n
PollPuts contents contents' bytes (Ready (Err e)) = AppendsPrefix contents contents' bytes
PollPuts contents contents' bytes Pending = Keeps contents contents'

-- the count of faults rose in a poll that failed, and in no other
abbrev pub Counts : ℕ → ℕ → Poll (Result ℕ Failed) → Type 0
Counts before after (Ready (Ok n)) = after ≡ before
Counts before after (Ready (Err e)) = HasRisen before after
Counts before after Pending = after ≡ before
