-- The phases of a history, cut at the places where they begin.
use Rattle.std.specs.Prelude.{ℕ, ◌<◌, ◌^◌, List, [], ◌∷◌, length, slice_range}
use Rattle.std.specs.List.{AllByRecursion}
use Rattle.dk_types.specs.declared.event.Event.{Event}
use Rattle.dk_types.specs.declared.event.Event.TheVariants as event
use Rattle.dk_types.specs.declared.event.ClaimReply.{ClaimReply}
use Rattle.dk_types.specs.declared.event.ClaimReply.TheVariants as claimed

-- a phase ends where the next begins, and the last with the events
abbrev pub phase_end : List Event → List ℕ → ℕ
phase_end events [] = length events
phase_end events (mark ∷ marks) = mark

-- the events of each phase; a mark is the place of a phase's first event
abbrev pub phases_of : List Event → List ℕ → List (List Event)
phases_of events [] = []
phases_of events (mark ∷ marks) = slice_range events mark (phase_end events marks) ∷ phases_of events marks

-- the run and the moment of a granted claim fit in 64 bits
abbrev pub IsSmallClaim : ClaimReply → Type 0
IsSmallClaim (claimed.Granted run at job) = (run.0 < 2 ^ 64) × (at < 2 ^ 64)
IsSmallClaim claimed.Nothing = Unit {0}
IsSmallClaim (claimed.Spent granted) = Unit {0}
IsSmallClaim (claimed.Exhausted next) = Unit {0}

-- the numbers of a claim or a commit fit in 64 bits
abbrev pub IsSmall : Event → Type 0
IsSmall (event.Claim pass reply) = IsSmallClaim reply
IsSmall (event.Commit pass run seq outcome) = run.0 < 2 ^ 64
IsSmall (event.Connect pass name reply) = Unit {0}
IsSmall (event.Post pass conn input reply) = Unit {0}
IsSmall (event.Release pass run) = Unit {0}
IsSmall (event.Hand pass conn most outs end) = Unit {0}
IsSmall (event.Tick pass moment) = Unit {0}

-- every claim and commit of the phases has such numbers
abbrev pub AreSmall : List (List Event) → Type 0
AreSmall phases = AllByRecursion (AllByRecursion IsSmall) phases
