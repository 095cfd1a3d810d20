-- Which events a transcript tells of, and which it has none of.
use Rattle.std.specs.Prelude.{◌≡◌, ℕ, Bool, true, false, List, map}
use Rattle.std.specs.List.{AllByRecursion, filter}
use Rattle.dk_types.specs.declared.event.Event.{Event}
use Rattle.dk_types.specs.declared.event.Event.TheVariants as event
use Rattle.dk_types.specs.declared.event.ClaimReply.{ClaimReply}
use Rattle.dk_types.specs.declared.event.ClaimReply.TheVariants as claimed
use Rattle.dk_model.specs.Transcripts.{transcript_text}

-- whether a claim was granted a run
abbrev pub is_granted : ClaimReply → Bool
is_granted (claimed.Granted run at job) = true
is_granted claimed.Nothing = false
is_granted (claimed.Spent granted) = false
is_granted (claimed.Exhausted next) = false

-- whether an event is more than a claim that was granted nothing, which changes nothing and of which no line tells
abbrev pub is_reported : Event → Bool
is_reported (event.Claim pass reply) = is_granted reply
is_reported (event.Connect pass name reply) = true
is_reported (event.Post pass conn input reply) = true
is_reported (event.Release pass run) = true
is_reported (event.Commit pass run seq outcome) = true
is_reported (event.Hand pass conn most outs end) = true
is_reported (event.Tick pass moment) = true

-- the events without the claims that were granted nothing
abbrev pub reported_of : List Event → List Event
reported_of events = filter is_reported events

-- whether an event is a Release
abbrev pub is_release : Event → Bool
is_release (event.Release pass run) = true
is_release (event.Claim pass reply) = false
is_release (event.Connect pass name reply) = false
is_release (event.Post pass conn input reply) = false
is_release (event.Commit pass run seq outcome) = false
is_release (event.Hand pass conn most outs end) = false
is_release (event.Tick pass moment) = false

-- no run was given back
abbrev pub AreKept : List Event → Type 0
AreKept events = AllByRecursion (λ e. is_release e ≡ false) events

-- claims that were granted nothing print nothing: without them the text of a history by phases is the same
abbrev pub SilentClaimsPrintNothing : Type 0
SilentClaimsPrintNothing = (phases : List (List Event)) (commits tasks : ℕ) → transcript_text (map reported_of phases) commits tasks ≡ transcript_text phases commits tasks
