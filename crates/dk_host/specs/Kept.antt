-- The events that are kept of claims and hands, with what was copied before the call.
use Rattle.std.specs.Prelude.{ℕ, List, [], ◌∷◌, Option, Some, None, Result, Ok, Err}
use Rattle.dk_types.specs.declared.event.Event.{Event}
use Rattle.dk_types.specs.declared.event.Event.TheVariants as event
use Rattle.dk_types.specs.declared.event.ClaimReply.TheVariants as claimed
use Rattle.dk_types.specs.declared.fault.NoMemory.{NoMemory}
use Rattle.dk_types.specs.declared.job.Job.{Job}
use Rattle.dk_types.specs.declared.job.Out.{Out}
use Rattle.dk_types.specs.declared.number.ConnNo.{ConnNo}
use Rattle.dk_connections.specs.declared.answers.Handed.{Handed}
use Rattle.dk_core.specs.declared.claimed.Claimed.{Claimed}
use Rattle.dk_core.specs.declared.answers.ClaimRefused.{ClaimRefused}
use Rattle.dk_core.specs.declared.answers.ClaimRefused.TheVariants as claim_refused

-- the Claim that was granted, with this job
abbrev pub granted_of : ℕ → Option Job → Claimed → List Event
granted_of pass None c = []
granted_of pass (Some job) c = event.Claim pass (claimed.Granted c.run c.at job) ∷ []

-- the event of a claim that was answered
abbrev pub kept_claim : ℕ → Option Job → Result (Option Claimed) ClaimRefused → List Event
kept_claim pass job (Ok (Some c)) = granted_of pass job c
kept_claim pass job (Ok None) = event.Claim pass claimed.Nothing ∷ []
kept_claim pass job (Err (claim_refused.Spent granted)) = event.Claim pass (claimed.Spent granted) ∷ []
kept_claim pass job (Err (claim_refused.Exhausted next)) = event.Claim pass (claimed.Exhausted next) ∷ []
kept_claim pass job (Err claim_refused.NoMemory) = []

-- the Hand of these messages
abbrev pub handed_of : ℕ → ConnNo → ℕ → Option (List Out) → Handed → List Event
handed_of pass conn most None handed = []
handed_of pass conn most (Some outs) handed = event.Hand pass conn most outs handed.end ∷ []

-- the event of a hand that was answered
abbrev pub kept_hand : ℕ → ConnNo → ℕ → Option (List Out) → Result Handed NoMemory → List Event
kept_hand pass conn most outs (Ok handed) = handed_of pass conn most outs handed
kept_hand pass conn most outs (Err refused) = []
