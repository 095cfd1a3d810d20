-- What a pass enters as a worker: it claims with nothing in hand, and ends what it was granted before it claims again.
use Rattle.std.specs.Prelude.{◌≡◌, Option, Some, None, List, [], ◌∷◌}
use Rattle.dk_types.specs.declared.number.RunNo.{RunNo}
use Rattle.dk_types.specs.declared.event.Event.{Event}
use Rattle.dk_types.specs.declared.event.Event.TheVariants as event
use Rattle.dk_types.specs.declared.event.ClaimReply.TheVariants as claimed

-- which run a worker has in hand before and after its event: a claim takes one or none, a commit or a release ends it
abbrev pub Handles : Option RunNo → Event → Option RunNo → Type 0
Handles None (event.Claim pass (claimed.Granted run at job)) after = after ≡ Some run
Handles None (event.Claim pass claimed.Nothing) after = after ≡ None
Handles None (event.Claim pass (claimed.Spent granted)) after = after ≡ None
Handles None (event.Claim pass (claimed.Exhausted next)) after = after ≡ None
Handles (Some run) (event.Commit pass ran seq outcome) after = (ran ≡ run) × (after ≡ None)
Handles (Some run) (event.Release pass ran) after = (ran ≡ run) × (after ≡ None)
Handles _ _ after = ⊥

-- a worker's own events, from what it had in hand to what it has then
abbrev pub AreWorked : Option RunNo → List Event → Option RunNo → Type 0
AreWorked hand [] after = after ≡ hand
AreWorked hand (e ∷ events) after = (mid : Option RunNo) × Handles hand e mid × AreWorked mid events after
