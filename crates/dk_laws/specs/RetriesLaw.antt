-- Either all reads of a run stand after a history, or one of them is the first that does not.
use Rattle.std.specs.Prelude.{◌≡◌, ◌⊎◌, List}
use Rattle.std.specs.List.{AllByRecursion}
use Rattle.dk_types.specs.declared.number.RunNo.{RunNo}
use Rattle.dk_types.specs.declared.item.Item.{Item}
use Rattle.dk_types.specs.declared.item.Read.{Read}
use Rattle.dk_types.specs.declared.event.Event.{Event}
use Rattle.dk_model.specs.Worlds.{World}
use Rattle.dk_model.specs.Events.{Meaning}
use Rattle.dk_model.specs.Lawful.{AreLawful}
use Rattle.dk_model.specs.Retries.{StandAt, Stale, IsFirstStale}
use Rattle.dk_model.specs.Sights.{IsHonestRead}
use Rattle.dk_laws.specs.FrontsLaw.{HasCommitSince}

-- all stand, or there is a first stale one
abbrev pub ReadsStandOrOneIsStale : Type 0
ReadsStandOrOneIsStale =
    (rules : Meaning) (w : World) (events : List Event) (reads : List (Item × Read))
    → StandAt rules w events reads ⊎ ((stale : Stale) × IsFirstStale rules w events reads stale)

-- where all stand none is stale
abbrev pub NoneIsStaleWhereAllStand : Type 0
NoneIsStaleWhereAllStand =
    (rules : Meaning) (w : World) (events : List Event) (reads : List (Item × Read)) (stale : Stale) → StandAt rules w events reads → IsFirstStale rules w events reads stale → ⊥

-- there is one first stale read, and what it tells is one
abbrev pub TheFirstStaleReadIsOne : Type 0
TheFirstStaleReadIsOne =
    (rules : Meaning) (w : World) (events : List Event) (reads : List (Item × Read)) (stale other : Stale)
    → IsFirstStale rules w events reads stale → IsFirstStale rules w events reads other → stale ≡ other

-- where an honest run has a stale read, there was a commit since its claim
abbrev pub StaleReadsTellOfCommits : Type 0
StaleReadsTellOfCommits =
    (rules : Meaning) (w : World) (events : List Event) (run : RunNo) (reads : List (Item × Read)) (stale : Stale)
    → AreLawful rules → AllByRecursion (λ r. IsHonestRead rules w events run r.0 r.1) reads → IsFirstStale rules w events reads stale → HasCommitSince run events
