-- The numbers of claims and commits fit in 64 bits.
use Rattle.std.proofs.Common.{◌≡◌, ◌<◌, List, [], ◌∷◌, ap, arith}
use Rattle.std.specs.List.{AllByRecursion}
use Rattle.dk_types.specs.declared.number.RunNo.{RunNo}
use Rattle.dk_types.specs.declared.event.Event.{Event}
use Rattle.dk_types.specs.declared.event.Event.TheVariants as event
use Rattle.dk_types.specs.declared.event.ClaimReply.TheVariants as claimed
use Rattle.dk_types.specs.declared.limits.TheConstants.{NUMBERS_END}
use Rattle.dk_model.specs.Worlds.{World}
use Rattle.dk_model.specs.Events.{Meaning, Happens}
use Rattle.dk_model.specs.Histories.{Leads}
use Rattle.dk_model.specs.Lawful.{AreLawful, IsWithinLimits}
use Rattle.dk_model.specs.Phases.{IsSmall}
use Rattle.dk_laws.proofs.Sound.{IsSound}
use Rattle.dk_laws.proofs.SoundEvents.{happens_sound}

small_event : (rules : Meaning) (w : World) (e : Event) (after : World) → IsSound w → Happens rules w e after → IsSmall e
small_event rules w (event.Claim pass (claimed.Granted run at job)) after s h =
    let number : run.0 ≡ w.next = ap (λ (r : RunNo). r.0) h.3 in
    let lt : w.next < NUMBERS_END = h.2 in
    let at_is : at ≡ w.moment = h.4 in
    let most = s.moment in (omega (arith, number, lt), omega (arith, at_is, most))
small_event rules w (event.Claim pass claimed.Nothing) after s h = tt
small_event rules w (event.Claim pass (claimed.Spent granted)) after s h = tt
small_event rules w (event.Claim pass (claimed.Exhausted next)) after s h = tt
small_event rules w (event.Commit pass run seq outcome) after s h =
    let lt = (s.claims run h.0 h.1).number in let most = s.numbers in omega (arith, lt, most)
small_event rules w (event.Connect pass name reply) after s h = tt
small_event rules w (event.Post pass conn input reply) after s h = tt
small_event rules w (event.Release pass run) after s h = tt
small_event rules w (event.Hand pass conn most outs end) after s h = tt
small_event rules w (event.Tick pass moment) after s h = tt

-- of a sound world's events
pub small_events : (rules : Meaning) → AreLawful rules → (w : World) (events : List Event) (after : World) → IsSound w → AllByRecursion IsWithinLimits events → Leads rules w events after → AllByRecursion IsSmall events
small_events rules lawful w [] after s within h = tt
small_events rules lawful w (e ∷ events) after s within h =
    (small_event rules w e h.0 s h.1, small_events rules lawful h.0 events after (happens_sound rules lawful w e h.0 s within.0 h.1) within.1 h.2)
