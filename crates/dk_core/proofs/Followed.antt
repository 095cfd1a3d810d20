-- A core after one event more: it stands for some history still, and what is claimed stays claimed where nothing is granted.
use Rattle.std.proofs.Common.{◌≡◌, ℕ, Option, List, [], ◌∷◌, ◌++◌, sym, ap, subst, ◌∙◌}
use Rattle.std.specs.FinMap.{get}
use Rattle.dk_types.specs.declared.event.Event.{Event}
use Rattle.dk_types.specs.declared.event.Event.TheVariants as event
use Rattle.dk_types.specs.declared.event.ClaimReply.TheVariants as reply
use Rattle.dk_model.specs.DurableWorlds.{DurableWorld}
use Rattle.dk_model.specs.Worlds.{World}
use Rattle.dk_model.specs.Events.{Meaning, Happens}
use Rattle.dk_model.specs.Openings.{opening}
use Rattle.dk_laws.proofs.OneWorld.{events_lead, parted}
use Rattle.dk_core.specs.declared.world.Core.{Core}
use Rattle.dk_core.specs.declared.claimed.Claimed.{Claimed}
use Rattle.dk_core.specs.Cores.{world_of, Represents, Adds, IsStanding, IsGranted}

-- the event is one that may happen in the world that it was
pub happened : (rules : Meaning) (d : DurableWorld) (budget : Option ℕ) (events : List Event) (old new : Core) (e : Event) → Represents rules d budget events old → Represents rules d budget (events ++ e ∷ []) new
    → Happens rules (world_of old) e (world_of new)
happened rules d budget events old new e s n =
    let p = parted rules (opening d budget) events (e ∷ []) (world_of new) n.leads in
    let at : world_of old ≡ p.at = events_lead rules (opening d budget) events (world_of old) s.leads ∙ sym (events_lead rules (opening d budget) events p.at p.first) in
    subst (λ w. Happens rules w e (world_of new)) (sym at) (subst (Happens rules p.at e) (sym p.second.2) p.second.1)

-- what is claimed stays so where a claim is beyond the budget
pub spent_keeps : (old new : Core) (pass granted : ℕ) (claimed : Claimed) → IsStanding old → Adds old new (event.Claim pass (reply.Spent granted) ∷ []) → IsGranted old claimed → IsGranted new claimed
spent_keeps old new pass granted claimed s enters held =
    let h = happened s.rules s.opened s.budget s.events old new (event.Claim pass (reply.Spent granted)) s.stands (enters s.rules s.opened s.budget s.events s.lawful s.stands) in
    ap (λ (w : World). get w.claims claimed.run) h.3 ∙ held
