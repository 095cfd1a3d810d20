-- An event leads to one world, and so do events.
use Rattle.std.proofs.Common.{◌≡◌, List, [], ◌∷◌, ◌++◌, refl, sym, ap, ◌∙◌, subst}
use Rattle.dk_types.specs.declared.event.Event.{Event}
use Rattle.dk_types.specs.declared.event.Event.TheVariants as event
use Rattle.dk_types.specs.declared.event.ConnectReply.TheVariants as connected
use Rattle.dk_types.specs.declared.event.PostReply.TheVariants as posted
use Rattle.dk_types.specs.declared.event.ClaimReply.TheVariants as claimed
use Rattle.dk_model.specs.Worlds.{World}
use Rattle.dk_model.specs.Events.{Meaning, Happens}
use Rattle.dk_model.specs.Histories.{Leads}
use Rattle.dk_model.specs.Successors.{after_event, after_events, after_commit}

-- an event that may happen leads to the world that it leads to
pub event_leads : (rules : Meaning) (w : World) (e : Event) (after : World) → Happens rules w e after → after ≡ after_event rules w e
unfolding after_event
event_leads rules w (event.Connect pass name (connected.Number conn)) after h = h.2
event_leads rules w (event.Connect pass name (connected.Exhausted next)) after h = h.2
event_leads rules w (event.Post pass conn input posted.Taken) after h = h.2
event_leads rules w (event.Post pass conn input posted.Closed) after h = h.1
event_leads rules w (event.Post pass conn input (posted.QueueFull waiting)) after h = h.3
event_leads rules w (event.Claim pass (claimed.Granted run at job)) after h = h.5
event_leads rules w (event.Claim pass claimed.Nothing) after h = h.1
event_leads rules w (event.Claim pass (claimed.Spent granted)) after h = h.3
event_leads rules w (event.Claim pass (claimed.Exhausted next)) after h = h.4
event_leads rules w (event.Release pass run) after h = h.3
event_leads rules w (event.Commit pass run seq outcome) after h = h.5 ∙ ap (after_commit rules w run) (sym h.1)
event_leads rules w (event.Hand pass conn most outs end) after h = h.2
event_leads rules w (event.Tick pass moment) after h = h

-- the last world of a history is the world after its events
pub events_lead : (rules : Meaning) (w : World) (events : List Event) (after : World) → Leads rules w events after → after ≡ after_events rules w events
events_lead rules w [] after h = h
events_lead rules w (e ∷ events) after h = events_lead rules h.0 events after h.2 ∙ ap (λ m. after_events rules m events) (event_leads rules w e h.0 h.1)

-- a history of two parts
pub record IsParted (rules : Meaning) (w : World) (before later : List Event) (after : World) : Type 0 where
  pub at : World
  pub first : Leads rules w before at
  pub second : Leads rules at later after

pub parted : (rules : Meaning) (w : World) (before later : List Event) (after : World) → Leads rules w (before ++ later) after → IsParted rules w before later after
parted rules w [] later after h = record { at = w; first = refl; second = h }
parted rules w (e ∷ before) later after h =
    let rest = parted rules h.0 before later after h.2 in record { at = rest.at; first = (h.0, h.1, rest.first); second = rest.second }

-- and two parts in one
pub joined : (rules : Meaning) (w : World) (before later : List Event) (at after : World) → Leads rules w before at → Leads rules at later after → Leads rules w (before ++ later) after
joined rules w [] later at after f s = subst (λ x. Leads rules x later after) f s
joined rules w (e ∷ before) later at after f s = (f.0, f.1, joined rules f.0 before later at after f.2 s)

-- the world after the events of two parts
pub after_events-append : (rules : Meaning) (w : World) (before later : List Event) → after_events rules w (before ++ later) ≡ after_events rules (after_events rules w before) later
after_events-append rules w [] later = refl
after_events-append rules w (e ∷ before) later = after_events-append rules (after_event rules w e) before later
