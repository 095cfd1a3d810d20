-- A core that stood for a history stands for it with one more event.
use Rattle.std.proofs.Common.{◌≡◌, ℕ, Option, None, List, [], ◌∷◌, ◌++◌, refl, sym, ap, ◌∙◌}
use Rattle.dk_types.specs.declared.item.Item.{Item}
use Rattle.dk_types.specs.declared.event.Event.{Event}
use Rattle.dk_model.specs.DurableWorlds.{DurableWorld}
use Rattle.dk_model.specs.Events.{Meaning, Happens}
use Rattle.dk_model.specs.Openings.{opening}
use Rattle.dk_model.specs.Lawful.{AreLawful, IsWithinLimits}
use Rattle.dk_model.specs.Sights.{stamp, stamped_by, seen_in}
use Rattle.dk_model.specs.Successors.{step_by}
use Rattle.dk_laws.proofs.Numbers.{AreBelow, leads_below, opening_below}
use Rattle.dk_laws.proofs.OneWorld.{events_lead, joined}
use Rattle.dk_laws.proofs.Sound.{IsSound}
use Rattle.dk_laws.proofs.SoundConnections.{all_append}
use Rattle.dk_laws.proofs.SoundHistories.{history_sound}
use Rattle.dk_laws.proofs.Stamps.{stamp_from-append}
use Rattle.dk_core.specs.StampedWorlds.{durable_of, seen_now, HasStamps}
use Rattle.dk_core.specs.declared.world.Core.{Core}
use Rattle.dk_core.specs.Cores.{world_of, IsTracked, Represents}

module _ (rules : Meaning) (lawful : AreLawful rules) (d : DurableWorld) (budget : Option ℕ) (events : List Event) (old : Core) (s : Represents rules d budget events old) where
  -- the world is sound, and its numbers are below the next
  pub sound_of : IsSound (world_of old)
  sound_of = history_sound rules d budget events (world_of old) lawful s.valid s.within s.leads

  pub below_of : AreBelow (world_of old)
  below_of = leads_below rules (opening d budget) events (world_of old) (opening_below d budget) s.leads

  module _ (new : Core) (e : Event) (within : IsWithinLimits e) (happens : Happens rules (world_of old) e (world_of new))
      (tracked : IsTracked (world_of new) new.connections.connections new.world.tasks) where
    stamps_then : (item : Item) → stamp rules (opening d budget) (events ++ e ∷ []) item ≡ stamped_by item (stamp rules (opening d budget) events item) (step_by rules (world_of old) e)
    stamps_then item =
        stamp_from-append rules lawful (opening d budget) (opening d budget).durable.commits events (e ∷ []) item
        ∙ ap (λ w. stamped_by item (stamp rules (opening d budget) events item) (step_by rules w e)) (sym (events_lead rules (opening d budget) events (world_of old) s.leads))

    -- where its stamps are those of before with the step's own number where the step wrote
    pub entered : ((stamps : Item → ℕ) → HasStamps stamps old.world → HasStamps (λ item. stamped_by item (stamps item) (step_by rules (world_of old) e)) new.world) → Represents rules d budget (events ++ e ∷ []) new
    entered stamped = record {
      valid = s.valid;
      within = all_append IsWithinLimits events (e ∷ []) s.within (within, tt);
      leads = joined rules (opening d budget) events (e ∷ []) (world_of old) (world_of new) s.leads (world_of new, happens, refl);
      stamps = λ item. stamped (stamp rules (opening d budget) events) s.stamps item ∙ ap (λ n. seen_in (durable_of new.world) n item) (sym (stamps_then item));
      tracked = tracked;
    }

    -- where it steps nothing, and all that is read is as it was
    pub entered_still : step_by rules (world_of old) e ≡ None → durable_of new.world ≡ durable_of old.world → ((item : Item) → seen_now new.world item ≡ seen_now old.world item)
        → Represents rules d budget (events ++ e ∷ []) new
    entered_still none durable seen = entered (λ stamps has item.
        seen item ∙ has item ∙ ap (λ x. seen_in x (stamps item) item) (sym durable) ∙ ap (λ o. seen_in (durable_of new.world) (stamped_by item (stamps item) o) item) (sym none))
