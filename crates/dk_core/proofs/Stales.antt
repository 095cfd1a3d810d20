-- The first read that does not stand in the core's world is the first stale one after every history that the core stands for.
use Rattle.std.proofs.Common.{◌≡◌, ℕ, Option, List, [], ◌∷◌, Err, ap, ◌∙◌}
use Rattle.std.specs.List.{AllByRecursion}
use Rattle.std.specs.FinMap.{get}
use Rattle.dk_types.specs.declared.item.Item.{Item}
use Rattle.dk_types.specs.declared.item.Read.{Read}
use Rattle.dk_types.specs.declared.event.Event.{Event}
use Rattle.dk_model.specs.DurableWorlds.{DurableWorld}
use Rattle.dk_model.specs.Worlds.{World}
use Rattle.dk_model.specs.Events.{Meaning}
use Rattle.dk_model.specs.Openings.{opening}
use Rattle.dk_model.specs.Retries.{StandAt}
use Rattle.dk_model.specs.Sights.{stamp, seen, seen_in}
use Rattle.dk_laws.proofs.OneWorld.{events_lead}
use Rattle.dk_txn.specs.declared.finished.Finished.{Finished}
use Rattle.dk_core.specs.Answers.{TellsRefused, TellsStale, CommitsOrTells}
use Rattle.dk_core.specs.Changes.{Stands, IsFirstConflict}
use Rattle.dk_core.specs.Claiming.{Claiming}
use Rattle.dk_core.specs.Cores.{world_of, Represents, AddsNothing, HasMoreRoom, IsGranted}
use Rattle.dk_core.specs.StampedWorlds.{seen_now}
use Rattle.dk_core.specs.declared.answers.PrepareRefused.{PrepareRefused}
use Rattle.dk_core.specs.declared.answers.PrepareRefused.TheVariants as prepare_refused
use Rattle.dk_core.specs.declared.claimed.Claimed.{Claimed}
use Rattle.dk_core.specs.declared.durable.conflicts.Conflict.{Conflict}
use Rattle.dk_core.specs.declared.world.Core.{Core}

module _ (rules : Meaning) (d : DurableWorld) (budget : Option ℕ) (events : List Event) (c : Core) (s : Represents rules d budget events c) where
  -- what is seen now is what is seen after the history
  pub seen_here : (item : Item) → seen_now c.world item ≡ seen rules (opening d budget) events item
  seen_here item =
      s.stamps item ∙ ap (λ (w : World). seen_in w.durable (stamp rules (opening d budget) events item) item) (events_lead rules (opening d budget) events (world_of c) s.leads)

  stand_here : (reads : List (Item × Read)) → AllByRecursion (Stands c.world) reads → StandAt rules (opening d budget) events reads
  stand_here [] h = tt
  stand_here (r ∷ reads) h = (h.0 ∙ seen_here r.0, stand_here reads h.1)

first_stale : (c : Core) (f : Finished) (changed : Conflict) → IsFirstConflict c.world f.reads.items changed → TellsStale c f (prepare_refused.Retry changed)
first_stale c f changed h rules d budget events s = record {
  before = h.before;
  read = h.read;
  behind = h.behind;
  listed = h.listed;
  stand = stand_here rules d budget events c s h.before h.stand;
  found = h.found;
  now = h.now ∙ seen_here rules d budget events c s changed.item;
  differ = h.differ;
}

-- a Retry tells the first stale read
pub tells_stale : (c : Core) (f : Finished) (refused : PrepareRefused) → TellsRefused c f refused → TellsStale c f refused
tells_stale c f (prepare_refused.Retry changed) h = first_stale c f changed h
tells_stale c f prepare_refused.NoMemory h = tt

-- what a commit that is refused tells
pub told_back : (old new : Core) (claimed back : Claimed) (f : Finished) (refused : PrepareRefused)
    → back ≡ claimed → HasMoreRoom old new → IsGranted old claimed → TellsRefused old f refused → AddsNothing old new → CommitsOrTells old new claimed f (Err (back, refused))
told_back old new claimed back f (prepare_refused.Retry changed) is room granted h stays =
    (is, ap (λ (cs : Claiming). get cs.claims claimed.run) room.claims ∙ granted, h, stays, first_stale old f changed h)
told_back old new claimed back f prepare_refused.NoMemory is room granted h stays = (is, ap (λ (cs : Claiming). get cs.claims claimed.run) room.claims ∙ granted, stays)
