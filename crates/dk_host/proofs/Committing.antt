-- What the two steps of a commit owe.
use Rattle.std.proofs.Common.{◌≡◌, ℕ, ◌+◌, List, [], ◌∷◌, ◌++◌, Result, Ok, Err, IfOk, IfErr, refl, sym, ap, subst, ◌∙◌, arith}
use Rattle.std.specs.List.{AllByRecursion}
use Rattle.std.proofs.lemmas.List.{append-nil}
use Rattle.dk_types.specs.declared.event.Event.{Event}
use Rattle.dk_types.specs.declared.event.Event.TheVariants as event
use Rattle.dk_types.specs.declared.item.Item.{Item}
use Rattle.dk_types.specs.declared.item.Read.{Read}
use Rattle.dk_types.specs.declared.durable.Entry.{Entry}
use Rattle.dk_model.specs.Legal.{Opened, opening_of, world_after, IsLegal, commits_of}
use Rattle.dk_model.specs.Sights.{seen, seen_in, stamp}
use Rattle.dk_model.specs.Finishes.{step_report}
use Rattle.dk_model.specs.Steps.{step}
use Rattle.dk_model.specs.Worlds.{World, Claim}
use Rattle.dk_laws.specs.FrontsLaw.{StandAt}
use Rattle.dk_laws.proofs.Between.{commits_of-append}
use Rattle.dk_txn.specs.declared.finished.Finished.{Finished}
use Rattle.dk_txn.specs.Finishes.{report}
use Rattle.dk_core.specs.declared.world.Core.{Core}
use Rattle.dk_core.specs.declared.claimed.Claimed.{Claimed}
use Rattle.dk_core.specs.declared.prepared.Prepared.{Prepared}
use Rattle.dk_core.specs.declared.answers.PrepareRefused.{PrepareRefused}
use Rattle.dk_core.specs.declared.answers.PrepareRefused.TheVariants as prepare_refused
use Rattle.dk_core.specs.Answers.{IsPrepared, Prepares, TellsStale, Commits, HasRoomFor}
use Rattle.dk_core.specs.Changes.{Stands}
use Rattle.dk_core.specs.Cores.{AddsNothing, IsGranted}
use Rattle.dk_core.proofs.Committed.{tells}
use Rattle.dk_core.specs.Rooms.{HasPlaces, places_of}
use Rattle.dk_core.specs.StampedWorlds.{seen_now}
use Rattle.dk_host.specs.Books.{IsAt, IsKept}
use Rattle.dk_host.specs.Calls.{IsHonestAt}
use Rattle.dk_host.specs.Commits.{IsPreparedAt, Finds}
use Rattle.dk_host.specs.Steps.{MayPublish, PublishesBy, PreparesBy, TellsStep, places_for}
use Rattle.dk_host.proofs.Stepping.{legal, world_is, granted_stands, stands_granted}
use Rattle.dk_host.proofs.Opening.{no_places}

-- what a core finds is what is found at its history
module _ (o : Opened) (events : List Event) (c : Core) (at : IsAt o events c) where
  pub seen_is : (item : Item) → seen_now c.world item ≡ seen o.rules (opening_of o) events item
  seen_is item = at.stamps item ∙ ap (λ (x : World). seen_in x.durable (stamp o.rules (opening_of o) events item) item) (world_is o events c at)

  pub commits_is : c.world.commits ≡ (world_after o events).durable.commits
  commits_is = ap (λ (x : World). x.durable.commits) (world_is o events c at)

  stand_there : (reads : List (Item × Read)) → AllByRecursion (Stands c.world) reads → StandAt o.rules (opening_of o) events reads
  stand_there [] h = tt
  stand_there (r ∷ reads) h = (h.0 ∙ seen_is r.0, stand_there reads h.1)

  stand_here : (reads : List (Item × Read)) → StandAt o.rules (opening_of o) events reads → AllByRecursion (Stands c.world) reads
  stand_here [] h = tt
  stand_here (r ∷ reads) h = (h.0 ∙ sym (seen_is r.0), stand_here reads h.1)

  pub prepared_there : (claimed : Claimed) (f : Finished) (p : Prepared) → IsPrepared c claimed f p → IsPreparedAt o events claimed f p
  prepared_there claimed f p h = record {
    stand = stand_there f.reads.items h.ready.stand;
    messages = h.ready.messages;
    entry = h.entry ∙ (λ i. record { seq = commits_is i + 1; run = claimed.run; effects = f.effects });
  }

  pub prepared_here : (claimed : Claimed) (f : Finished) (p : Prepared) → IsPreparedAt o events claimed f p → IsPrepared c claimed f p
  prepared_here claimed f p h = record {
    ready = record { stand = stand_here f.reads.items h.stand; messages = h.messages };
    entry = h.entry ∙ (λ i. record { seq = sym commits_is i + 1; run = claimed.run; effects = f.effects });
  }

-- a core that stays where it was
pub stays_at : (o : Opened) (events : List Event) (old new : Core) → IsAt o events old → AddsNothing old new → IsAt o events new
stays_at o events old new at stays = subst (λ es. IsAt o es new) (append-nil events) (stays o.rules o.durable o.budget events at)

module _ (o : Opened) (events : List Event) (old new : Core) (at : IsAt o events old) (stays : AddsNothing old new) (claimed : Claimed) (f : Finished) where
  pub finds : (r : Result Prepared PrepareRefused) → Prepares old new claimed f r → IfErr r (TellsStale old f) → Finds o events claimed f r
  finds (Ok p) h stale = prepared_there o events new (stays_at o events old new at stays) claimed f p h.0
  finds (Err (prepare_refused.Retry ch)) h stale = stale o.rules o.durable o.budget events at
  finds (Err prepare_refused.NoMemory) h stale = tt

-- there is room for what was prepared
pub room_for : (old new : Core) (claimed : Claimed) (f : Finished) (r : Result Prepared PrepareRefused) → Prepares old new claimed f r → HasPlaces new.world.room (places_for r)
room_for old new claimed f (Ok p) h = subst (λ (e : Entry). HasPlaces new.world.room (places_of e.effects)) (sym h.0.entry) h.1
room_for old new claimed f (Err refused) h = no_places new.world.room 0 refl

-- the book is kept by a prepare
module _ (o : Opened) (events : List Event) (old new : Core) (total places : ℕ) (k : IsKept o events old total places) (stays : AddsNothing old new) (claimed : Claimed) (f : Finished) (r : Result Prepared PrepareRefused) (h : Prepares old new claimed f r)
    (granted : IsGranted old claimed) (honest : IsHonestAt o events claimed f) where
  pub prepare_kept : (total_after places_after : ℕ) → total_after ≡ total → places_after ≡ places_for r → IsKept o events new total_after places_after
  prepare_kept total_after places_after same room = (k.0, stays_at o events old new k.1 stays, same ∙ k.2, subst (HasPlaces new.world.room) (sym room) (room_for old new claimed f r h))

  -- on the core's durable world it steps what it tells
  tells_step : (q : Result Prepared PrepareRefused) → Prepares old new claimed f q → IfOk q (λ p. TellsStep o events claimed f)
  tells_step (Ok p) is =
      let now = stays_at o events old new k.1 stays in
      let claim : Claim = record { pass = claimed.pass; job = claimed.job; at = claimed.at } in
      let held = stands_granted o events new claimed now (granted_stands o events old claimed k.1 granted) in
      subst (λ (x : World). report f ≡ step_report x.durable (step o.rules claimed.job claimed.run claimed.at x.durable)) (world_is o events new now)
      (tells o.rules k.0 o.durable o.budget events new now claimed.run claim held f honest is.0.ready.stand)
  tells_step (Err refused) is = tt

  pub prepare_gives : IfErr r (TellsStale old f) → (commits places_after : ℕ) → commits ≡ total → places_after ≡ places_for r → PreparesBy o claimed f commits places_after events r []
  prepare_gives stale commits places_after same room = record {
    adds = record { same = refl; legal = subst (IsLegal o) (sym (append-nil events)) (legal o events old k.1) };
    counted = sym (same ∙ k.2);
    finds = finds o events old new k.1 stays claimed f r h stale;
    tells = tells_step r h;
    kept = room;
  }

-- a publish, from the history before it to the one after it
module _ (o : Opened) (before : List Event) (old new : Core) (total places : ℕ) (k : IsKept o before old total places) (pass : ℕ) (claimed : Claimed) (f : Finished) (p : Prepared) (commits room : ℕ)
    (may : MayPublish o pass before claimed f p commits room) (same : commits ≡ total) (same_room : room ≡ places) where
  pub publish_prepared : IsPrepared old claimed f p
  publish_prepared = prepared_here o before old k.1 claimed f p (may.prepared (sym (same ∙ k.2)))

  pub publish_room : HasRoomFor old f
  publish_room = subst (HasPlaces old.world.room) (sym same_room ∙ may.kept) k.3

  module _ (seq : ℕ) (number : seq ≡ old.world.commits + 1) (h : Commits old new claimed f seq) where
    pub publish_at : IsAt o (before ++ event.Commit pass claimed.run seq f.outcome ∷ []) new
    publish_at = subst (λ n. IsAt o (before ++ event.Commit n claimed.run seq f.outcome ∷ []) new) may.ends.0 (h o.rules o.durable o.budget before k.0 may.honest k.1)

    pub publish_kept : (total_after places_after : ℕ) (after : List Event) → total_after ≡ total + 1 → places_after ≡ 0 → after ≡ before ++ event.Commit pass claimed.run seq f.outcome ∷ [] → IsKept o after new total_after places_after
    publish_kept total_after places_after after more none noted = (
      k.0,
      subst (λ es. IsAt o es new) (sym noted) publish_at,
      (let both = commits_of-append before (event.Commit pass claimed.run seq f.outcome ∷ []) in let was = k.2 in let is = ap commits_of noted in omega (arith, both, more, was, is)),
      no_places new.world.room places_after none,
    )

    pub publish_gives : PublishesBy o pass claimed f commits before seq (event.Commit pass claimed.run seq f.outcome ∷ [])
    publish_gives = record {
      adds = record { same = refl; legal = legal o _ new publish_at };
      counted = sym (same ∙ k.2);
      number = number ∙ ap (λ n. n + 1) (commits_is o before old k.1);
    }
