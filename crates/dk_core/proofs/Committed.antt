-- A commit leads to the world that the definitions say.
use Rattle.std.proofs.Common.{◌≡◌, ℕ, ◌+◌, false, ◌&&◌, not, List, [], ◌∷◌, ◌++◌, Option, Some, None, refl, sym, ap, subst, ◌∙◌, arith}
use Rattle.std.proofs.lemmas.List.{append-nil}
use Rattle.std.specs.List.{AllByRecursion}
use Rattle.std.specs.Option.{option_map}
use Rattle.std.specs.FinMap.{get}
use Rattle.dk_types.specs.declared.number.RunNo.{RunNo}
use Rattle.dk_types.specs.declared.number.ConnNo.{ConnNo}
use Rattle.dk_types.specs.declared.number.TaskKey.{TaskKey}
use Rattle.dk_types.specs.declared.item.Item.{Item}
use Rattle.dk_types.specs.declared.item.Item.TheVariants as ask
use Rattle.dk_types.specs.declared.item.Read.{Read}
use Rattle.dk_types.specs.declared.durable.Effects.{Effects}
use Rattle.dk_types.specs.declared.job.Out.{Out}
use Rattle.dk_types.specs.declared.event.Event.{Event}
use Rattle.dk_types.specs.declared.event.Event.TheVariants as event
use Rattle.dk_model.specs.DurableWorlds.{DurableWorld, Agrees, answer}
use Rattle.dk_model.specs.Worlds.{World, Claim}
use Rattle.dk_model.specs.Deliveries.{delivered, without_done}
use Rattle.dk_model.specs.Events.{Meaning, step_of}
use Rattle.dk_model.specs.Finishes.{step_report, IsHonest}
use Rattle.dk_model.specs.Histories.{Leads}
use Rattle.dk_model.specs.Lawful.{AreLawful}
use Rattle.dk_model.specs.Openings.{opening}
use Rattle.dk_model.specs.Picks.{is_task_of, is_claimed}
use Rattle.dk_model.specs.Sights.{stamp, seen, seen_in, stamped_by, IsHonestRead}
use Rattle.dk_model.specs.Steps.{Stepped}
use Rattle.dk_model.specs.Successors.{after_events, stepped_at}
use Rattle.dk_model.proofs.StepLaws.{step_goes_on}
use Rattle.dk_laws.proofs.OneWorld.{events_lead}
use Rattle.dk_laws.proofs.SoundCommits.{claim_ready}
use Rattle.dk_laws.proofs.SoundHistories.{claims_ready}
use Rattle.dk_laws.proofs.Stamps.{seen_alike}
use Rattle.dk_tasks.specs.Tasks.{Kept}
use Rattle.dk_tasks.proofs.Durable.{get-durable}
use Rattle.dk_txn.specs.declared.finished.Finished.{Finished}
use Rattle.dk_txn.specs.Finishes.{report}
use Rattle.dk_connections.specs.MarkedConnections.{ConnectionStore, all_of, IsSwept, KeepsMarksBut}
use Rattle.dk_core.specs.StampedWorlds.{Stamped, Room, with_room, durable_of, seen_now}
use Rattle.dk_core.specs.Changes.{Stands}
use Rattle.dk_core.specs.Commits.{CommitsSteps, ComesTo, claimed_at}
use Rattle.dk_core.proofs.LawfulSteps.{steps_from}
use Rattle.dk_core.specs.declared.world.Core.{Core}
use Rattle.dk_core.specs.declared.claimed.Claimed.{Claimed}
use Rattle.dk_core.specs.Claiming.{Claiming, without_run}
use Rattle.dk_core.specs.declared.prepared.Prepared.{Prepared}
use Rattle.dk_core.specs.Rooms.{HasPlaces, HasRoom, IsNoLess, places_of}
use Rattle.dk_core.specs.Numbers.{HasNumbers}
use Rattle.dk_core.specs.Cores.{world_of, IsTracked, Represents, AddsNothing, HasMoreRoom, IsGranted, KeepsReady}
use Rattle.dk_core.specs.Marking.{IsTaskFreed}
use Rattle.dk_core.specs.Answers.{Commits, HasRoomFor, IsPrepared}
use Rattle.dk_core.proofs.Having.{never, has_which}
use Rattle.dk_core.proofs.Standing.{sound_of, entered}
use Rattle.dk_core.proofs.Entering.{with_connections}
use Rattle.dk_core.proofs.Tracked.{tracked_less}
use Rattle.dk_core.proofs.Granted.{own_key, task_alone, freed_tasks}

all_both : {A : Type 0} (P Q R : A → Type 0) → ((x : A) → P x → Q x → R x) → (xs : List A) → AllByRecursion P xs → AllByRecursion Q xs → AllByRecursion R xs
all_both P Q R f [] p q = tt
all_both P Q R f (x ∷ xs) p q = (f x p.0 q.0, all_both P Q R f xs p.1 q.1)

module _ (rules : Meaning) (lawful : AreLawful rules) (d : DurableWorld) (budget : Option ℕ) (events : List Event) (old : Core) (s : Represents rules d budget events old) where
  abbrev o : World
  o = opening d budget

  -- what is seen now is what is seen after the history
  seen_here : (item : Item) → seen_now old.world item ≡ seen rules o events item
  seen_here item = s.stamps item ∙ ap (λ (w : World). seen_in w.durable (stamp rules o events item) item) (events_lead rules o events (world_of old) s.leads)

  -- what an honest read was answered is what is answered now, where it stands
  answered_now : (run : RunNo) (item : Item) (read : Read) → IsHonestRead rules o events run item read → read.seen ≡ seen_now old.world item → answer (durable_of old.world) item ≡ read.answer
  answered_now run item read h stands =
      let alike : seen rules o (h.earlier ++ h.later) item ≡ seen rules o h.earlier item
      = ap (λ es. seen rules o es item) (sym h.all) ∙ sym (seen_here item) ∙ sym stands ∙ h.was.saw in
      ap (λ (w : World). answer w.durable item) (events_lead rules o events (world_of old) s.leads) ∙ ap (λ es. answer (after_events rules o es).durable item) h.all
      ∙ seen_alike rules lawful o h.earlier h.later item alike ∙ sym h.was.answered

  agrees_now : (run : RunNo) (reads : List (Item × Read)) → AllByRecursion (λ r. IsHonestRead rules o events run r.0 r.1) reads → AllByRecursion (Stands old.world) reads → Agrees (durable_of old.world) reads
  unfolding Agrees
  agrees_now run reads honest stand = all_both (λ r. IsHonestRead rules o events run r.0 r.1) (Stands old.world) (λ r. answer (durable_of old.world) r.0 ≡ r.1.answer) (λ r h q. answered_now run r.0 r.1 h q) reads honest stand

  module _ (run : RunNo) (claim : Claim) (held : get old.claims.claims run ≡ Some claim) where
    -- what the run of the claim steps
    abbrev pub s_of : Stepped
    s_of = step_of rules (world_of old) run claim

    -- an honest run whose reads stand tells what it steps
    pub tells : (f : Finished) → IsHonest rules o events claim.job run claim.at f.reads.items (report f) → AllByRecursion (Stands old.world) f.reads.items → report f ≡ step_report (durable_of old.world) s_of
    tells f honest stand =
        let ready = claims_ready rules d budget events (world_of old) run claim lawful s.valid s.within s.leads held in
        honest.law.keeps (durable_of old.world) (sound_of rules lawful d budget events old s).valid (agrees_now run f.reads.items honest.honest stand) ready.0 ready.2

    module _ (mid : Stamped) (c : ComesTo old.world mid s_of) where
      -- whether a task that stands now is claimed
      fresh_task : (key : TaskKey) (k : Kept) → get mid.tasks key ≡ Some k → get old.world.tasks key ≡ None → is_claimed (is_task_of key) (world_of old) ≡ false
      fresh_task key k e none = never _ (λ h.
          let x = has_which (is_task_of key) old.claims.claims h in
          let before : get (durable_of old.world).tasks key ≡ None = get-durable old.world.tasks key ∙ ap (option_map (λ (t : Kept). t.task)) none in
          let after : get s_of.world.tasks key ≡ Some k.task = ap (λ (w : DurableWorld). get w.tasks key) (sym c.world) ∙ get-durable mid.tasks key ∙ ap (option_map (λ (t : Kept). t.task)) e in
          let number : key.run ≡ run = (step_goes_on rules lawful claim.job run claim.at (durable_of old.world)).new_tasks key k.task before after in
          (((sound_of rules lawful d budget events old s).claims x.run x.claim x.there).spent key (own_key key x.claim.job x.passes)).closed run claim held (ap (λ (r : RunNo). r.0) (sym number)))

      claimed_now : (key : TaskKey) (k : Kept) → get mid.tasks key ≡ Some k → k.claimed ≡ is_claimed (is_task_of key) (world_of old)
      claimed_now key k e = c.claims key k e ∙ elim (get old.world.tasks key) as (λ r. get old.world.tasks key ≡ r → claimed_at r ≡ is_claimed (is_task_of key) (world_of old)) [
        | None ↦ λ none. sym (fresh_task key k e none)
        | Some t ↦ λ some. sym (s.tracked.tasks key t some)
      ] refl

-- the world after the effects, and the claims without the run's
abbrev pub with_run_ended : (c : Core) (world : Stamped) (claims : Claiming) → HasNumbers world.commits claims c.connections.connections → Core
with_run_ended c world claims numbers = record c { world = world; claims = claims; numbers = numbers }

module _ (old : Core) (claimed : Claimed) (f : Finished) (seq : ℕ) (mid : Stamped) (claims : Claiming) (ended_numbers : HasNumbers mid.commits claims old.connections.connections) (freed : Core) (shown : ConnectionStore)
    (numbers : HasNumbers freed.world.commits freed.claims shown.connections) (messages : List (ConnNo × Out)) where
  pub commits : IsGranted old claimed → AllByRecursion (Stands old.world) f.reads.items → messages ≡ f.outs.items
      → seq ≡ old.world.commits + 1 → CommitsSteps old.world mid claimed.run (report f) → claims ≡ without_run claimed.run old.claims → IsTaskFreed claimed.job (with_run_ended old mid claims ended_numbers) freed
      → all_of shown.connections ≡ without_done (delivered claimed.job messages (all_of freed.connections.connections)) → KeepsMarksBut claimed.job freed.connections.connections shown.connections → IsSwept shown.connections
      → Commits old (with_connections freed shown numbers) claimed f seq
  commits held stand sent number steps ended t connected marks swept rules d budget events lawful honest s =
      let w = world_of old in
      let claim : Claim = record { pass = claimed.pass; job = claimed.job; at = claimed.at } in
      let sound = sound_of rules lawful d budget events old s in
      let stepped = step_of rules w claimed.run claim in
      let is = tells rules lawful d budget events old s claimed.run claim held f honest stand in
      let goes = step_goes_on rules lawful claimed.job claimed.run claimed.at w.durable in
      let comes : ComesTo old.world mid stepped = steps stepped (steps_from rules lawful claimed.job claimed.run claimed.at w.durable sound.valid (claim_ready w claimed.run claim sound held)) is in
      let same_shown : freed.connections ≡ old.connections = t.connections in
      let less : freed.claims ≡ without_run claimed.run old.claims = t.same.claims ∙ ended in
      let world : durable_of freed.world ≡ stepped.world = t.same.durable ∙ comes.world in
      let outs : messages ≡ stepped.outs = sent ∙ ap (λ x. x.outs) is in
      let new : Core = with_connections freed shown numbers in
      let e = event.Commit claimed.pass claimed.run seq f.outcome in
      let left : (key : TaskKey) (k : Kept) → get freed.world.tasks key ≡ Some k → k.claimed ≡ (is_claimed (is_task_of key) w && not (is_task_of key claimed.job))
      = λ key k g. let x = freed_tasks claimed.job mid.tasks key k (sym (ap (λ m. get m key) t.tasks) ∙ g) in
      x.2 ∙ ap (λ b. b && not (is_task_of key claimed.job)) (claimed_now rules lawful d budget events old s claimed.run claim held mid comes key x.0 x.1) in
      let tracked = tracked_less w claimed.run claim old.connections.connections shown.connections old.world.tasks freed.world.tasks s.tracked held
      (task_alone rules lawful d budget events old s claimed.run claim held) (subst (λ (n : ConnectionStore). KeepsMarksBut claimed.job n.connections shown.connections) same_shown marks) swept left
      stepped.world (λ zero. let more = goes.commits in absurd (omega (arith, more, zero))) old.claims.budget (all_of shown.connections) in
      entered rules lawful d budget events old s new e tt (
        claim,
        held,
        refl,
        number,
        ap (λ x. x.outcome) is,
        λ i. record {
          durable = world i;
          moment = t.same.moment i;
          next = (less i).next;
          budget = (less i).budget;
          after_task = t.after_task i;
          claims = (less i).claims;
          connections = (connected ∙ (λ j. without_done (delivered claimed.job (outs j) (all_of (same_shown j).connections)))) i;
        },
      )
      (subst (λ v. IsTracked v shown.connections freed.world.tasks)
      (λ i. record { durable = sym world i; moment = sym t.same.moment i; next = (sym less i).next; budget = (sym less i).budget; after_task = sym t.after_task i; claims = (sym less i).claims; connections = all_of shown.connections })
      tracked)
      (λ stamps has item.
      t.same.seen item ∙ comes.stamps stamps has item
      ∙ ap (λ v. seen_in v (stamped_by item (stamps item) (Some stepped)) item) (sym t.same.durable)
      ∙ ap (λ r. seen_in (durable_of freed.world) (stamped_by item (stamps item) (stepped_at rules w claimed.run r)) item) (sym held))

-- room changes nothing that is seen
pub seen_with_room : (room : Room) (w : Stamped) (item : Item) → seen_now (with_room room w) item ≡ seen_now w item
seen_with_room room w (ask.Object id) = refl
seen_with_room room w (ask.Bound name) = refl
seen_with_room room w (ask.NextAfter after) = refl
seen_with_room room w (ask.Task key) = refl

roomy_seen : (new old : Stamped) → new ≡ with_room new.room old → (item : Item) → seen_now new item ≡ seen_now old item
roomy_seen new old is item = ap (λ v. seen_now v item) is ∙ seen_with_room new.room old item

-- so a core with more room stands for the same history
pub stays_with : (old new : Core) → HasMoreRoom old new → AddsNothing old new
stays_with old new more rules d budget events s =
    let world : world_of new ≡ world_of old = λ i. record {
      durable = durable_of (more.world i);
      moment = more.moment i;
      next = (more.claims i).next;
      budget = (more.claims i).budget;
      after_task = more.after_task i;
      claims = (more.claims i).claims;
      connections = all_of (more.connections i).connections;
    } in
    subst (λ es. Represents rules d budget es new) (sym (append-nil events)) record {
      valid = s.valid;
      within = s.within;
      leads = subst (Leads rules (opening d budget) events) (sym world) s.leads;
      stamps = λ item. roomy_seen new.world old.world more.world item ∙ s.stamps item ∙ ap (λ (w : World). seen_in w.durable (stamp rules (opening d budget) events item) item) (sym world);
      tracked = subst (λ x. x) (λ i. IsTracked (sym world i) (sym more.connections i).connections (sym more.world i).tasks) s.tracked;
    }

-- the core with other room
pub more_room : (old : Core) (world : Stamped) (numbers : HasNumbers world.commits old.claims old.connections.connections) → world ≡ with_room world.room old.world → IsNoLess old.world.room world.room
    → HasMoreRoom old (record old { world = world; numbers = numbers })
more_room old world numbers is kept = record { world = is; connections = refl; claims = refl; moment = refl; after_task = refl; room = kept }

-- and the reads that stood stand
pub stand_with : (old world : Stamped) (reads : List (Item × Read)) → world ≡ with_room world.room old → AllByRecursion (Stands old) reads → AllByRecursion (Stands world) reads
stand_with old world [] is h = tt
stand_with old world (r ∷ reads) is h = (h.0 ∙ sym (ap (λ v. seen_now v r.0) is ∙ seen_with_room world.room old r.0), stand_with old world reads is h.1)

-- and none stands that did not
pub stood_with : (old world : Stamped) (reads : List (Item × Read)) → world ≡ with_room world.room old → AllByRecursion (Stands world) reads → AllByRecursion (Stands old) reads
stood_with old world [] is h = tt
stood_with old world (r ∷ reads) is h = (h.0 ∙ ap (λ v. seen_now v r.0) is ∙ seen_with_room world.room old r.0, stood_with old world reads is h.1)

seen_still : (old new : Stamped) → ((item : Item) → seen_now new item ≡ seen_now old item) → (reads : List (Item × Read)) → AllByRecursion (Stands old) reads → AllByRecursion (Stands new) reads
seen_still old new seen [] h = tt
seen_still old new seen (r ∷ reads) h = (h.0 ∙ sym (seen r.0), seen_still old new seen reads h.1)

-- what was prepared is prepared still, where what was made ready is ready still
pub prepared_still : (old new : Core) (claimed : Claimed) (f : Finished) (p : Prepared) → KeepsReady old new → IsPrepared old claimed f p → IsPrepared new claimed f p
prepared_still old new claimed f p keeps is = record {
  ready = record {
    stand = seen_still old.world new.world keeps.seen f.reads.items is.ready.stand;
    messages = is.ready.messages;
  };
  entry = is.entry ∙ (λ i. record { seq = sym keeps.commits i + 1; run = claimed.run; effects = f.effects });
}

-- and so is the room
pub room_still : (old new : Core) (f : Finished) → KeepsReady old new → HasRoomFor old f → HasRoomFor new f
room_still old new f keeps room = subst (λ r. HasPlaces r (places_of f.effects)) (sym keeps.room) room

-- where there are places enough, there is room for each kind
pub room_of : (room : Room) (e : Effects) → HasPlaces room (places_of e) → HasRoom room e
room_of room e h =
    let objects = h.objects in
    let names = h.names in
    let tasks = h.tasks in
    record { objects = omega (arith, objects); names = omega (arith, names); tasks = omega (arith, tasks) }
