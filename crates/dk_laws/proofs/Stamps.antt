-- Where an item is seen alike at two times, it has one answer.
use Rattle.std.proofs.Common.{◌≡◌, ℕ, ◌+◌, ◌<◌, ◌≤◌, Bool, true, false, ◌||◌, ◌⊎◌, inl, inr, is_some, if◌then◌else◌, Option, Some, None, List, [], ◌∷◌, ◌++◌, refl, sym, ap, subst, ◌∙◌, arith}
use Rattle.std.specs.List.{list_any}
use Rattle.std.specs.FinMap.{get}
use Rattle.dk_types.specs.declared.number.RunNo.{RunNo}
use Rattle.dk_types.specs.declared.number.ObjectId.{ObjectId}
use Rattle.dk_types.specs.declared.number.TaskKey.{TaskKey}
use Rattle.dk_types.specs.declared.item.Item.{Item}
use Rattle.dk_types.specs.declared.item.Item.TheVariants as ask
use Rattle.dk_types.specs.declared.event.Event.{Event}
use Rattle.dk_types.specs.declared.event.Event.TheVariants as event
use Rattle.dk_model.specs.DurableWorlds.{DurableWorld, object_answer, name_answer, task_answer, answer}
use Rattle.dk_model.specs.Worlds.{World, Claim}
use Rattle.dk_model.specs.Steps.{Stepped}
use Rattle.dk_model.specs.Events.{Meaning}
use Rattle.dk_model.specs.Successors.{after_event, after_events, stepped_at, step_by}
use Rattle.dk_model.specs.Sights.{same_item, stamped_by, stamp_from, stamp, seen_at, seen_in, seen}
use Rattle.dk_model.specs.Lawful.{Lacks, AreLawful}
use Rattle.dk_model.proofs.StepLaws.{step_goes_on}
use Rattle.dk_laws.proofs.OneWorld.{after_events-append}
use Rattle.dk_laws.proofs.Numbers.{left_by, event_durable}
use Rattle.dk_laws.proofs.EffectsMade.{numbers_told, ids_told, names_told}

or_left : (a b : Bool) → (a || b) ≡ false → a ≡ false
or_left true b h = cc
or_left false b h = refl

or_right : (a b : Bool) → (a || b) ≡ false → b ≡ false
or_right true b h = cc
or_right false b h = h

differ : (b : Bool) → b ≡ true → b ≡ false → ⊥
differ b e f = cc

-- an item that the test finds nowhere is nowhere
pub lacked : (item : Item) → same_item item item ≡ true → (xs : List Item) → list_any (same_item item) xs ≡ false → Lacks xs item
unfolding Lacks
lacked item itself [] h = tt
lacked item itself (x ∷ xs) h =
    ((λ e. differ (same_item item x) (ap (same_item item) e ∙ itself) (or_left (same_item item x) (list_any (same_item item) xs) h)), lacked item itself xs (or_right (same_item item x) (list_any (same_item item) xs) h))

pub same_object_item : (id : ObjectId) → same_item (ask.Object id) (ask.Object id) ≡ true
same_object_item id = ids_told.itself id

pub same_name_item : (name : List ℕ) → same_item (ask.Bound name) (ask.Bound name) ≡ true
same_name_item name = names_told.itself name

pub same_task_item : (key : TaskKey) → same_item (ask.Task key) (ask.Task key) ≡ true
same_task_item key = rw (numbers_told.itself key.run.0, numbers_told.itself key.k) refl

-- a step is one commit more, and keeps what it does not list
pub record Keeps (d : DurableWorld) (s : Stepped) : Type 0 where
  pub commits : s.world.commits ≡ d.commits + 1
  pub objects : (id : ObjectId) → Lacks s.touched (ask.Object id) → get s.world.objects id ≡ get d.objects id
  pub names : (name : List ℕ) → Lacks s.touched (ask.Bound name) → get s.world.names name ≡ get d.names name
  pub tasks : (key : TaskKey) → Lacks s.touched (ask.Task key) → task_answer (get s.world.tasks key) ≡ task_answer (get d.tasks key)

-- two sights that are alike, of which one bears a later stamp, see nothing
unseen : (b c : Bool) (n m : ℕ) → seen_at b n ≡ seen_at c m → m < n → (b ≡ false) × (c ≡ false)
unseen true true n m e h = let same : n ≡ m = cc in absurd (omega arith)
unseen true false n m e h = cc
unseen false true n m e h = cc
unseen false false n m e h = (refl, refl)

none_there : {X : Type 0} (o : Option X) → is_some o ≡ false → o ≡ None
none_there None h = refl
none_there (Some x) h = cc

module _ (rules : Meaning) (lawful : AreLawful rules) where
  -- what an event steps keeps what it does not list
  abbrev IsKept : DurableWorld → Option Stepped → Type 0
  IsKept d None = Unit {0}
  IsKept d (Some s) = Keeps d s

  stepped_kept : (w : World) (run : RunNo) (claim : Option Claim) → IsKept w.durable (stepped_at rules w run claim)
  stepped_kept w run None = tt
  stepped_kept w run (Some claim) =
      let g = step_goes_on rules lawful claim.job run claim.at w.durable in record { commits = g.commits; objects = g.objects; names = g.names; tasks = g.tasks }

  event_kept : (w : World) (e : Event) → IsKept w.durable (step_by rules w e)
  event_kept w (event.Commit pass run seq outcome) = stepped_kept w run (get w.claims run)
  event_kept w (event.Connect pass name reply) = tt
  event_kept w (event.Post pass conn input reply) = tt
  event_kept w (event.Claim pass reply) = tt
  event_kept w (event.Release pass run) = tt
  event_kept w (event.Hand pass conn most outs end) = tt
  event_kept w (event.Tick pass moment) = tt

  -- what stands at the item, where nothing wrote it since
  abbrev Unwritten : {A : Type 0} → (DurableWorld → A) → Item → Type 0
  Unwritten value item = (d : DurableWorld) (s : Stepped) → Keeps d s → list_any (same_item item) s.touched ≡ false → value s.world ≡ value d

  -- one event writes the item with its own number, or leaves its stamp and what stands there
  pub record IsWritten (d : DurableWorld) (next : DurableWorld) (now : ℕ) : Type 0 where
    pub later : d.commits < now
    pub most : now ≤ next.commits

  pub record IsUnwritten {A : Type 0} (value : DurableWorld → A) (d : DurableWorld) (before : ℕ) (next : DurableWorld) (now : ℕ) : Type 0 where
    pub stamp : now ≡ before
    pub same : value next ≡ value d
    pub grown : d.commits ≤ next.commits

  step_stamps : {A : Type 0} (value : DurableWorld → A) (item : Item) → Unwritten value item → (d : DurableWorld) (before : ℕ) (o : Option Stepped) → IsKept d o
      → IsWritten d (left_by d o) (stamped_by item before o) ⊎ IsUnwritten value d before (left_by d o) (stamped_by item before o)
  step_stamps value item kept d before None k = inr record { stamp = refl; same = refl; grown = omega arith }
  step_stamps value item kept d before (Some s) k =
      let n = k.commits in
      elim (list_any (same_item item) s.touched) as (λ b. list_any (same_item item) s.touched ≡ b
      → IsWritten d s.world (if b then s.world.commits else before) ⊎ IsUnwritten value d before s.world (if b then s.world.commits else before)) [
        | true ↦ λ t. inl record { later = omega arith; most = omega arith }
        | false ↦ λ t. inr record { stamp = refl; same = kept d s k t; grown = omega arith }
      ] refl

  event_stamps : {A : Type 0} (value : DurableWorld → A) (item : Item) → Unwritten value item → (w : World) (before : ℕ) (e : Event)
      → IsWritten w.durable (after_event rules w e).durable (stamped_by item before (step_by rules w e))
      ⊎ IsUnwritten value w.durable before (after_event rules w e).durable (stamped_by item before (step_by rules w e))
  event_stamps value item kept w before e =
      subst (λ d. IsWritten w.durable d (stamped_by item before (step_by rules w e)) ⊎ IsUnwritten value w.durable before d (stamped_by item before (step_by rules w e)))
      (sym (event_durable rules w e)) (step_stamps value item kept w.durable before (step_by rules w e) (event_kept w e))

  -- since a time the item was written, or what is there is as it was
  pub record IsSince {A : Type 0} (value : DurableWorld → A) (d : DurableWorld) (before : ℕ) (end : DurableWorld) (now : ℕ) : Type 0 where
    pub most : now ≤ end.commits
    pub least : before ≤ now
    pub grown : d.commits ≤ end.commits
    pub either : (d.commits < now) ⊎ (value end ≡ value d)

  since : {A : Type 0} (value : DurableWorld → A) (item : Item) → Unwritten value item → (w : World) (before : ℕ) (events : List Event) → before ≤ w.durable.commits
      → IsSince value w.durable before (after_events rules w events).durable (stamp_from rules w before events item)
  since value item kept w before [] le = record { most = le; least = omega arith; grown = omega arith; either = inr refl }
  since value item kept w before (e ∷ events) le =
      let mid = after_event rules w e in
      let now = stamped_by item before (step_by rules w e) in
      elim (event_stamps value item kept w before e) [
        | inl t ↦
            let later = t.later in
            let most = t.most in
            let rest = since value item kept mid now events most in
            let least = rest.least in
            let grown = rest.grown in
            record { most = rest.most; least = omega arith; grown = omega arith; either = inl (omega arith) }
        | inr t ↦
            let stamp = t.stamp in
            let up = t.grown in
            let rest = since value item kept mid now events (omega arith) in
            let least = rest.least in
            let grown = rest.grown in
            record {
              most = rest.most;
              least = omega arith;
              grown = omega arith;
              either = elim rest.either [
                | inl p ↦ inl (omega arith)
                | inr same ↦ inr (same ∙ t.same)
              ];
            }
      ]

  -- stamps after events, and then after others
  pub stamp_from-append : (w : World) (before : ℕ) (earlier later : List Event) (item : Item)
      → stamp_from rules w before (earlier ++ later) item ≡ stamp_from rules (after_events rules w earlier) (stamp_from rules w before earlier item) later item
  stamp_from-append w before [] later item = refl
  stamp_from-append w before (e ∷ earlier) later item = stamp_from-append (after_event rules w e) (stamped_by item before (step_by rules w e)) earlier later item

  objects_kept : (id : ObjectId) → Unwritten (λ d. get d.objects id) (ask.Object id)
  objects_kept id d s k t = k.objects id (lacked (ask.Object id) (same_object_item id) s.touched t)

  names_kept : (name : List ℕ) → Unwritten (λ d. get d.names name) (ask.Bound name)
  names_kept name d s k t = k.names name (lacked (ask.Bound name) (same_name_item name) s.touched t)

  tasks_kept : (key : TaskKey) → Unwritten (λ d. task_answer (get d.tasks key)) (ask.Task key)
  tasks_kept key d s k t = k.tasks key (lacked (ask.Task key) (same_task_item key) s.touched t)

  module _ (w : World) (n : ℕ) (le : n ≤ w.durable.commits) (later : List Event) where
    -- since a time of this world, where the item had a stamp of before
    pub alike : (item : Item) → seen_in (after_events rules w later).durable (stamp_from rules w n later item) item ≡ seen_in w.durable n item
        → answer (after_events rules w later).durable item ≡ answer w.durable item
    alike (ask.Object id) e = elim (since (λ d. get d.objects id) (ask.Object id) (objects_kept id) w n later le).either [
      | inl p ↦
          let u = unseen _ _ (stamp_from rules w n later (ask.Object id)) n e (omega arith) in
          ap object_answer (none_there _ u.0 ∙ sym (none_there _ u.1))
      | inr same ↦ ap object_answer same
    ]
    alike (ask.Bound name) e = elim (since (λ d. get d.names name) (ask.Bound name) (names_kept name) w n later le).either [
      | inl p ↦
          let u = unseen _ _ (stamp_from rules w n later (ask.Bound name)) n e (omega arith) in
          ap name_answer (none_there _ u.0 ∙ sym (none_there _ u.1))
      | inr same ↦ ap name_answer same
    ]
    alike (ask.NextAfter after) e = cc
    alike (ask.Task key) e = elim (since (λ d. task_answer (get d.tasks key)) (ask.Task key) (tasks_kept key) w n later le).either [
      | inl p ↦
          let u = unseen _ _ (stamp_from rules w n later (ask.Task key)) n e (omega arith) in
          ap task_answer (none_there _ u.0 ∙ sym (none_there _ u.1))
      | inr same ↦ same
    ]

  -- no stamp is above the number of commits
  stamp_most : (o : World) (events : List Event) (item : Item) → stamp rules o events item ≤ (after_events rules o events).durable.commits
  stamp_most o events (ask.Object id) = (since (λ d. get d.objects id) (ask.Object id) (objects_kept id) o o.durable.commits events (omega arith)).most
  stamp_most o events (ask.Bound name) = (since (λ d. get d.names name) (ask.Bound name) (names_kept name) o o.durable.commits events (omega arith)).most
  stamp_most o events (ask.NextAfter after) = (since {A = Unit {0}} (λ d. tt) (ask.NextAfter after) (λ d s k t. refl) o o.durable.commits events (omega arith)).most
  stamp_most o events (ask.Task key) = (since (λ d. task_answer (get d.tasks key)) (ask.Task key) (tasks_kept key) o o.durable.commits events (omega arith)).most

  -- the law of stamps
  pub seen_alike : (o : World) (earlier later : List Event) (item : Item) → seen rules o (earlier ++ later) item ≡ seen rules o earlier item
      → answer (after_events rules o (earlier ++ later)).durable item ≡ answer (after_events rules o earlier).durable item
  seen_alike o earlier later item e =
      let mid = after_events rules o earlier in
      let n = stamp rules o earlier item in
      let world = after_events-append rules o earlier later in
      let stamps = stamp_from-append o o.durable.commits earlier later item in
      let sight : seen_in (after_events rules mid later).durable (stamp_from rules mid n later item) item ≡ seen_in mid.durable n item =
      sym (ap (λ (x : World). seen_in x.durable (stamp_from rules mid n later item) item) world) ∙ sym (ap (λ m. seen_in (after_events rules o (earlier ++ later)).durable m item) stamps) ∙ e in
      ap (λ (x : World). answer x.durable item) world ∙ alike mid n (stamp_most o earlier item) later item sight
