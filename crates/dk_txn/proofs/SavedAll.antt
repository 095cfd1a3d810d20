-- What the saving of several objects that stand does.
use Rattle.std.proofs.Common.{◌≡◌, inl, inr, ℕ, false, Some, List, [], ◌∷◌, ◌++◌, Result, Ok, Err, refl, sym, ap, subst, ◌∙◌}
use Rattle.std.specs.List.{AllByRecursion}
use Rattle.std.specs.Result.{IsErrAnd, IfErr}
use Rattle.std.proofs.lemmas.List.{append_assoc}
use Rattle.std.specs.FinMap as map
use Rattle.dk_types.specs.declared.number.ObjectId.{ObjectId}
use Rattle.dk_types.specs.declared.object.Object.{Object}
use Rattle.dk_types.specs.declared.item.Item.{Item}
use Rattle.dk_types.specs.declared.item.Item.TheVariants as ask
use Rattle.dk_types.specs.declared.mode.Mode.TheVariants.{Platform}
use Rattle.dk_model.specs.DurableWorlds.{DurableWorld, Agrees}
use Rattle.dk_model.specs.Runs as act
use Rattle.dk_model.specs.Platforms.{save_each}
use Rattle.dk_model.specs.Finishes.{IsNew}
use Rattle.dk_overlay.specs.declared.change.Change.{Change}
use Rattle.dk_overlay.specs.Changes.{value_now}
use Rattle.dk_overlay.specs.ReadsAndWrites.{ReadsAndWrites, changing_object, changing_objects}
use Rattle.dk_overlay.proofs.PutAll.{all_changed}
use Rattle.dk_txn.specs.Current.{current}
use Rattle.dk_txn.specs.Layers.{layered}
use Rattle.dk_txn.specs.Knowing.{IsSound}
use Rattle.dk_txn.specs.Pairs.{with_bytes}
use Rattle.dk_txn.specs.Rewritten.{IsObjectOf, IsRewritten, AreRewritten, NeverTold}
use Rattle.dk_txn.specs.declared.refusal.Refusal.{Refusal}
use Rattle.dk_txn.specs.declared.txn.Txn.{Txn}
use Rattle.dk_txn.specs.Asks.{Asks, AsksOf}
use Rattle.dk_txn.proofs.Asking.{asks_nothing, asks_then, asks_weaker}
use Rattle.dk_txn.specs.Refusals.{refusal_fault}
use Rattle.dk_txn.specs.Does.{Keeps, Does, SameChanges, CanChange, RefusesChange, Stands}
use Rattle.dk_txn.specs.Sights.{Sights}
use Rattle.dk_txn.proofs.Sound.{sound_object}
use Rattle.dk_txn.proofs.Kit.{keeps_all, keeps_then, agreed}
use Rattle.dk_txn.proofs.ObjectCalls.{done_at}
use Rattle.dk_txn.proofs.Together.{stands_later, never_refused, two_steps, saved_at, still_there, with_bytes_is, keeps_so}

-- the object of one among these
pub among : {A : Type 0} (front rest all : List (ObjectId × A)) (one : ObjectId × A) → front ++ one ∷ rest ≡ all → (q : Item) → q ≡ ask.Object one.0 → IsObjectOf all q
among {A} front rest all one is q same = subst (λ l. IsObjectOf l q) is (at front)
  where
    at : (front : List (ObjectId × A)) → IsObjectOf (front ++ one ∷ rest) q
    at [] = inl same
    at (x ∷ front) = inr (at front)

-- what holds of each, holds of one among them
pub each_among : {X : Type 0} (P : X → Type 0) (front rest all : List X) (one : X) → front ++ one ∷ rest ≡ all → AllByRecursion P all → P one
each_among {X} P front rest all one is h = at front (subst (λ l. AllByRecursion P l) (sym is) h)
  where
    at : (front : List X) → AllByRecursion P (front ++ one ∷ rest) → P one
    at [] h = h.0
    at (x ∷ front) h = at front h.1

-- one change more
pub one_more : {start now : ReadsAndWrites} (payloads : List (ObjectId × List ℕ)) (changes : List (ObjectId × Change Object)) (p : ObjectId × List ℕ) (c : ObjectId × Change Object)
    → AreRewritten start now payloads changes → IsRewritten start now p c → AreRewritten start now (payloads ++ p ∷ []) (changes ++ c ∷ [])
one_more [] [] p c all one = (one, tt)
one_more [] (e ∷ changes) p c all one = absurd all
one_more (q ∷ payloads) [] p c all one = absurd all
one_more (q ∷ payloads) (e ∷ changes) p c all one = (all.0, one_more payloads changes p c all.1 one)

module _ {S : Type 0} {sights : Sights S} {b c : Txn S ReadsAndWrites} (l : Keeps sights b c) (again : SameChanges b.set c.set) (start : ReadsAndWrites) where
  -- what is known of a change stays known after more reads
  pub still_rewritten : (payloads : List (ObjectId × List ℕ)) (changes : List (ObjectId × Change Object)) → AreRewritten start b.set payloads changes → AreRewritten start c.set payloads changes
  still_rewritten [] [] all = tt
  still_rewritten [] (e ∷ changes) all = absurd all
  still_rewritten (p ∷ payloads) [] all = absurd all
  still_rewritten (p ∷ payloads) (e ∷ changes) all = (
    record {
      same_id = all.0.same_id;
      object = all.0.object;
      stood = λ d agrees. ap (λ (t : ReadsAndWrites). map.get (layered value_now t.objects d.objects) p.0) again ∙ all.0.stood d (agreed l d agrees);
      free = ap (λ (t : ReadsAndWrites). act.is_reserved_kind t.mode all.0.object.kind) again ∙ all.0.free;
      after = all.0.after;
      before = λ s d agrees new. all.0.before s d (agreed l d agrees) (subst (IsNew d) l.same_run new);
    },
    still_rewritten payloads changes all.1,
  )

-- an object that may be changed, and the change that leaves it with other bytes
pub rewritten_so : {S : Type 0} {sights : Sights S} {a b : Txn S ReadsAndWrites} (id : ObjectId) (bytes : List ℕ) (known : Change Object) (change : Change Object) → Keeps sights a b → CanChange b.set id known → change ≡ with_bytes known bytes
    → IsRewritten a.set b.set (id, bytes) (id, change)
rewritten_so id bytes known change k can is = record {
  same_id = refl;
  object = can.there.0;
  stood = λ d agrees. can.known.after d agrees ∙ can.there.1;
  free = can.there.2;
  after = ap (λ (c : Change Object). c.after) (is ∙ with_bytes_is known can.there.0 bytes can.there.1);
  before = λ s d agrees new. ap (λ (c : Change Object). c.before) (is ∙ with_bytes_is known can.there.0 bytes can.there.1) ∙ can.known.before (k.sound s) d agrees new;
}

-- a refusal that no agreeing world brings is passed on
never_passed : {A : Type 0} (t : ReadsAndWrites) (e : Refusal) (r : Result A Refusal) → IsErrAnd r (λ h. h ≡ e) → NeverTold t e → IfErr r (NeverTold t)
never_passed t e (Err h) is never = subst (NeverTold t) (sym is) never
never_passed t e (Ok x) is never = absurd is

-- the items up to here, and those behind, are all
next_front : {X : Type 0} (front left rest all : List X) (x : X) → left ≡ x ∷ rest → front ++ left ≡ all → ((front ++ x ∷ []) ++ rest ≡ all) × (front ++ x ∷ rest ≡ all)
next_front front left rest all x is h = let on : front ++ x ∷ rest ≡ all = ap (λ l. front ++ l) (sym is) ∙ h in (append_assoc front (x ∷ []) rest ∙ on, on)

-- one object more is looked at, of those of a list
pub record LooksOn {S : Type 0} (sights : Sights S) (a b : Txn S ReadsAndWrites) (front left all : List (ObjectId × List ℕ)) (changes : List (ObjectId × Change Object)) : Type 0 where
  pub keeps : Keeps sights a b
  pub asks : AsksOf (IsObjectOf all) sights a b
  pub same : SameChanges a.set b.set
  pub split : front ++ left ≡ all
  pub so_far : AreRewritten a.set b.set front changes

-- none was looked at yet
pub looks_begin : {S : Type 0} {sights : Sights S} {a : Txn S ReadsAndWrites} (all : List (ObjectId × List ℕ)) (changes : List (ObjectId × Change Object)) → changes ≡ [] → LooksOn sights a a [] all all changes
looks_begin {a = a} all changes none = record {
  keeps = keeps_all;
  asks = asks_nothing (record { same_view = refl; same_reads = refl });
  same = refl;
  split = refl;
  so_far = subst (λ list. AreRewritten a.set a.set [] list) (sym none) tt;
}

module _ {S : Type 0} {sights : Sights S} {a b c : Txn S ReadsAndWrites} {front left all : List (ObjectId × List ℕ)} {changes : List (ObjectId × Change Object)} (on : LooksOn sights a b front left all changes)
    (id : ObjectId) (bytes : List ℕ) (rest : List (ObjectId × List ℕ)) (is : left ≡ (id, bytes) ∷ rest) (l : Keeps sights b c) (again : SameChanges b.set c.set) where
  here : front ++ (id, bytes) ∷ rest ≡ all
  here = (next_front front left rest all (id, bytes) is on.split).1

  pub looks_same : SameChanges a.set c.set
  looks_same = again ∙ ap (λ (t : ReadsAndWrites). record t { reads = c.set.reads }) on.same

  pub looks_keeps : Keeps sights a c
  looks_keeps = keeps_then on.keeps l

  pub looks_asks : Asks (ask.Object id) sights b c → AsksOf (IsObjectOf all) sights a c
  looks_asks asks = asks_then on.asks (asks_weaker (λ q same. among front rest all (id, bytes) here q same) asks)

  -- one that stands is not refused
  pub looks_never : {A : Type 0} (e : Refusal) (r : Result A Refusal) → AllByRecursion (λ p. Stands a.set p.0) all → a.set.mode ≡ Platform → RefusesChange c.set id e → IsErrAnd r (λ h. h ≡ e) → IfErr r (NeverTold c.set)
  looks_never e r stand mode refuses passed =
      let stood = stands_later id looks_keeps looks_same (each_among (λ p. Stands a.set p.0) front rest all (id, bytes) here stand) in
      never_passed c.set e r passed (never_refused c.set id e stood (ap (λ (t : ReadsAndWrites). t.mode) looks_same ∙ mode) refuses)

  -- its change is put behind those before
  pub looks_on : (known change : Change Object) → Asks (ask.Object id) sights b c → CanChange c.set id known → change ≡ with_bytes known bytes → LooksOn sights a c (front ++ (id, bytes) ∷ []) rest all (changes ++ (id, change) ∷ [])
  looks_on known change asks can made = record {
    keeps = looks_keeps;
    asks = looks_asks asks;
    same = looks_same;
    split = append_assoc front ((id, bytes) ∷ []) rest ∙ here;
    so_far = one_more front changes (id, bytes) (id, change) (still_rewritten l again a.set front changes on.so_far) (rewritten_so {a = a} id bytes known change looks_keeps can made);
  }

-- changes that know what was there before make of a sound read and write set a sound one
sound_all : (t : ReadsAndWrites) (start now : ReadsAndWrites) (payloads : List (ObjectId × List ℕ)) (changes : List (ObjectId × Change Object)) → t.reads ≡ now.reads → t.run ≡ now.run → IsSound start → IsSound t
    → AreRewritten start now payloads changes → IsSound (changing_objects t changes)
sound_all t start now [] [] reads run began s all = s
sound_all t start now [] (c ∷ changes) reads run began s all = absurd all
sound_all t start now (p ∷ payloads) [] reads run began s all = absurd all
sound_all t start now (p ∷ payloads) (c ∷ changes) reads run began s all =
    sound_all (changing_object t c.0 c.1) start now payloads changes reads run began
    (sound_object t c.0 c.1 s (λ d agrees new. all.0.before began d (subst (Agrees d) reads agrees) (subst (IsNew d) run new) ∙ ap (map.get d.objects) (sym all.0.same_id))) all.1

-- the object of p stands in d, and c leaves it with the bytes of p
record StandsAt (t : ReadsAndWrites) (d : DurableWorld) (p : ObjectId × List ℕ) (c : ObjectId × Change Object) : Type 0 where
  object : Object
  stood : map.get (layered value_now t.objects d.objects) p.0 ≡ Some object
  free : act.is_reserved_kind t.mode object.kind ≡ false
  change : c ≡ (p.0, record { before = c.1.before; after = Some (record { kind = object.kind; bytes = p.1 }) })

abbrev AllStand : ReadsAndWrites → DurableWorld → List (ObjectId × List ℕ) → List (ObjectId × Change Object) → Type 0
AllStand t d [] [] = Unit {0}
AllStand t d [] (c ∷ changes) = ⊥
AllStand t d (p ∷ payloads) [] = ⊥
AllStand t d (p ∷ payloads) (c ∷ changes) = StandsAt t d p c × AllStand t d payloads changes

-- after one was saved, the rest stand
rest_stand : (t : ReadsAndWrites) (d : DurableWorld) (p : ObjectId × List ℕ) (before : _) (object : Object) → map.get (layered value_now t.objects d.objects) p.0 ≡ Some object → (payloads : List (ObjectId × List ℕ)) (changes : List (ObjectId × Change Object))
    → AllStand t d payloads changes → AllStand (changing_object t p.0 (record { before = before; after = Some (record { kind = object.kind; bytes = p.1 }) })) d payloads changes
rest_stand t d p before object there [] [] all = tt
rest_stand t d p before object there [] (c ∷ changes) all = absurd all
rest_stand t d p before object there (q ∷ payloads) [] all = absurd all
rest_stand t d p before object there (q ∷ payloads) (c ∷ changes) all =
    let now = still_there t p.0 q.0 p.1 before object all.0.object d there all.0.stood in (
      record {
        object = now.0;
        stood = now.1;
        free = ap (λ n. act.is_reserved_kind t.mode n) now.2 ∙ all.0.free;
        change = all.0.change ∙ ap (λ n. (q.0, record { before = c.1.before; after = Some (record { kind = n; bytes = q.1 }) })) (sym now.2);
      },
      rest_stand t d p before object there payloads changes all.1,
    )

-- they are saved one after another
each_saved : (t : ReadsAndWrites) (d : DurableWorld) (payloads : List (ObjectId × List ℕ)) (changes : List (ObjectId × Change Object)) → AllByRecursion (λ p. act.is_too_long p.1 ≡ false) payloads → AllStand t d payloads changes
    → save_each payloads (current t d) ≡ (Ok tt, current (changing_objects t changes) d)
unfolding act.give
each_saved t d [] [] short all = refl
each_saved t d [] (c ∷ changes) short all = absurd all
each_saved t d (p ∷ payloads) [] short all = absurd all
each_saved t d (p ∷ payloads) (c ∷ changes) short all =
    let object = all.0.object in
    let change : Change Object = record { before = c.1.before; after = Some (record { kind = object.kind; bytes = p.1 }) } in
    two_steps (act.save p.0 p.1) (λ _. save_each payloads) tt tt (current t d) (current (changing_object t p.0 change) d) (current (changing_objects t (c ∷ changes)) d)
    (saved_at t d p.0 c.1.before object all.0.stood all.0.free p.1 short.0)
    (each_saved (changing_object t p.0 change) d payloads changes short.1 (rest_stand t d p c.1.before object all.0.stood payloads changes all.1)
    ∙ ap (λ (e : ObjectId × Change Object). (Ok tt, current (changing_objects (changing_object t e.0 e.1) changes) d)) (sym all.0.change))

stand_at : (start now : ReadsAndWrites) (d : DurableWorld) → Agrees d now.reads → (payloads : List (ObjectId × List ℕ)) (changes : List (ObjectId × Change Object)) → AreRewritten start now payloads changes → AllStand now d payloads changes
stand_at start now d agrees [] [] all = tt
stand_at start now d agrees [] (c ∷ changes) all = absurd all
stand_at start now d agrees (p ∷ payloads) [] all = absurd all
stand_at start now d agrees (p ∷ payloads) (c ∷ changes) all = (
  record { object = all.0.object; stood = all.0.stood d agrees; free = all.0.free; change = (λ i. (all.0.same_id i, record { before = c.1.before; after = all.0.after i })) },
  stand_at start now d agrees payloads changes all.1,
)

-- all were saved
pub all_saved : {S : Type 0} {sights : Sights S} {a b : Txn S ReadsAndWrites} {u : ReadsAndWrites} (payloads : List (ObjectId × List ℕ)) (changes : List (ObjectId × Change Object)) → Keeps sights a b → SameChanges a.set b.set
    → AllByRecursion (λ p. act.is_too_long p.1 ≡ false) payloads → AreRewritten a.set b.set payloads changes → u ≡ changing_objects b.set changes
    → Does sights refusal_fault a (record { view = b.view; set = u }) (save_each payloads) (Ok tt)
all_saved {a = a} {b = b} payloads changes k same short all e =
    let t : ReadsAndWrites = changing_objects b.set changes in
    let is = all_changed b.set changes in
    done_at t _
    (keeps_so k t (ap (λ (l : ReadsAndWrites). l.reads) is) (ap (λ (l : ReadsAndWrites). l.run) is) (ap (λ (l : ReadsAndWrites). l.at) is) (ap (λ (l : ReadsAndWrites). l.tasks) is) (λ s. sound_all b.set a.set b.set payloads changes refl refl s (k.sound s) all))
    same (ap (λ (l : ReadsAndWrites). l.reads) is) e (λ d agrees. each_saved b.set d payloads changes short (stand_at a.set b.set d agrees payloads changes all))
