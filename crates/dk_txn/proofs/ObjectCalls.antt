-- What each call on objects does.
use Rattle.std.proofs.Common.{◌≡◌, ℕ, ◌+◌, ◌<◌, ◌≤◌, nat_le, arith, true, false, Option, Some, None, List, Result, Ok, Err, IfOk, refl, sym, ap, subst, ◌∙◌}
use Rattle.std.proofs.lemmas.Bool.Decides.{nat_tests}
use Rattle.std.specs.Option.{ok_or, option_map}
use Rattle.std.specs.Result.{IsErrAnd, IfErr}
use Rattle.std.specs.FinMap as map
use Rattle.dk_types.specs.declared.number.ObjectId.{ObjectId}
use Rattle.dk_types.specs.declared.number.TaskKey.{TaskKey}
use Rattle.dk_types.specs.declared.object.Object.{Object}
use Rattle.dk_types.specs.declared.item.Item.TheVariants as item
use Rattle.dk_types.specs.declared.item.Answer.{Answer}
use Rattle.dk_types.specs.declared.fault.AppFault.{AppFault}
use Rattle.dk_types.specs.declared.fault.AppFault.TheVariants.{Refused}
use Rattle.dk_model.specs.DurableWorlds.{DurableWorld, Agrees, answer}
use Rattle.dk_model.specs.Runs as act
use Rattle.dk_model.specs.Runs.{Run, Act, found, with_object, change_found, change_object}
use Rattle.dk_overlay.specs.declared.change.Change.{Change}
use Rattle.dk_overlay.specs.Answers.{object_in}
use Rattle.dk_txn.proofs.Answering.{object_in-answer}
use Rattle.dk_overlay.specs.Changes.{value_now}
use Rattle.dk_txn.specs.Layers.{newest}
use Rattle.dk_overlay.specs.ReadsAndWrites.{ReadsAndWrites, changing_object, new_id, creating}
use Rattle.dk_txn.specs.Current.{current}
use Rattle.dk_overlay.proofs.Keys.{ids_total, ids_same}
use Rattle.dk_txn.proofs.Layers.{get-layered, layered-insert}
use Rattle.dk_txn.proofs.Sound.{sound_object, sound_as}
use Rattle.dk_overlay.proofs.Tests.{Some_injective}
use Rattle.dk_txn.specs.declared.refusal.Refusal.{Refusal}
use Rattle.dk_txn.specs.declared.refusal.Refusal.TheVariants as refusal
use Rattle.dk_txn.specs.declared.txn.Txn.{Txn}
use Rattle.dk_txn.specs.Refusals.{refusal_fault, TellsLength}
use Rattle.dk_txn.specs.Does.{KeepsFor, DoesFor, Keeps, Does, SameChanges, IsNow, KnownObject, KnownKind, CanChange, MayTouch, RefusesChange, failure, outcome_of_result}
use Rattle.dk_txn.proofs.Kit.{keeps_all}
use Rattle.dk_txn.proofs.Reading.{same_current, keeps_changed, told_found}
use Rattle.dk_txn.specs.Sights.{Sights}

pub le_true : (a b : ℕ) → a ≤ b → nat_le a b ≡ true
le_true a b h = grind (arith, nat_tests)

pub le_false : (a b : ℕ) → b < a → nat_le a b ≡ false
le_false a b h = grind (arith, nat_tests)

module _ {P : TaskKey → ℕ → Type 0} {S : Type 0} {sights : Sights S} where
  -- the run stands as it did, and the call is refused
  pub refused_at : {a b : Txn S ReadsAndWrites} {A : Type 0} {f : Act A} {e : Refusal} (fault : AppFault) → KeepsFor P sights a b → SameChanges a.set b.set → refusal_fault e ≡ Some fault
      → ((d : DurableWorld) → Agrees d b.set.reads → f (current b.set d) ≡ (Err fault, current b.set d)) → DoesFor P sights refusal_fault a b f (Err e)
  refused_at {a = a} {b = b} {f = f} fault k same is h = record {
    keeps = k;
    does = λ s t d agrees. ap f (same_current a.set b.set d same) ∙ h d agrees ∙ ap (λ r. (r, current b.set d)) (Some_injective _ _ (sym (ap failure is) ∙ t));
  }

  -- the same where nothing was read
  pub refused_here : {a : Txn S ReadsAndWrites} {A : Type 0} {f : Act A} {e : Refusal} (fault : AppFault) → refusal_fault e ≡ Some fault
      → ((d : DurableWorld) → f (current a.set d) ≡ (Err fault, current a.set d)) → DoesFor P sights refusal_fault a a f (Err e)
  refused_here {a = a} {f = f} fault is h = record {
    keeps = keeps_all;
    does = λ s t d agrees. h d ∙ ap (λ r. (r, current a.set d)) (Some_injective _ _ (sym (ap failure is) ∙ t));
  }

  -- the run stands as t says, and the call is done
  pub done_at : {a b : Txn S ReadsAndWrites} {A : Type 0} {f : Act A} {x : A} (t u : ReadsAndWrites) → KeepsFor P sights a (record { view = b.view; set = t }) → SameChanges a.set b.set → t.reads ≡ b.set.reads → u ≡ t
      → ((d : DurableWorld) → Agrees d b.set.reads → f (current b.set d) ≡ (Ok x, current t d)) → DoesFor P sights refusal_fault a (record { view = b.view; set = u }) f (Ok x)
  done_at {a = a} {b = b} {f = f} {x = x} t u k same reads e h =
      subst (λ (t : ReadsAndWrites). DoesFor P sights refusal_fault a (record { view = b.view; set = t }) f (Ok x)) (sym e) (record {
        keeps = k;
        does = λ s told d agrees. ap f (same_current a.set b.set d same) ∙ h d (subst (Agrees d) reads agrees) ∙ ap (λ r. (r, current t d)) (Some_injective _ _ told);
      })

  -- want of memory tells nothing
  pub forgotten : {a b : Txn S ReadsAndWrites} {A : Type 0} {f : Act A} → KeepsFor P sights a b → DoesFor P sights refusal_fault a b f (Err refusal.NoMemory)
  forgotten k = record { keeps = k; does = λ s t. cc }

-- what holds of a value holds of a copy of it
pub if_copied : {E A : Type 0} (P : A → Type 0) (r : Result A E) (x : A) → IfOk r (λ y. y ≡ x) → P x → IfOk r P
if_copied P (Ok y) x is p = subst P (sym is) p
if_copied P (Err e) x is p = tt

-- what is known of an object by a change of it, and by what the view said
pub known_changed : (t : ReadsAndWrites) (id : ObjectId) (c : Change Object) → map.get t.objects id ≡ Some c → KnownObject t id c
known_changed t id c h = record {
  after = λ d agrees. get-layered ids_total ids_same value_now t.objects d.objects id ∙ ap (λ o. newest value_now o (map.get d.objects id)) h;
  before = λ s d agrees new. (s.knows d agrees new).objects id c h;
}

pub known_asked : (t : ReadsAndWrites) (id : ObjectId) (said : Answer) (o b : Option Object) → map.get t.objects id ≡ None → o ≡ object_in said → b ≡ o
    → ((d : DurableWorld) → Agrees d t.reads → answer d (item.Object id) ≡ said) → KnownObject t id (record { before = b; after = o })
known_asked t id said o b none e f h =
    let was : (d : DurableWorld) → Agrees d t.reads → map.get d.objects id ≡ o = λ d agrees. sym (object_in-answer (map.get d.objects id)) ∙ ap object_in (h d agrees) ∙ sym e in
    record {
      after = λ d agrees. get-layered ids_total ids_same value_now t.objects d.objects id ∙ ap (λ c. newest value_now c (map.get d.objects id)) none ∙ was d agrees;
      before = λ s d agrees new. f ∙ sym (was d agrees);
    }

-- what is known of its kind
pub kind_changed : (t : ReadsAndWrites) (id : ObjectId) (c : Change Object) (before : Option Object) (kind : Option ℕ) → map.get t.objects id ≡ Some c
    → before ≡ c.before → kind ≡ option_map (λ (object : Object). object.kind) c.after → KnownKind t id before kind
kind_changed t id c before kind h was is = record { change = c; known = known_changed t id c h; same_before = was; same_kind = is }

pub kind_asked : (t : ReadsAndWrites) (id : ObjectId) (said : Answer) (o : Option Object) (kind : Option ℕ) → map.get t.objects id ≡ None → o ≡ object_in said
    → ((d : DurableWorld) → Agrees d t.reads → answer d (item.Object id) ≡ said) → kind ≡ option_map (λ (object : Object). object.kind) o → KnownKind t id o kind
kind_asked t id said o kind none e h is = record { change = record { before = o; after = o }; known = known_asked t id said o o none e refl h; same_before = refl; same_kind = is }

module _ {S : Type 0} {sights : Sights S} where
  pub get_does : {a b : Txn S ReadsAndWrites} {o : Option Object} (id : ObjectId) → Keeps sights a b → SameChanges a.set b.set → IsNow b.set id o → (r : Result Object Refusal) → r ≡ ok_or o refusal.ObjectNotFound
      → Does sights refusal_fault a b (act.get id) r
  unfolding act.get
  get_does {a = a} {b = b} {o = o} id k same now r e = record {
    keeps = k;
    does = λ s told d agrees.
        ap (act.get id) (same_current a.set b.set d same)
        ∙ ap (λ o. (found 2 o, current b.set d)) (now d agrees)
        ∙ ap (λ x. (x, current b.set d)) (told_found 2 refusal.ObjectNotFound refl o s (ap (outcome_of_result refusal_fault) (sym e) ∙ told));
  }

-- the run after one change of an object
pub current_changed : (t : ReadsAndWrites) (id : ObjectId) (c : Change Object) (d : DurableWorld) → with_object (current t d) id c.after ≡ current (changing_object t id c) d
current_changed t id c d = ap (λ m. record (current (changing_object t id c) d) { world = record ((current t d).world) { objects = m } }) (sym (layered-insert ids_total ids_same value_now t.objects d.objects id c))

-- an object that is not there, or may not be touched, is not changed
pub absent_unchanged : (t : ReadsAndWrites) (id : ObjectId) (c : Change Object) → KnownObject t id c → c.after ≡ None → RefusesChange t id refusal.ObjectNotFound
absent_unchanged t id c known none = λ fault is change d agrees.
    ap (λ o. change_found o id change (current t d)) (known.after d agrees ∙ none) ∙ ap (λ f. (Err f, current t d)) (Some_injective _ _ is)

pub reserved_unchanged : (t : ReadsAndWrites) (id : ObjectId) (c : Change Object) (o : Object) → KnownObject t id c → c.after ≡ Some o → act.is_reserved_kind t.mode o.kind ≡ true → RefusesChange t id refusal.Reserved
reserved_unchanged t id c o known there h = λ fault is change d agrees.
    ap (λ o. change_found o id change (current t d)) (known.after d agrees ∙ there) ∙ rw h (ap (λ f. (Err f, current t d)) (Some_injective _ _ is))

-- the same by the kind alone
no_kind : (o : Option Object) → None ≡ option_map (λ (object : Object). object.kind) o → o ≡ None
no_kind None e = refl
no_kind (Some object) e = absurd cc

of_kind : (o : Option Object) (kind : ℕ) → Some kind ≡ option_map (λ (object : Object). object.kind) o → (object : Object) × (o ≡ Some object) × (kind ≡ object.kind)
of_kind None kind e = absurd cc
of_kind (Some object) kind e = (object, refl, Some_injective _ _ e)

pub absent_untouched : (t : ReadsAndWrites) (id : ObjectId) (before : Option Object) (kind : Option ℕ) → KnownKind t id before kind → kind ≡ None → RefusesChange t id refusal.ObjectNotFound
absent_untouched t id before kind k none = absent_unchanged t id k.change k.known (no_kind k.change.after (sym none ∙ k.same_kind))

pub reserved_untouched : (t : ReadsAndWrites) (id : ObjectId) (before : Option Object) (o : Option ℕ) (kind : ℕ) → KnownKind t id before o → o ≡ Some kind → act.is_reserved_kind t.mode kind ≡ true → RefusesChange t id refusal.Reserved
reserved_untouched t id before o kind k is h =
    let of = of_kind k.change.after kind (sym is ∙ k.same_kind) in
    reserved_unchanged t id k.change of.0 k.known of.1 (ap (act.is_reserved_kind t.mode) (sym of.2) ∙ h)

pub may_touch : (t : ReadsAndWrites) (id : ObjectId) (before : Option Object) (o : Option ℕ) (kind : ℕ) → KnownKind t id before o → o ≡ Some kind → act.is_reserved_kind t.mode kind ≡ false → MayTouch t id before kind
may_touch t id before o kind k is h =
    let of = of_kind k.change.after kind (sym is ∙ k.same_kind) in
    record {
      change = k.change;
      can = record { known = k.known; there = (of.0, of.1, ap (act.is_reserved_kind t.mode) (sym of.2) ∙ h) };
      same_before = k.same_before;
      same_kind = of.2;
    }

pub changed_by : (t : ReadsAndWrites) (id : ObjectId) (c : Change Object) (can : CanChange t id c) (change : Object → Option Object) (d : DurableWorld) → Agrees d t.reads
    → change_object id change (current t d) ≡ (Ok tt, current (changing_object t id (record { before = c.before; after = change can.there.0 })) d)
changed_by t id c can change d agrees =
    ap (λ o. change_found o id change (current t d)) (can.known.after d agrees ∙ can.there.1)
    ∙ rw can.there.2 (ap (λ s. (Ok tt, s)) (current_changed t id (record { before = c.before; after = change can.there.0 }) d))

module _ {S : Type 0} {sights : Sights S} where
  -- a change of an object, done
  pub change_does : {a b : Txn S ReadsAndWrites} {id : ObjectId} {c : Change Object} {u : ReadsAndWrites} (f : Act (Unit {0})) (change : Object → Option Object) (new : Option Object)
      → Keeps sights a b → SameChanges a.set b.set → (can : CanChange b.set id c) → new ≡ change can.there.0 → u ≡ changing_object b.set id (record { before = c.before; after = new })
      → ((s : Run) → f s ≡ change_object id change s) → Does sights refusal_fault a (record { view = b.view; set = u }) f (Ok tt)
  change_does {a = a} {b = b} {id = id} {c = c} f change new k same can is e means =
      let done : Change Object = record { before = c.before; after = new } in
      let t : ReadsAndWrites = changing_object b.set id done in
      done_at t _ (keeps_changed k t refl refl refl (λ s. sound_object b.set id done s (can.known.before s)) (λ key due p m. m)) same refl e
      (λ d agrees. means (current b.set d) ∙ changed_by b.set id c can change d agrees ∙ ap (λ o. (Ok tt, current (changing_object b.set id (record { before = c.before; after = o })) d)) (sym is))

  -- the same by what the object was and its kind
  pub touch_does : {a b : Txn S ReadsAndWrites} {id : ObjectId} {before : Option Object} {kind : ℕ} {u : ReadsAndWrites} (f : Act (Unit {0})) (change : Object → Option Object) (new : Option Object)
      → Keeps sights a b → SameChanges a.set b.set → MayTouch b.set id before kind → ((o : Object) → o.kind ≡ kind → new ≡ change o) → u ≡ changing_object b.set id (record { before = before; after = new })
      → ((s : Run) → f s ≡ change_object id change s) → Does sights refusal_fault a (record { view = b.view; set = u }) f (Ok tt)
  touch_does {b = b} {id = id} f change new k same may is e means =
      change_does f change new k same may.can (is may.can.there.0 (sym may.same_kind)) (e ∙ ap (λ o. changing_object b.set id (record { before = o; after = new })) may.same_before) means

  -- and refused
  pub change_refused : {a b : Txn S ReadsAndWrites} {e : Refusal} (id : ObjectId) (f : Act (Unit {0})) (change : Object → Option Object)
      → Keeps sights a b → SameChanges a.set b.set → RefusesChange b.set id e → ((s : Run) → f s ≡ change_object id change s) → Does sights refusal_fault a b f (Err e)
  change_refused {a = a} {b = b} {e = e} id f change k same refuses means = record {
    keeps = k;
    does = does (refusal_fault e) refl;
  }
    where
      does : (o : Option AppFault) → refusal_fault e ≡ o → (s : Result (Unit {0}) AppFault) → failure o ≡ Some s → (d : DurableWorld) → Agrees d b.set.reads → f (current a.set d) ≡ (s, current b.set d)
      does None is s t = cc
      does (Some fault) is s t = λ d agrees.
          ap f (same_current a.set b.set d same) ∙ means (current b.set d) ∙ refuses fault is change d agrees ∙ ap (λ r. (r, current b.set d)) (Some_injective _ _ t)

  pub save_long : {a : Txn S ReadsAndWrites} {e : Refusal} (id : ObjectId) (bytes : List ℕ) → refusal_fault e ≡ Some (Refused 4) → act.is_too_long bytes ≡ true → Does sights refusal_fault a a (act.save id bytes) (Err e)
  unfolding act.save
  save_long id bytes is h = refused_here (Refused 4) is (λ d. rw h refl)

  module _ {a : Txn S ReadsAndWrites} (kind : ℕ) (bytes : List ℕ) where
    pub create_reserved : act.is_reserved_kind a.set.mode kind ≡ true → Does sights refusal_fault a a (act.create kind bytes) (Err refusal.Reserved)
    unfolding act.create
    create_reserved h = refused_here (Refused 6) refl (λ d. rw h refl)

    pub create_long : {e : Refusal} → refusal_fault e ≡ Some (Refused 4) → act.is_reserved_kind a.set.mode kind ≡ false → act.is_too_long bytes ≡ true → Does sights refusal_fault a a (act.create kind bytes) (Err e)
    unfolding act.create
    create_long is free h = refused_here (Refused 4) is (λ d. rw (free, h) refl)

    pub create_many : act.is_reserved_kind a.set.mode kind ≡ false → act.is_too_long bytes ≡ false → 65536 ≤ a.set.objects_made → Does sights refusal_fault a a (act.create kind bytes) (Err refusal.TooMany)
    unfolding act.create
    create_many free short h = refused_here (Refused 8) refl (λ d. rw (free, short, le_true 65536 a.set.objects_made h) refl)

    pub create_does : {u : ReadsAndWrites} (id : ObjectId) → act.is_reserved_kind a.set.mode kind ≡ false → act.is_too_long bytes ≡ false → a.set.objects_made < 65536
        → id ≡ new_id (a.set) → u ≡ creating (a.set) (record { kind = kind; bytes = bytes }) → Does sights refusal_fault a (record { view = a.view; set = u }) (act.create kind bytes) (Ok id)
    unfolding act.create
    create_does id free short few is e =
        let object : Object = record { kind = kind; bytes = bytes } in
        let made : ReadsAndWrites = record (a.set) { objects_made = a.set.objects_made + 1 } in
        let change : Change Object = record { before = None; after = Some object } in
        let t : ReadsAndWrites = creating (a.set) object in
        done_at t _ (keeps_changed keeps_all t refl refl refl (λ s. sound_object made (new_id (a.set)) change (sound_as (a.set) made refl refl refl refl refl s) (λ d agrees new. sym (new.objects (new_id (a.set)) refl))) (λ key due p m. m)) refl refl e
        (λ d agrees. rw (free, short, le_false 65536 a.set.objects_made few)
        (ap (λ s. (Ok (new_id (a.set)), s)) (current_changed made (new_id (a.set)) change d) ∙ ap (λ i. (Ok i, current t d)) (sym is)))

-- saving is a change of the object, where the bytes are not too long
pub save_means : (id : ObjectId) (bytes : List ℕ) → act.is_too_long bytes ≡ false → (s : Run) → act.save id bytes s ≡ change_object id (λ object. Some (record { kind = object.kind; bytes = bytes })) s
unfolding act.save
save_means id bytes short s = rw short refl

-- an error that is passed on tells the same length
pub length_same : {A : Type 0} (bytes : List ℕ) (e : Refusal) (r : Result A Refusal) → IsErrAnd r (λ h. h ≡ e) → TellsLength bytes e → IfErr r (TellsLength bytes)
length_same bytes e (Err h) is tells = subst (TellsLength bytes) (sym is) tells
length_same bytes e (Ok x) is tells = absurd is

-- an object that is not there is refused over no length
pub length_absent : (bytes : List ℕ) (o : Option Object) → IfErr (ok_or o refusal.ObjectNotFound) (TellsLength bytes)
length_absent bytes None = tt
length_absent bytes (Some object) = tt
