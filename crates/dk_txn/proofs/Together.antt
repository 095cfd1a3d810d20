-- What two changes that are made together do.
use Rattle.std.proofs.Common.{◌≡◌, ℕ, ◌+◌, ◌<◌, true, false, cond, Option, Some, None, is_some, List, ◌++◌, Result, Ok, Err, refl, sym, ap, subst, ◌∙◌, is_eq}
use Rattle.std.specs.declared.cmp.Ordering.TheVariants.{Less, Equal, Greater}
use Rattle.std.specs.List.{AllByRecursion}
use Rattle.std.specs.Result.{IsErrAnd}
use Rattle.std.specs.FinMap as map
use Rattle.std.specs.FinMap.{get-insert}
use Rattle.dk_types.specs.declared.number.ConnNo.{ConnNo}
use Rattle.dk_types.specs.declared.number.ObjectId.{ObjectId}
use Rattle.dk_types.specs.declared.object.Object.{Object}
use Rattle.dk_types.specs.declared.job.Out.{Out}
use Rattle.dk_types.specs.declared.fault.AppFault.{AppFault}
use Rattle.dk_types.specs.declared.mode.Mode.TheVariants.{Platform}
use Rattle.dk_types.specs.Keys.{id_cmp}
use Rattle.dk_model.specs.DurableWorlds.{DurableWorld, Agrees}
use Rattle.dk_model.specs.Runs as act
use Rattle.dk_model.specs.Runs.{Run, Act, and_then, carry_on, change_found, unbind_found}
use Rattle.dk_model.specs.Finishes.{IsNew}
use Rattle.dk_overlay.specs.declared.change.Change.{Change}
use Rattle.dk_overlay.specs.Changes.{value_now}
use Rattle.dk_overlay.specs.ReadsAndWrites.{ReadsAndWrites, changing_object, changing_name, new_id, creating}
use Rattle.dk_overlay.proofs.Keys.{ids_total, ids_same}
use Rattle.dk_overlay.proofs.Tests.{Some_injective}
use Rattle.dk_txn.specs.Current.{current}
use Rattle.dk_txn.specs.Layers.{layered, newest}
use Rattle.dk_txn.specs.Knowing.{IsSound}
use Rattle.dk_txn.specs.Pairs.{with_bytes, send_all}
use Rattle.dk_txn.specs.declared.refusal.Refusal.{Refusal}
use Rattle.dk_txn.specs.declared.refusal.Refusal.TheVariants as refusal
use Rattle.dk_txn.specs.declared.txn.Txn.{Txn}
use Rattle.dk_txn.specs.Refusals.{refusal_fault}
use Rattle.dk_txn.specs.Does.{Keeps, Does, SameChanges, KnownName, CanChange, RefusesChange, Stands, failure}
use Rattle.dk_txn.specs.Sights.{Sights}
use Rattle.dk_txn.proofs.Asking.{asks_changed}
use Rattle.dk_txn.proofs.Layers.{get-layered}
use Rattle.dk_txn.proofs.Sound.{sound_object, sound_name, sound_as}
use Rattle.dk_txn.proofs.Kit.{keeps_all, keeps_then, agreed}
use Rattle.dk_txn.proofs.Reading.{same_current}
use Rattle.dk_txn.proofs.ObjectCalls.{done_at, current_changed, le_false, forgotten}
use Rattle.dk_txn.proofs.NameCalls.{current_named, there_found}

-- what stands, still stands after more reads
pub stands_later : {S : Type 0} {sights : Sights S} {a b : Txn S ReadsAndWrites} (id : ObjectId) → Keeps sights a b → SameChanges a.set b.set → Stands a.set id → Stands b.set id
stands_later {a = a} {b = b} id k same stands d agrees = ap (λ (s : Run). is_some (map.get s.world.objects id)) (sym (same_current a.set b.set d same)) ∙ stands d (agreed k d agrees)

-- what stands is not refused to the platform
pub never_refused : (t : ReadsAndWrites) (id : ObjectId) (e : Refusal) → Stands t id → t.mode ≡ Platform → RefusesChange t id e → (fault : AppFault) → refusal_fault e ≡ Some fault → (d : DurableWorld) → Agrees d t.reads → ⊥
never_refused t id e stands mode refuses fault is d agrees = by (map.get (current t d).world.objects id) (stands d agrees) (refuses fault is (λ object. None) d agrees)
  where
    by : (o : Option Object) → is_some o ≡ true → change_found o id (λ object. None) (current t d) ≡ (Err fault, current t d) → ⊥
    by None there h = cc
    by (Some object) there h =
        let free : act.is_reserved_kind t.mode object.kind ≡ false = ap (λ m. act.is_reserved_kind m object.kind) mode in
        let told : ◌≡◌ {A = Result (Unit {0}) AppFault} (Ok tt) (Err fault) = ap (λ q. q.0) (rw free at h) in absurd cc

-- a refusal that no agreeing world can bring
pub never_comes : {S E A : Type 0} {sights : Sights S} {told : E → Option AppFault} {a b : Txn S ReadsAndWrites} {e : E} {f : Act A} → Keeps sights a b
    → ((fault : AppFault) → told e ≡ Some fault → (d : DurableWorld) → Agrees d b.set.reads → ⊥) → Does sights told a b f (Err e)
never_comes {A = A} {told = told} {a = a} {b = b} {e = e} {f = f} k never = record { keeps = k; does = by (told e) refl }
  where
    by : (o : Option AppFault) → told e ≡ o → (s : Result A AppFault) → failure o ≡ Some s → (d : DurableWorld) → Agrees d b.set.reads → f (current a.set d) ≡ (s, current b.set d)
    by None is s t = cc
    by (Some fault) is s t = λ d agrees. absurd (never fault is d agrees)

-- there was no memory, and only reads were added
pub starves : {S A : Type 0} {sights : Sights S} {a b : Txn S ReadsAndWrites} {f : Act A} {u : ReadsAndWrites} {r : Result A Refusal} → Keeps sights a b → u ≡ b.set → IsErrAnd r (λ h. h ≡ refusal.NoMemory)
    → Does sights refusal_fault a (record { view = b.view; set = u }) f r
starves {sights = sights} {a = a} {b = b} {f = f} {r = Err h} k e is =
    subst (λ (l : ReadsAndWrites). Does sights refusal_fault a (record { view = b.view; set = l }) f (Err h)) (sym e) (subst (λ (x : Refusal). Does sights refusal_fault a b f (Err x)) (sym is) (forgotten k))
starves {r = Ok x} k e is = absurd is

-- two steps that are answered
pub two_steps : {A B : Type 0} (f : Act A) (g : A → Act B) (x : A) (y : B) (s u v : Run) → f s ≡ (Ok x, u) → g x u ≡ (Ok y, v) → and_then f g s ≡ (Ok y, v)
unfolding and_then
two_steps f g x y s u v first second = ap (λ q. carry_on q.0 g q.1) first ∙ second

module _ (t : ReadsAndWrites) (d : DurableWorld) where
  -- an object is made
  created_at : (kind : ℕ) (bytes : List ℕ) → act.is_reserved_kind t.mode kind ≡ false → act.is_too_long bytes ≡ false → t.objects_made < 65536
      → act.create kind bytes (current t d) ≡ (Ok (new_id t), current (creating t (record { kind = kind; bytes = bytes })) d)
  unfolding act.create
  created_at kind bytes free short few =
      let numbered : ReadsAndWrites = record t { objects_made = t.objects_made + 1 } in
      rw (free, short, le_false 65536 t.objects_made few) (ap (λ s. (Ok (new_id t), s)) (current_changed numbered (new_id t) (record { before = None; after = Some (record { kind = kind; bytes = bytes }) }) d))

  -- a name is bound, or unbound where it is bound
  bound_at : (name : List ℕ) (before : Option ObjectId) (id : ObjectId) → act.is_reserved_name t.mode name ≡ false → act.bind name id (current t d) ≡ (Ok tt, current (changing_name t name (record { before = before; after = Some id })) d)
  unfolding act.bind
  bound_at name before id free = rw free (ap (λ s. (Ok tt, s)) (current_named t name (record { before = before; after = Some id }) d))

  unbound_at : (name : List ℕ) (before was : Option ObjectId) → map.get (layered value_now t.names d.names) name ≡ was → is_some was ≡ true → act.is_reserved_name t.mode name ≡ false
      → act.unbind name (current t d) ≡ (Ok tt, current (changing_name t name (record { before = before; after = None })) d)
  unfolding act.unbind
  unbound_at name before was is there free =
      rw free (ap (λ o. unbind_found o name (current t d)) (is ∙ (there_found was there).1) ∙ ap (λ s. (Ok tt, s)) (current_named t name (record { before = before; after = None }) d))

  module _ (id : ObjectId) (before : Option Object) (object : Object) (there : map.get (layered value_now t.objects d.objects) id ≡ Some object) (free : act.is_reserved_kind t.mode object.kind ≡ false) where
    -- an object that stands is removed, or saved
    removed_at : act.remove id (current t d) ≡ (Ok tt, current (changing_object t id (record { before = before; after = None })) d)
    unfolding act.remove
    removed_at = ap (λ o. change_found o id (λ object. None) (current t d)) there ∙ rw free (ap (λ s. (Ok tt, s)) (current_changed t id (record { before = before; after = None }) d))

    pub saved_at : (bytes : List ℕ) → act.is_too_long bytes ≡ false → act.save id bytes (current t d) ≡ (Ok tt, current (changing_object t id (record { before = before; after = Some (record { kind = object.kind; bytes = bytes }) })) d)
    unfolding act.save
    saved_at bytes short =
        rw short (ap (λ o. change_found o id (λ object. Some (record { kind = object.kind; bytes = bytes })) (current t d)) there
        ∙ rw free (ap (λ s. (Ok tt, s)) (current_changed t id (record { before = before; after = Some (record { kind = object.kind; bytes = bytes }) }) d)))

-- after one object was saved, each that stood stands with its kind
pub still_there : (t : ReadsAndWrites) (id q : ObjectId) (bytes : List ℕ) (before : Option Object) (object other : Object) (d : DurableWorld) → map.get (layered value_now t.objects d.objects) id ≡ Some object → map.get (layered value_now t.objects d.objects) q ≡ Some other
    → (now : Object) × (map.get (layered value_now (map.insert t.objects id (record { before = before; after = Some (record { kind = object.kind; bytes = bytes }) })) d.objects) q ≡ Some now) × (now.kind ≡ other.kind)
still_there t id q bytes before object other d there stood =
    let change : Change Object = record { before = before; after = Some (record { kind = object.kind; bytes = bytes }) } in
    let found = get-layered ids_total ids_same value_now (map.insert t.objects id change) d.objects q ∙ ap (λ o. newest value_now o (map.get d.objects q)) (get-insert ids_total t.objects id change q) in
    let was : newest value_now (map.get t.objects q) (map.get d.objects q) ≡ Some other = sym (get-layered ids_total ids_same value_now t.objects d.objects q) ∙ stood in
    elim (id_cmp q id) as (λ r. id_cmp q id ≡ r → map.get (layered value_now (map.insert t.objects id change) d.objects) q ≡ newest value_now (cond (is_eq r) (Some change) (map.get t.objects q)) (map.get d.objects q)
    → (now : Object) × (map.get (layered value_now (map.insert t.objects id change) d.objects) q ≡ Some now) × (now.kind ≡ other.kind)) [
      | Less ↦ λ _ f. (other, f ∙ was, refl)
      | Equal ↦ λ e f. (
        record { kind = object.kind; bytes = bytes },
        f,
        ap (λ (o : Object). o.kind) (Some_injective _ _ (sym there ∙ ap (map.get (layered value_now t.objects d.objects)) (sym (ids_same q id e)) ∙ stood)),
      )
      | Greater ↦ λ _ f. (other, f ∙ was, refl)
    ] refl found

-- the change of an object that stood, with other bytes
pub with_bytes_is : (c : Change Object) (object : Object) (bytes : List ℕ) → c.after ≡ Some object → with_bytes c bytes ≡ record { before = c.before; after = Some (record { kind = object.kind; bytes = bytes }) }
with_bytes_is c object bytes is = ap (λ o. with_bytes (record { before = c.before; after = o }) bytes) is

-- what changes that were made together keep, with the view as it was
pub keeps_so : {S : Type 0} {sights : Sights S} {a b : Txn S ReadsAndWrites} → Keeps sights a b → (t : ReadsAndWrites) → t.reads ≡ b.set.reads → t.run ≡ b.set.run → t.at ≡ b.set.at → t.tasks ≡ b.set.tasks → (IsSound a.set → IsSound t)
    → Keeps sights a (record { view = b.view; set = t })
keeps_so {sights = sights} {b = b} k t reads run at tasks sound = record {
  same_view = k.same_view;
  reads_stay = (k.reads_stay.0, reads ∙ k.reads_stay.1);
  becomes = k.becomes;
  asks = asks_changed t k.asks reads;
  given = λ h. record { given = subst (λ rs. AllByRecursion (λ r. sights.gave b.view.now r.0 r.1) rs) (sym reads) (k.given h).given };
  same_run = run ∙ k.same_run;
  same_at = at ∙ k.same_at;
  sound = sound;
  moves = λ key due p m q from to h. k.moves key due p m q from to (ap (λ ts. map.get ts q) (sym tasks) ∙ h);
}

module _ {S : Type 0} {sights : Sights S} where
  -- an object was made and a name bound to it
  pub bound_new : {a b : Txn S ReadsAndWrites} {name : List ℕ} {c : Change ObjectId} {u : ReadsAndWrites} (kind : ℕ) (bytes : List ℕ) → a.set.mode ≡ Platform → act.is_too_long bytes ≡ false → a.set.objects_made < 65536
      → Keeps sights a b → SameChanges a.set b.set → KnownName b.set name c
      → u ≡ changing_name (creating b.set (record { kind = kind; bytes = bytes })) name (record { before = c.before; after = Some (new_id b.set) })
      → Does sights refusal_fault a (record { view = b.view; set = u }) (and_then (act.create kind bytes) (λ id. act.bind name id)) (Ok tt)
  bound_new {a = a} {b = b} {name = name} {c = c} kind bytes mode short few k same known e =
      let object : Object = record { kind = kind; bytes = bytes } in
      let numbered : ReadsAndWrites = record (b.set) { objects_made = b.set.objects_made + 1 } in
      let made : Change Object = record { before = None; after = Some object } in
      let t : ReadsAndWrites = changing_name (creating b.set object) name (record { before = c.before; after = Some (new_id b.set) }) in
      let mode_now : b.set.mode ≡ Platform = ap (λ (l : ReadsAndWrites). l.mode) same ∙ mode in
      let few_now : b.set.objects_made < 65536 = subst (λ n. n < 65536) (sym (ap (λ (l : ReadsAndWrites). l.objects_made) same)) few in
      let sound : IsSound a.set → IsSound t =
      λ s. let own = k.sound s in
      sound_name (creating b.set object) name (record { before = c.before; after = Some (new_id b.set) })
      (sound_object numbered (new_id b.set) made (sound_as b.set numbered refl refl refl refl refl own) (λ d agrees new. sym (new.objects (new_id b.set) refl))) (λ d agrees new. known.before own d agrees new) in
      done_at t _ (keeps_so k t refl refl refl refl sound) same refl e (λ d agrees.
      two_steps (act.create kind bytes) (λ id. act.bind name id) (new_id b.set) tt (current b.set d) (current (creating b.set object) d) (current t d)
      (created_at b.set d kind bytes (ap (λ m. act.is_reserved_kind m kind) mode_now) short few_now)
      (bound_at (creating b.set object) d name c.before (new_id b.set) (ap (λ m. act.is_reserved_name m name) mode_now)))

  module _ {a b c : Txn S ReadsAndWrites} (k : Keeps sights a b) (l : Keeps sights b c) (same : SameChanges a.set b.set) (again : SameChanges b.set c.set) where
    still_same : SameChanges a.set c.set
    still_same = again ∙ ap (λ (t : ReadsAndWrites). record t { reads = c.set.reads }) same

    -- a name was unbound and an object removed
    pub both_gone : {name : List ℕ} {id : ObjectId} {n : Change ObjectId} {o : Change Object} {u : ReadsAndWrites} → a.set.mode ≡ Platform → KnownName b.set name n → is_some n.after ≡ true → CanChange c.set id o
        → u ≡ changing_object (changing_name c.set name (record { before = n.before; after = None })) id (record { before = o.before; after = None })
        → Does sights refusal_fault a (record { view = c.view; set = u }) (and_then (act.unbind name) (λ _. act.remove id)) (Ok tt)
    both_gone {name = name} {id = id} {n = n} {o = o} mode known there can e =
        let unbound : Change ObjectId = record { before = n.before; after = None } in
        let removed : Change Object = record { before = o.before; after = None } in
        let mid : ReadsAndWrites = changing_name c.set name unbound in
        let t : ReadsAndWrites = changing_object mid id removed in
        let mode_now : c.set.mode ≡ Platform = ap (λ (t : ReadsAndWrites). t.mode) still_same ∙ mode in
        let sound : IsSound a.set → IsSound t =
        λ s. let own = k.sound s in
        sound_object mid id removed (sound_name c.set name unbound (l.sound own) (λ d agrees new. known.before own d (agreed l d agrees) (subst (IsNew d) l.same_run new))) (λ d agrees new. can.known.before (l.sound own) d agrees new) in
        done_at t _ (keeps_so (keeps_then k l) t refl refl refl refl sound) still_same refl e (λ d agrees.
        two_steps (act.unbind name) (λ _. act.remove id) tt tt (current c.set d) (current mid d) (current t d)
        (unbound_at c.set d name n.before n.after (ap (λ (t : ReadsAndWrites). map.get (layered value_now t.names d.names) name) again ∙ known.after d (agreed l d agrees)) there (ap (λ m. act.is_reserved_name m name) mode_now))
        (removed_at mid d id o.before can.there.0 (can.known.after d agrees ∙ can.there.1) can.there.2))

    -- two objects were saved
    pub both_saved : {first second : ObjectId} {f s : Change Object} {u : ReadsAndWrites} (payload behind : List ℕ) → act.is_too_long payload ≡ false → act.is_too_long behind ≡ false → CanChange b.set first f → CanChange c.set second s
        → u ≡ changing_object (changing_object c.set first (with_bytes f payload)) second (with_bytes s behind)
        → Does sights refusal_fault a (record { view = c.view; set = u }) (and_then (act.save first payload) (λ _. act.save second behind)) (Ok tt)
    both_saved {first = first} {second = second} {f = f} {s = s} payload behind short next_short can next e =
        let one : Change Object = record { before = f.before; after = Some (record { kind = can.there.0.kind; bytes = payload }) } in
        let two : Change Object = record { before = s.before; after = Some (record { kind = next.there.0.kind; bytes = behind }) } in
        let mid : ReadsAndWrites = changing_object c.set first one in
        let t : ReadsAndWrites = changing_object mid second two in
        let is : with_bytes f payload ≡ one = with_bytes_is f can.there.0 payload can.there.1 in
        let next_is : with_bytes s behind ≡ two = with_bytes_is s next.there.0 behind next.there.1 in
        let sound : IsSound a.set → IsSound t =
        λ h. let own = k.sound h in
        sound_object mid second two (sound_object c.set first one (l.sound own) (λ d agrees new. can.known.before own d (agreed l d agrees) (subst (IsNew d) l.same_run new))) (λ d agrees new. next.known.before (l.sound own) d agrees new) in
        done_at t _ (keeps_so (keeps_then k l) t refl refl refl refl sound) still_same refl (e ∙ (λ i. changing_object (changing_object c.set first (is i)) second (next_is i))) (λ d agrees.
        let there = ap (λ (t : ReadsAndWrites). map.get (layered value_now t.objects d.objects) first) again ∙ can.known.after d (agreed l d agrees) ∙ can.there.1 in
        let now = still_there c.set first second payload f.before can.there.0 next.there.0 d there (next.known.after d agrees ∙ next.there.1) in
        two_steps (act.save first payload) (λ _. act.save second behind) tt tt (current c.set d) (current mid d) (current t d)
        (saved_at c.set d first f.before can.there.0 there (ap (λ (t : ReadsAndWrites). act.is_reserved_kind t.mode can.there.0.kind) again ∙ can.there.2) payload short)
        (saved_at mid d second s.before now.0 now.1 (ap (λ n. act.is_reserved_kind c.set.mode n) now.2 ∙ next.there.2) behind next_short
        ∙ ap (λ n. (Ok tt, current (changing_object mid second (record { before = s.before; after = Some (record { kind = n; bytes = behind }) })) d)) now.2))

  -- all these messages were sent
  pub all_sent : {a : Txn S ReadsAndWrites} {u : ReadsAndWrites} (messages : List (ConnNo × Out)) → u ≡ record (a.set) { outs = a.set.outs ++ messages } → Does sights refusal_fault a (record { view = a.view; set = u }) (send_all messages) (Ok tt)
  unfolding send_all
  all_sent {a = a} messages e =
      let t : ReadsAndWrites = record (a.set) { outs = a.set.outs ++ messages } in
      done_at t _ (keeps_so keeps_all t refl refl refl refl (λ s. sound_as a.set t refl refl refl refl refl s)) refl refl e (λ d agrees. refl)
