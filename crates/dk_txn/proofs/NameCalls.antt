-- What each call on names does, but for the next name.
use Rattle.std.proofs.Common.{◌≡◌, ℕ, true, false, Option, Some, None, is_some, List, Result, Ok, Err, refl, sym, ap, ◌∙◌}
use Rattle.std.specs.Option.{ok_or}
use Rattle.std.specs.FinMap as map
use Rattle.dk_types.specs.declared.number.ObjectId.{ObjectId}
use Rattle.dk_types.specs.declared.item.Item.TheVariants as item
use Rattle.dk_types.specs.declared.item.Answer.{Answer}
use Rattle.dk_types.specs.declared.fault.AppFault.TheVariants.{Refused}
use Rattle.dk_model.specs.DurableWorlds.{DurableWorld, Agrees, answer}
use Rattle.dk_model.specs.Runs as act
use Rattle.dk_model.specs.Runs.{found, with_name, unbind_found}
use Rattle.dk_overlay.specs.declared.change.Change.{Change}
use Rattle.dk_overlay.specs.Answers.{id_in}
use Rattle.dk_txn.proofs.Answering.{id_in-answer}
use Rattle.dk_overlay.specs.Changes.{value_now}
use Rattle.dk_txn.specs.Layers.{newest}
use Rattle.dk_overlay.specs.ReadsAndWrites.{ReadsAndWrites, changing_name}
use Rattle.dk_txn.specs.Current.{current}
use Rattle.dk_overlay.proofs.Keys.{names_total, names_same}
use Rattle.dk_txn.proofs.Layers.{get-layered, layered-insert}
use Rattle.dk_txn.proofs.Sound.{sound_name}
use Rattle.dk_overlay.proofs.Tests.{Some_injective}
use Rattle.dk_txn.specs.declared.refusal.Refusal.{Refusal}
use Rattle.dk_txn.specs.declared.refusal.Refusal.TheVariants as refusal
use Rattle.dk_txn.specs.declared.txn.Txn.{Txn}
use Rattle.dk_txn.specs.Bindings.{binding}
use Rattle.dk_txn.specs.Refusals.{refusal_fault}
use Rattle.dk_txn.specs.Does.{Keeps, Does, SameChanges, KnownName, outcome_of_result}
use Rattle.dk_txn.proofs.Reading.{same_current, keeps_changed, told_found}
use Rattle.dk_txn.proofs.ObjectCalls.{refused_at, refused_here, done_at}
use Rattle.dk_txn.specs.Sights.{Sights}

pub name_changed : (t : ReadsAndWrites) (name : List ℕ) (c : Change ObjectId) → map.get t.names name ≡ Some c → KnownName t name c
name_changed t name c h = record {
  after = λ d agrees. get-layered names_total names_same value_now t.names d.names name ∙ ap (λ o. newest value_now o (map.get d.names name)) h;
  before = λ s d agrees new. (s.knows d agrees new).names name c h;
}

pub name_asked : (t : ReadsAndWrites) (name : List ℕ) (said : Answer) (o : Option ObjectId) → map.get t.names name ≡ None → o ≡ id_in said
    → ((d : DurableWorld) → Agrees d t.reads → answer d (item.Bound name) ≡ said) → KnownName t name (record { before = o; after = o })
name_asked t name said o none e h =
    let was : (d : DurableWorld) → Agrees d t.reads → map.get d.names name ≡ o = λ d agrees. sym (id_in-answer (map.get d.names name)) ∙ ap id_in (h d agrees) ∙ sym e in
    record {
      after = λ d agrees. get-layered names_total names_same value_now t.names d.names name ∙ ap (λ c. newest value_now c (map.get d.names name)) none ∙ was d agrees;
      before = λ s d agrees new. sym (was d agrees);
    }

-- the run after one change of a name
pub current_named : (t : ReadsAndWrites) (name : List ℕ) (c : Change ObjectId) (d : DurableWorld) → with_name (current t d) name c.after ≡ current (changing_name t name c) d
current_named t name c d = ap (λ m. record (current (changing_name t name c) d) { world = record ((current t d).world) { names = m } }) (sym (layered-insert names_total names_same value_now t.names d.names name c))

pub there_found : {A : Type 0} (o : Option A) → is_some o ≡ true → (v : A) × (o ≡ Some v)
there_found None h = cc
there_found (Some v) h = (v, refl)

none_found : {A : Type 0} (o : Option A) → is_some o ≡ false → o ≡ None
none_found None h = refl
none_found (Some v) h = cc

module _ {S : Type 0} {sights : Sights S} where
  pub bound_does : {a b : Txn S ReadsAndWrites} {name : List ℕ} {c : Change ObjectId} → Keeps sights a b → SameChanges a.set b.set → KnownName b.set name c → (r : Result ObjectId Refusal) → r ≡ ok_or c.after refusal.NameNotBound
      → Does sights refusal_fault a b (act.bound name) r
  unfolding act.bound
  bound_does {a = a} {b = b} {name = name} {c = c} k same known r e = record {
    keeps = k;
    does = λ s told d agrees.
        ap (act.bound name) (same_current a.set b.set d same)
        ∙ ap (λ o. (found 1 o, current b.set d)) (known.after d agrees)
        ∙ ap (λ x. (x, current b.set d)) (told_found 1 refusal.NameNotBound refl c.after s (ap (outcome_of_result refusal_fault) (sym e) ∙ told));
  }

  pub binding_does : {a b : Txn S ReadsAndWrites} {name : List ℕ} {c : Change ObjectId} → Keeps sights a b → SameChanges a.set b.set → KnownName b.set name c → Does sights refusal_fault a b (binding name) (Ok c.after)
  unfolding binding
  binding_does {a = a} {b = b} {name = name} k same known = record {
    keeps = k;
    does = λ s told d agrees.
        ap (binding name) (same_current a.set b.set d same)
        ∙ ap (λ o. (Ok o, current b.set d)) (known.after d agrees)
        ∙ ap (λ x. (x, current b.set d)) (Some_injective _ _ told);
  }

  pub bind_reserved : {a : Txn S ReadsAndWrites} (name : List ℕ) (id : ObjectId) → act.is_reserved_name a.set.mode name ≡ true → Does sights refusal_fault a a (act.bind name id) (Err refusal.Reserved)
  unfolding act.bind
  bind_reserved name id h = refused_here (Refused 6) refl (λ d. rw h refl)

  pub bind_does : {a b : Txn S ReadsAndWrites} {name : List ℕ} {c : Change ObjectId} {u : ReadsAndWrites} (id : ObjectId) → act.is_reserved_name a.set.mode name ≡ false
      → Keeps sights a b → SameChanges a.set b.set → KnownName b.set name c → u ≡ changing_name b.set name (record { before = c.before; after = Some id })
      → Does sights refusal_fault a (record { view = b.view; set = u }) (act.bind name id) (Ok tt)
  unfolding act.bind
  bind_does {a = a} {b = b} {name = name} {c = c} id free k same known e =
      let change : Change ObjectId = record { before = c.before; after = Some id } in
      let t : ReadsAndWrites = changing_name b.set name change in
      let open_now : act.is_reserved_name b.set.mode name ≡ false = ap (λ (l : ReadsAndWrites). act.is_reserved_name l.mode name) same ∙ free in
      done_at t _ (keeps_changed k t refl refl refl (λ s. sound_name b.set name change s (known.before s)) (λ key due p m. m)) same refl e
      (λ d agrees. rw open_now (ap (λ s. (Ok tt, s)) (current_named b.set name change d)))

  pub unbind_reserved : {a : Txn S ReadsAndWrites} (name : List ℕ) → act.is_reserved_name a.set.mode name ≡ true → Does sights refusal_fault a a (act.unbind name) (Err refusal.Reserved)
  unfolding act.unbind
  unbind_reserved name h = refused_here (Refused 6) refl (λ d. rw h refl)

  pub unbind_does : {a b : Txn S ReadsAndWrites} {name : List ℕ} {c : Change ObjectId} {u : ReadsAndWrites} → act.is_reserved_name a.set.mode name ≡ false
      → Keeps sights a b → SameChanges a.set b.set → KnownName b.set name c → is_some c.after ≡ true → u ≡ changing_name b.set name (record { before = c.before; after = None })
      → Does sights refusal_fault a (record { view = b.view; set = u }) (act.unbind name) (Ok tt)
  unfolding act.unbind
  unbind_does {a = a} {b = b} {name = name} {c = c} free k same known there e =
      let change : Change ObjectId = record { before = c.before; after = None } in
      let t : ReadsAndWrites = changing_name b.set name change in
      let open_now : act.is_reserved_name b.set.mode name ≡ false = ap (λ (l : ReadsAndWrites). act.is_reserved_name l.mode name) same ∙ free in
      done_at t _ (keeps_changed k t refl refl refl (λ s. sound_name b.set name change s (known.before s)) (λ key due p m. m)) same refl e
      (λ d agrees. rw open_now (ap (λ o. unbind_found o name (current b.set d)) (known.after d agrees ∙ (there_found c.after there).1) ∙ ap (λ s. (Ok tt, s)) (current_named b.set name change d)))

  pub unbind_refused : {a b : Txn S ReadsAndWrites} {name : List ℕ} {c : Change ObjectId} → act.is_reserved_name a.set.mode name ≡ false
      → Keeps sights a b → SameChanges a.set b.set → KnownName b.set name c → is_some c.after ≡ false → Does sights refusal_fault a b (act.unbind name) (Err refusal.NameNotBound)
  unfolding act.unbind
  unbind_refused {a = a} {b = b} {name = name} {c = c} free k same known gone =
      let open_now : act.is_reserved_name b.set.mode name ≡ false = ap (λ (l : ReadsAndWrites). act.is_reserved_name l.mode name) same ∙ free in
      refused_at (Refused 1) k same refl (λ d agrees. rw open_now (ap (λ o. unbind_found o name (current b.set d)) (known.after d agrees ∙ none_found c.after gone)))
