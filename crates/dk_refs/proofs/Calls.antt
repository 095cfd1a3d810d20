-- What each call of a reference does, from the calls of the transaction that it made.
use Rattle.std.proofs.Common.{◌≡◌, ℕ, ◌==◌, Bool, true, false, if◌then◌else◌, Option, Some, None, List, Result, Ok, Err, refl, sym, ap, subst, ◌∙◌, arith}
use Rattle.std.proofs.lemmas.Bool.Decides.{nat_tests}
use Rattle.std.specs.Option.{ok_or}
use Rattle.std.specs.Result.{IsErrAnd, IfErr}
use Rattle.std.specs.FinMap as map
use Rattle.dk_types.specs.declared.number.ObjectId.{ObjectId}
use Rattle.dk_types.specs.declared.object.Object.{Object}
use Rattle.dk_types.specs.declared.fault.AppFault.{AppFault}
use Rattle.dk_types.specs.declared.fault.AppFault.TheVariants.{Refused}
use Rattle.dk_model.specs.DurableWorlds.{DurableWorld, Agrees}
use Rattle.dk_model.specs.Runs as act
use Rattle.dk_model.specs.Runs.{Run, Act, and_then, found, change_found}
use Rattle.dk_model.specs.References.{get_as, get_for_update_as, save_as}
use Rattle.dk_overlay.specs.ReadsAndWrites.{ReadsAndWrites}
use Rattle.dk_txn.specs.Current.{current}
use Rattle.dk_overlay.proofs.Tests.{Some_injective}
use Rattle.dk_txn.specs.declared.refusal.Refusal.{Refusal}
use Rattle.dk_txn.specs.declared.refusal.Refusal.TheVariants as refusal
use Rattle.dk_txn.specs.declared.txn.Txn.{Txn}
use Rattle.dk_txn.specs.Refusals.{refusal_fault}
use Rattle.dk_txn.specs.Does.{Does, failure}
use Rattle.dk_txn.proofs.Kit.{keeps_all, then_does, give_does, stops}
use Rattle.dk_txn.proofs.ObjectCalls.{refused_here}
use Rattle.dk_refs.specs.Telling.{kind_of, TellsKind}
use Rattle.dk_txn.specs.Sights.{Sights}

eq_true : (a b : ℕ) → a ≡ b → (a == b) ≡ true
eq_true a b h = grind (arith, nat_tests)

eq_false : (a b : ℕ) → (a ≡ b → ⊥) → (a == b) ≡ false
eq_false a b h = grind (arith, nat_tests)

found_some : {A : Type 0} (n : ℕ) (o : Option A) (x : A) → found n o ≡ Ok x → o ≡ Some x
found_some n None x e = cc
found_some n (Some y) x e = cc

-- an object that is found stands
stands_at : (id : ObjectId) (s t : Run) (object : Object) → act.get id s ≡ (Ok object, t) → map.get t.world.objects id ≡ Some object
unfolding act.get
stands_at id s t object e = subst (λ (u : Run). map.get u.world.objects id ≡ Some object) (ap (λ p. p.1) e) (found_some 2 (map.get s.world.objects id) object (ap (λ p. p.0) e))

-- where no agreeing world refuses so, nothing is told of a kind
tells_nothing : (t : ReadsAndWrites) (id : ObjectId) (e : Refusal) → (refusal_fault e ≡ Some (Refused 3) → (d : DurableWorld) → Agrees d t.reads → ⊥) → TellsKind t id e
tells_nothing t id (refusal.WrongKind other) h = λ d agrees. absurd (h refl d agrees)
tells_nothing t id refusal.NameNotBound h = tt
tells_nothing t id refusal.ObjectNotFound h = tt
tells_nothing t id (refusal.TooLong len) h = tt
tells_nothing t id refusal.BadDelay h = tt
tells_nothing t id refusal.Reserved h = tt
tells_nothing t id refusal.NoMemory h = tt
tells_nothing t id refusal.TooMany h = tt
tells_nothing t id refusal.NameExists h = tt
tells_nothing t id refusal.BadBytes h = tt

-- a refusal by another number is not by 3
not_three : {A : Type 0} (n : ℕ) (o : Option A) → (n ≡ 3 → ⊥) → found n o ≡ Err (Refused 3) → ⊥
not_three n None other e = let same : n ≡ 3 = cc in other same
not_three n (Some x) other e = cc

two : ◌≡◌ {A = ℕ} 2 3 → ⊥
two e = cc

four : ◌≡◌ {A = ℕ} 4 3 → ⊥
four e = cc

six : ◌≡◌ {A = ℕ} 6 3 → ⊥
six e = cc

touched_other : (b : Bool) (s t u : Run) → ◌≡◌ {A = Result (Unit {0}) AppFault × Run} (if b then act.refuse 6 s else (Ok tt, u)) (Err (Refused 3), t) → ⊥
touched_other true s t u e = not_three {A = Unit {0}} 6 None six (ap (λ p. p.0) e)
touched_other false s t u e = not_three {A = Unit {0}} 6 (Some tt) six (ap (λ p. p.0) e)

change_other : (o : Option Object) (id : ObjectId) (change : Object → Option Object) (s t : Run) → change_found o id change s ≡ (Err (Refused 3), t) → ⊥
change_other None id change s t e = not_three {A = Unit {0}} 2 None two (ap (λ p. p.0) e)
change_other (Some object) id change s t e = touched_other (act.is_reserved_kind s.mode object.kind) s t (act.with_object s id (change object)) e

-- an error that is passed on is as it was
pub passed : {A : Type 0} (Holds : Refusal → Type 0) (e : Refusal) (r : Result A Refusal) → IsErrAnd r (λ h. h ≡ e) → Holds e → IfErr r Holds
passed Holds e (Err h) is holds = subst Holds (sym is) holds
passed Holds e (Ok x) is holds = absurd is

module _ {S : Type 0} {sights : Sights S} where
  -- the answer is known, and nothing is done
  pub answered_here : {a : Txn S ReadsAndWrites} {A : Type 0} {f : Act A} {x : A} → ((d : DurableWorld) → f (current a.set d) ≡ (Ok x, current a.set d)) → Does sights refusal_fault a a f (Ok x)
  answered_here {a = a} h = record { keeps = keeps_all; does = λ s t d agrees. h d ∙ ap (λ r. (r, current a.set d)) (Some_injective _ _ t) }

  module _ {a b : Txn S ReadsAndWrites} {A : Type 0} (id : ObjectId) (kind : ℕ) (read : List ℕ → Option A) where
    pub get_stops : {e : Refusal} {r : Result A Refusal} → Does sights refusal_fault a b (act.get id) (Err e) → IsErrAnd r (λ h. h ≡ e) → Does sights refusal_fault a b (get_as kind read id) r
    unfolding get_as
    get_stops p is = stops _ p is

    pub update_stops : {e : Refusal} {r : Result A Refusal} → Does sights refusal_fault a b (get_as kind read id) (Err e) → IsErrAnd r (λ h. h ≡ e) → Does sights refusal_fault a b (get_for_update_as kind read id) r
    unfolding get_for_update_as
    update_stops p is = stops _ p is

    pub update_halts : {c : Txn S ReadsAndWrites} {x : A} {e : Refusal} {r : Result A Refusal} → Does sights refusal_fault a b (get_as kind read id) (Ok x) → Does sights refusal_fault b c (act.mark id) (Err e)
        → IsErrAnd r (λ h. h ≡ e) → Does sights refusal_fault a c (get_for_update_as kind read id) r
    unfolding get_for_update_as
    update_halts p q is = then_does _ p (stops _ q is)

    pub update_does : {c : Txn S ReadsAndWrites} {x : A} → Does sights refusal_fault a b (get_as kind read id) (Ok x) → Does sights refusal_fault b c (act.mark id) (Ok tt) → Does sights refusal_fault a c (get_for_update_as kind read id) (Ok x)
    unfolding get_for_update_as
    update_does p q = then_does _ p (then_does _ q give_does)

  pub save_stops : {a b : Txn S ReadsAndWrites} {e : Refusal} {r : Result (Unit {0}) Refusal} (id : ObjectId) (kind : ℕ) (bytes : List ℕ) → Does sights refusal_fault a b (act.get id) (Err e) → IsErrAnd r (λ h. h ≡ e)
      → Does sights refusal_fault a b (save_as kind id bytes) r
  unfolding save_as
  save_stops id kind bytes p is = stops _ p is

  module _ {a b : Txn S ReadsAndWrites} (id : ObjectId) (object : Object) (got : Does sights refusal_fault a b (act.get id) (Ok object)) where
    -- the object has a kind of its own
    pub found_kind : TellsKind b.set id (refusal.WrongKind object.kind)
    found_kind d agrees = ap kind_of (stands_at id (current a.set d) (current b.set d) object (got.does (Ok object) refl d agrees))

    module _ {A : Type 0} (kind : ℕ) (read : List ℕ → Option A) where
      pub get_wrong : {told : ℕ} → (object.kind ≡ kind → ⊥) → Does sights refusal_fault a b (get_as kind read id) (Err (refusal.WrongKind told))
      unfolding get_as
      get_wrong other = then_does _ got (refused_here (Refused 3) refl (λ d. rw (eq_false object.kind kind other) refl))

      -- the bytes of an object of the right kind are read
      pub get_read : (r : Result A Refusal) → object.kind ≡ kind → r ≡ ok_or (read object.bytes) refusal.BadBytes → Does sights refusal_fault a b (get_as kind read id) r
      unfolding get_as
      get_read r same is = then_does _ got (subst (λ (r : Result A Refusal). Does sights refusal_fault b b (λ s. if object.kind == kind then (found 10 (read object.bytes), s) else act.refuse 3 s) r) (sym is) (by (read object.bytes)))
        where
          by : (o : Option A) → Does sights refusal_fault b b (λ s. if object.kind == kind then (found 10 o, s) else act.refuse 3 s) (ok_or o refusal.BadBytes)
          by None = refused_here (Refused 10) refl (λ d. rw (eq_true object.kind kind same) refl)
          by (Some x) = answered_here (λ d. rw (eq_true object.kind kind same) refl)

    module _ (kind : ℕ) (bytes : List ℕ) where
      pub save_wrong : {told : ℕ} → (object.kind ≡ kind → ⊥) → Does sights refusal_fault a b (save_as kind id bytes) (Err (refusal.WrongKind told))
      unfolding save_as
      save_wrong other = then_does _ got (rw (eq_false object.kind kind other) (refused_here (Refused 3) refl (λ d. refl)))

      -- an object of the right kind is saved
      pub save_right : {c : Txn S ReadsAndWrites} {r : Result (Unit {0}) Refusal} → object.kind ≡ kind → Does sights refusal_fault b c (act.save id bytes) r → Does sights refusal_fault a c (save_as kind id bytes) r
      unfolding save_as
      save_right same saved = then_does _ got (rw (eq_true object.kind kind same) saved)

  -- a refusal of these calls tells nothing of a kind
  pub get_tells : {a b : Txn S ReadsAndWrites} {e : Refusal} (id : ObjectId) → Does sights refusal_fault a b (act.get id) (Err e) → TellsKind b.set id e
  unfolding act.get
  get_tells {a = a} {b = b} {e = e} id p = tells_nothing b.set id e (λ is d agrees. not_three 2 (map.get (current a.set d).world.objects id) two (ap (λ q. q.0) (p.does (Err (Refused 3)) (ap failure is) d agrees)))

  pub mark_tells : {a b : Txn S ReadsAndWrites} {e : Refusal} (id : ObjectId) → Does sights refusal_fault a b (act.mark id) (Err e) → TellsKind b.set id e
  unfolding act.mark
  mark_tells {a = a} {b = b} {e = e} id p =
      tells_nothing b.set id e (λ is d agrees. change_other (map.get (current a.set d).world.objects id) id (λ object. Some object) (current a.set d) (current b.set d) (p.does (Err (Refused 3)) (ap failure is) d agrees))

  save_refused : {a b : Txn S ReadsAndWrites} {e : Refusal} (id : ObjectId) (bytes : List ℕ) → Does sights refusal_fault a b (act.save id bytes) (Err e) → TellsKind b.set id e
  unfolding act.save
  save_refused {a = a} {b = b} {e = e} id bytes p =
      tells_nothing b.set id e (λ is d agrees. by d (act.is_too_long bytes) (p.does (Err (Refused 3)) (ap failure is) d agrees))
    where
      by : (d : DurableWorld) (long : Bool) → (if long then act.refuse 4 (current a.set d) else act.change_object id (λ object. Some (record { kind = object.kind; bytes = bytes })) (current a.set d)) ≡ (Err (Refused 3), current b.set d) → ⊥
      by d true e = not_three {A = Unit {0}} 4 None four (ap (λ p. p.0) e)
      by d false e = change_other (map.get (current a.set d).world.objects id) id (λ object. Some (record { kind = object.kind; bytes = bytes })) (current a.set d) (current b.set d) e

  pub save_tells : {a b : Txn S ReadsAndWrites} {r : Result (Unit {0}) Refusal} (id : ObjectId) (bytes : List ℕ) → Does sights refusal_fault a b (act.save id bytes) r → IfErr r (TellsKind b.set id)
  save_tells {r = Ok u} id bytes p = tt
  save_tells {r = Err e} id bytes p = save_refused id bytes p
