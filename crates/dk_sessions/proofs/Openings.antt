-- What the begin and the end of a record do, from the calls that they made.
use Rattle.std.proofs.Common.{◌≡◌, ℕ, true, false, if◌then◌else◌, Option, Some, None, is_some, List, Result, Ok, Err, refl, sym, ap, subst, ◌∙◌}
use Rattle.std.specs.Result.{IsErrAnd}
use Rattle.dk_types.specs.declared.number.ObjectId.{ObjectId}
use Rattle.dk_types.specs.declared.job.Session.{Session}
use Rattle.dk_types.specs.declared.item.Item.{Item}
use Rattle.dk_types.specs.declared.item.Read.{Read}
use Rattle.dk_types.specs.declared.fault.AppFault.TheVariants.{Refused}
use Rattle.dk_model.specs.declared.records.SessionRecord.{SessionRecord}
use Rattle.dk_model.specs.Runs as act
use Rattle.dk_model.specs.Runs.{Run, Act, and_then, refuse}
use Rattle.dk_model.specs.Records.{session_name, is_name_too_long}
use Rattle.dk_model.specs.Platforms.{own_record, new_record}
use Rattle.dk_overlay.specs.ReadsAndWrites.{ReadsAndWrites}
use Rattle.dk_txn.specs.Current.{current}
use Rattle.dk_txn.specs.declared.refusal.Refusal.{Refusal}
use Rattle.dk_txn.specs.declared.refusal.Refusal.TheVariants as refusal
use Rattle.dk_txn.specs.declared.txn.Txn.{Txn}
use Rattle.dk_txn.specs.Bindings.{binding}
use Rattle.dk_txn.specs.Refusals.{refusal_fault}
use Rattle.dk_txn.specs.Does.{Does}
use Rattle.dk_txn.proofs.Kit.{then_does, does_as, stops}
use Rattle.dk_txn.proofs.ObjectCalls.{refused_here}
use Rattle.dk_refs.specs.Lookups.{IsTooLong}
use Rattle.dk_sessions.specs.Openings.{recording, taking}
use Rattle.dk_txn.specs.Sights.{Sights}

-- what follows where a name was looked up
abbrev after_name : Session → Option ObjectId → Act (Unit {0})
after_name session o s = if is_some o then refuse 9 s else recording (session_name session.name) session.conn s

means : (session : Session) → is_name_too_long (session_name session.name) ≡ false → (s : Run) → new_record session s ≡ and_then (binding (session_name session.name)) (after_name session) s
unfolding new_record binding and_then
means session short s = rw short refl

-- a session under a name that is too long has no record
unrecorded : (session : Session) (x : ObjectId × SessionRecord) (s t : Run) → is_name_too_long (session_name session.name) ≡ true → own_record session s ≡ (Ok x, t) → ⊥
unfolding and_then
unrecorded session x s t long e =
    let none : own_record session s ≡ (Err (Refused 1), s) = rw long refl in
    let same : Err (Refused 1) ≡ Ok x = ap (λ p. p.0) (sym none ∙ e) in absurd cc

module _ {S : Type 0} {sights : Sights S} (session : Session) where
  pub open_long : {a : Txn S ReadsAndWrites} {e : Refusal} → IsTooLong e → is_name_too_long (session_name session.name) ≡ true → Does sights refusal_fault a a (new_record session) (Err e)
  unfolding new_record
  open_long is long = refused_here (Refused 4) is (λ d. rw long refl)

  module _ {a b : Txn S ReadsAndWrites} (key : List ℕ) (is : key ≡ session_name session.name) (short : is_name_too_long (session_name session.name) ≡ false) where
    pub open_stops : {e : Refusal} {r : Result (Unit {0}) Refusal} → Does sights refusal_fault a b (binding key) (Err e) → IsErrAnd r (λ h. h ≡ e) → Does sights refusal_fault a b (new_record session) r
    open_stops {e = e} p told = does_as _ (means session short) (stops _ (subst (λ k. Does sights refusal_fault a b (binding k) (Err e)) is p) told)

    found_then : {c : Txn S ReadsAndWrites} {o : Option ObjectId} {r : Result (Unit {0}) Refusal} → Does sights refusal_fault a b (binding key) (Ok o) → Does sights refusal_fault b c (after_name session o) r → Does sights refusal_fault a c (new_record session) r
    found_then {o = o} p q = does_as _ (means session short) (then_does (after_name session) (subst (λ k. Does sights refusal_fault a b (binding k) (Ok o)) is p) q)

    pub open_exists : {id : ObjectId} → Does sights refusal_fault a b (binding key) (Ok (Some id)) → Does sights refusal_fault a b (new_record session) (Err refusal.NameExists)
    open_exists p = found_then p (refused_here (Refused 9) refl (λ d. refl))

    pub open_made : {c : Txn S ReadsAndWrites} {r : Result (Unit {0}) Refusal} → Does sights refusal_fault a b (binding key) (Ok None) → Does sights refusal_fault b c (recording key session.conn) r → Does sights refusal_fault a c (new_record session) r
    open_made {c = c} {r = r} p q = found_then p (does_as _ (λ s. refl) (subst (λ k. Does sights refusal_fault b c (recording k session.conn) r) is q))

  module _ {a b : Txn S ReadsAndWrites} {x : ObjectId × SessionRecord} (own : Does sights refusal_fault a b (own_record session) (Ok x)) where
    -- this can not be
    pub take_long : {e : Refusal} → is_name_too_long (session_name session.name) ≡ true → Does sights refusal_fault a b (taking session) (Err e)
    take_long long = record { keeps = own.keeps; does = λ s t d agrees. absurd (unrecorded session x (current a.set d) (current b.set d) long (own.does (Ok x) refl d agrees)) }

    pub take_does : {c : Txn S ReadsAndWrites} {r : Result (Unit {0}) Refusal} (key : List ℕ) → key ≡ session_name session.name → Does sights refusal_fault b c (and_then (act.unbind key) (λ _. act.remove x.0)) r → Does sights refusal_fault a c (taking session) r
    take_does {c = c} {r = r} key is p = then_does _ own (subst (λ k. Does sights refusal_fault b c (and_then (act.unbind k) (λ _. act.remove x.0)) r) is p)
