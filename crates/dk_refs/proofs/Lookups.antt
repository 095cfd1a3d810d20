-- What the calls that read a session's record do, from the calls that they made.
use Rattle.std.proofs.Common.{◌≡◌, ℕ, Bool, true, false, if◌then◌else◌, nat_eq, Option, Some, None, is_some, List, Result, Ok, Err, refl, sym, subst, arith}
use Rattle.std.proofs.lemmas.Bool.Decides.{nat_tests}
use Rattle.std.specs.Result.{IsErrAnd}
use Rattle.dk_types.specs.declared.number.ObjectId.{ObjectId}
use Rattle.dk_types.specs.declared.job.Session.{Session}
use Rattle.dk_types.specs.declared.job.Out.TheVariants as out
use Rattle.dk_types.specs.declared.fault.AppFault.TheVariants.{Refused}
use Rattle.dk_model.specs.declared.records.SessionRecord.{SessionRecord}
use Rattle.dk_model.specs.Runs.{Run, Act, and_then, give, send}
use Rattle.dk_model.specs.References.{get_as}
use Rattle.dk_model.specs.Records.{SESSION_KIND, session_of, session_name, is_name_too_long}
use Rattle.dk_model.specs.Platforms.{platform_bound, found_as, numbered, recorded_as, session_under, own_record, record_if_connected, is_connected, find_session, session_send}
use Rattle.dk_overlay.specs.ReadsAndWrites.{ReadsAndWrites}
use Rattle.dk_txn.specs.declared.refusal.Refusal.{Refusal}
use Rattle.dk_txn.specs.declared.refusal.Refusal.TheVariants as refusal
use Rattle.dk_txn.specs.declared.txn.Txn.{Txn}
use Rattle.dk_txn.specs.Bindings.{binding}
use Rattle.dk_txn.specs.Refusals.{refusal_fault}
use Rattle.dk_txn.specs.Does.{Does}
use Rattle.dk_txn.proofs.Kit.{then_does, give_does, does_as, stops, if_true_does, if_false_does}
use Rattle.dk_txn.proofs.ObjectCalls.{refused_here}
use Rattle.dk_refs.proofs.Calls.{answered_here}
use Rattle.dk_refs.specs.Lookups.{recorded, is_recorded, IsTooLong}
use Rattle.dk_txn.specs.Sights.{Sights}

pub eq_true : (a b : ℕ) → a ≡ b → nat_eq a b ≡ true
eq_true a b h = grind (arith, nat_tests)

pub eq_false : (a b : ℕ) → (a ≡ b → ⊥) → nat_eq a b ≡ false
eq_false a b h = grind (arith, nat_tests)

module _ {S : Type 0} {sights : Sights S} where
  pub recorded_long : {a : Txn S ReadsAndWrites} (name : List ℕ) → is_name_too_long (session_name name) ≡ true → Does sights refusal_fault a a (recorded name) (Ok None)
  unfolding recorded
  recorded_long name long = answered_here (λ d. rw long refl)

  pub recorded_short : {a b : Txn S ReadsAndWrites} {r : Result (Option ObjectId) Refusal} (name key : List ℕ) → key ≡ session_name name → is_name_too_long (session_name name) ≡ false
      → Does sights refusal_fault a b (binding key) r → Does sights refusal_fault a b (recorded name) r
  unfolding recorded binding
  recorded_short {a = a} {b = b} {r = r} name key is short p = does_as (binding (session_name name)) (λ s. rw short refl) (subst (λ k. Does sights refusal_fault a b (binding k) r) is p)

  -- the record is looked for, and what follows is by what was found
  looked : {a b c : Txn S ReadsAndWrites} {B : Type 0} {f : Act B} {o : Option ObjectId} {r : Result B Refusal} (name : List ℕ) (g : Option ObjectId → Act B)
      → ((s : Run) → f s ≡ g (platform_bound s (session_name name)) s) → Does sights refusal_fault a b (recorded name) (Ok o) → Does sights refusal_fault b c (g o) r → Does sights refusal_fault a c f r
  unfolding recorded and_then
  looked name g same p q = does_as (and_then (recorded name) g) same (then_does g p q)

  look_stops : {a b : Txn S ReadsAndWrites} {B : Type 0} {f : Act B} {e : Refusal} {r : Result B Refusal} (name : List ℕ) (g : Option ObjectId → Act B)
      → ((s : Run) → f s ≡ g (platform_bound s (session_name name)) s) → Does sights refusal_fault a b (recorded name) (Err e) → IsErrAnd r (λ h. h ≡ e) → Does sights refusal_fault a b f r
  unfolding recorded and_then
  look_stops name g same p is = does_as (and_then (recorded name) g) same (stops g p is)

  pub recorded_tells : {a b : Txn S ReadsAndWrites} {o : Option ObjectId} {x : Bool} (name : List ℕ) → Does sights refusal_fault a b (recorded name) (Ok o) → x ≡ is_some o → Does sights refusal_fault a b (is_recorded name) (Ok x)
  unfolding is_recorded give
  recorded_tells {b = b} {o = o} name p is = looked name (λ o. give (Ok (is_some o))) (λ s. refl) p (subst (λ x. Does sights refusal_fault b b (give (Ok (is_some o))) (Ok x)) (sym is) give_does)

  pub recorded_stops : {a b : Txn S ReadsAndWrites} {e : Refusal} {r : Result Bool Refusal} (name : List ℕ) → Does sights refusal_fault a b (recorded name) (Err e) → IsErrAnd r (λ h. h ≡ e) → Does sights refusal_fault a b (is_recorded name) r
  unfolding is_recorded give
  recorded_stops name p is = look_stops name (λ o. give (Ok (is_some o))) (λ s. refl) p is

  module _ {a b : Txn S ReadsAndWrites} (name : List ℕ) where
    pub under_stops : {e : Refusal} {r : Result (ObjectId × SessionRecord) Refusal} → Does sights refusal_fault a b (recorded name) (Err e) → IsErrAnd r (λ h. h ≡ e) → Does sights refusal_fault a b (session_under name) r
    under_stops p is = look_stops name (λ o. found_as o SESSION_KIND session_of) (λ s. refl) p is

    pub under_none : Does sights refusal_fault a b (recorded name) (Ok None) → Does sights refusal_fault a b (session_under name) (Err refusal.NameNotBound)
    under_none p = looked name (λ o. found_as o SESSION_KIND session_of) (λ s. refl) p (refused_here (Refused 1) refl (λ d. refl))

    module _ {c : Txn S ReadsAndWrites} {id : ObjectId} (p : Does sights refusal_fault a b (recorded name) (Ok (Some id))) where
      under_some : {r : Result (ObjectId × SessionRecord) Refusal} → Does sights refusal_fault b c (and_then (get_as SESSION_KIND session_of id) (λ x. give (Ok (id, x)))) r → Does sights refusal_fault a c (session_under name) r
      under_some q = looked name (λ o. found_as o SESSION_KIND session_of) (λ s. refl) p (does_as _ (λ s. refl) q)

      pub under_halts : {e : Refusal} {r : Result (ObjectId × SessionRecord) Refusal} → Does sights refusal_fault b c (get_as SESSION_KIND session_of id) (Err e) → IsErrAnd r (λ h. h ≡ e) → Does sights refusal_fault a c (session_under name) r
      under_halts q is = under_some (stops _ q is)

      pub under_finds : {x : SessionRecord} → Does sights refusal_fault b c (get_as SESSION_KIND session_of id) (Ok x) → Does sights refusal_fault a c (session_under name) (Ok (id, x))
      under_finds q = under_some (then_does _ q give_does)

  module _ {a b : Txn S ReadsAndWrites} (session : Session) where
    pub connected_stops : {e : Refusal} {r : Result Bool Refusal} → Does sights refusal_fault a b (recorded session.name) (Err e) → IsErrAnd r (λ h. h ≡ e) → Does sights refusal_fault a b (is_connected session) r
    unfolding is_connected
    connected_stops p is = look_stops session.name (λ o. numbered o session.conn) (λ s. refl) p is

    pub connected_none : Does sights refusal_fault a b (recorded session.name) (Ok None) → Does sights refusal_fault a b (is_connected session) (Ok false)
    unfolding is_connected
    connected_none p = looked session.name (λ o. numbered o session.conn) (λ s. refl) p (answered_here (λ d. refl))

    pub own_stops : {e : Refusal} {r : Result (Option (ObjectId × SessionRecord)) Refusal} → Does sights refusal_fault a b (recorded session.name) (Err e) → IsErrAnd r (λ h. h ≡ e) → Does sights refusal_fault a b (record_if_connected session) r
    own_stops p is = look_stops session.name (λ o. recorded_as o session.conn) (λ s. refl) p is

    pub own_none : Does sights refusal_fault a b (recorded session.name) (Ok None) → Does sights refusal_fault a b (record_if_connected session) (Ok None)
    own_none p = looked session.name (λ o. recorded_as o session.conn) (λ s. refl) p (answered_here (λ d. refl))

    module _ {c : Txn S ReadsAndWrites} {id : ObjectId} (p : Does sights refusal_fault a b (recorded session.name) (Ok (Some id))) where
      connected_some : {r : Result Bool Refusal} → Does sights refusal_fault b c (and_then (get_as SESSION_KIND session_of id) (λ x. give (Ok (nat_eq x.conn.0 session.conn.0)))) r → Does sights refusal_fault a c (is_connected session) r
      unfolding is_connected
      connected_some q = looked session.name (λ o. numbered o session.conn) (λ s. refl) p (does_as _ (λ s. refl) q)

      pub connected_halts : {e : Refusal} {r : Result Bool Refusal} → Does sights refusal_fault b c (get_as SESSION_KIND session_of id) (Err e) → IsErrAnd r (λ h. h ≡ e) → Does sights refusal_fault a c (is_connected session) r
      connected_halts q is = connected_some (stops _ q is)

      pub connected_tells : {x : SessionRecord} {answer : Bool} → Does sights refusal_fault b c (get_as SESSION_KIND session_of id) (Ok x) → answer ≡ nat_eq x.conn.0 session.conn.0 → Does sights refusal_fault a c (is_connected session) (Ok answer)
      connected_tells {x = x} q is = connected_some (then_does _ q (subst (λ y. Does sights refusal_fault c c (give (Ok (nat_eq x.conn.0 session.conn.0))) (Ok y)) (sym is) give_does))

      own_some : {r : Result (Option (ObjectId × SessionRecord)) Refusal} → Does sights refusal_fault b c (and_then (get_as SESSION_KIND session_of id) (λ x. give (Ok (if nat_eq x.conn.0 session.conn.0 then Some (id, x) else None)))) r
          → Does sights refusal_fault a c (record_if_connected session) r
      own_some q = looked session.name (λ o. recorded_as o session.conn) (λ s. refl) p (does_as _ (λ s. refl) q)

      pub own_halts : {e : Refusal} {r : Result (Option (ObjectId × SessionRecord)) Refusal} → Does sights refusal_fault b c (get_as SESSION_KIND session_of id) (Err e) → IsErrAnd r (λ h. h ≡ e) → Does sights refusal_fault a c (record_if_connected session) r
      own_halts q is = own_some (stops _ q is)

      own_tells : {x : SessionRecord} {answer : Option (ObjectId × SessionRecord)} → Does sights refusal_fault b c (get_as SESSION_KIND session_of id) (Ok x) → answer ≡ (if nat_eq x.conn.0 session.conn.0 then Some (id, x) else None)
          → Does sights refusal_fault a c (record_if_connected session) (Ok answer)
      own_tells {x = x} q is = own_some (then_does _ q (subst (λ y. Does sights refusal_fault c c (give (Ok (if nat_eq x.conn.0 session.conn.0 then Some (id, x) else None))) (Ok y)) (sym is) give_does))

      pub own_same : {x : SessionRecord} {at : ObjectId} → Does sights refusal_fault b c (get_as SESSION_KIND session_of id) (Ok x) → x.conn.0 ≡ session.conn.0 → at ≡ id → Does sights refusal_fault a c (record_if_connected session) (Ok (Some (at, x)))
      own_same {x = x} q same is = own_tells q (rw (eq_true x.conn.0 session.conn.0 same, is) refl)

      pub own_other : {x : SessionRecord} → Does sights refusal_fault b c (get_as SESSION_KIND session_of id) (Ok x) → (x.conn.0 ≡ session.conn.0 → ⊥) → Does sights refusal_fault a c (record_if_connected session) (Ok None)
      own_other {x = x} q other = own_tells q (rw (eq_false x.conn.0 session.conn.0 other) refl)

    pub mine_stops : {e : Refusal} {r : Result (ObjectId × SessionRecord) Refusal} → Does sights refusal_fault a b (session_under session.name) (Err e) → IsErrAnd r (λ h. h ≡ e) → Does sights refusal_fault a b (own_record session) r
    mine_stops p is = stops _ p is

    module _ {x : ObjectId × SessionRecord} (p : Does sights refusal_fault a b (session_under session.name) (Ok x)) where
      pub mine_other : nat_eq x.1.conn.0 session.conn.0 ≡ false → Does sights refusal_fault a b (own_record session) (Err refusal.NameNotBound)
      mine_other other = then_does _ p (if_false_does _ other (refused_here (Refused 1) refl (λ d. refl)))

      pub mine_found : nat_eq x.1.conn.0 session.conn.0 ≡ true → Does sights refusal_fault a b (own_record session) (Ok x)
      mine_found same = then_does _ p (if_true_does _ same give_does)

  module _ (name : List ℕ) where
    pub find_long : {a : Txn S ReadsAndWrites} {e : Refusal} → IsTooLong e → is_name_too_long (session_name name) ≡ true → Does sights refusal_fault a a (find_session name) (Err e)
    unfolding find_session
    find_long is long = refused_here (Refused 4) is (λ d. rw long refl)

    find_short : {a b : Txn S ReadsAndWrites} {r : Result Session Refusal} → is_name_too_long (session_name name) ≡ false
        → Does sights refusal_fault a b (and_then (session_under name) (λ x. give (Ok (record { name = name; conn = x.1.conn })))) r → Does sights refusal_fault a b (find_session name) r
    unfolding find_session
    find_short short p = does_as _ (λ s. rw short refl) p

    pub find_stops : {a b : Txn S ReadsAndWrites} {e : Refusal} {r : Result Session Refusal} → is_name_too_long (session_name name) ≡ false → Does sights refusal_fault a b (session_under name) (Err e) → IsErrAnd r (λ h. h ≡ e)
        → Does sights refusal_fault a b (find_session name) r
    find_stops short p is = find_short short (stops _ p is)

    pub find_does : {a b : Txn S ReadsAndWrites} {x : ObjectId × SessionRecord} {copy : List ℕ} → is_name_too_long (session_name name) ≡ false → Does sights refusal_fault a b (session_under name) (Ok x) → copy ≡ name
        → Does sights refusal_fault a b (find_session name) (Ok (record { name = copy; conn = x.1.conn }))
    find_does {a = a} {b = b} {x = x} short p same =
        subst (λ (n : List ℕ). Does sights refusal_fault a b (find_session name) (Ok (record { name = n; conn = x.1.conn }))) (sym same) (find_short short (then_does _ p give_does))

module _ {S : Type 0} {sights : Sights S} {a b : Txn S ReadsAndWrites} (session : Session) (body : List ℕ) where
  pub send_stops : {e : Refusal} {r : Result (Unit {0}) Refusal} → Does sights refusal_fault a b (is_connected session) (Err e) → IsErrAnd r (λ h. h ≡ e) → Does sights refusal_fault a b (session_send session body) r
  unfolding session_send
  send_stops p is = stops _ p is

  module _ {connected : Bool} (p : Does sights refusal_fault a b (is_connected session) (Ok connected)) where
    pub send_refused : connected ≡ false → Does sights refusal_fault a b (session_send session body) (Err refusal.NameNotBound)
    unfolding session_send
    send_refused is = then_does _ p (if_false_does _ is (refused_here (Refused 1) refl (λ d. refl)))

    pub send_does : {c : Txn S ReadsAndWrites} {r : Result (Unit {0}) Refusal} → connected ≡ true → Does sights refusal_fault b c (send session.conn (out.Message body)) r → Does sights refusal_fault a c (session_send session body) r
    unfolding session_send
    send_does is q = then_does _ p (if_true_does _ is q)
