-- What stands under a platform name where its record was read, or was refused.
use Rattle.std.proofs.Common.{◌≡◌, ℕ, ◌==◌, nat_eq, Bool, true, false, if◌then◌else◌, Option, Some, None, is_some, List, Result, Ok, Err, refl, sym, ap, subst, ◌∙◌, arith}
use Rattle.std.proofs.lemmas.Bool.Decides.{nat_tests}
use Rattle.std.specs.FinMap as map
use Rattle.dk_types.specs.declared.number.ObjectId.{ObjectId}
use Rattle.dk_types.specs.declared.object.Object.{Object}
use Rattle.dk_types.specs.declared.fault.AppFault.{AppFault}
use Rattle.dk_types.specs.declared.fault.AppFault.TheVariants.{Refused}
use Rattle.dk_model.specs.Runs as act
use Rattle.dk_model.specs.Runs.{Run, Act, give, and_then, carry_on, found, refuse}
use Rattle.dk_model.specs.References.{get_as}
use Rattle.dk_model.specs.declared.records.SessionRecord.{SessionRecord}
use Rattle.dk_model.specs.DurableWorlds.{DurableWorld, Agrees}
use Rattle.dk_model.specs.Records.{SESSION_KIND, session_of, session_name}
use Rattle.dk_model.specs.Platforms.{platform_bound, found_as, record_under, session_under, own_record}
use Rattle.dk_types.specs.declared.job.Session.{Session}
use Rattle.dk_overlay.specs.ReadsAndWrites.{ReadsAndWrites}
use Rattle.dk_txn.specs.Current.{current}
use Rattle.dk_txn.specs.Does as does
use Rattle.dk_txn.specs.Does.{Does}
use Rattle.dk_txn.specs.Refusals.{refusal_fault}
use Rattle.dk_txn.specs.Sights.{Sights}
use Rattle.dk_txn.specs.declared.txn.Txn.{Txn}
use Rattle.dk_refs.specs.Telling.{bound_to, kind_of, kind_at, kind_under, value_of_bytes, value_at, value_under}

-- a record was read: its kind and its value are so, and nothing was done
pub record Stands {A : Type 0} (kind : ℕ) (found_kind : Option ℕ) (found_value : Option A) (x : ObjectId × A) (s t : Run) : Type 0 where
  pub same : t ≡ s
  pub has_kind : found_kind ≡ Some kind
  pub has_value : found_value ≡ Some x.1

-- a record was refused over its kind, which is another, and nothing was done
pub record IsOther (kind : ℕ) (found_kind : Option ℕ) (s t : Run) : Type 0 where
  pub same : t ≡ s
  pub other : found_kind ≡ Some kind → ⊥

no_answer : {A P : Type 0} (fault : AppFault) (x : A) (s t : Run) → ◌≡◌ {A = Result A AppFault × Run} (Err fault, s) (Ok x, t) → P
no_answer {A = A} fault x s t e = let same : ◌≡◌ {A = Result A AppFault} (Err fault) (Ok x) = ap (λ q. q.0) e in absurd cc

no_refusal : {A P : Type 0} (fault : AppFault) (x : A) (s t : Run) → ◌≡◌ {A = Result A AppFault × Run} (Ok x, s) (Err fault, t) → P
no_refusal {A = A} fault x s t e = let same : ◌≡◌ {A = Result A AppFault} (Ok x) (Err fault) = ap (λ q. q.0) e in absurd cc

no_other : {A P : Type 0} (m n : ℕ) (s t : Run) → (m ≡ n → ⊥) → ◌≡◌ {A = Result A AppFault × Run} (Err (Refused m), s) (Err (Refused n), t) → P
no_other {A = A} m n s t other e =
    let told : ◌≡◌ {A = Result A AppFault} (Err (Refused m)) (Err (Refused n)) = ap (λ q. q.0) e in
    let same : m ≡ n = cc in absurd (other same)

same_kind : (a b : ℕ) → (a == b) ≡ true → a ≡ b
same_kind a b h = grind (arith, nat_tests)

other_kind : (a b : ℕ) → (a == b) ≡ false → Some a ≡ Some b → ⊥
other_kind a b h e = let same : a ≡ b = cc in absurd (grind (arith, nat_tests, same, h))

module _ {A : Type 0} (kind : ℕ) (read : List ℕ → Option A) (id : ObjectId) (s : Run) where
  -- what is done with the object
  abbrev reading : Option Object → Result (ObjectId × A) AppFault × Run
  reading o = let p : Result A AppFault × Run = carry_on (found 2 o) (λ object t. if object.kind == kind then (found 10 (read object.bytes), t) else refuse 3 t) s in carry_on p.0 (λ x. give (Ok (id, x))) p.1

  abbrev tested : Object → Bool → Result (ObjectId × A) AppFault × Run
  tested object b = let p : Result A AppFault × Run = if b then (found 10 (read object.bytes), s) else refuse 3 s in carry_on p.0 (λ y. give (Ok (id, y))) p.1

  stands_value : (v : Option A) (x : ObjectId × A) (t : Run) → carry_on (found 10 v) (λ y. give (Ok (id, y))) s ≡ (Ok x, t) → (t ≡ s) × (v ≡ Some x.1)
  unfolding give
  stands_value None x t e = no_answer (Refused 10) x s t e
  stands_value (Some y) x t e =
      let told : ◌≡◌ {A = Result (ObjectId × A) AppFault} (Ok (id, y)) (Ok x) = ap (λ q. q.0) e in
      let is : (id, y) ≡ x = cc in (sym (ap (λ q. q.1) e), ap (λ (q : ObjectId × A). Some q.1) is)

  stands_object : (o : Option Object) (x : ObjectId × A) (t : Run) → reading o ≡ (Ok x, t) → Stands kind (kind_of o) (value_of_bytes read o) x s t
  unfolding give
  stands_object None x t e = no_answer (Refused 2) x s t e
  stands_object (Some object) x t e = by (object.kind == kind) refl e
    where
      by : (b : Bool) → (object.kind == kind) ≡ b → tested object b ≡ (Ok x, t) → Stands kind (Some object.kind) (read object.bytes) x s t
      by true is e = let h = stands_value (read object.bytes) x t e in record { same = h.0; has_kind = ap (λ k. Some k) (same_kind object.kind kind is); has_value = h.1 }
      by false is e = no_answer (Refused 3) x s t e

  other_object : (o : Option Object) (t : Run) → reading o ≡ (Err (Refused 3), t) → IsOther kind (kind_of o) s t
  unfolding give
  other_object None t e = no_other 2 3 s t (λ e. cc) e
  other_object (Some object) t e = by (object.kind == kind) refl e
    where
      at : (v : Option A) → carry_on {B = ObjectId × A} (found 10 v) (λ y. give (Ok (id, y))) s ≡ (Err (Refused 3), t) → ⊥
      at None e = no_other 10 3 s t (λ e. cc) e
      at (Some y) e = no_refusal (Refused 3) (id, y) s t e

      by : (b : Bool) → (object.kind == kind) ≡ b → tested object b ≡ (Err (Refused 3), t) → IsOther kind (Some object.kind) s t
      by true is e = absurd (at (read object.bytes) e)
      by false is e = record { same = sym (ap (λ q. q.1) e); other = other_kind object.kind kind is }

module _ {A : Type 0} (kind : ℕ) (read : List ℕ → Option A) (s t : Run) where
  stands_at : (o : Option ObjectId) (x : ObjectId × A) → found_as o kind read s ≡ (Ok x, t) → Stands kind (kind_at o s.world) (value_at read o s.world) x s t
  unfolding and_then get_as act.get
  stands_at None x e = no_answer (Refused 1) x s t e
  stands_at (Some id) x e = stands_object kind read id s (map.get s.world.objects id) x t e

  other_at : (o : Option ObjectId) → found_as o kind read s ≡ (Err (Refused 3), t) → IsOther kind (kind_at o s.world) s t
  unfolding and_then get_as act.get
  other_at None e = no_other 1 3 s t (λ e. cc) e
  other_at (Some id) e = other_object kind read id s (map.get s.world.objects id) t e

  pub stands : (name : List ℕ) (x : ObjectId × A) → record_under name kind read s ≡ (Ok x, t) → Stands kind (kind_under name s.world) (value_under read name s.world) x s t
  stands name x e = stands_at (platform_bound s name) x e

  pub is_other : (name : List ℕ) → record_under name kind read s ≡ (Err (Refused 3), t) → IsOther kind (kind_under name s.world) s t
  is_other name e = other_at (platform_bound s name) e

  -- the id that is answered is the one that was looked up
  same_id : (id : ObjectId) (r : Result A AppFault) (u : Run) (x : ObjectId × A) → carry_on r (λ y. give (Ok (id, y))) u ≡ (Ok x, t) → id ≡ x.0
  unfolding give
  same_id id (Ok y) u x e =
      let told : ◌≡◌ {A = Result (ObjectId × A) AppFault} (Ok (id, y)) (Ok x) = ap (λ q. q.0) e in
      let is : (id, y) ≡ x = cc in ap (λ (q : ObjectId × A). q.0) is
  same_id id (Err fault) u x e = let told : ◌≡◌ {A = Result (ObjectId × A) AppFault} (Err fault) (Ok x) = ap (λ q. q.0) e in absurd cc

  there_at : (o : Option ObjectId) (x : ObjectId × A) → found_as o kind read s ≡ (Ok x, t) → kind_at (Some x.0) s.world ≡ Some kind
  unfolding and_then get_as act.get
  there_at None x e = no_answer (Refused 1) x s t e
  there_at (Some id) x e = subst (λ i. kind_at (Some i) s.world ≡ Some kind) (same_id id _ _ x e) (stands_at (Some id) x e).has_kind

  -- an object of this kind stands under the id
  pub stands_there : (name : List ℕ) (x : ObjectId × A) → record_under name kind read s ≡ (Ok x, t) → kind_at (Some x.0) s.world ≡ Some kind
  stands_there name x e = there_at (platform_bound s name) x e

  leads_at : (o : Option ObjectId) (x : ObjectId × A) → found_as o kind read s ≡ (Ok x, t) → o ≡ Some x.0
  unfolding and_then get_as act.get
  leads_at None x e = no_answer (Refused 1) x s t e
  leads_at (Some id) x e = ap (λ i. Some i) (same_id id _ _ x e)

  -- the name leads to the object that was read
  pub leads_there : (name : List ℕ) (x : ObjectId × A) → record_under name kind read s ≡ (Ok x, t) → platform_bound s name ≡ Some x.0
  leads_there name x e = leads_at (platform_bound s name) x e

-- a session's own record stands under its name
pub own_stands : (session : Session) (y : ObjectId × SessionRecord) (s t : Run) → own_record session s ≡ (Ok y, t) → session_under session.name s ≡ (Ok y, t)
unfolding and_then give
own_stands session y s t e = by (session_under session.name s) refl e
  where
    by : (q : Result (ObjectId × SessionRecord) AppFault × Run) → session_under session.name s ≡ q → carry_on q.0 (λ r. if nat_eq r.1.conn.0 session.conn.0 then give (Ok r) else refuse 1) q.1 ≡ (Ok y, t) → session_under session.name s ≡ (Ok y, t)
    by (Err fault, u) is h = let told : ◌≡◌ {A = Result (ObjectId × SessionRecord) AppFault} (Err fault) (Ok y) = ap (λ r. r.0) h in absurd cc
    by (Ok r, u) is h = is ∙ at (nat_eq r.1.conn.0 session.conn.0) h
      where
        at : (b : Bool) → (if b then give (Ok r) else refuse 1) u ≡ (Ok y, t) → ◌≡◌ {A = Result (ObjectId × SessionRecord) AppFault × Run} (Ok r, u) (Ok y, t)
        at true h = h
        at false h = let told : ◌≡◌ {A = Result (ObjectId × SessionRecord) AppFault} (Err (Refused 1)) (Ok y) = ap (λ r. r.0) h in absurd cc

said : {A : Type 0} (x : A) (s : Result A AppFault) → Some (Ok x) ≡ Some s → Ok x ≡ s
said x s e = cc

some_kind : (o : Option Object) (kind : ℕ) → kind_of o ≡ Some kind → is_some o ≡ true
some_kind None kind e = cc
some_kind (Some object) kind e = refl

module _ {S : Type 0} {sights : Sights S} {a b : Txn S ReadsAndWrites} where
  -- the object of a record that was read stands
  pub record_stands : {A : Type 0} (kind : ℕ) (read : List ℕ → Option A) (name : List ℕ) (x : ObjectId × A) → Does sights refusal_fault a b (record_under name kind read) (Ok x) → does.Stands b.set x.0
  record_stands kind read name x p d agrees =
      let is = p.does (Ok x) refl d agrees in
      subst (λ (s : Run). is_some (map.get s.world.objects x.0) ≡ true) (sym (stands kind read (current a.set d) (current b.set d) name x is).same) (some_kind (map.get (current a.set d).world.objects x.0) kind (stands_there kind read (current a.set d) (current b.set d) name x is))

  -- its name leads to it
  pub record_leads : {A : Type 0} (kind : ℕ) (read : List ℕ → Option A) (name : List ℕ) (x : ObjectId × A) → Does sights refusal_fault a b (record_under name kind read) (Ok x) → (d : DurableWorld) → Agrees d b.set.reads → bound_to name (current a.set d).world ≡ Some x.0
  record_leads kind read name x p d agrees = leads_there kind read (current a.set d) (current b.set d) name x (p.does (Ok x) refl d agrees)

  own_under : (session : Session) (y : ObjectId × SessionRecord) → Does sights refusal_fault a b (own_record session) (Ok y) → Does sights refusal_fault a b (session_under session.name) (Ok y)
  own_under session y p = record { keeps = p.keeps; does = under }
    where
      under : (s : Result (ObjectId × SessionRecord) AppFault) → Some (Ok y) ≡ Some s → (d : DurableWorld) → Agrees d b.set.reads → session_under session.name (current a.set d) ≡ (s, current b.set d)
      under s t d agrees = subst (λ o. session_under session.name (current a.set d) ≡ (o, current b.set d)) (said y s t) (own_stands session y (current a.set d) (current b.set d) (p.does (Ok y) refl d agrees))

  pub own_record_stands : (session : Session) (y : ObjectId × SessionRecord) → Does sights refusal_fault a b (own_record session) (Ok y) → does.Stands b.set y.0
  own_record_stands session y p = record_stands SESSION_KIND session_of (session_name session.name) y (own_under session y p)

  pub own_record_leads : (session : Session) (y : ObjectId × SessionRecord) → Does sights refusal_fault a b (own_record session) (Ok y) → (d : DurableWorld) → Agrees d b.set.reads → bound_to (session_name session.name) (current a.set d).world ≡ Some y.0
  own_record_leads session y p = record_leads SESSION_KIND session_of (session_name session.name) y (own_under session y p)
