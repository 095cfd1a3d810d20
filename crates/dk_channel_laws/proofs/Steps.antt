-- What steps did that were not refused, and what steps do whose parts are known.
use Rattle.std.proofs.Common.{◌≡◌, ℕ, Bool, true, false, ◌==◌, nat_eq, if◌then◌else◌, Option, Some, None, List, Result, Ok, Err, refl, sym, ap, subst, ◌∙◌, eqb-true, inl, inr}
use Rattle.std.specs.FinMap.{get}
use Rattle.std.proofs.lemmas.Bool.Decides.{eqb_tells}
use Rattle.dk_types.specs.declared.fault.AppFault.{AppFault}
use Rattle.dk_types.specs.declared.mode.Mode.{Mode}
use Rattle.dk_types.specs.declared.number.ObjectId.{ObjectId}
use Rattle.dk_types.specs.declared.object.Object.{Object}
use Rattle.dk_types.specs.declared.job.Session.{Session}
use Rattle.dk_model.specs.Runs as act
use Rattle.dk_model.specs.Runs.{Run, Act, give, and_then, within, carry_on, found, refuse}
use Rattle.dk_model.specs.References.{get_as}
use Rattle.dk_model.specs.declared.records.SessionRecord.{SessionRecord}
use Rattle.dk_model.specs.Platforms.{platform_bound, found_as, record_under, own_record}
use Rattle.dk_model.specs.Records.{SESSION_KIND, session_of, session_name}

-- this answer, and the run after it, are that one
abbrev pub Says : {A : Type 0} → Result A AppFault → Run → A → Run → Type 0
Says {A} r s x t = ◌≡◌ {A = Result A AppFault × Run} (r, s) (Ok x, t)

-- a refusal is no answer
pub refused : {A B : Type 0} (fault : AppFault) (x : A) (s t : Run) → Says (Err fault) s x t → B
refused {A} fault x s t e = let f : ◌≡◌ {A = Result A AppFault} (Err fault) (Ok x) = ap (λ (p : Result A AppFault × Run). p.0) e in absurd cc

-- an answer was this one, from this run
pub answered : {A : Type 0} (x y : A) (s t : Run) → Says (Ok x) s y t → (x ≡ y) × (s ≡ t)
answered {A} x y s t e = let f : ◌≡◌ {A = Result A AppFault} (Ok x) (Ok y) = ap (λ (p : Result A AppFault × Run). p.0) e in (cc, ap (λ (p : Result A AppFault × Run). p.1) e)

carried : {A B : Type 0} (p : Result A AppFault × Run) (g : A → Act B) (t : Run) (y : B) → carry_on p.0 g p.1 ≡ (Ok y, t) → (x : A) × (u : Run) × (p ≡ (Ok x, u)) × (g x u ≡ (Ok y, t))
carried (Ok x, u) g t y e = (x, u, refl, e)
carried (Err fault, u) g t y e = refused fault y u t e

-- two steps of which none was refused
pub then_was : {A B : Type 0} (f : Act A) (g : A → Act B) (s t : Run) (y : B) → and_then f g s ≡ (Ok y, t) → (x : A) × (u : Run) × (f s ≡ (Ok x, u)) × (g x u ≡ (Ok y, t))
unfolding and_then
then_was f g s t y e = carried (f s) g t y e

-- the second step goes on from the first
pub then_is : {A B : Type 0} (f : Act A) (g : A → Act B) (s u : Run) (x : A) → f s ≡ (Ok x, u) → and_then f g s ≡ g x u
unfolding and_then
then_is {A} f g s u x e = ap (λ (p : Result A AppFault × Run). carry_on p.0 g p.1) e

-- what was done in another mode
pub within_was : {A : Type 0} (mode : Mode) (m : Act A) (s t : Run) (x : A) → within mode m s ≡ (Ok x, t) → (u : Run) × (m (record s { mode = mode }) ≡ (Ok x, u)) × (t ≡ record u { mode = s.mode })
unfolding within
within_was {A} mode m s t x e = by (m (record s { mode = mode })) e
  where
    by : (p : Result A AppFault × Run) → Says (p.0) (record (p.1) { mode = s.mode }) x t → (u : Run) × (p ≡ (Ok x, u)) × (t ≡ record u { mode = s.mode })
    by (Ok y, u) e = let a = answered y x (record u { mode = s.mode }) t e in (u, ap (λ (z : A). (Ok z, u)) a.0, sym a.1)
    by (Err fault, u) e = refused fault x (record u { mode = s.mode }) t e

-- what is done in another mode
pub within_is : {A : Type 0} (mode : Mode) (m : Act A) (s u : Run) (x : A) → m (record s { mode = mode }) ≡ (Ok x, u) → within mode m s ≡ (Ok x, record u { mode = s.mode })
unfolding within
within_is {A} mode m s u x e = ap (λ (p : Result A AppFault × Run). (p.0, record (p.1) { mode = s.mode })) e

-- what an object of this kind is read as
pub record IsRead {A : Type 0} (s : Run) (kind : ℕ) (read : List ℕ → Option A) (id : ObjectId) (x : A) : Type 0 where
  pub object : Object
  pub there : get s.world.objects id ≡ Some object
  pub of_kind : object.kind ≡ kind
  pub value : read object.bytes ≡ Some x

found_was : {A : Type 0} (n : ℕ) (o : Option A) (s t : Run) (x : A) → Says (found n o) s x t → (o ≡ Some x) × (t ≡ s)
found_was n None s t x e = refused _ x s t e
found_was n (Some y) s t x e = let a = answered y x s t e in (ap Some a.0, sym a.1)

module _ {A : Type 0} (kind : ℕ) (read : List ℕ → Option A) where
  -- what `get_as` does with the object
  of_object : Object → Act A
  of_object object s = if object.kind == kind then (found act.BAD_BYTES (read object.bytes), s) else refuse act.WRONG_KIND s

  object_was : (object : Object) (s t : Run) (x : A) → of_object object s ≡ (Ok x, t) → (object.kind ≡ kind) × (read object.bytes ≡ Some x) × (t ≡ s)
  unfolding of_object
  object_was object s t x e =
      elim (object.kind == kind) as (λ b. object.kind == kind ≡ b → (if b then (found act.BAD_BYTES (read object.bytes), s) else refuse {A = A} act.WRONG_KIND s) ≡ (Ok x, t) → (object.kind ≡ kind) × (read object.bytes ≡ Some x) × (t ≡ s)) [
        | true ↦ λ k f. let found = found_was act.BAD_BYTES (read object.bytes) s t x f in (eqb-true _ _ k, found.0, found.1)
        | false ↦ λ k f. refused _ x s t f
      ] refl e

  -- a value that was read
  pub get_as_was : (id : ObjectId) (s t : Run) (x : A) → get_as kind read id s ≡ (Ok x, t) → (t ≡ s) × IsRead s kind read id x
  unfolding get_as act.get of_object
  get_as_was id s t x e =
      let a = then_was (act.get id) of_object s t x e in
      let b = found_was act.OBJECT_NOT_FOUND (get s.world.objects id) s a.1 a.0 a.2 in
      let c = object_was a.0 a.1 t x a.3 in
      (c.2 ∙ b.1, record { object = a.0; there = b.0; of_kind = c.0; value = c.1 })

  same_kind : (n : ℕ) → n ≡ kind → (n == kind) ≡ true
  same_kind n e = elim (eqb_tells n kind) [
    | inl t ↦ t.0
    | inr t ↦ absurd (t.1 e)
  ]

  -- a value that stands there is read
  pub get_as_is : (id : ObjectId) (s : Run) (x : A) → IsRead s kind read id x → get_as kind read id s ≡ (Ok x, s)
  unfolding get_as act.get of_object
  get_as_is id s x is =
      then_is (act.get id) of_object s s is.object (ap (λ o. (found act.OBJECT_NOT_FOUND o, s)) is.there)
      ∙ ap (λ b. if b then (found act.BAD_BYTES (read is.object.bytes), s) else refuse {A = A} act.WRONG_KIND s) (same_kind is.object.kind is.of_kind)
      ∙ ap (λ o. (found act.BAD_BYTES o, s)) is.value

  -- what `found_as` does with the value
  with_id : ObjectId → A → Act (ObjectId × A)
  with_id id x = give (Ok (id, x))

  found_as_was : (o : Option ObjectId) (s t : Run) (p : ObjectId × A) → found_as o kind read s ≡ (Ok p, t) → (t ≡ s) × (o ≡ Some p.0) × IsRead s kind read p.0 p.1
  unfolding give with_id
  found_as_was None s t p e = refused _ p s t e
  found_as_was (Some id) s t p e =
      let a = then_was (get_as kind read id) (with_id id) s t p e in
      let b = get_as_was id s a.1 a.0 a.2 in
      let c = answered (id, a.0) p a.1 t a.3 in
      (sym c.1 ∙ b.0, ap (λ (q : ObjectId × A). Some q.0) c.0, subst (λ (q : ObjectId × A). IsRead s kind read q.0 q.1) c.0 b.1)

  -- a record that was read under a name
  pub under_was : (name : List ℕ) (s t : Run) (p : ObjectId × A) → record_under name kind read s ≡ (Ok p, t) → (t ≡ s) × (platform_bound s name ≡ Some p.0) × IsRead s kind read p.0 p.1
  under_was name s t p e = found_as_was (platform_bound s name) s t p e

  -- a record that stands under a name is read
  pub under_is : (name : List ℕ) (s : Run) (id : ObjectId) (x : A) → platform_bound s name ≡ Some id → IsRead s kind read id x → record_under name kind read s ≡ (Ok (id, x), s)
  unfolding give with_id
  under_is name s id x bound is = ap (λ o. found_as o kind read s) bound ∙ then_is (get_as kind read id) (with_id id) s s x (get_as_is id s x is)

-- the session's own record, that was read
pub own_was : (session : Session) (s t : Run) (r : ObjectId × SessionRecord) → own_record session s ≡ (Ok r, t)
    → (t ≡ s) × (platform_bound s (session_name session.name) ≡ Some r.0) × IsRead s SESSION_KIND session_of r.0 r.1 × (nat_eq r.1.conn.0 session.conn.0 ≡ true)
unfolding give
own_was session s t r e =
    let a = then_was (record_under (session_name session.name) SESSION_KIND session_of) (λ r. if nat_eq r.1.conn.0 session.conn.0 then give (Ok r) else refuse act.NAME_NOT_BOUND) s t r e in
    let b = under_was SESSION_KIND session_of (session_name session.name) s a.1 a.0 a.2 in
    let c = by (nat_eq a.0.1.conn.0 session.conn.0) a.0 a.1 a.3 in
    subst (λ (q : ObjectId × SessionRecord). (t ≡ s) × (platform_bound s (session_name session.name) ≡ Some q.0) × IsRead s SESSION_KIND session_of q.0 q.1 × (nat_eq q.1.conn.0 session.conn.0 ≡ true)) c.0
    (c.1 ∙ b.0, b.1, b.2, c.2)
  where
    by : (b : Bool) (q : ObjectId × SessionRecord) (u : Run) → (if b then give (Ok q) else refuse act.NAME_NOT_BOUND) u ≡ (Ok r, t) → (q ≡ r) × (t ≡ u) × (b ≡ true)
    by true q u e = let a = answered q r u t e in (a.0, sym a.1, refl)
    by false q u e = refused _ r u t e
