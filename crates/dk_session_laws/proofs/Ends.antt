-- How steps end that are not refused, one after another.
use Rattle.std.proofs.Common.{◌≡◌, ℕ, Bool, true, false, ◌==◌, nat_eq, if◌then◌else◌, Option, Some, None, List, Result, Ok, Err, refl, sym, subst, eqb-true}
use Rattle.std.specs.FinMap.{get}
use Rattle.dk_types.specs.declared.fault.AppFault.{AppFault}
use Rattle.dk_types.specs.declared.number.ObjectId.{ObjectId}
use Rattle.dk_types.specs.declared.object.Object.{Object}
use Rattle.dk_types.specs.declared.job.Session.{Session}
use Rattle.dk_model.specs.Runs as act
use Rattle.dk_model.specs.Runs.{Run, Act, give, and_then, carry_on, found, refuse, NAME_NOT_BOUND}
use Rattle.dk_model.specs.References.{get_as}
use Rattle.dk_model.specs.declared.records.SessionRecord.{SessionRecord}
use Rattle.dk_model.specs.Platforms.{platform_bound, found_as, record_under, own_record}
use Rattle.dk_model.specs.Records.{SESSION_KIND, session_of, session_name, is_name_too_long}
use Rattle.dk_session_laws.specs.Sessions.{EndsBy, Ends}

then_by : {A B : Type 0} (P : A → Run → Type 0) (Q : B → Run → Type 0) (r : Result A AppFault) (t : Run) (g : A → Act B) → EndsBy P r t → ((x : A) (u : Run) → P x u → Ends Q u (g x)) → EndsBy Q ((carry_on r g t).0) ((carry_on r g t).1)
then_by P Q (Ok x) t g p h = (h x t p).so
then_by P Q (Err fault) t g p h = tt

-- one step, and the next
pub ends_then : {A B : Type 0} {P : A → Run → Type 0} {Q : B → Run → Type 0} {s : Run} {f : Act A} {g : A → Act B} → Ends P s f → ((x : A) (t : Run) → P x t → Ends Q t (g x)) → Ends Q s (and_then f g)
unfolding and_then
ends_then {P = P} {Q = Q} {s = s} {f = f} {g = g} p h = record { so = then_by P Q ((f s).0) ((f s).1) g p.so h }

weaker_by : {A : Type 0} (P Q : A → Run → Type 0) (r : Result A AppFault) (t : Run) → EndsBy P r t → ((x : A) (u : Run) → P x u → Q x u) → EndsBy Q r t
weaker_by P Q (Ok x) t p h = h x t p
weaker_by P Q (Err fault) t p h = tt

-- less may be said
pub ends_weaker : {A : Type 0} {P Q : A → Run → Type 0} {s : Run} {f : Act A} → Ends P s f → ((x : A) (t : Run) → P x t → Q x t) → Ends Q s f
ends_weaker {P = P} {Q = Q} {s = s} {f = f} e h = record { so = weaker_by P Q ((f s).0) ((f s).1) e.so h }

-- either of two steps
pub ends_if : {A : Type 0} {P : A → Run → Type 0} {s : Run} {f g : Act A} (b : Bool) → (b ≡ true → Ends P s f) → (b ≡ false → Ends P s g) → Ends P s (if b then f else g)
ends_if true p q = p refl
ends_if false p q = q refl

-- the same where the steps are written with the run
pub ends_if_at : {A : Type 0} {P : A → Run → Type 0} {s : Run} {f g : Act A} (test : Run → Bool) → (test s ≡ true → Ends P s f) → (test s ≡ false → Ends P s g) → Ends P s (λ u. if test u then f u else g u)
ends_if_at {P = P} {s = s} {f = f} {g = g} test p q = record {
  so = elim (test s) as (λ b. test s ≡ b → EndsBy P ((if b then f s else g s).0) ((if b then f s else g s).1)) [
    | true ↦ λ e. (p e).so
    | false ↦ λ e. (q e).so
  ] refl;
}

-- a refusal
pub ends_refuse : {A : Type 0} {P : A → Run → Type 0} {s : Run} (n : ℕ) → Ends {A = A} P s (refuse n)
ends_refuse n = record { so = tt }

-- an answer
pub ends_give : {A : Type 0} {P : A → Run → Type 0} {s : Run} (x : A) → P x s → Ends P s (give (Ok x))
unfolding give
ends_give x p = record { so = p }

-- a step that changes nothing, and what its answer has
pub record Reads {A : Type 0} (P : A → Type 0) (s : Run) (f : Act A) : Type 0 where
  pub so : EndsBy (λ x t. (t ≡ s) × P x) ((f s).0) ((f s).1)

-- such a step, and the next
pub reads_then : {A B : Type 0} {P : A → Type 0} {Q : B → Run → Type 0} {s : Run} {f : Act A} {g : A → Act B} → Reads P s f → ((x : A) → P x → Ends Q s (g x)) → Ends Q s (and_then f g)
reads_then {P = P} {Q = Q} {s = s} {f = f} {g = g} p h =
    ends_then {P = λ x t. (t ≡ s) × P x} {Q = Q} {f = f} {g = g} (record { so = p.so }) (λ x t e. subst (λ u. Ends Q u (g x)) (sym e.0) (h x e.1))

-- two such steps
pub reads_more : {A B : Type 0} {P : A → Type 0} {Q : B → Type 0} {s : Run} {f : Act A} {g : A → Act B} → Reads P s f → ((x : A) → P x → Reads Q s (g x)) → Reads Q s (and_then f g)
reads_more {P = P} {Q = Q} {s = s} {f = f} {g = g} p h =
    record { so = (reads_then {P = P} {Q = λ y t. (t ≡ s) × Q y} {s = s} {f = f} {g = g} p (λ x e. record { so = (h x e).so })).so }

-- what was found
found_by : {A : Type 0} (P : A → Type 0) (s : Run) (n : ℕ) (o : Option A) → ((x : A) → o ≡ Some x → P x) → EndsBy (λ x t. (t ≡ s) × P x) (found n o) s
found_by P s n None h = tt
found_by P s n (Some x) h = (refl, h x refl)

-- an answer
pub reads_give : {A : Type 0} {P : A → Type 0} {s : Run} (x : A) → P x → Reads P s (give (Ok x))
unfolding give
reads_give x p = record { so = (refl, p) }

-- a refusal
pub reads_refuse : {A : Type 0} {P : A → Type 0} {s : Run} (n : ℕ) → Reads {A = A} P s (refuse n)
reads_refuse n = record { so = tt }

-- what was read under the id, of this kind and as this value
pub record IsReadAs {A : Type 0} (s : Run) (kind : ℕ) (read : List ℕ → Option A) (id : ObjectId) (x : A) : Type 0 where
  pub object : Object
  pub there : get s.world.objects id ≡ Some object
  pub of_kind : object.kind ≡ kind
  pub value : read object.bytes ≡ Some x

-- an object
pub reads_get : (s : Run) (id : ObjectId) → Reads (λ object. get s.world.objects id ≡ Some object) s (act.get id)
unfolding act.get
reads_get s id = record { so = found_by (λ object. get s.world.objects id ≡ Some object) s act.OBJECT_NOT_FOUND (get s.world.objects id) (λ object e. e) }

-- what a name is bound to
pub reads_bound : (s : Run) (name : List ℕ) → Reads (λ id. get s.world.names name ≡ Some id) s (act.bound name)
unfolding act.bound
reads_bound s name = record { so = found_by (λ id. get s.world.names name ≡ Some id) s act.NAME_NOT_BOUND (get s.world.names name) (λ id e. e) }

-- a value
pub reads_as : {A : Type 0} (s : Run) (kind : ℕ) (read : List ℕ → Option A) (id : ObjectId) → Reads (IsReadAs s kind read id) s (get_as kind read id)
unfolding get_as
reads_as {A = A} s kind read id = reads_more (reads_get s id) (λ object there. record {
  so = elim (object.kind == kind) as (λ b. object.kind == kind ≡ b → EndsBy (λ x t. (t ≡ s) × IsReadAs s kind read id x) ((if b then (found act.BAD_BYTES (read object.bytes), s) else refuse {A = A} act.WRONG_KIND s).0) ((if b then (found act.BAD_BYTES (read object.bytes), s) else refuse {A = A} act.WRONG_KIND s).1)) [
    | true ↦ λ k. found_by (IsReadAs s kind read id) s act.BAD_BYTES (read object.bytes) (λ x e. record { object = object; there = there; of_kind = eqb-true _ _ k; value = e })
    | false ↦ λ k. tt
  ] refl;
})

-- the run as it was, and what its names and records are
pub record IsUnder {A : Type 0} (s : Run) (name : List ℕ) (kind : ℕ) (read : List ℕ → Option A) (p : ObjectId × A) : Type 0 where
  pub bound : get s.world.names name ≡ Some p.0
  pub value : IsReadAs s kind read p.0 p.1

reads_found : {A : Type 0} (s : Run) (name : List ℕ) (kind : ℕ) (read : List ℕ → Option A) (o : Option ObjectId) → ((id : ObjectId) → o ≡ Some id → get s.world.names name ≡ Some id) → Reads (IsUnder s name kind read) s (found_as o kind read)
reads_found s name kind read None h = record { so = tt }
reads_found {A = A} s name kind read (Some id) h =
    let p : Reads (IsUnder s name kind read) s (and_then (get_as kind read id) (λ x. give (Ok (id, x)))) = reads_more (reads_as s kind read id) (λ x is. reads_give (id, x) (record { bound = h id refl; value = is })) in
    record { so = p.so }

-- what a platform name is bound to, its name is bound to
pub platform_is : (s : Run) (name : List ℕ) (id : ObjectId) → platform_bound s name ≡ Some id → get s.world.names name ≡ Some id
platform_is s name id e = elim (is_name_too_long name) as (λ b. (if b then None else get s.world.names name) ≡ Some id → get s.world.names name ≡ Some id) [
  | true ↦ λ f. absurd cc
  | false ↦ λ f. f
] e

-- a record under a platform name
pub reads_under : {A : Type 0} (s : Run) (name : List ℕ) (kind : ℕ) (read : List ℕ → Option A) → Reads (IsUnder s name kind read) s (record_under name kind read)
reads_under s name kind read =
    let p = reads_found s name kind read (platform_bound s name) (platform_is s name) in
    record { so = p.so }

-- the record of this session, with its number
pub record IsOwn (s : Run) (session : Session) (p : ObjectId × SessionRecord) : Type 0 where
  pub under : IsUnder s (session_name session.name) SESSION_KIND session_of p
  pub number : p.1.conn.0 ≡ session.conn.0

-- a session's own record
pub reads_own : (s : Run) (session : Session) → Reads (IsOwn s session) s (own_record session)
reads_own s session = reads_more (reads_under s (session_name session.name) SESSION_KIND session_of) (λ r is. record {
  so = elim (nat_eq r.1.conn.0 session.conn.0) as (λ b. nat_eq r.1.conn.0 session.conn.0 ≡ b → EndsBy (λ x t. (t ≡ s) × IsOwn s session x) (((if b then give (Ok r) else refuse NAME_NOT_BOUND) s).0) (((if b then give (Ok r) else refuse NAME_NOT_BOUND) s).1)) [
    | true ↦ λ e. (reads_give {P = IsOwn s session} {s = s} r (record { under = is; number = eqb-true _ _ e })).so
    | false ↦ λ e. tt
  ] refl;
})
