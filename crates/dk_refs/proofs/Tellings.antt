-- What the refusal of a call tells, from the refusals of the calls that it made.
use Rattle.std.proofs.Common.{◌≡◌, ℕ, ◌==◌, Bool, true, false, if◌then◌else◌, nat_le, ◌<◌, ◌++◌, [], length, length-append, arith, Option, Some, None, List, Result, Ok, Err, refl, sym, ap, subst, ◌∙◌}
use Rattle.std.specs.Result.{IsErrAnd, IfErr}
use Rattle.std.specs.FinMap as map
use Rattle.std.proofs.lemmas.Bool.Decides.{nat_tests}
use Rattle.dk_types.specs.declared.number.ConnNo.{ConnNo}
use Rattle.dk_types.specs.declared.number.ObjectId.{ObjectId}
use Rattle.dk_types.specs.declared.object.Object.{Object}
use Rattle.dk_types.specs.declared.fault.AppFault.{AppFault}
use Rattle.dk_types.specs.declared.fault.AppFault.TheVariants.{Refused}
use Rattle.dk_types.specs.Fields.{u8_spelling, u64_spelling, name_spelling}
use Rattle.dk_types.specs.Lists.{list_spelling}
use Rattle.dk_wire.proofs.LengthLaws.{length-u8, length-u64, length-list}
use Rattle.dk_model.specs.declared.records.Delivery.{Delivery}
use Rattle.dk_model.specs.Records.{session_bytes, channel_bytes, member_bytes, flag, delivery_number}
use Rattle.dk_types.specs.declared.mode.Mode.{Mode}
use Rattle.dk_model.specs.DurableWorlds.{DurableWorld, Agrees}
use Rattle.dk_model.specs.Runs as act
use Rattle.dk_model.specs.Runs.{Run, Act, give, and_then, carry_on, found, change_found, with_object}
use Rattle.dk_model.specs.References.{get_as}
use Rattle.dk_model.specs.Platforms.{platform_bound, found_as}
use Rattle.dk_overlay.specs.ReadsAndWrites.{ReadsAndWrites}
use Rattle.dk_txn.specs.Current.{current}
use Rattle.dk_txn.specs.declared.refusal.Refusal.{Refusal}
use Rattle.dk_txn.specs.declared.refusal.Refusal.TheVariants as refusal
use Rattle.dk_txn.specs.declared.txn.Txn.{Txn}
use Rattle.dk_txn.specs.Bindings.{binding}
use Rattle.dk_txn.specs.Refusals.{refusal_fault, TellsLength}
use Rattle.dk_txn.specs.Does.{Does, SameChanges, failure}
use Rattle.dk_txn.proofs.Kit.{agreed}
use Rattle.dk_refs.specs.Telling.{TellsKind, TellsKindOf, TellsLengthIn, TellsLengthOf, kind_at, kind_under}
use Rattle.dk_refs.proofs.Calls.{passed}
use Rattle.dk_txn.specs.Sights.{Sights}

-- the act is never refused by this number
abbrev pub Avoids : {A : Type 0} → ℕ → Act A → Type 0
Avoids n f = (s t : Run) → f s ≡ (Err (Refused n), t) → ⊥

pub refuses : {A P : Type 0} (m n : ℕ) (s t : Run) → (m ≡ n → ⊥) → ◌≡◌ {A = Result A AppFault × Run} (Err (Refused m), s) (Err (Refused n), t) → P
refuses {A = A} m n s t other e =
    let told : ◌≡◌ {A = Result A AppFault} (Err (Refused m)) (Err (Refused n)) = ap (λ q. q.0) e in
    let same : m ≡ n = cc in absurd (other same)

pub answers : {A P : Type 0} (x : A) (n : ℕ) (s t : Run) → ◌≡◌ {A = Result A AppFault × Run} (Ok x, s) (Err (Refused n), t) → P
answers {A = A} x n s t e = let same : ◌≡◌ {A = Result A AppFault} (Ok x) (Err (Refused n)) = ap (λ q. q.0) e in absurd cc

pub give_avoids : {A : Type 0} (n : ℕ) (x : A) → Avoids n (give (Ok x))
unfolding give
give_avoids n x s t e = answers x n s t e

pub refuse_avoids : {A : Type 0} (m n : ℕ) → (m ≡ n → ⊥) → Avoids n (act.refuse {A = A} m)
refuse_avoids m n other s t e = refuses m n s t other e

pub then_avoids : {A B : Type 0} {n : ℕ} {f : Act A} {g : A → Act B} → Avoids n f → ((x : A) → Avoids n (g x)) → Avoids n (and_then f g)
unfolding and_then
then_avoids {A = A} {B = B} {n = n} {f = f} {g = g} first next s t e = by (f s) refl e
  where
    by : (q : Result A AppFault × Run) → f s ≡ q → carry_on q.0 g q.1 ≡ (Err (Refused n), t) → ⊥
    by (Ok x, u) is h = next x u t h
    by (Err fault, u) is h =
        let told : ◌≡◌ {A = Result B AppFault} (Err fault) (Err (Refused n)) = ap (λ q. q.0) h in
        let same : fault ≡ Refused n = cc in first s u (is ∙ ap (λ r. (Err r, u)) same)

pub if_avoids : {A : Type 0} {n : ℕ} {f g : Act A} (b : Bool) → Avoids n f → Avoids n g → Avoids n (if b then f else g)
if_avoids true p q = p
if_avoids false p q = q

found_avoids : {A : Type 0} (m n : ℕ) (o : Option A) (s t : Run) → (m ≡ n → ⊥) → ◌≡◌ {A = Result A AppFault × Run} (found m o, s) (Err (Refused n), t) → ⊥
found_avoids m n None s t other e = refuses m n s t other e
found_avoids m n (Some x) s t other e = answers x n s t e

get_avoids : (id : ObjectId) → Avoids 4 (act.get id)
unfolding act.get
get_avoids id s t e = found_avoids 2 4 _ s t (λ e. cc) e

-- no read of a value is refused by 4
pub get_as_avoids : {A : Type 0} (kind : ℕ) (read : List ℕ → Option A) (id : ObjectId) → Avoids 4 (get_as kind read id)
unfolding get_as
get_as_avoids kind read id = then_avoids (get_avoids id) (λ object s t. by (object.kind == kind) object s t)
  where
    by : (b : Bool) (object : Object) (s t : Run) → (if b then (found 10 (read object.bytes), s) else act.refuse 3 s) ≡ (Err (Refused 4), t) → ⊥
    by true object s t e = found_avoids 10 4 (read object.bytes) s t (λ e. cc) e
    by false object s t e = refuses 3 4 s t (λ e. cc) e

-- nor one of the record under a name
pub found_as_avoids : {A : Type 0} (o : Option ObjectId) (kind : ℕ) (read : List ℕ → Option A) → Avoids 4 (found_as o kind read)
found_as_avoids None kind read s t e = refuses 1 4 s t (λ e. cc) e
found_as_avoids (Some id) kind read s t e = then_avoids (get_as_avoids kind read id) (λ x. give_avoids 4 (id, x)) s t e

-- an object that is changed is not refused over its kind, nor over a length
pub change_avoids : (o : Option Object) (id : ObjectId) (change : Object → Option Object) (n : ℕ) → (2 ≡ n → ⊥) → (6 ≡ n → ⊥) → Avoids n (change_found o id change)
change_avoids None id change n two six s t e = refuses 2 n s t two e
change_avoids (Some object) id change n two six s t e = by (act.is_reserved_kind s.mode object.kind) e
  where
    by : (b : Bool) → ◌≡◌ {A = Result (Unit {0}) AppFault × Run} (if b then act.refuse 6 s else (Ok tt, with_object s id (change object))) (Err (Refused n), t) → ⊥
    by true e = refuses 6 n s t six e
    by false e = answers tt n (with_object s id (change object)) t e

-- what is short is made without a refusal by 4, and a name is bound without one by any number but 6
pub create_avoids : (kind : ℕ) (bytes : List ℕ) → act.is_too_long bytes ≡ false → Avoids 4 (act.create kind bytes)
unfolding act.create
create_avoids kind bytes short s t e = by _ _ (act.is_reserved_kind s.mode kind) (nat_le 65536 s.objects_made) (rw short at e)
  where
    by : (new : Run) (id : ObjectId) (reserved full : Bool) → ◌≡◌ {A = Result ObjectId AppFault × Run} (if reserved then act.refuse 6 s else if full then act.refuse 8 s else (Ok id, new)) (Err (Refused 4), t) → ⊥
    by new id true full e = refuses 6 4 s t (λ e. cc) e
    by new id false true e = refuses 8 4 s t (λ e. cc) e
    by new id false false e = answers id 4 new t e

pub binding_avoids : (name : List ℕ) (n : ℕ) → Avoids n (binding name)
unfolding binding
binding_avoids name n s t e = answers (map.get s.world.names name) n s t e

pub bound_avoids : (name : List ℕ) (n : ℕ) → (1 ≡ n → ⊥) → Avoids n (act.bound name)
unfolding act.bound
bound_avoids name n one s t e = found_avoids 1 n (map.get s.world.names name) s t one e

pub bind_avoids : (name : List ℕ) (id : ObjectId) (n : ℕ) → (6 ≡ n → ⊥) → Avoids n (act.bind name id)
unfolding act.bind
bind_avoids name id n six s t e = by _ (act.is_reserved_name s.mode name) e
  where
    by : (new : Run) (b : Bool) → ◌≡◌ {A = Result (Unit {0}) AppFault × Run} (if b then act.refuse 6 s else (Ok tt, new)) (Err (Refused n), t) → ⊥
    by new true e = refuses 6 n s t six e
    by new false e = answers tt n new t e

-- a name that is unbound is not refused over a kind, nor over a length
pub unbind_avoids : (name : List ℕ) (n : ℕ) → (1 ≡ n → ⊥) → (6 ≡ n → ⊥) → Avoids n (act.unbind name)
unfolding act.unbind
unbind_avoids name n one six s t e = by (act.is_reserved_name s.mode name) e
  where
    at : (o : Option ObjectId) → act.unbind_found o name s ≡ (Err (Refused n), t) → ⊥
    at None e = refuses 1 n s t one e
    at (Some id) e = answers tt n (act.with_name s name None) t e

    by : (b : Bool) → ◌≡◌ {A = Result (Unit {0}) AppFault × Run} (if b then act.refuse 6 s else act.unbind_found (map.get s.world.names name) name s) (Err (Refused n), t) → ⊥
    by true e = refuses 6 n s t six e
    by false e = at (map.get s.world.names name) e

pub remove_avoids : (id : ObjectId) (n : ℕ) → (2 ≡ n → ⊥) → (6 ≡ n → ⊥) → Avoids n (act.remove id)
unfolding act.remove
remove_avoids id n two six s t e = change_avoids (map.get s.world.objects id) id (λ object. None) n two six s t e

-- what is saved is not refused over a kind, and what is short not over a length
pub save_avoids : (id : ObjectId) (bytes : List ℕ) → Avoids 3 (act.save id bytes)
unfolding act.save
save_avoids id bytes s t e = by (act.is_too_long bytes) e
  where
    by : (b : Bool) → (if b then act.refuse 4 s else act.change_object id (λ object. Some (record { kind = object.kind; bytes = bytes })) s) ≡ (Err (Refused 3), t) → ⊥
    by true e = refuses 4 3 s t (λ e. cc) e
    by false e = change_avoids (map.get s.world.objects id) id (λ object. Some (record { kind = object.kind; bytes = bytes })) 3 (λ e. cc) (λ e. cc) s t e

pub save_short_avoids : (id : ObjectId) (bytes : List ℕ) → act.is_too_long bytes ≡ false → Avoids 4 (act.save id bytes)
unfolding act.save
save_short_avoids id bytes short s t e = change_avoids (map.get s.world.objects id) id (λ object. Some (record { kind = object.kind; bytes = bytes })) 4 (λ e. cc) (λ e. cc) s t (rw short at e)

-- a new record is short
short_of : (bytes : List ℕ) → length bytes < 100 → act.is_too_long bytes ≡ false
short_of bytes h = grind (arith, nat_tests, h)

pub session_short : (conn : ConnNo) → act.is_too_long (session_bytes (record { conn = conn; channels = [] })) ≡ false
session_short conn = short_of _ (omega (arith, length-append (u64_spelling conn.0) (list_spelling name_spelling []), length-u64 conn.0, length-list name_spelling []))

pub channel_short : (listener : Bool) (delivery : Delivery) → act.is_too_long (channel_bytes (record { listener = listener; delivery = delivery; members = [] })) ≡ false
channel_short listener delivery = short_of _ (omega (
  arith,
  length-append (u8_spelling (flag listener)) (u8_spelling (delivery_number delivery) ++ list_spelling member_bytes []),
  length-append (u8_spelling (delivery_number delivery)) (list_spelling member_bytes []),
  length-u8 (flag listener),
  length-u8 (delivery_number delivery),
  length-list member_bytes [],
))

-- where no agreeing world refuses so, nothing is told of a kind
no_kind : (t : ReadsAndWrites) (kind : DurableWorld → Option ℕ) (e : Refusal) → (refusal_fault e ≡ Some (Refused 3) → (d : DurableWorld) → Agrees d t.reads → ⊥) → TellsKindOf t kind e
no_kind t kind (refusal.WrongKind other) h = λ d agrees. absurd (h refl d agrees)
no_kind t kind refusal.NameNotBound h = tt
no_kind t kind refusal.ObjectNotFound h = tt
no_kind t kind (refusal.TooLong len) h = tt
no_kind t kind refusal.BadDelay h = tt
no_kind t kind refusal.Reserved h = tt
no_kind t kind refusal.NoMemory h = tt
no_kind t kind refusal.TooMany h = tt
no_kind t kind refusal.NameExists h = tt
no_kind t kind refusal.BadBytes h = tt

-- nor, where it is not refused by 4, of a length
no_length : (bytes : List ℕ) (e : Refusal) → (refusal_fault e ≡ Some (Refused 4) → ⊥) → TellsLength bytes e
no_length bytes (refusal.TooLong len) h = absurd (h refl)
no_length bytes refusal.NameNotBound h = tt
no_length bytes refusal.ObjectNotFound h = tt
no_length bytes (refusal.WrongKind other) h = tt
no_length bytes refusal.BadDelay h = tt
no_length bytes refusal.Reserved h = tt
no_length bytes refusal.NoMemory h = tt
no_length bytes refusal.TooMany h = tt
no_length bytes refusal.NameExists h = tt
no_length bytes refusal.BadBytes h = tt

-- a refusal over a length is none over a kind
pub long_tells : (t : ReadsAndWrites) (kind : DurableWorld → Option ℕ) (e : Refusal) → refusal_fault e ≡ Some (Refused 4) → TellsKindOf t kind e
long_tells t kind e is = no_kind t kind e (λ three d agrees. let same : Some (Refused 4) ≡ Some (Refused 3) = sym is ∙ three in cc)

ok_some : {A : Type 0} (o : Option A) (x : A) → ◌≡◌ {A = Result (Option A) AppFault} (Ok o) (Ok (Some x)) → o ≡ Some x
ok_some o x e = cc

-- an object that a platform name leads to has the kind that is told
leads_kind : (t : ReadsAndWrites) (name : List ℕ) (id : ObjectId) (e : Refusal) → ((d : DurableWorld) → Agrees d t.reads → platform_bound (current t d) name ≡ Some id) → TellsKind t id e → TellsKindOf t (kind_under name) e
leads_kind t name id (refusal.WrongKind other) at told = λ d agrees. ap (λ o. kind_at o (current t d).world) (at d agrees) ∙ told d agrees
leads_kind t name id refusal.NameNotBound at told = tt
leads_kind t name id refusal.ObjectNotFound at told = tt
leads_kind t name id (refusal.TooLong len) at told = tt
leads_kind t name id refusal.BadDelay at told = tt
leads_kind t name id refusal.Reserved at told = tt
leads_kind t name id refusal.NoMemory at told = tt
leads_kind t name id refusal.TooMany at told = tt
leads_kind t name id refusal.NameExists at told = tt
leads_kind t name id refusal.BadBytes at told = tt

-- the mode has no part in it
moded : (t : ReadsAndWrites) (mode : Mode) (kind : DurableWorld → Option ℕ) (e : Refusal) → TellsKindOf t kind e → TellsKindOf (record t { mode = mode }) kind e
moded t mode kind (refusal.WrongKind other) told = told
moded t mode kind refusal.NameNotBound told = tt
moded t mode kind refusal.ObjectNotFound told = tt
moded t mode kind (refusal.TooLong len) told = tt
moded t mode kind refusal.BadDelay told = tt
moded t mode kind refusal.Reserved told = tt
moded t mode kind refusal.NoMemory told = tt
moded t mode kind refusal.TooMany told = tt
moded t mode kind refusal.NameExists told = tt
moded t mode kind refusal.BadBytes told = tt

pub kind_moded : {A : Type 0} (r : Result A Refusal) (t u : ReadsAndWrites) (mode : Mode) (kind : DurableWorld → Option ℕ) → u ≡ record t { mode = mode } → IfErr r (TellsKindOf t kind) → IfErr r (TellsKindOf u kind)
kind_moded (Ok x) t u mode kind is told = tt
kind_moded (Err e) t u mode kind is told = rw is (moded t mode kind e told)

pub length_moded : {A : Type 0} (r : Result A Refusal) (t u : ReadsAndWrites) (mode : Mode) (bytes : List ℕ) → u ≡ record t { mode = mode } → IfErr r (TellsLengthIn t bytes) → IfErr r (TellsLengthIn u bytes)
length_moded (Ok x) t u mode bytes is told = tt
length_moded (Err e) t u mode bytes is told = rw is told

pub length_of_moded : {A : Type 0} (r : Result A Refusal) (t b c u : ReadsAndWrites) (first last : Mode) (bytes : DurableWorld → List ℕ) → b ≡ record t { mode = first } → u ≡ record c { mode = last } → IfErr r (TellsLengthOf b c bytes) → IfErr r (TellsLengthOf t u bytes)
length_of_moded (Ok x) t b c u first last bytes is was told = tt
length_of_moded (Err e) t b c u first last bytes is was told = rw was (λ d agrees. subst (λ (l : ReadsAndWrites). TellsLength (bytes (current l d).world) e) is (told d agrees))

-- the changes are all that a run in its midst is made of
pub current_same : (a b : ReadsAndWrites) (d : DurableWorld) → SameChanges a b → current b d ≡ current a d
current_same a b d same = ap (λ (t : ReadsAndWrites). current t d) same

module _ {S : Type 0} {sights : Sights S} {a b : Txn S ReadsAndWrites} {A : Type 0} {f : Act A} {e : Refusal} (p : Does sights refusal_fault a b f (Err e)) where
  -- a refusal that is passed on tells what it told
  pub kind_passes : {B : Type 0} (r : Result B Refusal) (kind : DurableWorld → Option ℕ) → TellsKindOf b.set kind e → IsErrAnd r (λ h. h ≡ e) → IfErr r (TellsKindOf b.set kind)
  kind_passes r kind told is = passed (TellsKindOf b.set kind) e r is told

  pub length_passes : {B : Type 0} (r : Result B Refusal) (bytes : List ℕ) → TellsLengthIn b.set bytes e → IsErrAnd r (λ h. h ≡ e) → IfErr r (TellsLengthIn b.set bytes)
  length_passes r bytes told is = passed (TellsLengthIn b.set bytes) e r is told

  -- one that is none over a kind, or none over a length
  pub kind_never : (kind : DurableWorld → Option ℕ) → Avoids 3 f → TellsKindOf b.set kind e
  kind_never kind never = no_kind b.set kind e (λ is d agrees. never (current a.set d) (current b.set d) (p.does (Err (Refused 3)) (ap failure is) d agrees))

  pub length_never : (bytes : List ℕ) → Avoids 4 f → TellsLengthIn b.set bytes e
  length_never bytes never = λ d agrees. no_length bytes e (λ is. never (current a.set d) (current b.set d) (p.does (Err (Refused 4)) (ap failure is) d agrees))

  pub length_of_never : {B : Type 0} (r : Result B Refusal) (before : ReadsAndWrites) (bytes : DurableWorld → List ℕ) → Avoids 4 f → IsErrAnd r (λ h. h ≡ e) → IfErr r (TellsLengthOf before b.set bytes)
  length_of_never r before bytes never is =
      passed (TellsLengthOf before b.set bytes) e r is (λ d agrees. no_length (bytes (current before d).world) e (λ four. never (current a.set d) (current b.set d) (p.does (Err (Refused 4)) (ap failure four) d agrees)))

module _ {S : Type 0} {sights : Sights S} where
  -- the last call, which may have been answered
  pub kind_never_last : {a b : Txn S ReadsAndWrites} {A : Type 0} {f : Act A} {r : Result A Refusal} (kind : DurableWorld → Option ℕ) → Avoids 3 f → Does sights refusal_fault a b f r → IfErr r (TellsKindOf b.set kind)
  kind_never_last {r = Ok x} kind never p = tt
  kind_never_last {r = Err e} kind never p = kind_never p kind never

  pub length_never_last : {a b : Txn S ReadsAndWrites} {A : Type 0} {f : Act A} {r : Result A Refusal} (bytes : List ℕ) → Avoids 4 f → Does sights refusal_fault a b f r → IfErr r (TellsLengthIn b.set bytes)
  length_never_last {r = Ok x} bytes never p = tt
  length_never_last {r = Err e} bytes never p = length_never p bytes never

  -- a name was looked up, and the object that it leads to was read, and is of another kind
  pub kind_found : {a b c : Txn S ReadsAndWrites} {id : ObjectId} {A B : Type 0} {f : Act A} {e : Refusal} (r : Result B Refusal) (name : List ℕ) → Does sights refusal_fault a b (λ s. (Ok (platform_bound s name), s)) (Ok (Some id))
      → Does sights refusal_fault b c f (Err e) → SameChanges b.set c.set → TellsKind c.set id e → IsErrAnd r (λ h. h ≡ e) → IfErr r (TellsKindOf c.set (kind_under name))
  kind_found {a = a} {b = b} {c = c} {id = id} {e = e} r name p q same told is = passed (TellsKindOf c.set (kind_under name)) e r is (leads_kind c.set name id e by told)
    where
      by : (d : DurableWorld) → Agrees d c.set.reads → platform_bound (current c.set d) name ≡ Some id
      by d agrees =
          let looked = p.does (Ok (Some id)) refl d (agreed q.keeps d agrees) in
          subst (λ (s : Run). platform_bound s name ≡ Some id) (ap (λ q. q.1) looked ∙ sym (current_same b.set c.set d same)) (ok_some (platform_bound (current a.set d) name) id (ap (λ q. q.0) looked))
