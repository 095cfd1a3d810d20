-- What the steps of a leave of all members find of the members, and leave to be found.
use Rattle.std.proofs.Common.{◌≡◌, ℕ, ◌==◌, arith, nat_eq, Bool, true, false, if◌then◌else◌, Option, Some, None, is_some, List, [], ◌∷◌, length, Result, Ok, Err, refl, sym, ap, subst, ◌∙◌}
use Rattle.std.specs.Option.{option_or}
use Rattle.std.specs.FinMap.{get}
use Rattle.std.proofs.lemmas.Bool.Decides.{nat_tests}
use Rattle.dk_types.specs.declared.number.ObjectId.{ObjectId}
use Rattle.dk_types.specs.declared.object.Object.{Object}
use Rattle.dk_types.specs.declared.job.Session.{Session}
use Rattle.dk_types.specs.declared.fault.AppFault.{AppFault}
use Rattle.dk_types.specs.declared.fault.AppFault.TheVariants.{Refused}
use Rattle.dk_model.specs.declared.records.SessionRecord.{SessionRecord}
use Rattle.dk_model.specs.declared.records.ChannelRecord.{ChannelRecord}
use Rattle.dk_model.specs.DurableWorlds.{DurableWorld}
use Rattle.dk_model.specs.Runs as act
use Rattle.dk_model.specs.Runs.{Run, Act, give, and_then, carry_on, is_too_long}
use Rattle.dk_model.specs.References.{get_as}
use Rattle.dk_model.specs.Records.{SESSION_KIND, CHANNEL_KIND, session_of, session_name, channel_of, channel_name}
use Rattle.dk_model.specs.Platforms.{platform_bound, found_as, session_under, channel_under, recorded_as, record_if_connected, bytes_without, without_it, record_without}
use Rattle.dk_refs.specs.Telling.{kind_of, kind_at, kind_under, bound_to, value_of_bytes, value_under}
use Rattle.dk_refs.proofs.Standing.{stands, is_other}
use Rattle.dk_refs.proofs.Tellings.{Avoids, answers, give_avoids, then_avoids, get_as_avoids}
use Rattle.dk_channels.specs.AllMembers.{first_of, not_session, wrong_kind_of, if_session, session_at, length_if_long, long_without, long_record_of, AreShort}
use Rattle.dk_channels.proofs.Lengths.{short_read}

-- two steps that were not refused
then_ok : {A B : Type 0} (f : Act A) (g : A → Act B) (y : B) (s t : Run) → and_then f g s ≡ (Ok y, t) → (x : A) × (u : Run) × (f s ≡ (Ok x, u)) × (g x u ≡ (Ok y, t))
unfolding and_then
then_ok {A = A} {B = B} f g y s t e = by (f s) refl e
  where
    by : (q : Result A AppFault × Run) → f s ≡ q → carry_on q.0 g q.1 ≡ (Ok y, t) → (x : A) × (u : Run) × (f s ≡ (Ok x, u)) × (g x u ≡ (Ok y, t))
    by (Ok x, u) is h = (x, u, is, h)
    by (Err fault, u) is h = let told : ◌≡◌ {A = Result B AppFault} (Err fault) (Ok y) = ap (λ q. q.0) h in absurd cc

given : {A : Type 0} (x y : A) (s t : Run) → give (Ok x) s ≡ (Ok y, t) → (x ≡ y) × (t ≡ s)
unfolding give
given {A = A} x y s t e = let told : ◌≡◌ {A = Result A AppFault} (Ok x) (Ok y) = ap (λ q. q.0) e in (cc, sym (ap (λ q. q.1) e))

-- a step, and an answer made of its own
give_ok : {A B : Type 0} (f : Act A) (h : A → B) (x : A) (s t : Run) → f s ≡ (Ok x, t) → and_then f (λ x. give (Ok (h x))) s ≡ (Ok (h x), t)
unfolding and_then give
give_ok f h x s t e = ap (λ q. carry_on q.0 (λ x s. (Ok (h x), s)) q.1) e

-- whatever the answer is made of, the refusal is the step's own
give_err : {A B C : Type 0} (f : Act A) (h : A → B) (k : A → C) (fault : AppFault) (s t : Run) → and_then f (λ x. give (Ok (h x))) s ≡ (Err fault, t) → and_then f (λ x. give (Ok (k x))) s ≡ (Err fault, t)
unfolding and_then give
give_err {A = A} {B = B} {C = C} f h k fault s t e = by (f s) e
  where
    by : (q : Result A AppFault × Run) → carry_on {B = B} q.0 (λ x s. (Ok (h x), s)) q.1 ≡ (Err fault, t) → carry_on {B = C} q.0 (λ x s. (Ok (k x), s)) q.1 ≡ (Err fault, t)
    by (Ok x, u) e = let told : ◌≡◌ {A = Result B AppFault} (Ok (h x)) (Err fault) = ap (λ q. q.0) e in absurd cc
    by (Err other, u) e =
        let told : ◌≡◌ {A = Result B AppFault} (Err other) (Err fault) = ap (λ q. q.0) e in
        let same : other ≡ fault = cc in ap (λ (r : AppFault × Run). (Err r.0, r.1)) (λ i. (same i, ap (λ q. q.1) e i))

-- what a look at a member's record found
abbrev pub Found : List ℕ → Session → Option (ObjectId × SessionRecord) → DurableWorld → Type 0
Found name m None world = long_record_of name m world ≡ None
Found name m (Some p) world = (session_at (Some p.0) world ≡ Some p.1) × (long_record_of name m world ≡ length_if_long (bytes_without name p.1)) × (bound_to (session_name m.name) world ≡ Some p.0)

pub record Looked (name : List ℕ) (m : Session) (x : Option (ObjectId × SessionRecord)) (s t : Run) : Type 0 where
  pub same : t ≡ s
  pub kind : wrong_kind_of m s.world ≡ None
  pub found : Found name m x s.world

pub looked : (name : List ℕ) (m : Session) (x : Option (ObjectId × SessionRecord)) (s t : Run) → record_if_connected m s ≡ (Ok x, t) → Looked name m x s t
looked name m x s t e = by (platform_bound s (session_name m.name)) refl e
  where
    -- a record that stands is looked at by its number
    numbered : (id : ObjectId) (r : SessionRecord) (b : Bool) → (if b then Some (id, r) else None) ≡ x → session_at (Some id) s.world ≡ Some r → long_record_of name m s.world ≡ (if b then length_if_long (bytes_without name r) else None) → bound_to (session_name m.name) s.world ≡ Some id → Found name m x s.world
    numbered id r true is own long bound = subst (λ x. Found name m x s.world) is (own, long, bound)
    numbered id r false is own long bound = subst (λ x. Found name m x s.world) is long

    by : (o : Option ObjectId) → platform_bound s (session_name m.name) ≡ o → recorded_as o m.conn s ≡ (Ok x, t) → Looked name m x s t
    by None is e =
        let told : ◌≡◌ {A = Result (Option (ObjectId × SessionRecord)) AppFault} (Ok None) (Ok x) = ap (λ q. q.0) e in
        let none : None ≡ x = cc in
        record {
          same = sym (ap (λ q. q.1) e);
          kind = ap (λ o. not_session (kind_at o s.world)) is;
          found = subst (λ x. Found name m x s.world) none (ap (λ o. long_without name m.conn (session_at o s.world)) is);
        }
    by (Some id) is e =
        let got = then_ok (get_as SESSION_KIND session_of id) (λ r. give (Ok (if nat_eq r.conn.0 m.conn.0 then Some (id, r) else None))) x s t e in
        let end = given (if nat_eq got.0.conn.0 m.conn.0 then Some (id, got.0) else None) x got.1 t got.3 in
        let under : session_under m.name s ≡ (Ok (id, got.0), got.1) = ap (λ o. found_as o SESSION_KIND session_of s) is ∙ give_ok (get_as SESSION_KIND session_of id) (λ r. (id, r)) got.0 s got.1 got.2 in
        let own = stands SESSION_KIND session_of s got.1 (session_name m.name) (id, got.0) under in
        let record_is : session_at (bound_to (session_name m.name) s.world) s.world ≡ Some got.0 = ap (λ k. if_session k (value_under session_of (session_name m.name) s.world)) own.has_kind ∙ own.has_value in
        record {
          same = end.1 ∙ own.same;
          kind = ap not_session own.has_kind;
          found = numbered id got.0 (nat_eq got.0.conn.0 m.conn.0) end.0 (ap (λ o. session_at o s.world) (sym is) ∙ record_is) (ap (long_without name m.conn) record_is) is;
        }

-- a look that was refused over a kind met one that is not a session's
pub look_other : (m : Session) (s t : Run) → record_if_connected m s ≡ (Err (Refused 3), t) → kind_under (session_name m.name) s.world ≡ Some SESSION_KIND → ⊥
look_other m s t e = by (platform_bound s (session_name m.name)) refl e
  where
    by : (o : Option ObjectId) → platform_bound s (session_name m.name) ≡ o → recorded_as o m.conn s ≡ (Err (Refused 3), t) → kind_under (session_name m.name) s.world ≡ Some SESSION_KIND → ⊥
    by None is e = answers None 3 s t e
    by (Some id) is e =
        let under : session_under m.name s ≡ (Err (Refused 3), t) = ap (λ o. found_as o SESSION_KIND session_of s) is ∙ give_err (get_as SESSION_KIND session_of id) (λ r. if nat_eq r.conn.0 m.conn.0 then Some (id, r) else None) (λ r. (id, r)) (Refused 3) s t e in
        (is_other SESSION_KIND session_of s t (session_name m.name) under).other

-- no look is refused over a length
pub look_avoids : (m : Session) → Avoids 4 (record_if_connected m)
look_avoids m s t e = by (platform_bound s (session_name m.name)) e
  where
    by : (o : Option ObjectId) → recorded_as o m.conn s ≡ (Err (Refused 4), t) → ⊥
    by None e = answers None 4 s t e
    by (Some id) e = then_avoids (get_as_avoids SESSION_KIND session_of id) (λ r. give_avoids 4 (if nat_eq r.conn.0 m.conn.0 then Some (id, r) else None)) s t e

-- a channel's record stands under its name
pub channel_stands : (name : List ℕ) (x : ObjectId × ChannelRecord) (s t : Run) → channel_under name s ≡ (Ok x, t) → bound_to (channel_name name) s.world ≡ Some x.0
channel_stands name x s t e = by (platform_bound s (channel_name name)) refl e
  where
    by : (o : Option ObjectId) → platform_bound s (channel_name name) ≡ o → found_as o CHANNEL_KIND channel_of s ≡ (Ok x, t) → platform_bound s (channel_name name) ≡ Some x.0
    by None is e = answers x 1 t s (sym e)
    by (Some id) is e =
        let got = then_ok (get_as CHANNEL_KIND channel_of id) (λ c. give (Ok (id, c))) x s t e in
        is ∙ ap (λ (p : ObjectId × ChannelRecord). Some p.0) (given (id, got.0) x got.1 t got.3).0

-- what a look at a member's record finds where it is not refused: nothing to tell
pub record IsFine (name : List ℕ) (m : Session) (s t : Run) : Type 0 where
  pub same : t ≡ s
  pub kind : wrong_kind_of m s.world ≡ None
  pub length : long_record_of name m s.world ≡ None

pub fine : (name : List ℕ) (m : Session) (o : Option (ObjectId × List ℕ)) (s t : Run) → record_without name m s ≡ (Ok o, t) → IsFine name m s t
fine name m o s t e = let p = then_ok (record_if_connected m) (without_it name) o s t e in after p.0 p.1 (looked name m p.0 s p.1 p.2) p.3
  where
    after : (x : Option (ObjectId × SessionRecord)) (u : Run) → Looked name m x s u → without_it name x u ≡ (Ok o, t) → IsFine name m s t
    after None u l e = record { same = (given None o u t e).1 ∙ l.same; kind = l.kind; length = l.found }
    after (Some p) u l e = by (is_too_long (bytes_without name p.1)) refl e
      where
        by : (b : Bool) → is_too_long (bytes_without name p.1) ≡ b → (if b then act.refuse 4 else give (Ok (Some (p.0, bytes_without name p.1)))) u ≡ (Ok o, t) → IsFine name m s t
        by true is e = answers o 4 t u (sym e)
        by false is e = record {
          same = (given (Some (p.0, bytes_without name p.1)) o u t e).1 ∙ l.same;
          kind = l.kind;
          length = l.found.1 ∙ ap (λ b. if b then Some (length (bytes_without name p.1)) else None) is;
        }

-- a session's record that stands is an object
pub session_there : (o : Option Object) (r : SessionRecord) → if_session (kind_of o) (value_of_bytes session_of o) ≡ Some r → is_some o ≡ true
session_there None r e = cc
session_there (Some object) r e = refl

-- in a world of short objects no member's record is too long
pub none_long : (name : List ℕ) (world : DurableWorld) → AreShort world → (members : List Session) → first_of (long_record_of name) members world ≡ None
none_long name world short [] = refl
none_long name world short (m ∷ members) = ap (λ o. option_or o (first_of (long_record_of name) members world)) (by (bound_to (session_name m.name) world)) ∙ none_long name world short members
  where
    object : (o : Option Object) → ((x : Object) → o ≡ Some x → is_too_long x.bytes ≡ false) → long_without name m.conn (if_session (kind_of o) (value_of_bytes session_of o)) ≡ None
    object None short = refl
    object (Some x) short = kind (x.kind == SESSION_KIND)
      where
        kind : (b : Bool) → long_without name m.conn (if b then session_of x.bytes else None) ≡ None
        kind true = short_read name m.conn x.bytes (short x refl)
        kind false = refl

    by : (o : Option ObjectId) → long_without name m.conn (session_at o world) ≡ None
    by None = refl
    by (Some id) = object (get world.objects id) (short id)

-- a kind that is not a session's
pub not_session_is : (o : Option ℕ) (k : ℕ) → o ≡ Some k → (o ≡ Some SESSION_KIND → ⊥) → not_session o ≡ Some k
not_session_is None k e other = cc
not_session_is (Some j) k e other = by (j == SESSION_KIND) refl
  where
    by : (b : Bool) → (j == SESSION_KIND) ≡ b → (if b then None else Some j) ≡ Some k
    by true is = let same : j ≡ SESSION_KIND = grind (arith, nat_tests, is) in absurd (other (ap (λ n. Some n) same))
    by false is = e
