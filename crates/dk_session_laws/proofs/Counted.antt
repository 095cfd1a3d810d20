-- Where the sessions stand, each of them counts; and where each counts in a valid world, they stand.
use Rattle.std.proofs.Common.{◌≡◌, ◌⊎◌, ℕ, ◌<◌, Bool, true, false, cond, ◌&&◌, ◌==◌, nat_eq, nat_lt, if◌then◌else◌, take, drop, length, All, Contains, Option, Some, None, List, [], ◌∷◌, ◌++◌, Result, Ok, Err, refl, sym, ap, subst, ◌∙◌, inl, inr, arith, is_eq, eqb-true}
use lib.Pointwise.{bytes_decides}
use Rattle.std.specs.declared.cmp.Ordering.TheVariants.{Less, Equal, Greater}
use Rattle.std.specs.Cmp.Lexicographic.{pointwise}
use Rattle.std.specs.FinMap.{get, insert, empty, find, entries, get-entries, get-empty}
use Rattle.std.specs.Result.{result_ok}
use Rattle.std.specs.List.{AllByRecursion, list_any, filter_map, cons_option}
use Rattle.std.proofs.lemmas.Bool.{lt-ltb}
use Rattle.std.proofs.lemmas.List.{take-append-drop}
use Rattle.std.proofs.lemmas.Bool.Decides.{eqb_tells}
use Rattle.std.proofs.lemmas.List.Elements.{Contains-push, Contains-append_left, Contains-append_right, All-from_recursion}
use Rattle.dk_types.specs.declared.number.ConnNo.{ConnNo}
use Rattle.dk_types.specs.declared.number.ObjectId.{ObjectId}
use Rattle.dk_types.specs.declared.object.Object.{Object}
use Rattle.dk_types.specs.declared.job.Session.{Session}
use Rattle.dk_types.specs.Names.{IsName, bytes_cmp}
use Rattle.dk_types.specs.Payload.{whole}
use Rattle.dk_types.proofs.ListLaws.{all_chained}
use Rattle.dk_model.specs.declared.records.SessionRecord.{SessionRecord}
use Rattle.dk_model.specs.DurableWorlds.{DurableWorld, empty_world}
use Rattle.dk_model.specs.Keys.{id_cmp}
use Rattle.dk_model.specs.Validity.{IsValid, next_of}
use Rattle.dk_model.specs.Records.{SESSION_KIND, session_bytes, next_session, session_of, session_name}
use Rattle.dk_model.specs.Openings.{login_of, record_in, counted, session_at, recorded, has_number, first_of_each, counting, ended_connection, with_sessions, opening}
use Rattle.dk_model.specs.Deliveries.{Connections}
use Rattle.dk_model.proofs.Maps.{names_total, exact_names, conns_total, exact_conns, get-insert_here, get-insert_other, some_is, not_both}
use Rattle.dk_model.proofs.Readings.{bytes_before}
use Rattle.dk_laws.proofs.Entries.{all_weaker, all_filter_map, all_entries}
use Rattle.dk_laws.proofs.NumberedMaps.{one_conn}
use Rattle.dk_laws.proofs.Picked.{If}
use Rattle.dk_wire.proofs.WholeLaws.{whole_takes}
use Rattle.dk_records.specs.RecordLaws.{IsSessionRecord, each_session_exact}
use Rattle.dk_session_laws.specs.Sessions.{IsRecord, SessionsStand}
use Rattle.dk_session_laws.specs.SessionsLaw.{Counts, EverySessionCounts, OpeningsConnect}
use Rattle.dk_session_laws.proofs.Kept.{one_record, record_there}

-- an item of a list, by recursion on it
abbrev pub Has : {A : Type 0} → List A → A → Type 0
Has [] y = ⊥
Has (x ∷ xs) y = (x ≡ y) ⊎ Has xs y

has_contains : {A : Type 0} (xs : List A) (y : A) → Has xs y → Contains xs y
has_contains [] y h = absurd h
has_contains (x ∷ xs) y (inl e) = subst (Contains (x ∷ xs)) e (Contains-append_left (x ∷ []) xs x (Contains-push [] x))
has_contains (x ∷ xs) y (inr h) = Contains-append_right (x ∷ []) xs y (has_contains xs y h)

all_has : {A : Type 0} (P : A → Type 0) (xs : List A) (y : A) → AllByRecursion P xs → Has xs y → P y
all_has P [] y all h = absurd h
all_has P (x ∷ xs) y all (inl e) = subst P e all.0
all_has P (x ∷ xs) y all (inr h) = all_has P xs y all.1 h

true_not_false : (b : Bool) → b ≡ true → b ≡ false → ⊥
true_not_false b e f = cc

-- a session is the first of its number where no other has it
first_has : (s : Session) (before sessions : List Session) → Has sessions s → list_any (has_number s.conn) before ≡ false → ((t : Session) → Has sessions t → t.conn.0 ≡ s.conn.0 → t ≡ s) → Has (first_of_each before sessions) s
first_has s before [] has none one = has
first_has s before (t ∷ rest) has none one =
    elim (list_any (has_number t.conn) before) as (λ b. list_any (has_number t.conn) before ≡ b → Has (if b then first_of_each before rest else t ∷ first_of_each (t ∷ before) rest) s) [
      | true ↦ λ e. elim has [
        | inl same ↦ absurd (true_not_false _ (ap (λ (x : Session). list_any (has_number x.conn) before) (sym same) ∙ e) none)
        | inr later ↦ first_has s before rest later none (λ u h. one u (inr h))
      ]
      | false ↦ λ e. elim has [
        | inl same ↦ inl same
        | inr later ↦ elim (eqb_tells t.conn.0 s.conn.0) [
          | inl w ↦ inl (one t (inl refl) w.1)
          | inr w ↦ inr (first_has s (t ∷ before) rest later (rw (w.0, none) refl) (λ u h. one u (inr h)))
        ]
      ]
    ] refl

-- what is found under a key is an entry
found_has : {X : Type 0} (es : List (List ℕ × X)) (k : List ℕ) (v : X) → find bytes_cmp k es ≡ Some v → Has es (k, v)
found_has [] k v e = absurd cc
found_has {X = X} (x ∷ es) k v e =
    elim (bytes_cmp k x.0) as (λ o. bytes_cmp k x.0 ≡ o → cond (is_eq o) (Some x.1) (find bytes_cmp k es) ≡ Some v → Has (x ∷ es) (k, v)) [
      | Less ↦ λ _ f. inr (found_has es k v f)
      | Equal ↦ λ same f. inl (λ i. (sym (exact_names k x.0 same) i, some_is x.1 v f i))
      | Greater ↦ λ _ f. inr (found_has es k v f)
    ] refl e

has_cons : {B : Type 0} (o : Option B) (ys : List B) (y : B) → (o ≡ Some y) ⊎ Has ys y → Has (cons_option o ys) y
has_cons None ys y (inl e) = absurd cc
has_cons None ys y (inr h) = h
has_cons (Some x) ys y (inl e) = inl (some_is x y e)
has_cons (Some x) ys y (inr h) = inr h

-- what an item is mapped to is among those that are mapped
has_mapped : {A B : Type 0} (f : A → Option B) (xs : List A) (x : A) (y : B) → Has xs x → f x ≡ Some y → Has (filter_map f xs) y
has_mapped f [] x y h e = absurd h
has_mapped f (z ∷ xs) x y (inl same) e = has_cons (f z) (filter_map f xs) y (inl (ap f same ∙ e))
has_mapped f (z ∷ xs) x y (inr h) e = has_cons (f z) (filter_map f xs) y (inr (has_mapped f xs x y h e))

-- ---- the names of sessions

login_again : (name : List ℕ) → 0 < length name → login_of (session_name name) ≡ Some name
login_again name long = let more : nat_lt 3 (length (session_name name)) ≡ true = lt-ltb _ _ (omega arith) in rw more refl

left_of : (a b : Bool) → (a && b) ≡ true → a ≡ true
left_of true b h = refl
left_of false b h = cc

-- a name of which a login name was taken is `$s.` and that
name_again : (name login : List ℕ) → login_of name ≡ Some login → name ≡ session_name login
name_again name login e =
    elim (pointwise nat_eq (take 3 name) (36 ∷ 115 ∷ 46 ∷ []) && nat_lt 3 (length name)) as (λ b.
    (pointwise nat_eq (take 3 name) (36 ∷ 115 ∷ 46 ∷ []) && nat_lt 3 (length name)) ≡ b → (if b then Some (drop 3 name) else None) ≡ Some login → name ≡ session_name login) [
      | true ↦ λ t f.
          let front : take 3 name ≡ 36 ∷ 115 ∷ 46 ∷ [] = (bytes_decides (take 3 name) (36 ∷ 115 ∷ 46 ∷ [])).0 (left_of _ (nat_lt 3 (length name)) t) in
          sym (take-append-drop 3 name) ∙ ap (λ (bs : List ℕ). bs ++ drop 3 name) front ∙ ap session_name (some_is (drop 3 name) login f)
      | false ↦ λ t f. absurd cc
    ] refl e

-- the record that an object is
pub record_is : (o : Option Object) (r : SessionRecord) → record_in o ≡ Some r → (object : Object) × (o ≡ Some object) × (object.kind ≡ SESSION_KIND) × (session_of object.bytes ≡ Some r)
record_is None r e = absurd cc
record_is (Some object) r e =
    elim (object.kind == SESSION_KIND) as (λ b. (object.kind == SESSION_KIND) ≡ b → (if b then session_of object.bytes else None) ≡ Some r → (x : Object) × (Some object ≡ Some x) × (x.kind ≡ SESSION_KIND) × (session_of x.bytes ≡ Some r)) [
      | true ↦ λ k f. (object, refl, eqb-true _ _ k, f)
      | false ↦ λ k f. absurd cc
    ] refl e

pub record_found : (d : DurableWorld) (id : ObjectId) (r : SessionRecord) → IsRecord d id r → record_in (get d.objects id) ≡ Some r
record_found d id r is = ap record_in is.there ∙ rw is.kind is.read

-- ---- where the sessions stand, each counts

-- a recorded session is one that stands
pub record IsStandingSession (d : DurableWorld) (t : Session) : Type 0 where
  pub id : ObjectId
  pub entry : SessionRecord
  pub bound : get d.names (session_name t.name) ≡ Some id
  pub found : record_in (get d.objects id) ≡ Some entry
  pub conn : t.conn ≡ entry.conn

counted_is : (d : DurableWorld) (login : List ℕ) (id : ObjectId) (o : Option SessionRecord) → get d.names (session_name login) ≡ Some id → record_in (get d.objects id) ≡ o → (t : Session) → counted d login o ≡ Some t → IsStandingSession d t
counted_is d login id None e f t c = absurd cc
counted_is d login id (Some r) e f t c =
    elim (nat_lt r.conn.0 (next_of d.last)) as (λ b. (if b then Some (record { name = login; conn = r.conn }) else None) ≡ Some t → IsStandingSession d t) [
      | true ↦ λ g.
          let is : record { name = login; conn = r.conn } ≡ t = some_is _ t g in
          subst (IsStandingSession d) is (record { id = id; entry = r; bound = e; found = f; conn = refl })
      | false ↦ λ g. absurd cc
    ] c

session_is : (d : DurableWorld) (name : List ℕ) (id : ObjectId) → get d.names name ≡ Some id → (o : Option (List ℕ)) → login_of name ≡ o → (t : Session) → session_at d o id ≡ Some t → IsStandingSession d t
session_is d name id e None f t c = absurd cc
session_is d name id e (Some login) f t c = counted_is d login id (record_in (get d.objects id)) (ap (get d.names) (sym (name_again name login f)) ∙ e) refl t c

recorded_stand : (d : DurableWorld) → AllByRecursion (IsStandingSession d) (recorded d)
recorded_stand d = all_filter_map (IsStandingSession d) (λ e. session_at d (login_of e.0) e.1) (entries d.names)
    (all_entries names_total (λ e. If (IsStandingSession d) (session_at d (login_of e.0) e.1)) d.names (λ name id e t c. session_is d name id e (login_of name) refl t c))

-- a record whose number no other name has
record IsAlone (d : DurableWorld) (name : List ℕ) (id : ObjectId) (r : SessionRecord) : Type 0 where
  named : 0 < length name
  bound : get d.names (session_name name) ≡ Some id
  found : record_in (get d.objects id) ≡ Some r
  below : r.conn.0 < next_of d.last
  alone : (other : List ℕ) (i : ObjectId) (x : SessionRecord) → get d.names (session_name other) ≡ Some i → record_in (get d.objects i) ≡ Some x → x.conn.0 ≡ r.conn.0 → other ≡ name

module _ (d : DurableWorld) (name : List ℕ) (id : ObjectId) (r : SessionRecord) (is : IsAlone d name id r) where
  -- its session
  abbrev its : Session
  its = record { name = name; conn = r.conn }

  -- is recorded
  its_recorded : Has (recorded d) its
  its_recorded =
      let below : nat_lt r.conn.0 (next_of d.last) ≡ true = lt-ltb _ _ is.below in
      let session : session_at d (login_of (session_name name)) id ≡ Some its = ap (λ o. session_at d o id) (login_again name is.named) ∙ ap (counted d name) is.found ∙ rw below refl in
      has_mapped (λ e. session_at d (login_of e.0) e.1) (entries d.names) (session_name name, id) its (found_has (entries d.names) (session_name name) id (sym (get-entries d.names (session_name name)) ∙ is.bound)) session

  -- and of the recorded sessions it alone has its number
  its_alone : (t : Session) → IsStandingSession d t → t.conn.0 ≡ r.conn.0 → t ≡ its
  its_alone t other n =
      let same : t.name ≡ name = is.alone t.name other.id other.entry other.bound other.found (ap (λ (k : ConnNo). k.0) (sym other.conn) ∙ n) in
      λ i. record { name = same i; conn = one_conn t.conn r.conn n i }

  -- so it is the first of its number
  its_first : Has (counting d) its
  its_first = first_has its [] (recorded d) its_recorded refl (λ t has n. its_alone t (all_has (IsStandingSession d) (recorded d) t (recorded_stand d) has) n)

  alone_counts : Counts d name id r
  alone_counts = record { named = is.named; bound = is.bound; recorded = is.found; below = is.below; alone = is.alone; counted = has_contains (counting d) its its_first }

module _ (d : DurableWorld) (st : SessionsStand d) where
  -- what is found as a record stands
  found_stands : (id : ObjectId) (r : SessionRecord) → record_in (get d.objects id) ≡ Some r → IsRecord d id r
  found_stands id r e = let is = record_is (get d.objects id) r e in record_there d st id is.0 r is.1 is.2 is.3

  record_counts : (name : List ℕ) (id : ObjectId) (r : SessionRecord) → 0 < length name → get d.names (session_name name) ≡ Some id → IsRecord d id r → Counts d name id r
  record_counts name id r long e is = alone_counts d name id r (record {
    named = long;
    bound = e;
    found = record_found d id r is;
    below = is.below;
    alone = λ other i x f g n. st.apart other name i id x r f e (found_stands i x g) is n;
  })

  -- each session counts
  pub standing_count : EverySessionCounts d
  standing_count = record {
    bound = λ name id e. let is = st.bound name id e in (is.1.0, record_counts name id is.1.0 is.0 e is.1.1);
    held = λ id object e k.
        let name = st.held id object e k in
        let is = st.bound name.0 id name.1 in
        (name.0, is.1.0, record_counts name.0 id is.1.0 is.0 name.1 is.1.1);
  }

-- ---- a record's connection

-- the first of each number are among the sessions
all_first : (P : Session → Type 0) (before sessions : List Session) → AllByRecursion P sessions → AllByRecursion P (first_of_each before sessions)
all_first P before [] all = tt
all_first P before (s ∷ sessions) all = elim (list_any (has_number s.conn) before) as (λ b. AllByRecursion P (if b then first_of_each before sessions else s ∷ first_of_each (s ∷ before) sessions)) [
  | true ↦ all_first P before sessions all.1
  | false ↦ (all.0, all_first P (s ∷ before) sessions all.1)
]

-- a session of which no other has the number has its connection, where it is among them or has it already
connection_of : (s : Session) (sessions : List Session) (all : Connections) → Has sessions s ⊎ (get all s.conn ≡ Some (ended_connection s)) → AllByRecursion (λ t. t.conn.0 ≡ s.conn.0 → t ≡ s) sessions
    → get (with_sessions sessions all) s.conn ≡ Some (ended_connection s)
connection_of s [] all (inl has) one = absurd has
connection_of s [] all (inr there) one = there
connection_of s (t ∷ sessions) all h one = elim (eqb_tells t.conn.0 s.conn.0) [
  | inl w ↦
      let is : t ≡ s = one.0 w.1 in
      let here : get (insert all t.conn (ended_connection t)) s.conn ≡ Some (ended_connection s) = subst (λ (x : Session). get (insert all x.conn (ended_connection x)) s.conn ≡ Some (ended_connection s)) (sym is) (get-insert_here conns_total all s.conn (ended_connection s)) in
      connection_of s sessions (insert all t.conn (ended_connection t)) (inr here) one.1
  | inr w ↦
      let apart : t.conn ≡ s.conn → ⊥ = λ e. w.1 (ap (λ (c : ConnNo). c.0) e) in
      let other = get-insert_other conns_total exact_conns all t.conn (ended_connection t) s.conn apart in
      let later : Has sessions s ⊎ (get (insert all t.conn (ended_connection t)) s.conn ≡ Some (ended_connection s)) = elim h [
        | inl (inl same) ↦ absurd (apart (ap (λ (x : Session). x.conn) same))
        | inl (inr has) ↦ inl has
        | inr there ↦ inr (other ∙ there)
      ] in
      connection_of s sessions (insert all t.conn (ended_connection t)) later one.1
]

-- a record that counts has its connection at the opening
pub connected_there : OpeningsConnect
unfolding opening
connected_there d budget name id r c =
    let is : IsAlone d name id r = record { named = c.named; bound = c.bound; found = c.recorded; below = c.below; alone = c.alone } in
    let session : Session = record { name = name; conn = r.conn } in
    let One : Session → Type 0 = λ t. t.conn.0 ≡ r.conn.0 → t ≡ session in
    connection_of session (counting d) empty (inl (its_first d name id r is)) (all_first One [] (recorded d) (all_weaker (IsStandingSession d) One (λ t other. its_alone d name id r is t other) (recorded d) (recorded_stand d)))

-- ---- where each counts in a valid world, they stand

ok_of : {A : Type 0} (r : Result A ℕ) (x : A) → result_ok r ≡ Some x → r ≡ Ok x
ok_of (Ok y) x e = cc
ok_of (Err n) x e = cc

-- a record that is read from bytes is within its limits
read_fits : (bytes : List ℕ) (r : SessionRecord) → All (λ b. b < 256) bytes → session_of bytes ≡ Some r → IsSessionRecord r
unfolding session_of
read_fits bytes r each e = (whole_takes IsSessionRecord session_bytes next_session (each_session_exact None) bytes r (bytes_before bytes each) (ok_of (whole next_session bytes) r e)).0

counts_record : (d : DurableWorld) → IsValid d → (name : List ℕ) (id : ObjectId) (r : SessionRecord) → Counts d name id r → IsRecord d id r
counts_record d v name id r c =
    let is = record_is (get d.objects id) r c.recorded in
    let fits = read_fits is.0.bytes r (v.objects id is.0 is.1).2.body.bytes is.3 in record {
      object = is.0;
      there = is.1;
      kind = is.2;
      read = is.3;
      number = fits.conn;
      channels = All-from_recursion IsName r.channels (all_chained IsName None r.channels fits.channels.each);
      below = c.below;
    }

pub counting_stand : (d : DurableWorld) → IsValid d → EverySessionCounts d → SessionsStand d
counting_stand d v all = record {
  bound = λ name id e. let c = all.bound name id e in (c.1.named, (c.0, counts_record d v name id c.0 c.1));
  held = λ id object e k. let c = all.held id object e k in (c.0, c.2.bound);
  apart = λ one other i j x y e f p q n.
      let c = all.bound other j f in
      let same : y ≡ c.0 = one_record d j y c.0 q (counts_record d v other j c.0 c.1) in
      c.1.alone one i x e (record_found d i x p) (n ∙ ap (λ (r : SessionRecord). r.conn.0) same);
}

-- in the empty world none is there
pub empty_count : EverySessionCounts empty_world
empty_count = record {
  bound = λ name id e. not_both _ id e (get-empty bytes_cmp (session_name name));
  held = λ id object e k. not_both _ object e (get-empty id_cmp id);
}
