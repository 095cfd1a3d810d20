-- A valid durable world opens to a sound world.
use Rattle.std.proofs.Common.{◌≡◌, ℕ, ◌<◌, Bool, true, false, ◌&&◌, nat_eq, nat_lt, get_or, take, drop, length, if◌then◌else◌, Option, Some, None, List, [], ◌∷◌, IsUtf8, refl, sym, ap, subst, ◌∙◌, arith, length-drop, ltb-true}
use lib.Pointwise.{bytes_decides}
use Rattle.std.specs.List.{AllByRecursion, list_any}
use Rattle.std.specs.FinMap.{get, insert, empty, entries, get-empty}
use Rattle.std.specs.Cmp.Lexicographic.{pointwise}
use Rattle.std.proofs.lemmas.List.{get_or-take}
use Rattle.std.proofs.lemmas.List.Elements.{All-nil}
use Rattle.std.proofs.lemmas.Str.{IsUtf8-drop, IsCharBoundary-after_ascii, utf8_valid_len-IsUtf8}
use Rattle.dk_types.specs.declared.number.RunNo.{RunNo}
use Rattle.dk_types.specs.declared.number.ObjectId.{ObjectId}
use Rattle.dk_types.specs.declared.job.Session.{Session}
use Rattle.dk_types.specs.Names.{IsName}
use Rattle.dk_model.specs.declared.records.SessionRecord.{SessionRecord}
use Rattle.dk_model.specs.Keys.{run_cmp, conn_cmp}
use Rattle.dk_model.specs.DurableWorlds.{DurableWorld}
use Rattle.dk_model.specs.Validity.{IsValid, IsCommitted, next_of}
use Rattle.dk_model.specs.Worlds.{Claim, Connection}
use Rattle.dk_model.specs.Deliveries.{Connections}
use Rattle.dk_model.specs.Openings.{login_of, record_in, counted, session_at, recorded, has_number, first_of_each, counting, ended_connection, with_sessions, opening}
use Rattle.dk_model.specs.Lawful.{HasShortBody}
use Rattle.dk_model.proofs.Maps.{names_total, some_is, not_both}
use Rattle.dk_model.proofs.Bytes.{name_text}
use Rattle.dk_laws.proofs.Entries.{all_filter_map, all_entries}
use Rattle.dk_laws.proofs.Picked.{If, right_of}
use Rattle.dk_laws.proofs.OpenClaims.{open_none}
use Rattle.dk_laws.proofs.Sound.{IsSpent, AreSound, IsSound}
use Rattle.dk_laws.proofs.SoundConnections.{insert_sound}

left_of : (a b : Bool) → (a && b) ≡ true → a ≡ true
left_of true b h = refl
left_of false b h = cc

-- what stands behind `$s.` in a name is a name, where anything does
rest_named : (name : List ℕ) → IsName name → take 3 name ≡ 36 ∷ 115 ∷ 46 ∷ [] → 3 < length name → IsName (drop 3 name)
rest_named name is front long =
    let text = name_text name is in
    let most = is.most in
    let dot : get_or name 2 0 ≡ 46 = sym (get_or-take 3 name 2 0 (omega arith)) ∙ ap (λ (bs : List ℕ). get_or bs 2 0) front in
    let behind : IsUtf8 (drop 3 name) = IsUtf8-drop name 3 text (IsCharBoundary-after_ascii name 2 text (omega arith) (omega (arith, dot))) in
    record { some = omega (arith, length-drop 3 name); most = omega (arith, length-drop 3 name); text = utf8_valid_len-IsUtf8 (drop 3 name) behind }

login_named : (name : List ℕ) → IsName name → If IsName (login_of name)
login_named name is login e =
    elim (pointwise nat_eq (take 3 name) (36 ∷ 115 ∷ 46 ∷ []) && nat_lt 3 (length name)) as (λ b.
    (pointwise nat_eq (take 3 name) (36 ∷ 115 ∷ 46 ∷ []) && nat_lt 3 (length name)) ≡ b → (if b then Some (drop 3 name) else None) ≡ Some login → IsName login) [
      | true ↦ λ t f. subst IsName (some_is (drop 3 name) login f)
          (rest_named name is ((bytes_decides (take 3 name) (36 ∷ 115 ∷ 46 ∷ [])).0 (left_of _ (nat_lt 3 (length name)) t)) (ltb-true _ _ (right_of (pointwise nat_eq (take 3 name) (36 ∷ 115 ∷ 46 ∷ [])) _ t)))
      | false ↦ λ t f. absurd cc
    ] refl e

-- a session under a name, with a number of before
pub record IsOfBefore (d : DurableWorld) (session : Session) : Type 0 where
  pub named : IsName session.name
  pub below : session.conn.0 < next_of d.last

counted_before : (d : DurableWorld) (name : List ℕ) (r : Option SessionRecord) → IsName name → If (IsOfBefore d) (counted d name r)
counted_before d name None is session e = absurd cc
counted_before d name (Some r) is session e =
    elim (nat_lt r.conn.0 (next_of d.last)) as (λ b. nat_lt r.conn.0 (next_of d.last) ≡ b → (if b then Some (record { name = name; conn = r.conn }) else None) ≡ Some session → IsOfBefore d session) [
      | true ↦ λ t f. subst (IsOfBefore d) (some_is _ session f) record { named = is; below = ltb-true _ _ t }
      | false ↦ λ t f. absurd cc
    ] refl e

session_before : (d : DurableWorld) (name : Option (List ℕ)) (id : ObjectId) → If IsName name → If (IsOfBefore d) (session_at d name id)
session_before d None id h session e = absurd cc
session_before d (Some name) id h session e = counted_before d name (record_in (get d.objects id)) (h name refl) session e

first_before : (d : DurableWorld) (before sessions : List Session) → AllByRecursion (IsOfBefore d) sessions → AllByRecursion (IsOfBefore d) (first_of_each before sessions)
first_before d before [] h = tt
first_before d before (s ∷ sessions) h =
    elim (list_any (has_number s.conn) before) as (λ b. AllByRecursion (IsOfBefore d) (if b then first_of_each before sessions else s ∷ first_of_each (s ∷ before) sessions)) [
      | true ↦ first_before d before sessions h.1
      | false ↦ (h.0, first_before d (s ∷ before) sessions h.1)
    ]

-- the sessions that count are such sessions
pub counting_before : (d : DurableWorld) → IsValid d → AllByRecursion (IsOfBefore d) (counting d)
counting_before d v = first_before d [] (recorded d) (all_filter_map (IsOfBefore d) (λ e. session_at d (login_of e.0) e.1) (entries d.names)
    (all_entries names_total (λ e. If (IsOfBefore d) (session_at d (login_of e.0) e.1)) d.names (λ name id e. session_before d (login_of name) id (login_named name (v.names name id e).0))))

sessions_sound : (d : DurableWorld) → IsValid d → (sessions : List Session) (all : Connections) → AllByRecursion (IsOfBefore d) sessions → AreSound all → AreSound (with_sessions sessions all)
sessions_sound d v [] all h sound = sound
sessions_sound d v (s ∷ sessions) all h sound =
    let below = h.0.below in
    let last = v.last in
    sessions_sound d v sessions (insert all s.conn (ended_connection s)) h.1 (insert_sound all s.conn (ended_connection s) sound record { number = omega arith; name = h.0.named; queue = (tt, tt); outbox = All-nil HasShortBody })

committed_below : (o : Option RunNo) (run : RunNo) → IsCommitted o run → run.0 < next_of o
committed_below None run h = absurd h
committed_below (Some last) run h = omega arith

spent_before : (o : Option RunNo) (run : RunNo) → IsCommitted o run → IsSpent (empty {X = Claim} {R = run_cmp}) (next_of o) run.0
spent_before o run h = record { drawn = committed_below o run h; closed = λ q c e is. not_both _ c e (get-empty run_cmp q) }

-- the opening world is sound
pub opening_sound : (d : DurableWorld) (budget : Option ℕ) → IsValid d → IsSound (opening d budget)
unfolding opening
opening_sound d budget v =
    let commits = v.commits in
    let none = open_none (empty {X = Claim} {R = run_cmp}) (λ run. get-empty run_cmp run) (next_of d.last) in record {
      valid = v;
      moment = omega arith;
      numbers = v.last;
      last = omega arith;
      counted = omega (arith, commits, none);
      objects = λ id object e. spent_before d.last id.run (v.objects id object e).1;
      tasks = λ key task e. spent_before d.last key.run (v.tasks key task e).1;
      claims = λ run claim e. not_both _ claim e (get-empty run_cmp run);
      connections = sessions_sound d v (counting d) (empty {X = Connection} {R = conn_cmp}) (counting_before d v) (λ conn c e. not_both _ c e (get-empty conn_cmp conn));
    }
