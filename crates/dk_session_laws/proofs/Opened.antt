-- A session's record is opened: where no record has its number, the sessions stand, and its number is the one that comes.
use Rattle.std.proofs.Common.{◌≡◌, ◌⊎◌, ℕ, ◌+◌, ◌<◌, false, nat_le, is_some, if◌then◌else◌, drop, Some, None, List, [], length, refl, sym, ap, subst, ◌∙◌, inl, inr, arith, le_refl}
use Rattle.std.specs.FinMap.{get}
use Rattle.std.proofs.lemmas.List.Elements.{All-nil}
use Rattle.dk_types.specs.declared.number.ObjectId.{ObjectId}
use Rattle.dk_types.specs.declared.object.Object.{Object}
use Rattle.dk_types.specs.declared.job.Session.{Session}
use Rattle.dk_types.specs.declared.mode.Mode.TheVariants.{Platform}
use Rattle.dk_types.specs.declared.limits.TheConstants.{OBJECTS_MOST_COUNT}
use Rattle.dk_types.specs.Names.{IsName}
use Rattle.dk_model.specs.declared.records.SessionRecord.{SessionRecord}
use Rattle.dk_model.specs.Records.{SESSION_KIND, session_bytes, session_name, is_name_too_long}
use Rattle.dk_model.specs.Runs as act
use Rattle.dk_model.specs.Runs.{Run, with_object, with_name, is_too_long, RESERVED, TOO_LONG, TOO_MANY, NAME_EXISTS}
use Rattle.dk_model.specs.Platforms as does
use Rattle.dk_model.specs.Platforms.{platform_bound}
use Rattle.dk_model.proofs.Maps.{ids_total, exact_ids, names_total, exact_names, get-with_value_here, get-with_value_other, get-with_value_cases, some_is, not_both}
use Rattle.dk_session_laws.specs.Sessions.{IsRecord, SessionsStand, IsStanding, Ends}
use Rattle.dk_session_laws.specs.Numbers.{IsLed, MayOpen}
use Rattle.dk_session_laws.proofs.Ends.{ends_then, ends_weaker, ends_if_at, ends_refuse}
use Rattle.dk_session_laws.proofs.Kept.{record_on, one_record, record_there}
use Rattle.dk_session_laws.proofs.Keeps.{ends_within, stands_in}
use Rattle.dk_session_laws.proofs.Spelled.{read_again}

-- the record of a new session
abbrev new_of : Session → SessionRecord
new_of session = record { conn = session.conn; channels = [] }

-- its object
abbrev object_of : Session → Object
object_of session = record { kind = SESSION_KIND; bytes = session_bytes (new_of session) }

-- the run once the object was made
abbrev made : Run → Session → Run
made s session = with_object (record s { objects_made = s.objects_made + 1 }) (act.next_id s) (Some (object_of session))

-- and once it is bound
abbrev opened : Run → Session → Run
opened s session = with_name (made s session) (session_name session.name) (Some (act.next_id s))

module _ (s : Run) (session : Session) (st : IsStanding s) (may : MayOpen s session) (none : get s.world.names (session_name session.name) ≡ None) (short : is_too_long (session_bytes (new_of session)) ≡ false) where
  absent : {B : Type 0} (object : Object) → get s.world.objects (act.next_id s) ≡ Some object → B
  absent object e = let lt = st.fresh (act.next_id s) object e refl in absurd (omega (arith, lt))

  written : IsRecord (opened s session).world (act.next_id s) (new_of session)
  written = record {
    object = object_of session;
    there = get-with_value_here ids_total s.world.objects (act.next_id s) (Some (object_of session));
    kind = refl;
    read = read_again (new_of session) may.number (All-nil IsName) short;
    number = may.number;
    channels = All-nil IsName;
    below = may.below;
  }

  -- a record of before stands on
  stands_on : (i : ObjectId) (r : SessionRecord) → IsRecord s.world i r → IsRecord (opened s session).world i r
  stands_on i r is = record_on s.world (opened s session).world i r is
      (get-with_value_other ids_total exact_ids s.world.objects (act.next_id s) (Some (object_of session)) i (λ same. absent is.object (ap (get s.world.objects) same ∙ is.there))) (le_refl _)

  -- a record is the new one, or one of before
  new_or_old : (i : ObjectId) (r : SessionRecord) → IsRecord (opened s session).world i r → ((i ≡ act.next_id s) × (r ≡ new_of session)) ⊎ IsRecord s.world i r
  new_or_old i r is = elim (get-with_value_cases ids_total exact_ids s.world.objects (act.next_id s) (Some (object_of session)) i is.object is.there) [
    | inl p ↦ inl (p.0, one_record (opened s session).world (act.next_id s) r (new_of session) (subst (λ (j : ObjectId). IsRecord (opened s session).world j r) p.0 is) written)
    | inr there ↦ inr (record_there s.world st.sessions i is.object r there is.kind is.read)
  ]

  same_login : (name : List ℕ) → session_name name ≡ session_name session.name → name ≡ session.name
  same_login name e = ap (λ (bs : List ℕ). drop 3 bs) e

  -- a name is the new one, or one of before
  bound_new_or_old : (name : List ℕ) (i : ObjectId) → get (opened s session).world.names (session_name name) ≡ Some i
      → ((name ≡ session.name) × (act.next_id s ≡ i)) ⊎ (get s.world.names (session_name name) ≡ Some i)
  bound_new_or_old name i e = elim (get-with_value_cases names_total exact_names s.world.names (session_name session.name) (Some (act.next_id s)) (session_name name) i e) [
    | inl p ↦ inl (same_login name p.0, some_is (act.next_id s) i p.1)
    | inr there ↦ inr there
  ]

  -- a record under a name of before is one of before
  old_under : (name : List ℕ) (i : ObjectId) (r : SessionRecord) → get s.world.names (session_name name) ≡ Some i → IsRecord (opened s session).world i r → IsRecord s.world i r
  old_under name i r e is = elim (new_or_old i r is) [
    | inl p ↦ let was = (st.sessions.bound name i e).1.1 in absent was.object (ap (get s.world.objects) (sym p.0) ∙ was.there)
    | inr was ↦ was
  ]

  -- a record under the new name has the new number
  new_under : (i : ObjectId) (r : SessionRecord) → act.next_id s ≡ i → IsRecord (opened s session).world i r → r.conn.0 ≡ session.conn.0
  new_under i r e is = ap (λ (r : SessionRecord). r.conn.0) (one_record (opened s session).world (act.next_id s) r (new_of session) (subst (λ (j : ObjectId). IsRecord (opened s session).world j r) (sym e) is) written)

  opened_stands : SessionsStand (opened s session).world
  opened_stands = record {
    bound = λ name i e. elim (bound_new_or_old name i e) [
      | inl p ↦ (subst (λ (n : List ℕ). 0 < length n) (sym p.0) may.long, (new_of session, subst (λ (j : ObjectId). IsRecord (opened s session).world j (new_of session)) p.1 written))
      | inr there ↦ let was = st.sessions.bound name i there in (was.0, (was.1.0, stands_on i was.1.0 was.1.1))
    ];
    held = λ i object e k. elim (get-with_value_cases ids_total exact_ids s.world.objects (act.next_id s) (Some (object_of session)) i object e) [
      | inl p ↦ (session.name, get-with_value_here names_total s.world.names (session_name session.name) (Some (act.next_id s)) ∙ ap Some (sym p.0))
      | inr there ↦
          let name = st.sessions.held i object there k in
          (name.0, get-with_value_other names_total exact_names s.world.names (session_name session.name) (Some (act.next_id s)) (session_name name.0) (λ same. not_both _ i name.1 (ap (get s.world.names) (sym same) ∙ none)) ∙ name.1)
    ];
    apart = λ one other i j x y e f p q n. elim (bound_new_or_old one i e) [
      | inl a ↦ elim (bound_new_or_old other j f) [
        | inl b ↦ a.0 ∙ sym b.0
        | inr b ↦ absurd (may.new (j, y, old_under other j y b q, sym n ∙ new_under i x a.1 p))
      ]
      | inr a ↦ elim (bound_new_or_old other j f) [
        | inl b ↦ absurd (may.new (i, x, old_under one i x a p, n ∙ new_under j y b.1 q))
        | inr b ↦ st.sessions.apart one other i j x y a b (old_under one i x a p) (old_under other j y b q) n
      ]
    ];
  }

  pub opened_led : IsLed (λ n. n ≡ session.conn.0) s (opened s session)
  opened_led = record {
    stands = record {
      sessions = opened_stands;
      fresh = λ i object e own. elim (get-with_value_cases ids_total exact_ids s.world.objects (act.next_id s) (Some (object_of session)) i object e) [
        | inl p ↦ subst (λ (j : ObjectId). j.k < s.objects_made + 1) (sym p.0) (omega arith)
        | inr there ↦ let lt = st.fresh i object there own in omega arith
      ];
    };
    last = refl;
    numbers = λ n h. elim (new_or_old h.0 h.1 h.2) [
      | inl p ↦ inr (sym h.3 ∙ ap (λ (r : SessionRecord). r.conn.0) p.1)
      | inr was ↦ inl (h.0, h.1, was, h.3)
    ];
  }

-- nothing is bound to a platform name that is short enough
none_bound : (s : Run) (name : List ℕ) → is_name_too_long name ≡ false → is_some (platform_bound s name) ≡ false → get s.world.names name ≡ None
none_bound s name short free =
    elim (get s.world.names name) as (λ o. is_some (if is_name_too_long name then None else o) ≡ false → o ≡ None) [
      | None ↦ λ _. refl
      | Some id ↦ λ f. absurd (some_not_none id (sym (ap (λ b. is_some (if b then None else Some id)) short) ∙ f))
    ] free
  where
    some_not_none : (id : ObjectId) → is_some (Some id) ≡ false → ⊥
    some_not_none id e = cc

-- the object is made, under the next id, if its bytes are not too long
makes_record : (s : Run) (session : Session) → Ends (λ id t. (id ≡ act.next_id s) × (t ≡ made s session) × (is_too_long (session_bytes (new_of session)) ≡ false)) s (act.create SESSION_KIND (session_bytes (new_of session)))
unfolding act.create
makes_record s session =
    ends_if_at (λ u. act.is_reserved_kind u.mode SESSION_KIND) (λ _. ends_refuse RESERVED) (λ _. ends_if_at (λ u. is_too_long (session_bytes (new_of session))) (λ _. ends_refuse TOO_LONG) (λ short.
    ends_if_at (λ u. nat_le OBJECTS_MOST_COUNT u.objects_made) (λ _. ends_refuse TOO_MANY) (λ _. record { so = (refl, refl, short) })))

binds : (s : Run) (name : List ℕ) (id : ObjectId) → Ends (λ (u : Unit {0}) t. t ≡ with_name s name (Some id)) s (act.bind name id)
unfolding act.bind
binds s name id = ends_if_at (λ u. act.is_reserved_name u.mode name) (λ _. ends_refuse RESERVED) (λ _. record { so = refl })

-- `open_record`
pub opens : (s : Run) (session : Session) → IsStanding s → MayOpen s session → Ends (λ x t. IsLed (λ n. n ≡ session.conn.0) s t) s (does.open_record session)
unfolding does.open_record does.new_record
opens s session st may =
    let New : ℕ → Type 0 = λ n. n ≡ session.conn.0 in
    let p : Run = record s { mode = Platform } in
    let inside : IsStanding p = stands_in {s = s} Platform st in
    let it : MayOpen p session = record { long = may.long; number = may.number; below = may.below; new = may.new } in
    let name = session_name session.name in
    ends_within {P = λ x t. IsLed New p t} {Q = λ x t. IsLed New s t} {s = s} Platform
    (ends_if_at (λ u. is_name_too_long name) (λ _. ends_refuse TOO_LONG) (λ fits. ends_if_at (λ u. is_some (platform_bound u name)) (λ _. ends_refuse NAME_EXISTS) (λ free.
    ends_then (makes_record p session) (λ id t e.
    subst (λ (v : Run). Ends (λ x u. IsLed New p u) v (act.bind name id)) (sym e.1) (subst (λ (i : ObjectId). Ends (λ x u. IsLed New p u) (made p session) (act.bind name i)) (sym e.0)
    (ends_weaker (binds (made p session) name (act.next_id p)) (λ _ u f. subst (IsLed New p) (sym f) (opened_led p session inside it (none_bound p name fits free) e.2))))))))
    (λ x t led. record { stands = record { sessions = led.stands.sessions; fresh = led.stands.fresh }; last = led.last; numbers = led.numbers })
