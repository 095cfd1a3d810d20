-- What the platform itself does to the sessions: a record is opened or closed, and no number comes but the one that is opened.
use Rattle.std.proofs.Common.{◌≡◌, ℕ, Bool, true, false, if◌then◌else◌, Some, None, List, Ok, refl, sym, ap, subst, ◌∙◌, inl, inr, le_refl}
use Rattle.std.specs.FinMap.{get}
use Rattle.dk_types.specs.declared.number.ObjectId.{ObjectId}
use Rattle.dk_types.specs.declared.object.Object.{Object}
use Rattle.dk_types.specs.declared.job.Session.{Session}
use Rattle.dk_types.specs.declared.mode.Mode.TheVariants.{Platform}
use Rattle.dk_model.specs.declared.records.SessionRecord.{SessionRecord}
use Rattle.dk_model.specs.Records.{session_name}
use Rattle.dk_model.specs.Runs as act
use Rattle.dk_model.specs.Runs.{Run, with_object, with_name, RESERVED}
use Rattle.dk_model.specs.Platforms as does
use Rattle.dk_model.proofs.Maps.{ids_total, exact_ids, names_total, exact_names, get-with_value_here, get-with_value_other, get-with_value_cases, some_is, not_both}
use Rattle.dk_session_laws.specs.Sessions.{IsRecord, SessionsStand, IsStanding, IsKept, EndsBy, Ends}
use Rattle.dk_session_laws.specs.Numbers.{IsLed}
use Rattle.dk_session_laws.proofs.Ends.{ends_then, ends_weaker, ends_if_at, ends_refuse, reads_then, reads_own}
use Rattle.dk_session_laws.proofs.Kept.{record_on, one_record, record_there, still_standing}
use Rattle.dk_session_laws.proofs.Keeps.{ends_within, stands_in}
use Rattle.dk_session_laws.proofs.Calls.{record_read}

pub led_kept : {New : ℕ → Type 0} {s t : Run} → IsStanding s → IsKept s t → IsLed New s t
led_kept {New = New} st k = record {
  stands = still_standing st k;
  last = k.same.last;
  numbers = λ n h. let was = k.same.back h.0 h.1 h.2 in inl (h.0, was.0, was.1, was.2 ∙ h.3);
}

pub led_then : {New : ℕ → Type 0} {s t u : Run} → IsLed New s t → IsLed New t u → IsLed New s u
led_then p q = record {
  stands = q.stands;
  last = q.last ∙ p.last;
  numbers = λ n h. elim (q.numbers n h) [
    | inl was ↦ p.numbers n was
    | inr new ↦ inr new
  ];
}

-- ---- a record is closed

-- the name and the record of a session gone
abbrev closed : Run → List ℕ → ObjectId → Run
closed s login id = with_object (with_name s (session_name login) None) id None

module _ (s : Run) (login : List ℕ) (id : ObjectId) (x : SessionRecord) (st : IsStanding s) (bound : get s.world.names (session_name login) ≡ Some id) (at : IsRecord s.world id x) where
  still_bound : (name : List ℕ) (i : ObjectId) → get (closed s login id).world.names (session_name name) ≡ Some i → get s.world.names (session_name name) ≡ Some i
  still_bound name i e = elim (get-with_value_cases names_total exact_names s.world.names (session_name login) None (session_name name) i e) [
    | inl p ↦ absurd cc
    | inr there ↦ there
  ]

  still_there : (i : ObjectId) (object : Object) → get (closed s login id).world.objects i ≡ Some object → get s.world.objects i ≡ Some object
  still_there i object e = elim (get-with_value_cases ids_total exact_ids s.world.objects id None i object e) [
    | inl p ↦ absurd cc
    | inr there ↦ there
  ]

  was_record : (i : ObjectId) (r : SessionRecord) → IsRecord (closed s login id).world i r → IsRecord s.world i r
  was_record i r is = record_there s.world st.sessions i is.object r (still_there i is.object is.there) is.kind is.read

  -- another name's record is another one
  others : (name : List ℕ) (i : ObjectId) (r : SessionRecord) → get (closed s login id).world.names (session_name name) ≡ Some i → IsRecord s.world i r → id ≡ i → ⊥
  others name i r e is same =
      let r_is : r ≡ x = one_record s.world id r x (subst (λ (j : ObjectId). IsRecord s.world j r) (sym same) is) at in
      let one : name ≡ login = st.sessions.apart name login i id r x (still_bound name i e) bound is at (ap (λ (y : SessionRecord). y.conn.0) r_is) in
      not_both _ i (sym (ap (λ (n : List ℕ). get (closed s login id).world.names (session_name n)) one) ∙ e) (get-with_value_here names_total s.world.names (session_name login) None)

  closed_stands : SessionsStand (closed s login id).world
  closed_stands = record {
    bound = λ name i e.
        let was = st.sessions.bound name i (still_bound name i e) in
        (was.0, (was.1.0, record_on s.world (closed s login id).world i was.1.0 was.1.1 (get-with_value_other ids_total exact_ids s.world.objects id None i (others name i was.1.0 e was.1.1)) (le_refl _)));
    held = λ i object e k.
        let name = st.sessions.held i object (still_there i object e) k in
        let other : session_name login ≡ session_name name.0 → ⊥ = λ same.
        let one : id ≡ i = some_is id i (sym bound ∙ ap (get s.world.names) same ∙ name.1) in
        not_both _ object (ap (get (closed s login id).world.objects) one ∙ e) (get-with_value_here ids_total s.world.objects id None) in
        (name.0, get-with_value_other names_total exact_names s.world.names (session_name login) None (session_name name.0) other ∙ name.1);
    apart = λ one other i j y z e f p q n. st.sessions.apart one other i j y z (still_bound one i e) (still_bound other j f) (was_record i y p) (was_record j z q) n;
  }

  pub closed_led : {New : ℕ → Type 0} → IsLed New s (closed s login id)
  closed_led {New = New} = record {
    stands = record { sessions = closed_stands; fresh = λ i object e own. st.fresh i object (still_there i object e) own };
    last = refl;
    numbers = λ n h. inl (h.0, h.1, was_record h.0 h.1 h.2, h.3);
  }

unbound : (s : Run) (name : List ℕ) (id : ObjectId) → s.mode ≡ Platform → get s.world.names name ≡ Some id → Ends (λ (u : Unit {0}) t. t ≡ with_name s name None) s (act.unbind name)
unfolding act.unbind
unbound s name id m e = ends_if_at (λ u. act.is_reserved_name u.mode name) (λ _. ends_refuse RESERVED)
    (λ _. record { so = subst (λ o. let p = act.unbind_found o name s in EndsBy (λ (u : Unit {0}) t. t ≡ with_name s name None) p.0 p.1) (sym e) refl })

removed_by : (s : Run) (id : ObjectId) (object : Object) (b : Bool) → (let p = if b then act.refuse {A = Unit {0}} RESERVED s else (Ok tt, with_object s id None) in EndsBy (λ (u : Unit {0}) t. t ≡ with_object s id None) p.0 p.1)
removed_by s id object true = tt
removed_by s id object false = refl

removed : (s : Run) (id : ObjectId) (object : Object) → get s.world.objects id ≡ Some object → Ends (λ (u : Unit {0}) t. t ≡ with_object s id None) s (act.remove id)
unfolding act.remove
removed s id object e = record {
  so = subst (λ o. let p = act.change_found o id (λ object. None) s in EndsBy (λ (u : Unit {0}) t. t ≡ with_object s id None) p.0 p.1) (sym e) (removed_by s id object (act.is_reserved_kind s.mode object.kind));
}

-- `close_record`
pub closes : {New : ℕ → Type 0} (s : Run) (session : Session) → IsStanding s → Ends (λ x t. IsLed New s t) s (does.close_record session)
unfolding does.close_record
closes {New = New} s session st =
    let p : Run = record s { mode = Platform } in
    let inside : IsStanding p = stands_in {s = s} Platform st in
    ends_within {P = λ x t. IsLed New p t} {Q = λ x t. IsLed New s t} {s = s} Platform
    (reads_then (reads_own p session) (λ r own.
    let at = record_read p r.0 r.1 inside own.under.value in
    ends_then {P = λ u t. t ≡ with_name p (session_name session.name) None} (unbound p (session_name session.name) r.0 refl own.under.bound) (λ _ t e. subst (λ (v : Run). Ends (λ x t. IsLed New p t) v (act.remove r.0)) (sym e)
    (ends_weaker (removed (with_name p (session_name session.name) None) r.0 at.object at.there) (λ _ u f. subst (IsLed New p) (sym f) (closed_led p session.name r.0 r.1 inside own.under.bound at))))))
    (λ x t led. record { stands = record { sessions = led.stands.sessions; fresh = led.stands.fresh }; last = led.last; numbers = led.numbers })
