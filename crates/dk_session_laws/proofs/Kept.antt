-- What leaves the sessions as they were: nothing done, one thing after another, and each kind of write.
use Rattle.std.proofs.Common.{◌≡◌, ℕ, ◌<◌, ◌≤◌, All, Option, Some, List, ◌⊎◌, refl, sym, ap, subst, ◌∙◌, inl, inr, arith}
use Rattle.std.specs.FinMap.{get}
use Rattle.dk_types.specs.declared.number.ObjectId.{ObjectId}
use Rattle.dk_types.specs.declared.object.Object.{Object}
use Rattle.std.proofs.lemmas.Bool.Decides.{eqb_tells}
use Rattle.dk_types.specs.Fields.{IsU64}
use Rattle.dk_types.specs.Names.{IsName}
use Rattle.dk_model.specs.declared.records.SessionRecord.{SessionRecord}
use Rattle.dk_model.specs.DurableWorlds.{DurableWorld}
use Rattle.dk_model.specs.Validity.{next_of}
use Rattle.dk_model.specs.Records.{SESSION_KIND, session_of, session_name}
use Rattle.dk_model.specs.Runs.{Run, with_object, with_name}
use Rattle.dk_model.proofs.Maps.{ids_total, exact_ids, names_total, exact_names, get-with_value_here, get-with_value_other, get-with_value_cases, some_is}
use Rattle.dk_session_laws.specs.Sessions.{IsRecord, SessionsStand, SameSessions, IsFresh, IsStanding, IsKept}

-- a record that stands under an id stands in each world that has its object and as high a number
pub record_on : (a b : DurableWorld) (id : ObjectId) (r : SessionRecord) (is : IsRecord a id r) → get b.objects id ≡ get a.objects id → next_of a.last ≤ next_of b.last → IsRecord b id r
record_on a b id r is same more = let below = is.below in record {
  object = is.object;
  there = same ∙ is.there;
  kind = is.kind;
  read = is.read;
  number = is.number;
  channels = is.channels;
  below = omega arith;
}

-- one id has one record
pub one_record : (d : DurableWorld) (id : ObjectId) (x y : SessionRecord) → IsRecord d id x → IsRecord d id y → x ≡ y
one_record d id x y p q =
    let same : p.object ≡ q.object = some_is p.object q.object (sym p.there ∙ q.there) in
    some_is x y (sym p.read ∙ ap (λ (o : Object). session_of o.bytes) same ∙ q.read)

-- an object of the sessions' kind is a record, where the sessions stand
pub record_there : (d : DurableWorld) → SessionsStand d → (id : ObjectId) (object : Object) (r : SessionRecord) → get d.objects id ≡ Some object → object.kind ≡ SESSION_KIND → session_of object.bytes ≡ Some r → IsRecord d id r
record_there d st id object r there kind read =
    let name = st.held id object there kind in
    let found = (st.bound name.0 id name.1).1 in
    let same : found.1.object ≡ object = some_is found.1.object object (sym found.1.there ∙ there) in
    subst (IsRecord d id) (some_is found.0 r (sym found.1.read ∙ ap (λ (o : Object). session_of o.bytes) same ∙ read)) found.1

-- the sessions stand where they are the same
pub same_stand : (a b : DurableWorld) → SessionsStand a → SameSessions a b → SessionsStand b
same_stand a b st same = record {
  bound = λ name id e.
      let was = st.bound name id (sym (same.names name) ∙ e) in
      let now = same.onward id was.1.0 was.1.1 in
      (was.0, (now.0, now.1));
  held = λ id object e kind.
      let was = same.kinds id object e kind in
      let name = st.held id was.0 was.1 was.2 in
      (name.0, same.names name.0 ∙ name.1);
  apart = λ one other i j x y e f p q n.
      let was = same.back i x p in
      let then = same.back j y q in
      st.apart one other i j was.0 then.0 (sym (same.names one) ∙ e) (sym (same.names other) ∙ f) was.1 then.1 (was.2 ∙ n ∙ sym then.2);
}

pub same_itself : (d : DurableWorld) → SameSessions d d
same_itself d = record {
  last = refl;
  names = λ name. refl;
  onward = λ id r is. (r, is, refl);
  back = λ id r is. (r, is, refl);
  kinds = λ id object e k. (object, e, k);
}

pub same_then : (a b c : DurableWorld) → SameSessions a b → SameSessions b c → SameSessions a c
same_then a b c p q = record {
  last = q.last ∙ p.last;
  names = λ name. q.names name ∙ p.names name;
  onward = λ id r is. let x = p.onward id r is in let y = q.onward id x.0 x.1 in (y.0, y.1, y.2 ∙ x.2);
  back = λ id r is. let y = q.back id r is in let x = p.back id y.0 y.1 in (x.0, x.1, x.2 ∙ y.2);
  kinds = λ id object e k. let y = q.kinds id object e k in p.kinds id y.0 y.1 y.2;
}

pub kept_itself : (s : Run) → IsFresh s → IsKept s s
kept_itself s fresh = record { same = same_itself s.world; fresh = fresh; mode = refl }

pub kept_then : {s t u : Run} → IsKept s t → IsKept t u → IsKept s u
kept_then {s = s} {t = t} {u = u} p q = record { same = same_then s.world t.world u.world p.same q.same; fresh = q.fresh; mode = q.mode ∙ p.mode }

pub still_standing : {s t : Run} → IsStanding s → IsKept s t → IsStanding t
still_standing {s = s} {t = t} st k = record { sessions = same_stand s.world t.world st.sessions k.same; fresh = k.fresh }

-- the same objects, names and largest run
pub same_alike : (a b : DurableWorld) → b.objects ≡ a.objects → b.names ≡ a.names → b.last ≡ a.last → SameSessions a b
same_alike a b objects names last =
    let at : (id : ObjectId) → get b.objects id ≡ get a.objects id = λ id. ap (λ m. get m id) objects in
    let next : next_of b.last ≡ next_of a.last = ap next_of last in record {
      last = last;
      names = λ name. ap (λ m. get m (session_name name)) names;
      onward = λ id r is. (r, record_on a b id r is (at id) (omega (arith, next)), refl);
      back = λ id r is. (r, record_on b a id r is (sym (at id)) (omega (arith, next)), refl);
      kinds = λ id object e k. (object, sym (at id) ∙ e, k);
    }

-- an object that is no session's is written, made or removed, and is none then
pub kept_object : (s : Run) (id : ObjectId) (new : Option Object) (made : ℕ) → IsStanding s → s.objects_made ≤ made
    → ((object : Object) → get s.world.objects id ≡ Some object → object.kind ≡ SESSION_KIND → ⊥) → ((object : Object) → new ≡ Some object → object.kind ≡ SESSION_KIND → ⊥)
    → ((object : Object) → new ≡ Some object → id.run ≡ s.number → id.k < made) → IsKept s (with_object (record s { objects_made = made }) id new)
kept_object s id new made st more old is own =
    let t = with_object (record s { objects_made = made }) id new in record {
      same = record {
        last = refl;
        names = λ name. refl;
        onward = λ q r at. (r, record_on s.world t.world q r at (get-with_value_other ids_total exact_ids s.world.objects id new q (λ e. old at.object (ap (get s.world.objects) e ∙ at.there) at.kind)) (omega arith), refl);
        back = λ q r at. elim (get-with_value_cases ids_total exact_ids s.world.objects id new q at.object at.there) [
          | inl p ↦ absurd (is at.object p.1 at.kind)
          | inr there ↦ (r, record_on t.world s.world q r at (there ∙ sym at.there) (omega arith), refl)
        ];
        kinds = λ q object e k. elim (get-with_value_cases ids_total exact_ids s.world.objects id new q object e) [
          | inl p ↦ absurd (is object p.1 k)
          | inr there ↦ (object, there, k)
        ];
      };
      fresh = λ q object e mine. elim (get-with_value_cases ids_total exact_ids s.world.objects id new q object e) [
        | inl p ↦ subst (λ (i : ObjectId). i.k < made) (sym p.0) (own object p.1 (ap (λ (i : ObjectId). i.run) (sym p.0) ∙ mine))
        | inr there ↦ let lt = st.fresh q object there mine in omega arith
      ];
      mode = refl;
    }

-- a name that is no session's is bound or unbound
pub kept_name : (s : Run) (name : List ℕ) (new : Option ObjectId) → IsStanding s → ((login : List ℕ) → name ≡ session_name login → ⊥) → IsKept s (with_name s name new)
kept_name s name new st other = let t = with_name s name new in record {
  same = record {
    last = refl;
    names = λ login. get-with_value_other names_total exact_names s.world.names name new (session_name login) (other login);
    onward = λ id r is. (r, record_on s.world t.world id r is refl (omega arith), refl);
    back = λ id r is. (r, record_on t.world s.world id r is refl (omega arith), refl);
    kinds = λ id object e k. (object, e, k);
  };
  fresh = st.fresh;
  mode = refl;
}

-- two ids are one, or not
pub one_or_other : (id q : ObjectId) → (q ≡ id) ⊎ (id ≡ q → ⊥)
one_or_other id q = elim (eqb_tells q.run.0 id.run.0) [
  | inl t ↦ elim (eqb_tells q.k id.k) [
    | inl u ↦ inl (λ i. record { run = record { 0 = t.1 i }; k = u.1 i })
    | inr u ↦ inr (λ e. u.1 (ap (λ (o : ObjectId). o.k) (sym e)))
  ]
  | inr t ↦ inr (λ e. t.1 (ap (λ (o : ObjectId). o.run.0) (sym e)))
]

-- a record of a session is written anew, with the same number
pub kept_record : (s : Run) (id : ObjectId) (x y : SessionRecord) (bytes : List ℕ) (at : IsRecord s.world id x) → IsStanding s → y.conn.0 ≡ x.conn.0 → All IsName y.channels → session_of bytes ≡ Some y
    → IsKept s (with_object s id (Some (record { kind = at.object.kind; bytes = bytes })))
kept_record s id x y bytes at st number names read =
    let new : Object = record { kind = at.object.kind; bytes = bytes } in
    let t = with_object s id (Some new) in
    let here : get t.world.objects id ≡ Some new = get-with_value_here ids_total s.world.objects id (Some new) in
    let written : IsRecord t.world id y = record {
      object = new;
      there = here;
      kind = at.kind;
      read = read;
      number = subst IsU64 (sym number) at.number;
      channels = names;
      below = subst (λ n. n < next_of s.world.last) (sym number) at.below;
    } in record {
      same = record {
        last = refl;
        names = λ name. refl;
        onward = λ q r is. elim (one_or_other id q) [
          | inl e ↦
              let was : IsRecord s.world id r = subst (λ (i : ObjectId). IsRecord s.world i r) e is in
              (y, subst (λ (i : ObjectId). IsRecord t.world i y) (sym e) written, number ∙ ap (λ (r : SessionRecord). r.conn.0) (one_record s.world id x r at was))
          | inr other ↦ (r, record_on s.world t.world q r is (get-with_value_other ids_total exact_ids s.world.objects id (Some new) q other) (omega arith), refl)
        ];
        back = λ q r is. elim (get-with_value_cases ids_total exact_ids s.world.objects id (Some new) q is.object is.there) [
          | inl p ↦
              let same : y ≡ r = some_is y r (sym read ∙ ap (λ (o : Object). session_of o.bytes) (some_is new is.object p.1) ∙ is.read) in
              (x, subst (λ (i : ObjectId). IsRecord s.world i x) (sym p.0) at, sym number ∙ ap (λ (r : SessionRecord). r.conn.0) same)
          | inr there ↦ (r, record_on t.world s.world q r is (there ∙ sym is.there) (omega arith), refl)
        ];
        kinds = λ q object e k. elim (get-with_value_cases ids_total exact_ids s.world.objects id (Some new) q object e) [
          | inl p ↦ (at.object, ap (get s.world.objects) p.0 ∙ at.there, at.kind)
          | inr there ↦ (object, there, k)
        ];
      };
      fresh = λ q object e mine. elim (get-with_value_cases ids_total exact_ids s.world.objects id (Some new) q object e) [
        | inl p ↦ st.fresh q at.object (ap (get s.world.objects) p.0 ∙ at.there) mine
        | inr there ↦ st.fresh q object there mine
      ];
      mode = refl;
    }
