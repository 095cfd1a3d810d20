-- Objects that are set, one after another.
use Rattle.std.proofs.Common.{◌≡◌, ◌⊎◌, ℕ, Some, List, sym, ap, ◌∙◌, inl, inr, arith}
use Rattle.std.specs.FinMap.{FinMap, get, insert, same_map}
use Rattle.std.proofs.lemmas.Bool.Decides.{eqb_tells}
use Rattle.dk_types.specs.declared.number.ObjectId.{ObjectId}
use Rattle.dk_types.specs.declared.object.Object.{Object}
use Rattle.dk_model.specs.Keys.{id_cmp}
use Rattle.dk_model.specs.declared.records.SessionRecord.{SessionRecord}
use Rattle.dk_model.specs.declared.records.ChannelRecord.{ChannelRecord}
use Rattle.dk_model.specs.Records.{SESSION_KIND, CHANNEL_KIND, session_bytes, channel_bytes}
use Rattle.dk_model.proofs.Maps.{ids_total, exact_ids, some_is, get-insert_here, get-insert_other}

-- the objects of a world
abbrev pub Objects : Type 0
Objects = FinMap id_cmp Object

-- an object of the sessions' kind
abbrev pub of_session : List ℕ → Object
of_session bytes = record { kind = SESSION_KIND; bytes = bytes }

-- the object that a session's record is
abbrev pub session_object : SessionRecord → Object
session_object r = of_session (session_bytes r)

-- the object that a channel's record is
abbrev pub channel_object : ChannelRecord → Object
channel_object c = record { kind = CHANNEL_KIND; bytes = channel_bytes c }

-- two ids are one, or not
pub one_or_other : (id q : ObjectId) → (q ≡ id) ⊎ (id ≡ q → ⊥)
one_or_other id q = elim (eqb_tells q.run.0 id.run.0) [
  | inl t ↦ elim (eqb_tells q.k id.k) [
    | inl u ↦ inl (λ i. record { run = record { 0 = t.1 i }; k = u.1 i })
    | inr u ↦ inr (λ e. u.1 (ap (λ (o : ObjectId). o.k) (sym e)))
  ]
  | inr t ↦ inr (λ e. t.1 (ap (λ (o : ObjectId). o.run.0) (sym e)))
]

-- what was set last is there
pub set_here : (objects : Objects) (id : ObjectId) (object : Object) → get (insert objects id object) id ≡ Some object
set_here objects id object = get-insert_here ids_total objects id object

-- another is as it was
pub set_other : (objects : Objects) (id : ObjectId) (object : Object) (q : ObjectId) → (id ≡ q → ⊥) → get (insert objects id object) q ≡ get objects q
set_other objects id object q apart = get-insert_other ids_total exact_ids objects id object q apart

-- an object that is set as it is
pub set_as_is : (objects : Objects) (id : ObjectId) (object : Object) → get objects id ≡ Some object → insert objects id object ≡ objects
set_as_is objects id object there = same_map ids_total exact_ids _ _ (λ q. elim (one_or_other id q) [
  | inl e ↦ ap (get (insert objects id object)) e ∙ set_here objects id object ∙ sym there ∙ ap (get objects) (sym e)
  | inr apart ↦ set_other objects id object q apart
])

-- an object that is set again, with another one set in between
pub set_again : (objects : Objects) (a b : ObjectId) (x y z : Object) → (a ≡ b → ⊥) → insert (insert (insert objects a x) b y) a z ≡ insert (insert objects a z) b y
set_again objects a b x y z apart = same_map ids_total exact_ids _ _ (λ q. elim (one_or_other a q) [
  | inl e ↦
      ap (get (insert (insert (insert objects a x) b y) a z)) e ∙ set_here (insert (insert objects a x) b y) a z
      ∙ sym (set_here objects a z) ∙ sym (set_other (insert objects a z) b y a (λ f. apart (sym f))) ∙ ap (get (insert (insert objects a z) b y)) (sym e)
  | inr not_a ↦ set_other (insert (insert objects a x) b y) a z q not_a ∙ elim (one_or_other b q) [
    | inl f ↦ ap (get (insert (insert objects a x) b y)) f ∙ set_here (insert objects a x) b y ∙ sym (set_here (insert objects a z) b y) ∙ ap (get (insert (insert objects a z) b y)) (sym f)
    | inr not_b ↦ set_other (insert objects a x) b y q not_b ∙ set_other objects a x q not_a ∙ sym (set_other objects a z q not_a) ∙ sym (set_other (insert objects a z) b y q not_b)
  ]
])

-- no channel's record is a session's
pub no_session : (objects : Objects) (a b : ObjectId) (bytes other : List ℕ) → get objects a ≡ Some (record { kind = CHANNEL_KIND; bytes = bytes }) → get objects b ≡ Some (of_session other) → a ≡ b → ⊥
no_session objects a b bytes other at_a at_b same =
    let kinds : CHANNEL_KIND ≡ SESSION_KIND = ap (λ (o : Object). o.kind) (some_is (record { kind = CHANNEL_KIND; bytes = bytes }) (of_session other) (sym at_a ∙ ap (get objects) same ∙ at_b)) in
    omega (arith, kinds)
