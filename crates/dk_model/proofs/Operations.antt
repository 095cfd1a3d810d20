-- Each operation on objects, names, tasks and messages is lawful.
use Rattle.std.proofs.Common.{◌≡◌, ℕ, ◌+◌, ◌^◌, ◌<◌, ◌≤◌, Bool, true, false, cond, nat_le, nat_lt, ◌||◌, ◌==◌, Option, Some, None, List, [], ◌∷◌, ◌++◌, length, length-append, Ok, refl, sym, ap, subst, ◌∙◌, arith, inl, inr, le_refl, ltb-false, leb-false, is_eq}
use Rattle.std.specs.declared.cmp.Ordering.{Ordering}
use Rattle.std.specs.Cmp.{IsTotalOrder, tied_itself}
use Rattle.std.specs.FinMap as map
use Rattle.std.proofs.lemmas.List.Elements.{All-push}
use Rattle.dk_types.specs.declared.number.ConnNo.{ConnNo}
use Rattle.dk_types.specs.declared.number.ObjectId.{ObjectId}
use Rattle.dk_types.specs.declared.number.TaskKey.{TaskKey}
use Rattle.dk_types.specs.declared.object.Object.{Object}
use Rattle.dk_types.specs.declared.job.Out.{Out}
use Rattle.dk_types.specs.declared.limits.TheConstants.{OBJECTS_MOST_COUNT, TASKS_MOST_COUNT, MESSAGES_MOST_COUNT, DELAY_MOST_MS, PERIOD_MOST_MS}
use Rattle.dk_types.specs.Names.{IsName, bytes_cmp}
use Rattle.dk_model.specs.DurableWorlds.{Task, is_above, first_key, next_name}
use Rattle.dk_model.specs.Validity.{IsObject, IsTask, IsBody}
use Rattle.dk_model.specs.Runs as act
use Rattle.dk_model.specs.Runs.{Run, found, with_name}
use Rattle.dk_model.specs.Lawful.{HasShortBody, HaveShortBodies, IsFit}
use Rattle.dk_model.proofs.Maps.{names_total, keys_total, exact_keys, get-with_value_cases, not_both, some_is}
use Rattle.dk_model.proofs.Goings.{goes_sending, goes_object, goes_name, goes_task}
use Rattle.dk_model.proofs.Fits.{fit_with, fit_object, fit_name, fit_task}
use Rattle.dk_model.proofs.Acts.{Anything, AreBytes, IsId, IsKey, HasIfOk, LawfulAt, IsLawful, stays, refused, at_if, lawful_refuse, lawful_if_at}

same_left : {X : Type 0} (o : Option X) (x y : X) → o ≡ Some x → o ≡ Some y → y ≡ x
same_left o x y e g = some_is y x (sym g ∙ e)

-- `get` needs nothing; its object is within its limits
pub lawful_get : {Needs : Type 0} (id : ObjectId) → IsLawful Needs IsObject (act.get id)
unfolding act.get
lawful_get id = record {
  at = λ s. stays s _ (λ n f. elim (map.get s.world.objects id) as (λ o. map.get s.world.objects id ≡ o → HasIfOk IsObject (found act.OBJECT_NOT_FOUND o)) [
    | None ↦ λ _. tt
    | Some object ↦ λ e. (f.world.objects id object e).2
  ] refl);
}

below_few : (a most : ℕ) → most ≤ 65536 → a < most → a < 2 ^ 32
below_few a most h k = omega arith

-- `create` needs a kind of 16 bits, and bytes; its id has a run's number and a place
pub lawful_create : {Needs : Type 0} (kind : ℕ) (bytes : List ℕ) → (Needs → (kind < 2 ^ 16) × AreBytes bytes) → IsLawful Needs IsId (act.create kind bytes)
unfolding act.create
lawful_create {Needs = Needs} kind bytes why = record {
  at = λ s. at_if (act.is_reserved_kind s.mode kind) (λ _. refused s _) (λ _. at_if (act.is_too_long bytes) (λ _. refused s _) (λ short. at_if (nat_le OBJECTS_MOST_COUNT s.objects_made) (λ _. refused s _) (λ few.
      let less : s.objects_made < OBJECTS_MOST_COUNT = leb-false _ _ few in
      let id : IsFit s → IsId (act.next_id s) = λ f. record { number = f.number; place = below_few _ _ (omega arith) less } in record {
        goes = goes_object s (act.next_id s) (Some (record { kind = kind; bytes = bytes })) (s.objects_made + 1) (omega arith) (λ _ object e. (refl, le_refl _, omega arith));
        fit = λ n f. fit_object s f (act.next_id s) (Some (record { kind = kind; bytes = bytes })) (s.objects_made + 1) (omega arith) (omega arith) (λ object e. record {
          numbered = id f;
          committed = f.committed;
          fits = subst IsObject (some_is _ object e) (record { kind = (why n).0; body = record { short = ltb-false _ _ short; bytes = (why n).1 } });
          below = λ _. omega arith;
        });
        leaves = λ n f key x y e g. same_left _ x y e g;
        has = λ n f. id f;
      })));
}

changed_at : {Needs : Type 0} (s : Run) (id : ObjectId) (change : Object → Option Object) (o : Option Object) → map.get s.world.objects id ≡ o
    → (Needs → (object new : Object) → IsObject object → change object ≡ Some new → IsObject new) → LawfulAt Needs Anything s (act.change_found o id change s)
changed_at s id change None e why = refused s _
changed_at s id change (Some object) e why = at_if (act.is_reserved_kind s.mode object.kind) (λ _. refused s _) (λ _. record {
  goes = goes_object s id (change object) s.objects_made (le_refl _) (λ none _ _. not_both _ object e none);
  fit = λ n f.
      let there = f.world.objects id object e in fit_object s f id (change object) s.objects_made (le_refl _) f.few_objects (λ new is. record {
        numbered = there.0;
        committed = there.1;
        fits = why n object new there.2 is;
        below = λ own. f.objects id object e own;
      });
  leaves = λ n f key x y e g. same_left _ x y e g;
  has = λ n f. tt;
})

lawful_change : {Needs : Type 0} (id : ObjectId) (change : Object → Option Object) → (Needs → (object new : Object) → IsObject object → change object ≡ Some new → IsObject new) → IsLawful Needs Anything (act.change_object id change)
lawful_change id change why = record { at = λ s. changed_at s id change (map.get s.world.objects id) refl why }

-- `save` needs bytes
pub lawful_save : {Needs : Type 0} (id : ObjectId) (bytes : List ℕ) → (Needs → AreBytes bytes) → IsLawful Needs Anything (act.save id bytes)
unfolding act.save
lawful_save id bytes why = lawful_if_at (act.is_too_long bytes) (lawful_refuse act.TOO_LONG) (lawful_change id (λ object. Some (record { kind = object.kind; bytes = bytes })) (λ n object new is e.
    subst IsObject (some_is _ new e) (record { kind = is.kind; body = record { short = ltb-false _ _ n.1; bytes = why n.0 } })))

-- `mark` needs nothing
pub lawful_mark : {Needs : Type 0} (id : ObjectId) → IsLawful Needs Anything (act.mark id)
unfolding act.mark
lawful_mark id = lawful_change id (λ object. Some object) (λ n object new is e. subst IsObject (some_is _ new e) is)

-- `remove` needs nothing
pub lawful_remove : {Needs : Type 0} (id : ObjectId) → IsLawful Needs Anything (act.remove id)
unfolding act.remove
lawful_remove id = lawful_change id (λ object. None) (λ n object new is e. absurd cc)

-- `bound` needs nothing; its id has a run's number and a place
pub lawful_bound : {Needs : Type 0} (name : List ℕ) → IsLawful Needs IsId (act.bound name)
unfolding act.bound
lawful_bound name = record {
  at = λ s. stays s _ (λ n f. elim (map.get s.world.names name) as (λ o. map.get s.world.names name ≡ o → HasIfOk IsId (found act.NAME_NOT_BOUND o)) [
    | None ↦ λ _. tt
    | Some id ↦ λ e. (f.world.names name id e).1
  ] refl);
}

named : {Needs : Type 0} (s : Run) (name : List ℕ) (new : Option ObjectId) → (Needs → IsFit s → (id : ObjectId) → new ≡ Some id → IsName name × IsId id) → LawfulAt Needs (Anything {A = Unit {0}}) s (Ok tt, with_name s name new)
named s name new why = record {
  goes = goes_name s name new;
  fit = λ n f. fit_name s f name new (why n f);
  leaves = λ n f key x y e g. same_left _ x y e g;
  has = λ n f. tt;
}

-- `bind` needs a name, and an id with a run's number and a place
pub lawful_bind : {Needs : Type 0} (name : List ℕ) (id : ObjectId) → (Needs → IsName name × IsId id) → IsLawful Needs Anything (act.bind name id)
unfolding act.bind
lawful_bind name id why = record {
  at = λ s. at_if (act.is_reserved_name s.mode name) (λ _. refused s _) (λ _. named s name (Some id) (λ n f other e. ((why n).0, subst IsId (some_is _ other e) (why n).1)));
}

unbound_at : {Needs : Type 0} (s : Run) (name : List ℕ) (o : Option ObjectId) → LawfulAt Needs Anything s (act.unbind_found o name s)
unbound_at s name None = refused s _
unbound_at s name (Some id) = named s name None (λ n f other e. absurd cc)

-- `unbind` needs nothing
pub lawful_unbind : {Needs : Type 0} (name : List ℕ) → IsLawful Needs Anything (act.unbind name)
unfolding act.unbind
lawful_unbind name = record { at = λ s. at_if (act.is_reserved_name s.mode name) (λ _. refused s _) (λ _. unbound_at s name (map.get s.world.names name)) }

-- a name, where it is one
abbrev pub IsSomeName : Option (List ℕ) → Type 0
IsSomeName None = Unit {0}
IsSomeName (Some name) = IsName name

there_at : {X : Type 0} (b : Bool) (x : X) (o : Option X) → (v : X) × (o ≡ Some v) → (v : X) × (cond b (Some x) o ≡ Some v)
there_at true x o h = (x, refl)
there_at false x o h = h

-- the first key that passes stands among the entries
first_found : {K X : Type 0} (R : K → K → Ordering) → IsTotalOrder R → (p : K → Bool) (es : List (K × X)) (k : K) → first_key p es ≡ Some k → (v : X) × (map.find R k es ≡ Some v)
first_found R total p [] k e = absurd cc
first_found {K = K} {X = X} R total p (x ∷ es) k e = elim (p x.0) as (λ b. cond b (Some x.0) (first_key p es) ≡ Some k → (v : X) × (map.find R k (x ∷ es) ≡ Some v)) [
  | true ↦ λ f. subst (λ (q : K). (v : X) × (map.find R q (x ∷ es) ≡ Some v)) (some_is _ k f) (x.1, ap (λ o. cond (is_eq o) (Some x.1) (map.find R x.0 es)) (tied_itself total x.0))
  | false ↦ λ f. there_at _ x.1 _ (first_found R total p es k f)
] e

next_named : (s : Run) → IsFit s → (after : Option (List ℕ)) (o : Option (List ℕ)) → next_name s.world.names after ≡ o → IsSomeName o
unfolding next_name
next_named s f after None e = tt
next_named s f after (Some name) e =
    let there = first_found bytes_cmp names_total (is_above after) (map.entries s.world.names) name e in
    (f.world.names name there.0 (map.get-entries s.world.names name ∙ there.1)).0

-- `next_bound` needs nothing; what it answers is a name, where it answers one
pub lawful_next_bound : {Needs : Type 0} (after : Option (List ℕ)) → IsLawful Needs IsSomeName (act.next_bound after)
unfolding act.next_bound
lawful_next_bound after = record { at = λ s. stays s _ (λ n f. next_named s f after (next_name s.world.names after) refl) }

lawful_scheduled : {Needs : Type 0} (kind : ℕ) (arg : List ℕ) (delay period : ℕ) → (Needs → (kind < 2 ^ 16) × IsBody arg × (delay ≤ DELAY_MOST_MS) × (period ≤ PERIOD_MOST_MS))
    → IsLawful Needs IsKey (act.scheduled kind arg delay period)
lawful_scheduled kind arg delay period why = record {
  at = λ s. at_if (nat_le TASKS_MOST_COUNT s.tasks_made) (λ _. refused s _) (λ few.
      let less : s.tasks_made < TASKS_MOST_COUNT = leb-false _ _ few in
      let task : Task = record { due = s.at + delay; period = period; kind = kind; arg = arg } in
      let key : IsFit s → IsKey (act.next_key s) = λ f. record { number = f.number; place = below_few _ _ (omega arith) less } in record {
        goes = goes_task s (act.next_key s) (Some task) (s.tasks_made + 1) (omega arith) (λ _ _ e. (refl, le_refl _, omega arith));
        fit = λ n f. fit_task s f (act.next_key s) (Some task) (s.tasks_made + 1) (omega arith) (omega arith) (λ other e. record {
          numbered = key f;
          committed = f.committed;
          fits = subst IsTask (some_is task other e) (let w = why n in let at = f.at in record { due = omega (arith, at, w.2); period = w.3; kind = w.0; arg = w.1 });
          below = λ _. omega arith;
        });
        leaves = λ n f q x y e g. elim (get-with_value_cases keys_total exact_keys s.world.tasks (act.next_key s) (Some task) q y g) [
          | inl p ↦ let b = f.tasks q x e (ap (λ (k : TaskKey). k.run) p.0) in let same : q.k ≡ s.tasks_made = ap (λ (k : TaskKey). k.k) p.0 in absurd (omega (arith, b, same))
          | inr there ↦ some_is y x (sym there ∙ e)
        ];
        has = λ n f. key f;
      });
}

-- `schedule` needs a kind of 16 bits, and bytes; its key has a run's number and a place
pub lawful_schedule : {Needs : Type 0} (kind : ℕ) (arg : List ℕ) (delay : ℕ) → (Needs → (kind < 2 ^ 16) × AreBytes arg) → IsLawful Needs IsKey (act.schedule kind arg delay)
unfolding act.schedule
lawful_schedule kind arg delay why = lawful_if_at (act.is_too_long arg) (lawful_refuse act.TOO_LONG) (lawful_if_at (nat_lt DELAY_MOST_MS delay) (lawful_refuse act.BAD_DELAY)
    (lawful_scheduled kind arg delay 0 (λ n. let w = why n.0.0 in (w.0, record { short = ltb-false _ _ n.0.1; bytes = w.1 }, ltb-false _ _ n.1, omega arith))))

or_left : (a b : Bool) → (a || b) ≡ false → a ≡ false
or_left true b h = cc
or_left false b h = refl

or_right : (a b : Bool) → (a || b) ≡ false → b ≡ false
or_right true b h = cc
or_right false b h = h

-- `schedule_periodic` needs what `schedule` does
pub lawful_schedule_periodic : {Needs : Type 0} (kind : ℕ) (arg : List ℕ) (delay period : ℕ) → (Needs → (kind < 2 ^ 16) × AreBytes arg) → IsLawful Needs IsKey (act.schedule_periodic kind arg delay period)
unfolding act.schedule_periodic
lawful_schedule_periodic kind arg delay period why =
    lawful_if_at (act.is_too_long arg) (lawful_refuse act.TOO_LONG) (lawful_if_at (nat_lt DELAY_MOST_MS delay || nat_lt PERIOD_MOST_MS period || period == 0) (lawful_refuse act.BAD_DELAY)
    (lawful_scheduled kind arg delay period (λ n. let w = why n.0.0 in
    let both = or_left (nat_lt DELAY_MOST_MS delay || nat_lt PERIOD_MOST_MS period) (period == 0) n.1 in
    (w.0, record { short = ltb-false _ _ n.0.1; bytes = w.1 }, ltb-false _ _ (or_left (nat_lt DELAY_MOST_MS delay) _ both), ltb-false _ _ (or_right (nat_lt DELAY_MOST_MS delay) _ both)))))

cancelled_at : {Needs : Type 0} (s : Run) (key : TaskKey) (o : Option Task) → map.get s.world.tasks key ≡ o → LawfulAt Needs Anything s (act.cancel_found o key s)
cancelled_at s key None e = refused s _
cancelled_at s key (Some task) e = record {
  goes = goes_task s key None s.tasks_made (le_refl _) (λ _ _ is. absurd cc);
  fit = λ n f. fit_task s f key None s.tasks_made (le_refl _) f.few_tasks (λ _ is. absurd cc);
  leaves = λ n f q x y e g. elim (get-with_value_cases keys_total exact_keys s.world.tasks key None q y g) [
    | inl p ↦ absurd cc
    | inr there ↦ some_is y x (sym there ∙ e)
  ];
  has = λ n f. tt;
}

-- `cancel` needs nothing
pub lawful_cancel : {Needs : Type 0} (key : TaskKey) → IsLawful Needs Anything (act.cancel key)
unfolding act.cancel
lawful_cancel key = record { at = λ s. cancelled_at s key (map.get s.world.tasks key) refl }

-- messages with short bodies, as many as a run may send
pub sent_at : {Needs : Type 0} (s : Run) (sent : List (ConnNo × Out)) → length (s.outs ++ sent) ≤ MESSAGES_MOST_COUNT → (Needs → IsFit s → HaveShortBodies (s.outs ++ sent))
    → LawfulAt Needs (Anything {A = Unit {0}}) s (Ok tt, record s { outs = s.outs ++ sent })
sent_at s sent few short = record {
  goes = goes_sending s (s.outs ++ sent) sent refl;
  fit = λ n f. fit_with s f s.mode (s.outs ++ sent) few (short n f);
  leaves = λ n f key x y e g. same_left _ x y e g;
  has = λ n f. tt;
}

one_sent : (outs : List (ConnNo × Out)) (message : ConnNo × Out) → length outs < MESSAGES_MOST_COUNT → length (outs ++ message ∷ []) ≤ MESSAGES_MOST_COUNT
one_sent outs message few = omega (arith, few, length-append outs (message ∷ []))

-- `send` needs nothing
pub lawful_send : {Needs : Type 0} (to : ConnNo) (message : Out) → IsLawful Needs Anything (act.send to message)
unfolding act.send
lawful_send to message = record {
  at = λ s. at_if (act.is_too_long (act.body_of message)) (λ _. refused s _) (λ short. at_if (nat_le MESSAGES_MOST_COUNT (length s.outs)) (λ _. refused s _) (λ few.
      sent_at s ((to, message) ∷ []) (one_sent s.outs (to, message) (leb-false _ _ few)) (λ n f. All-push (λ o. HasShortBody o.1) s.outs (to, message) f.bodies (ltb-false _ _ short))));
}
