-- Steps that leave the sessions as they were: how they compose, and each operation on objects, names, tasks and messages in a game's mode.
use Rattle.std.proofs.Common.{◌≡◌, ℕ, ◌+◌, ◌<◌, Bool, true, false, nat_le, nat_lt, ◌==◌, ◌&&◌, ◌||◌, if◌then◌else◌, Option, Some, None, List, [], ◌∷◌, ◌++◌, length, Result, Ok, Err, refl, sym, ap, subst, ◌∙◌, arith, leb-false, le_refl}
use Rattle.std.specs.FinMap.{get}
use Rattle.dk_types.specs.declared.fault.AppFault.{AppFault}
use Rattle.dk_types.specs.declared.mode.Mode.{Mode}
use Rattle.dk_types.specs.declared.mode.Mode.TheVariants.{Game}
use Rattle.dk_types.specs.declared.number.ConnNo.{ConnNo}
use Rattle.dk_types.specs.declared.number.ObjectId.{ObjectId}
use Rattle.dk_types.specs.declared.number.TaskKey.{TaskKey}
use Rattle.dk_types.specs.declared.object.Object.{Object}
use Rattle.dk_types.specs.declared.job.Out.{Out}
use Rattle.dk_types.specs.declared.limits.TheConstants.{OBJECTS_MOST_COUNT, TASKS_MOST_COUNT, MESSAGES_MOST_COUNT, DELAY_MOST_MS, PERIOD_MOST_MS}
use Rattle.dk_model.specs.DurableWorlds.{Task}
use Rattle.dk_model.specs.Records.{SESSION_KIND, session_name}
use Rattle.dk_model.specs.Runs as act
use Rattle.dk_model.specs.Runs.{Run, Act, give, and_then, carry_on, within, refuse, with_object}
use Rattle.dk_model.specs.References.{get_as, get_for_update_as, save_as}
use Rattle.dk_model.proofs.Maps.{some_is}
use Rattle.dk_session_laws.specs.Sessions.{IsFresh, IsStanding, IsKept, EndsBy, Ends, KeepsAt, Keeps}
use Rattle.dk_session_laws.proofs.Ends.{Reads, ends_then, ends_weaker, ends_if_at, ends_refuse, reads_get, reads_bound, reads_as}
use Rattle.dk_session_laws.proofs.Kept.{same_alike, kept_itself, kept_then, still_standing, kept_object, kept_name}

-- a step that changes nothing
pub reads_keep : {A : Type 0} {P : A → Type 0} {s : Run} {f : Act A} → Reads P s f → IsFresh s → KeepsAt s f
reads_keep {P = P} {s = s} {f = f} p fresh = record { so = by ((f s).0) ((f s).1) p.so }
  where
    by : (r : Result _ AppFault) (t : Run) → EndsBy (λ x t. (t ≡ s) × P x) r t → EndsBy (λ x t. IsKept s t) r t
    by (Ok x) t e = subst (IsKept s) (sym e.0) (kept_itself s fresh)
    by (Err fault) t e = tt

-- one step, and the next, from this run on
pub keeps_on : {A B : Type 0} {s : Run} {f : Act A} {g : A → Act B} → IsStanding s → KeepsAt s f → ((x : A) (t : Run) → IsStanding t → IsKept s t → KeepsAt t (g x)) → KeepsAt s (and_then f g)
keeps_on st p h = ends_then p (λ x t k. ends_weaker (h x t (still_standing st k) k) (λ y u more. kept_then k more))

-- `and_then`
pub keeps_then : {A B : Type 0} {mode : Mode} {f : Act A} {g : A → Act B} → Keeps mode f → ((x : A) → Keeps mode (g x)) → Keeps mode (and_then f g)
keeps_then p h = record { at = λ s m st. keeps_on st (p.at s m st) (λ x t stands kept. (h x).at t (kept.mode ∙ m) stands) }

-- `give`
pub keeps_give : {A : Type 0} {mode : Mode} (r : Result A AppFault) → Keeps mode (give r)
unfolding give
keeps_give (Ok x) = record { at = λ s m st. record { so = kept_itself s st.fresh } }
keeps_give (Err fault) = record { at = λ s m st. record { so = tt } }

-- a step whose answer is put into another form, and the next
pub keeps_then_as : {A B C : Type 0} {mode : Mode} {f : Act A} → Keeps mode f → (form : A → B) (g : B → Act C) → ((x : A) → Keeps mode (g (form x))) → Keeps mode (and_then (and_then f (λ x. give (Ok (form x)))) g)
unfolding and_then give
keeps_then_as {A = A} {mode = mode} {f = f} p form g h = record { at = λ s m st. record { so = by s m st ((f s).0) ((f s).1) ((p.at s m st).so) } }
  where
    by : (s : Run) → s.mode ≡ mode → IsStanding s → (r : Result A AppFault) (t : Run) → EndsBy (λ x u. IsKept s u) r t
        → (let q = carry_on r (λ x. give (Ok (form x))) t in EndsBy (λ x u. IsKept s u) ((carry_on q.0 g q.1).0) ((carry_on q.0 g q.1).1))
    by s m st (Ok x) t k = (ends_weaker ((h x).at t (k.mode ∙ m) (still_standing st k)) (λ y u more. kept_then k more)).so
    by s m st (Err fault) t k = tt

-- `refuse`
pub keeps_refuse : {A : Type 0} {mode : Mode} (n : ℕ) → Keeps {A = A} mode (refuse n)
keeps_refuse n = record { at = λ s m st. record { so = tt } }

-- an `if` between two steps; each may count on the test's answer
pub keeps_if : {A : Type 0} {mode : Mode} {f g : Act A} (b : Bool) → (b ≡ true → Keeps mode f) → (b ≡ false → Keeps mode g) → Keeps mode (if b then f else g)
keeps_if true p q = p refl
keeps_if false p q = q refl

-- the same where the steps are written with the run
pub keeps_if_at : {A : Type 0} {mode : Mode} {f g : Act A} (b : Bool) → (b ≡ true → Keeps mode f) → (b ≡ false → Keeps mode g) → Keeps mode (λ s. if b then f s else g s)
keeps_if_at true p q = record { at = λ s m st. record { so = ((p refl).at s m st).so } }
keeps_if_at false p q = record { at = λ s m st. record { so = ((q refl).at s m st).so } }

-- a step that goes by something of the run
pub keeps_looks : {A X : Type 0} {mode : Mode} (look : Run → X) (go : X → Act A) → ((x : X) → Keeps mode (go x)) → Keeps mode (λ s. go (look s) s)
keeps_looks look go p = record { at = λ s m st. record { so = ((p (look s)).at s m st).so } }

-- what a step in another mode ends in, once the mode is put back
pub ends_within : {A : Type 0} {P Q : A → Run → Type 0} {s : Run} {f : Act A} (mode : Mode) → Ends P (record s { mode = mode }) f → ((x : A) (t : Run) → P x t → Q x (record t { mode = s.mode })) → Ends Q s (within mode f)
unfolding within
ends_within {P = P} {Q = Q} {s = s} {f = f} mode p h = let q = f (record s { mode = mode }) in record { so = by (q.0) (q.1) p.so }
  where
    by : (r : Result _ AppFault) (t : Run) → EndsBy P r t → EndsBy Q r (record t { mode = s.mode })
    by (Ok x) t e = h x t e
    by (Err fault) t e = tt

-- `within`, from this run on
pub keeps_inside : {A : Type 0} {s : Run} {f : Act A} (mode : Mode) → KeepsAt (record s { mode = mode }) f → KeepsAt s (within mode f)
keeps_inside mode p = ends_within mode p (λ x t k. record { same = k.same; fresh = k.fresh; mode = refl })

-- a run stands in each mode
pub stands_in : {s : Run} (mode : Mode) → IsStanding s → IsStanding (record s { mode = mode })
stands_in mode st = record { sessions = st.sessions; fresh = st.fresh }

-- a run that differs in its tasks and messages alone
pub kept_aside : (s t : Run) → IsStanding s → t.world.objects ≡ s.world.objects → t.world.names ≡ s.world.names → t.world.last ≡ s.world.last → t.number ≡ s.number → t.objects_made ≡ s.objects_made → t.mode ≡ s.mode → IsKept s t
kept_aside s t st objects names last number made mode = record {
  same = same_alike s.world t.world objects names last;
  fresh = λ id object e own. let lt = st.fresh id object (sym (ap (λ m. get m id) objects) ∙ e) (own ∙ number) in subst (λ n. id.k < n) (sym made) lt;
  mode = mode;
}

-- ---- objects

-- a kind that a game may touch is not the sessions'
unreserved : (mode : Mode) (kind : ℕ) → mode ≡ Game → act.is_reserved_kind mode kind ≡ false → kind ≡ SESSION_KIND → ⊥
unreserved mode kind m free is =
    let no : nat_le 65280 kind ≡ false = sym (ap (λ (x : Mode). act.is_game x && nat_le 65280 kind) m) ∙ free in
    let lt : kind < 65280 = leb-false _ _ no in omega (arith, lt, is)

-- an object of another kind is made
pub makes_other : (s : Run) (kind : ℕ) (bytes : List ℕ) → IsStanding s → (act.is_reserved_kind s.mode kind ≡ false → kind ≡ SESSION_KIND → ⊥) → KeepsAt s (act.create kind bytes)
unfolding act.create
makes_other s kind bytes st other =
    ends_if_at (λ u. act.is_reserved_kind u.mode kind) (λ _. ends_refuse act.RESERVED) (λ free. ends_if_at (λ u. act.is_too_long bytes) (λ _. ends_refuse act.TOO_LONG) (λ short.
    ends_if_at (λ u. nat_le OBJECTS_MOST_COUNT u.objects_made) (λ _. ends_refuse act.TOO_MANY) (λ few. record {
      so = kept_object s (act.next_id s) (Some (record { kind = kind; bytes = bytes })) (s.objects_made + 1) st (omega arith)
          (λ object e k. let lt = st.fresh (act.next_id s) object e refl in omega (arith, lt))
          (λ object e k. other free (ap (λ (o : Object). o.kind) (some_is _ object e) ∙ k))
          (λ object e own. omega arith);
    })))

-- `create`
pub keeps_create : (kind : ℕ) (bytes : List ℕ) → Keeps Game (act.create kind bytes)
keeps_create kind bytes = record { at = λ s m st. makes_other s kind bytes st (unreserved s.mode kind m) }

changes : (s : Run) (id : ObjectId) (change : Object → Option Object) (o : Option Object) → get s.world.objects id ≡ o → IsStanding s
    → ((object : Object) → o ≡ Some object → act.is_reserved_kind s.mode object.kind ≡ false → object.kind ≡ SESSION_KIND → ⊥) → ((object new : Object) → change object ≡ Some new → new.kind ≡ object.kind)
    → EndsBy (λ (x : Unit {0}) t. IsKept s t) ((act.change_found o id change s).0) ((act.change_found o id change s).1)
changes s id change None e st other same = tt
changes s id change (Some object) e st other same =
    elim (act.is_reserved_kind s.mode object.kind) as (λ b. act.is_reserved_kind s.mode object.kind ≡ b → (let p = if b then refuse {A = Unit {0}} act.RESERVED s else (Ok tt, with_object s id (change object)) in EndsBy (λ (x : Unit {0}) t. IsKept s t) p.0 p.1)) [
      | true ↦ λ _. tt
      | false ↦ λ free. kept_object s id (change object) s.objects_made st (le_refl _)
          (λ was f k. other object refl free (ap (λ (o : Object). o.kind) (some_is object was (sym e ∙ f)) ∙ k))
          (λ new f k. other object refl free (sym (same object new f) ∙ k))
          (λ new f own. st.fresh id object e own)
    ] refl

-- an object of another kind is changed
pub changes_other : (s : Run) (id : ObjectId) (change : Object → Option Object) → IsStanding s → ((object : Object) → get s.world.objects id ≡ Some object → act.is_reserved_kind s.mode object.kind ≡ false → object.kind ≡ SESSION_KIND → ⊥)
    → ((object new : Object) → change object ≡ Some new → new.kind ≡ object.kind) → KeepsAt s (act.change_object id change)
changes_other s id change st other same = record { so = changes s id change (get s.world.objects id) refl st other same }

keeps_change : (id : ObjectId) (change : Object → Option Object) → ((object new : Object) → change object ≡ Some new → new.kind ≡ object.kind) → Keeps Game (act.change_object id change)
keeps_change id change same = record { at = λ s m st. changes_other s id change st (λ object e. unreserved s.mode object.kind m) same }

same_kind : (bytes : List ℕ) (object new : Object) → Some (record { kind = object.kind; bytes = bytes }) ≡ Some new → new.kind ≡ object.kind
same_kind bytes object new e = ap (λ (o : Object). o.kind) (sym (some_is _ new e))

-- an object of another kind is saved
pub saves_other : (s : Run) (id : ObjectId) (bytes : List ℕ) → IsStanding s → ((object : Object) → get s.world.objects id ≡ Some object → object.kind ≡ SESSION_KIND → ⊥) → KeepsAt s (act.save id bytes)
unfolding act.save
saves_other s id bytes st other = ends_if_at (λ u. act.is_too_long bytes) (λ _. ends_refuse act.TOO_LONG) (λ _. changes_other s id (λ object. Some (record { kind = object.kind; bytes = bytes })) st (λ object e _. other object e) (same_kind bytes))

-- `save`
pub keeps_save : (id : ObjectId) (bytes : List ℕ) → Keeps Game (act.save id bytes)
unfolding act.save
keeps_save id bytes = keeps_if_at (act.is_too_long bytes) (λ _. keeps_refuse act.TOO_LONG) (λ _. keeps_change id (λ object. Some (record { kind = object.kind; bytes = bytes })) (same_kind bytes))

-- `mark`
pub keeps_mark : (id : ObjectId) → Keeps Game (act.mark id)
unfolding act.mark
keeps_mark id = keeps_change id (λ object. Some object) (λ object new e. ap (λ (o : Object). o.kind) (sym (some_is object new e)))

-- `remove`
pub keeps_remove : (id : ObjectId) → Keeps Game (act.remove id)
unfolding act.remove
keeps_remove id = keeps_change id (λ object. None) (λ object new e. absurd cc)

-- `get`
pub keeps_get : {mode : Mode} (id : ObjectId) → Keeps mode (act.get id)
keeps_get id = record { at = λ s m st. reads_keep (reads_get s id) st.fresh }

-- ---- names

-- a name that a game may bind is no session's
unreserved_name : (mode : Mode) (name : List ℕ) → mode ≡ Game → act.is_reserved_name mode name ≡ false → (login : List ℕ) → name ≡ session_name login → ⊥
unreserved_name mode name m free login is =
    let no : act.begins_with_dollar (session_name login) ≡ false = ap act.begins_with_dollar (sym is) ∙ sym (ap (λ (x : Mode). act.is_game x && act.begins_with_dollar name) m) ∙ free in absurd cc

-- a name that is no session's is bound
pub binds_other : (s : Run) (name : List ℕ) (id : ObjectId) → IsStanding s → (act.is_reserved_name s.mode name ≡ false → (login : List ℕ) → name ≡ session_name login → ⊥) → KeepsAt s (act.bind name id)
unfolding act.bind
binds_other s name id st other = ends_if_at (λ u. act.is_reserved_name u.mode name) (λ _. ends_refuse act.RESERVED) (λ free. record { so = kept_name s name (Some id) st (other free) })

-- `bind`
pub keeps_bind : (name : List ℕ) (id : ObjectId) → Keeps Game (act.bind name id)
keeps_bind name id = record { at = λ s m st. binds_other s name id st (unreserved_name s.mode name m) }

unbinds : (s : Run) (name : List ℕ) (o : Option ObjectId) → IsStanding s → ((login : List ℕ) → name ≡ session_name login → ⊥) → EndsBy (λ (x : Unit {0}) t. IsKept s t) ((act.unbind_found o name s).0) ((act.unbind_found o name s).1)
unbinds s name None st other = tt
unbinds s name (Some id) st other = kept_name s name None st other

-- `unbind`
pub keeps_unbind : (name : List ℕ) → Keeps Game (act.unbind name)
unfolding act.unbind
keeps_unbind name = record {
  at = λ s m st. ends_if_at (λ u. act.is_reserved_name u.mode name) (λ _. ends_refuse act.RESERVED) (λ free. record { so = unbinds s name (get s.world.names name) st (unreserved_name s.mode name m free) });
}

-- `bound`
pub keeps_bound : {mode : Mode} (name : List ℕ) → Keeps mode (act.bound name)
unfolding act.bound
keeps_bound name = record { at = λ s m st. reads_keep (reads_bound s name) st.fresh }

-- `next_bound`
pub keeps_next_bound : {mode : Mode} (after : Option (List ℕ)) → Keeps mode (act.next_bound after)
unfolding act.next_bound
keeps_next_bound after = record { at = λ s m st. record { so = kept_itself s st.fresh } }

-- ---- tasks and messages

keeps_scheduled : {mode : Mode} (kind : ℕ) (arg : List ℕ) (delay period : ℕ) → Keeps mode (act.scheduled kind arg delay period)
keeps_scheduled kind arg delay period = record {
  at = λ s m st. ends_if_at (λ u. nat_le TASKS_MOST_COUNT u.tasks_made) (λ _. ends_refuse act.TOO_MANY) (λ few. record { so = kept_aside s _ st refl refl refl refl refl refl });
}

-- `schedule`
pub keeps_schedule : {mode : Mode} (kind : ℕ) (arg : List ℕ) (delay : ℕ) → Keeps mode (act.schedule kind arg delay)
unfolding act.schedule
keeps_schedule kind arg delay =
    keeps_if_at (act.is_too_long arg) (λ _. keeps_refuse act.TOO_LONG) (λ _. keeps_if_at (nat_lt DELAY_MOST_MS delay) (λ _. keeps_refuse act.BAD_DELAY) (λ _. keeps_scheduled kind arg delay 0))

-- `schedule_periodic`
pub keeps_schedule_periodic : {mode : Mode} (kind : ℕ) (arg : List ℕ) (delay period : ℕ) → Keeps mode (act.schedule_periodic kind arg delay period)
unfolding act.schedule_periodic
keeps_schedule_periodic kind arg delay period =
    keeps_if_at (act.is_too_long arg) (λ _. keeps_refuse act.TOO_LONG)
    (λ _. keeps_if_at (nat_lt DELAY_MOST_MS delay || nat_lt PERIOD_MOST_MS period || period == 0) (λ _. keeps_refuse act.BAD_DELAY) (λ _. keeps_scheduled kind arg delay period))

cancels : (s : Run) (key : TaskKey) (o : Option Task) → IsStanding s → EndsBy (λ (x : Unit {0}) t. IsKept s t) ((act.cancel_found o key s).0) ((act.cancel_found o key s).1)
cancels s key None st = tt
cancels s key (Some task) st = kept_aside s _ st refl refl refl refl refl refl

-- `cancel`
pub keeps_cancel : {mode : Mode} (key : TaskKey) → Keeps mode (act.cancel key)
unfolding act.cancel
keeps_cancel key = record { at = λ s m st. record { so = cancels s key (get s.world.tasks key) st } }

-- messages are sent
pub keeps_sending : (s : Run) (outs : List (ConnNo × Out)) → IsStanding s → IsKept s (record s { outs = outs })
keeps_sending s outs st = kept_aside s (record s { outs = outs }) st refl refl refl refl refl refl

-- `send`
pub keeps_send : {mode : Mode} (to : ConnNo) (message : Out) → Keeps mode (act.send to message)
unfolding act.send
keeps_send to message = record {
  at = λ s m st. ends_if_at (λ u. act.is_too_long (act.body_of message)) (λ _. ends_refuse act.TOO_LONG) (λ _. ends_if_at (λ u. nat_le MESSAGES_MOST_COUNT (length u.outs)) (λ _. ends_refuse act.TOO_MANY) (λ _. record { so = keeps_sending s (s.outs ++ (to, message) ∷ []) st }));
}

-- ---- typed references

-- `get_as`
pub keeps_get_as : {A : Type 0} {mode : Mode} (kind : ℕ) (read : List ℕ → Option A) (id : ObjectId) → Keeps mode (get_as kind read id)
keeps_get_as kind read id = record { at = λ s m st. reads_keep (reads_as s kind read id) st.fresh }

-- `get_for_update_as`
pub keeps_get_for_update_as : {A : Type 0} (kind : ℕ) (read : List ℕ → Option A) (id : ObjectId) → Keeps Game (get_for_update_as kind read id)
unfolding get_for_update_as
keeps_get_for_update_as kind read id = keeps_then (keeps_get_as kind read id) (λ x. keeps_then (keeps_mark id) (λ _. keeps_give (Ok x)))

-- `save_as`
pub keeps_save_as : (kind : ℕ) (id : ObjectId) (bytes : List ℕ) → Keeps Game (save_as kind id bytes)
unfolding save_as
keeps_save_as kind id bytes = keeps_then (keeps_get id) (λ object. keeps_if (object.kind == kind) (λ _. keeps_save id bytes) (λ _. keeps_refuse act.WRONG_KIND))
