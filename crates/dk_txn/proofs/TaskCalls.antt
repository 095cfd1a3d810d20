-- What each call on tasks does, and a message.
use Rattle.std.proofs.Common.{◌≡◌, ◌==◌, ℕ, ◌+◌, ◌<◌, ◌≤◌, ◌||◌, nat_lt, arith, Bool, true, false, if◌then◌else◌, Option, Some, None, is_some, List, length, Result, Ok, Err, refl, sym, ap, subst, ◌∙◌}
use Rattle.std.proofs.lemmas.Bool.Decides.{nat_tests}
use Rattle.std.specs.FinMap as map
use Rattle.dk_types.specs.declared.number.ConnNo.{ConnNo}
use Rattle.dk_types.specs.declared.number.TaskKey.{TaskKey}
use Rattle.dk_types.specs.declared.item.Item.TheVariants as item
use Rattle.dk_types.specs.declared.item.Answer.{Answer}
use Rattle.dk_types.specs.declared.job.Out.{Out}
use Rattle.dk_types.specs.declared.fault.AppFault.{AppFault}
use Rattle.dk_types.specs.declared.fault.AppFault.TheVariants.{Refused}
use Rattle.dk_model.specs.DurableWorlds.{DurableWorld, Task, Agrees, answer}
use Rattle.dk_model.specs.Runs as act
use Rattle.dk_model.specs.Runs.{Run, Act, cancel_found}
use Rattle.dk_model.specs.Steps.{own_task, next_due}
use Rattle.dk_overlay.specs.declared.change.Scheduled.{Scheduled}
use Rattle.dk_overlay.specs.declared.change.TaskChange.{TaskChange}
use Rattle.dk_overlay.specs.declared.change.TaskChange.TheVariants.{Added, Withdrawn, Dropped, Moved}
use Rattle.dk_overlay.specs.Answers.{is_pending}
use Rattle.dk_txn.proofs.Answering.{is_pending-answer}
use Rattle.dk_overlay.specs.Changes.{task_now, task_made, moved_to, settled, removing}
use Rattle.dk_txn.specs.Layers.{newest}
use Rattle.dk_overlay.specs.ReadsAndWrites.{ReadsAndWrites, changing_task, new_key, scheduling, removing_task, moving_task, sending}
use Rattle.dk_txn.specs.Current.{current, passing_own}
use Rattle.dk_model.specs.Finishes.{IsNew}
use Rattle.dk_txn.specs.Knowing.{IsSound, MovesAlone}
use Rattle.dk_overlay.proofs.Keys.{keys_total, keys_same}
use Rattle.dk_txn.proofs.Layers.{get-layered, at_changed}
use Rattle.dk_txn.proofs.Sound.{sound_as, sound_task, removing_stood, removing_unmoved}
use Rattle.dk_txn.proofs.Owning.{current_task, current_removed, own_passed, own_absent, knows_passed, moves_passed}
use Rattle.dk_overlay.proofs.Tests.{Some_injective, none_some}
use Rattle.dk_txn.specs.declared.refusal.Refusal.{Refusal}
use Rattle.dk_txn.specs.declared.refusal.Refusal.TheVariants as refusal
use Rattle.dk_txn.specs.declared.txn.Txn.{Txn}
use Rattle.dk_txn.specs.Refusals.{refusal_fault}
use Rattle.dk_txn.specs.Does.{Keeps, Does, DoesFor, Only, SameChanges, KnownTask}
use Rattle.dk_txn.proofs.Kit.{keeps_all, keeps_for}
use Rattle.dk_txn.proofs.Reading.{same_current, keeps_changed}
use Rattle.dk_txn.proofs.ObjectCalls.{refused_at, refused_here, done_at, le_true, le_false}
use Rattle.dk_txn.specs.Sights.{Sights}

-- a task of this moment and delay
abbrev pub scheduled_at : ℕ → List ℕ → ℕ → ℕ → ℕ → Scheduled
scheduled_at kind arg delay period at = record { due = at + delay; period = period; kind = kind; arg = arg }

lt_true : (a b : ℕ) → a < b → nat_lt a b ≡ true
lt_true a b h = grind (arith, nat_tests)

lt_false : (a b : ℕ) → b ≤ a → nat_lt a b ≡ false
lt_false a b h = grind (arith, nat_tests)

settled_there : (o : Option TaskChange) (x : Option Task) (b : Bool) → settled o ≡ Some b → is_some (newest task_now o x) ≡ b
settled_there None x b e = none_some b e
settled_there (Some (Added s)) x b e = Some_injective _ _ e
settled_there (Some Withdrawn) x b e = Some_injective _ _ e
settled_there (Some Dropped) x b e = Some_injective _ _ e
settled_there (Some (Moved from to)) x b e = none_some b e

moved_there : (to : ℕ) (x : Option Task) → is_some (moved_to to x) ≡ is_some x
moved_there to None = refl
moved_there to (Some task) = refl

asked_there : (o : Option TaskChange) (x : Option Task) → settled o ≡ None → is_some (newest task_now o x) ≡ is_some x
asked_there None x e = refl
asked_there (Some (Added s)) x e = cc
asked_there (Some Withdrawn) x e = cc
asked_there (Some Dropped) x e = cc
asked_there (Some (Moved from to)) x e = moved_there to x

-- whether a task is pending, by the changes, and by what the view said
pub task_settled : (t : ReadsAndWrites) (key : TaskKey) (b : Bool) → settled (map.get t.tasks key) ≡ Some b → KnownTask t key b
task_settled t key b e = λ d agrees. ap is_some (get-layered keys_total keys_same task_now t.tasks d.tasks key) ∙ settled_there (map.get t.tasks key) (map.get d.tasks key) b e

pub task_asked : (t : ReadsAndWrites) (key : TaskKey) (said : Answer) (b : Bool) → settled (map.get t.tasks key) ≡ None → b ≡ is_pending said
    → ((d : DurableWorld) → Agrees d t.reads → answer d (item.Task key) ≡ said) → KnownTask t key b
task_asked t key said b none e h = λ d agrees.
    ap is_some (get-layered keys_total keys_same task_now t.tasks d.tasks key) ∙ asked_there (map.get t.tasks key) (map.get d.tasks key) none
    ∙ sym (is_pending-answer (map.get d.tasks key)) ∙ ap is_pending (h d agrees) ∙ sym e

cancelled : (o : Option Task) (key : TaskKey) (s : Run) → is_some o ≡ true → cancel_found o key s ≡ (Ok tt, act.with_task s key None)
cancelled None key s h = cc
cancelled (Some task) key s h = refl

uncancelled : (o : Option Task) (key : TaskKey) (s : Run) → is_some o ≡ false → cancel_found o key s ≡ (Err (Refused 2), s)
uncancelled None key s h = refl
uncancelled (Some task) key s h = cc

-- a change that moves no task
moves_but : (t : ReadsAndWrites) (key : TaskKey) (c : TaskChange) → ((from to : ℕ) → c ≡ Moved from to → ⊥) → (k : TaskKey) (due : ℕ) → MovesAlone k due t → MovesAlone k due (changing_task t key c)
moves_but t key c never k due m = λ q from to h.
    at_changed keys_total keys_same t.tasks key c (λ q c. (from to : ℕ) → c ≡ Moved from to → (q ≡ k) × (from ≡ due)) (λ from to e. absurd (never from to e)) (λ q c h from to e. m q from to (h ∙ ap Some e)) q (Moved from to) h from to refl

sound_removed : (t : ReadsAndWrites) (key : TaskKey) → KnownTask t key true → IsSound t → IsSound (removing_task t key)
sound_removed t key known s =
    let c = removing (map.get t.tasks key) in
    sound_as (record t { tasks = map.insert t.tasks key c }) (removing_task t key) refl refl refl refl refl
    (sound_task t key c s (λ d agrees new. removing_stood (map.get t.tasks key) (map.get d.tasks key) (ap is_some (sym (get-layered keys_total keys_same task_now t.tasks d.tasks key)) ∙ known d agrees) ((s.knows d agrees new).tasks key)))

-- passing its own task leaves what the run read, its number and its moment
module _ (t : ReadsAndWrites) (key : TaskKey) (due period : ℕ) where
  passing_reads : (passing_own t key due period).reads ≡ t.reads
  passing_reads = elim (period == 0) as (λ b. (if b then removing_task t key else moving_task t key due (next_due due period t.at)).reads ≡ t.reads) [ true ↦ refl | false ↦ refl ]

  passing_run : (passing_own t key due period).run ≡ t.run
  passing_run = elim (period == 0) as (λ b. (if b then removing_task t key else moving_task t key due (next_due due period t.at)).run ≡ t.run) [ true ↦ refl | false ↦ refl ]

  passing_at : (passing_own t key due period).at ≡ t.at
  passing_at = elim (period == 0) as (λ b. (if b then removing_task t key else moving_task t key due (next_due due period t.at)).at ≡ t.at) [ true ↦ refl | false ↦ refl ]

  sound_passed : KnownTask t key true → IsSound t → IsSound (passing_own t key due period)
  sound_passed known s = record {
    knows = λ d agrees new.
        let agrees_then = subst (Agrees d) passing_reads agrees in
        knows_passed t d key due period (s.knows d agrees_then (subst (IsNew d) passing_run new)) (known d agrees_then);
  }

module _ {S : Type 0} {sights : Sights S} where
  -- the rules say the same in other words
  pub does_as : {P : TaskKey → ℕ → Type 0} {a b : Txn S ReadsAndWrites} {E A : Type 0} {told : E → Option AppFault} {f : Act A} {r : Result A E} (g : Act A)
      → ((s : Run) → f s ≡ g s) → DoesFor P sights told a b g r → DoesFor P sights told a b f r
  does_as {a = a} g same p = record { keeps = p.keeps; does = λ s t d agrees. same (current a.set d) ∙ p.does s t d agrees }

  pub cancel_does : {a b : Txn S ReadsAndWrites} {u : ReadsAndWrites} (key : TaskKey) → Keeps sights a b → SameChanges a.set b.set → KnownTask b.set key true → u ≡ removing_task b.set key
      → Does sights refusal_fault a (record { view = b.view; set = u }) (act.cancel key) (Ok tt)
  unfolding act.cancel
  cancel_does {a = a} {b = b} key k same known e =
      let t : ReadsAndWrites = removing_task b.set key in
      done_at t _ (keeps_changed k t refl refl refl (sound_removed b.set key known) (λ q due p m. moves_but b.set key (removing (map.get b.set.tasks key)) (λ from to e. removing_unmoved (map.get b.set.tasks key) from to e) q due m)) same refl e
      (λ d agrees. cancelled _ key (current b.set d) (known d agrees) ∙ ap (λ s. (Ok tt, s)) (current_removed b.set key d))

  pub cancel_refused : {a b : Txn S ReadsAndWrites} (key : TaskKey) → Keeps sights a b → SameChanges a.set b.set → KnownTask b.set key false → Does sights refusal_fault a b (act.cancel key) (Err refusal.ObjectNotFound)
  unfolding act.cancel
  cancel_refused {b = b} key k same known = refused_at (Refused 2) k same refl (λ d agrees. uncancelled _ key (current b.set d) (known d agrees))

  pub own_does : {a b : Txn S ReadsAndWrites} {u : ReadsAndWrites} (key : TaskKey) (due period : ℕ) → Keeps sights a b → SameChanges a.set b.set → KnownTask b.set key true → u ≡ passing_own b.set key due period
      → DoesFor (Only key due) sights refusal_fault a (record { view = b.view; set = u }) (own_task key due period) (Ok true)
  own_does {a = a} {b = b} key due period k same known e =
      let t : ReadsAndWrites = passing_own b.set key due period in
      done_at t _
      (keeps_changed (keeps_for k) t (passing_reads b.set key due period) (passing_run b.set key due period) (passing_at b.set key due period) (sound_passed b.set key due period known)
      (λ q from p m. moves_passed (λ x n. (x ≡ q) × (n ≡ from)) b.set key due period (sym p.0, sym p.1) m))
      same (passing_reads b.set key due period) e (λ d agrees. own_passed b.set d key due period (known d agrees))

  pub own_none : {a b : Txn S ReadsAndWrites} (key : TaskKey) (due period : ℕ) → Keeps sights a b → SameChanges a.set b.set → KnownTask b.set key false
      → DoesFor (Only key due) sights refusal_fault a b (own_task key due period) (Ok false)
  own_none {a = a} {b = b} key due period k same known = record {
    keeps = keeps_for k;
    does = λ s t d agrees. ap (own_task key due period) (same_current a.set b.set d same) ∙ own_absent b.set d key due period (known d agrees) ∙ ap (λ r. (r, current b.set d)) (Some_injective _ _ t);
  }

  module _ {a : Txn S ReadsAndWrites} (kind : ℕ) (arg : List ℕ) (delay period : ℕ) where
    pub add_many : 65536 ≤ a.set.tasks_made → Does sights refusal_fault a a (act.scheduled kind arg delay period) (Err refusal.TooMany)
    add_many h = refused_here (Refused 8) refl (λ d. rw (le_true 65536 a.set.tasks_made h) refl)

    pub add_does : {u : ReadsAndWrites} (key : TaskKey) (task : Scheduled) → a.set.tasks_made < 65536 → task ≡ record { due = a.set.at + delay; period = period; kind = kind; arg = arg }
        → key ≡ new_key (a.set) → u ≡ scheduling (a.set) task → Does sights refusal_fault a (record { view = a.view; set = u }) (act.scheduled kind arg delay period) (Ok key)
    add_does key task few what is e =
        let made : ReadsAndWrites = record (a.set) { tasks_made = a.set.tasks_made + 1 } in
        let s : Scheduled = record { due = a.set.at + delay; period = period; kind = kind; arg = arg } in
        let t : ReadsAndWrites = scheduling (a.set) s in
        done_at t _
        (keeps_changed keeps_all t refl refl refl
        (λ sound. sound_as (record made { tasks = map.insert made.tasks (new_key (a.set)) (Added s) }) t refl refl refl refl refl
        (sound_task made (new_key (a.set)) (Added s) (sound_as (a.set) made refl refl refl refl refl sound) (λ d agrees new. ap is_some (new.tasks (new_key (a.set)) refl))))
        (λ q due p m. moves_but made (new_key (a.set)) (Added s) (λ from to e. cc) q due m))
        refl refl (e ∙ ap (scheduling (a.set)) what)
        (λ d agrees. rw (le_false 65536 a.set.tasks_made few)
        (ap (λ r. (Ok (new_key (a.set)), r)) (current_task made (new_key (a.set)) (Added s) d (Some (task_made s)) refl) ∙ ap (λ k. (Ok k, current t d)) (sym is)))

  module _ {a : Txn S ReadsAndWrites} (kind : ℕ) (arg : List ℕ) (delay : ℕ) where
    pub schedule_long : {e : Refusal} → refusal_fault e ≡ Some (Refused 4) → act.is_too_long arg ≡ true → Does sights refusal_fault a a (act.schedule kind arg delay) (Err e)
    unfolding act.schedule
    schedule_long is h = refused_here (Refused 4) is (λ d. rw h refl)

    pub schedule_late : act.is_too_long arg ≡ false → 1099511627776 < delay → Does sights refusal_fault a a (act.schedule kind arg delay) (Err refusal.BadDelay)
    unfolding act.schedule
    schedule_late short h = refused_here (Refused 5) refl (λ d. rw (short, lt_true 1099511627776 delay h) refl)

    pub schedule_does : {b : Txn S ReadsAndWrites} {r : Result TaskKey Refusal} → act.is_too_long arg ≡ false → delay ≤ 1099511627776
        → Does sights refusal_fault a b (act.scheduled kind arg delay 0) r → Does sights refusal_fault a b (act.schedule kind arg delay) r
    unfolding act.schedule
    schedule_does short near p = does_as (act.scheduled kind arg delay 0) (λ s. rw (short, lt_false 1099511627776 delay near) refl) p

    pub periodic_long : (period : ℕ) {e : Refusal} → refusal_fault e ≡ Some (Refused 4) → act.is_too_long arg ≡ true → Does sights refusal_fault a a (act.schedule_periodic kind arg delay period) (Err e)
    unfolding act.schedule_periodic
    periodic_long period is h = refused_here (Refused 4) is (λ d. rw h refl)

    pub periodic_bad : (period : ℕ) → act.is_too_long arg ≡ false → (nat_lt 1099511627776 delay || nat_lt 1099511627776 period || period == 0) ≡ true
        → Does sights refusal_fault a a (act.schedule_periodic kind arg delay period) (Err refusal.BadDelay)
    unfolding act.schedule_periodic
    periodic_bad period short h = refused_here (Refused 5) refl (λ d. rw (short, h) refl)

    pub periodic_does : (period : ℕ) {b : Txn S ReadsAndWrites} {r : Result TaskKey Refusal} → act.is_too_long arg ≡ false → (nat_lt 1099511627776 delay || nat_lt 1099511627776 period || period == 0) ≡ false
        → Does sights refusal_fault a b (act.scheduled kind arg delay period) r → Does sights refusal_fault a b (act.schedule_periodic kind arg delay period) r
    unfolding act.schedule_periodic
    periodic_does period short good p = does_as (act.scheduled kind arg delay period) (λ s. rw (short, good) refl) p

  module _ {a : Txn S ReadsAndWrites} (to : ConnNo) (out : Out) where
    pub send_long : {e : Refusal} → refusal_fault e ≡ Some (Refused 4) → 1048576 < length (act.body_of out) → Does sights refusal_fault a a (act.send to out) (Err e)
    unfolding act.send
    send_long is h = refused_here (Refused 4) is (λ d. rw (lt_true 1048576 (length (act.body_of out)) h) refl)

    pub send_many : length (act.body_of out) ≤ 1048576 → 65536 ≤ length a.set.outs → Does sights refusal_fault a a (act.send to out) (Err refusal.TooMany)
    unfolding act.send
    send_many short h = refused_here (Refused 8) refl (λ d. rw (lt_false 1048576 (length (act.body_of out)) short, le_true 65536 (length a.set.outs) h) refl)

    pub send_does : {u : ReadsAndWrites} → length (act.body_of out) ≤ 1048576 → length a.set.outs < 65536 → u ≡ sending (a.set) to out
        → Does sights refusal_fault a (record { view = a.view; set = u }) (act.send to out) (Ok tt)
    unfolding act.send
    send_does short few e =
        let t : ReadsAndWrites = sending (a.set) to out in
        done_at t _ (keeps_changed keeps_all t refl refl refl (λ s. sound_as (a.set) t refl refl refl refl refl s) (λ q due p m. m)) refl refl e
        (λ d agrees. rw (lt_false 1048576 (length (act.body_of out)) short, le_false 65536 (length a.set.outs) few) refl)
