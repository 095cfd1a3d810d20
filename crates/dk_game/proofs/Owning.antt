-- What a run asks of its own task, and how it moves it.
use Rattle.std.proofs.Common.{◌≡◌, ℕ, zero, suc, ◌==◌, Bool, true, false, if◌then◌else◌, Option, Some, None, List, [], ◌∷◌, ◌++◌, Result, Ok, Err, slice_get, refl, sym, ap, subst, ◌∙◌}
use Rattle.std.specs.Result.{IsErrAnd}
use Rattle.std.specs.FinMap as map
use Rattle.dk_types.specs.declared.number.RunNo.{RunNo}
use Rattle.dk_types.specs.declared.number.TaskKey.{TaskKey}
use Rattle.dk_types.specs.declared.item.Item.{Item}
use Rattle.dk_types.specs.declared.item.Item.TheVariants as ask
use Rattle.dk_types.specs.declared.item.Read.{Read}
use Rattle.dk_types.specs.declared.job.Job.{Job}
use Rattle.dk_types.specs.declared.job.Job.TheVariants as job
use Rattle.dk_types.specs.declared.fault.AppFault.{AppFault}
use Rattle.dk_model.specs.Keys.{key_cmp}
use Rattle.dk_model.specs.DurableWorlds.{DurableWorld, Task, Agrees}
use Rattle.dk_model.specs.Runs.{Run}
use Rattle.dk_model.specs.Steps.{own_task, own_found}
use Rattle.dk_overlay.specs.Asked.{IsAsked}
use Rattle.dk_txn.specs.Knowing.{MovesOwn}
use Rattle.dk_overlay.specs.ReadsAndWrites.{ReadsAndWrites, nothing_done}
use Rattle.dk_txn.specs.Current.{current}
use Rattle.dk_txn.specs.declared.refusal.Refusal.{Refusal}
use Rattle.dk_txn.specs.declared.txn.Txn.{Txn}
use Rattle.dk_txn.specs.Does.{KeepsFor, DoesFor, failure}
use Rattle.dk_txn.specs.Law.{IsBegun}
use Rattle.dk_txn.specs.Refusals.{refusal_fault}
use Rattle.dk_txn.proofs.Laws.{moved_own, unmoved}
use Rattle.dk_game.specs.declared.halt.Halt.{Halt}
use Rattle.dk_game.specs.Halted.{halt_fault}
use Rattle.dk_game.specs.Moving.{MayMove, AsksTask}
use Rattle.dk_txn.specs.Sights.{Sights}

get_front : {X : Type 0} (xs ys : List X) (i : ℕ) (x : X) → slice_get xs i ≡ Some x → slice_get (xs ++ ys) i ≡ Some x
get_front [] ys i x e = cc
get_front (z ∷ xs) ys zero x e = e
get_front (z ∷ xs) ys (suc i) x e = get_front xs ys i x e

-- what was asked stays asked
asked_still : (reads more : List (Item × Read)) (item : Item) → IsAsked reads item → IsAsked (reads ++ more) item
asked_still reads more item a = (a.0, (a.1.0, get_front reads more a.1.0 (item, a.0) a.1.1))

abbrev answer_of : Result Bool AppFault × Run → Result Bool AppFault
answer_of q = q.0

chosen : (t : Bool) (u v : Result Bool AppFault × Run) → u.0 ≡ Ok true → v.0 ≡ Ok true → answer_of (if t then u else v) ≡ Ok true
chosen true u v p q = p
chosen false u v p q = q

-- a run's own task is never refused
own_answers : (o : Option Task) (key : TaskKey) (due period : ℕ) (s : Run) → (b : Bool) × (answer_of (own_found o key due period s) ≡ Ok b)
own_answers None key due period s = (false, refl)
own_answers (Some task) key due period s = (true, chosen (period == 0) _ _ refl refl)

differ : (x : Bool) (fault : AppFault) (q : Result Bool AppFault) → q ≡ Ok x → q ≡ Err fault → ⊥
differ x fault q p e = cc

-- so where it was, no world agrees
own_refused : {P : TaskKey → ℕ → Type 0} {S : Type 0} {sights : Sights S} {a b : Txn S ReadsAndWrites} {e : Refusal} {fault : AppFault} (key : TaskKey) (due period : ℕ)
    → DoesFor P sights refusal_fault a b (own_task key due period) (Err e) → refusal_fault e ≡ Some fault → (d : DurableWorld) → Agrees d b.set.reads → ⊥
unfolding own_task
own_refused {a = a} {fault = fault} key due period p is d agrees =
    let answer = own_answers (map.get ((current a.set d).world).tasks key) key due period (current a.set d) in
    differ answer.0 fault _ answer.1 (ap answer_of (p.does (Err fault) (ap failure is) d agrees))

fault_told : (o : Option AppFault) (end : Result (Unit {0}) AppFault) → failure o ≡ Some end → (fault : AppFault) × (o ≡ Some fault)
fault_told None end t = cc
fault_told (Some fault) end t = (fault, refl)

-- where the call on the run's own task was refused, the run tells nothing of how it ended
pub own_halts : {P : TaskKey → ℕ → Type 0} {S : Type 0} {sights : Sights S} {a b : Txn S ReadsAndWrites} {e : Refusal} (key : TaskKey) (due period : ℕ) (r : Result (Unit {0}) Halt)
    → DoesFor P sights refusal_fault a b (own_task key due period) (Err e) → IsErrAnd r (λ h. halt_fault h ≡ refusal_fault e) → AsksTask key b.set r
own_halts key due period (Ok x) p is = absurd is
own_halts {e = e} key due period (Err h) p is = λ end t d agrees.
    let fault = fault_told (refusal_fault e) end (ap failure (sym is) ∙ t) in
    absurd (own_refused key due period p fault.1 d agrees)

-- what was asked of the task stays asked
pub own_asked : {P : TaskKey → ℕ → Type 0} {S : Type 0} {sights : Sights S} {a b : Txn S ReadsAndWrites} (key : TaskKey) → KeepsFor P sights a b → IsAsked a.set.reads (ask.Task key) → IsAsked b.set.reads (ask.Task key)
own_asked {a = a} key k h = subst (λ reads. IsAsked reads (ask.Task key)) (sym k.reads_stay.1) (asked_still a.set.reads k.reads_stay.0 (ask.Task key) h)

-- a run has changed no task at its start
pub none_changed : (t : ReadsAndWrites) (key : TaskKey) → IsBegun t → map.get t.tasks key ≡ None
none_changed t key start = ap (λ (u : ReadsAndWrites). map.get u.tasks key) start ∙ map.get-empty key_cmp key

-- a job that may move its own task alone moves no other
pub moves_own : {S : Type 0} {sights : Sights S} {a b : Txn S ReadsAndWrites} (j : Job) (run : RunNo) (at : ℕ) → a.set ≡ nothing_done run at → KeepsFor (MayMove j) sights a b → MovesOwn j b.set
moves_own (job.Task key due period kind arg) run at start k = moved_own run at key due (refl, refl) start k
moves_own job.Initialize run at start k = unmoved run at start k
moves_own (job.Login conn name) run at start k = unmoved run at start k
moves_own (job.Message conn name body) run at start k = unmoved run at start k
moves_own (job.Channel conn name channel body) run at start k = unmoved run at start k
moves_own (job.Disconnect conn name graceful) run at start k = unmoved run at start k
