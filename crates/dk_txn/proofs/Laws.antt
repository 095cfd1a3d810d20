-- The law of a finished run, from what its parts did.
use Rattle.std.proofs.Common.{◌≡◌, ℕ, suc, Option, Some, Result, sym, ap, subst, ◌∙◌, arith}
use Rattle.std.specs.List.{AllByRecursion}
use Rattle.std.specs.FinMap as map
use Rattle.dk_types.specs.declared.number.RunNo.{RunNo}
use Rattle.dk_types.specs.declared.number.TaskKey.{TaskKey}
use Rattle.dk_types.specs.declared.job.Job.{Job}
use Rattle.dk_types.specs.declared.fault.AppFault.{AppFault}
use Rattle.dk_model.specs.Keys.{key_cmp}
use Rattle.dk_model.specs.DurableWorlds.{Agrees}
use Rattle.dk_model.specs.Runs.{Act, begun}
use Rattle.dk_model.specs.Steps.{work, game_part, ended}
use Rattle.dk_model.specs.Finishes.{IsNew, step_report, KeepsLaw}
use Rattle.dk_overlay.specs.declared.change.TaskChange.TheVariants.{Moved}
use Rattle.dk_txn.specs.declared.finished.Finished.{Finished}
use Rattle.dk_overlay.specs.ReadsAndWrites.{ReadsAndWrites, nothing_done}
use Rattle.dk_txn.specs.Current.{current}
use Rattle.dk_txn.specs.Knowing.{IsSound, MovesAlone, MovesOwn, HasTaskLimits, OwnIsAsked}
use Rattle.dk_txn.specs.Finishes.{report, TellsEnd}
use Rattle.dk_txn.proofs.Layers.{at_empty}
use Rattle.dk_txn.proofs.Sound.{sound_start}
use Rattle.dk_txn.proofs.Owning.{current_start}
use Rattle.dk_txn.specs.declared.txn.Txn.{Txn}
use Rattle.dk_txn.specs.Does.{KeepsFor, DoesFor, Keeps, AllGiven, outcome_of_result}
use Rattle.dk_txn.specs.Law.{IsBegun}
use Rattle.dk_txn.specs.Sights.{Sights}

-- with nothing done no task was moved
pub nothing_moved : (run : RunNo) (at : ℕ) (key : TaskKey) (due : ℕ) → MovesAlone key due (nothing_done run at)
nothing_moved run at key due = λ k from to h. at_empty key_cmp (λ _ _. (k ≡ key) × (from ≡ due)) k (Moved from to) h

never : {A : Type 0} (n : ℕ) → n ≡ suc n → A
never n e = absurd (omega (arith, e))

-- what moves no task but those of every key and moment moves none
pub unmoved : {S : Type 0} {sights : Sights S} {a b : Txn S ReadsAndWrites} (run : RunNo) (at : ℕ) → a.set ≡ nothing_done run at → Keeps sights a b
    → (k : TaskKey) (from to : ℕ) → map.get b.set.tasks k ≡ Some (Moved from to) → ⊥
unmoved run at start p k from to h = never from (p.moves k (suc from) tt (subst (MovesAlone k (suc from)) (sym start) (nothing_moved run at k (suc from))) k from to h).1

-- what moves no task but this one, from a start with nothing done, has moved no other
pub moved_own : {P : TaskKey → ℕ → Type 0} {S : Type 0} {sights : Sights S} {a b : Txn S ReadsAndWrites} (run : RunNo) (at : ℕ) (key : TaskKey) (due : ℕ) → P key due
    → a.set ≡ nothing_done run at → KeepsFor P sights a b → MovesAlone key due b.set
moved_own run at key due p start k = k.moves key due p (subst (MovesAlone key due) (sym start) (nothing_moved run at key due))

-- a run that did as its job does, from its start, and that tells what its end tells, keeps the law
pub law_kept : {P : TaskKey → ℕ → Type 0} {S E : Type 0} {sights : Sights S} {told_by : E → Option AppFault} {a b : Txn S ReadsAndWrites} {r : Result (Unit {0}) E}
    (rules : Job → Act (Unit {0})) (job : Job) (run : RunNo) (at : ℕ) (end : Result (Unit {0}) AppFault) (f : Finished)
    → a.set ≡ nothing_done run at → DoesFor P sights told_by a b (work (game_part rules) job) r → outcome_of_result told_by r ≡ Some end
    → OwnIsAsked job b.set → MovesOwn job b.set → HasTaskLimits job → f.reads.items ≡ b.set.reads → TellsEnd b.set job end f → KeepsLaw rules job run at f.reads.items (report f)
law_kept {a = a} {b = b} rules job run at end f start p is asked own fits reads tells = record {
  keeps = λ d valid agrees new stands.
      let agrees_then : Agrees d b.set.reads = subst (Agrees d) reads agrees in
      let same_run : b.set.run ≡ run = p.keeps.same_run ∙ ap (λ (t : ReadsAndWrites). t.run) start in
      let same_at : b.set.at ≡ at = p.keeps.same_at ∙ ap (λ (t : ReadsAndWrites). t.at) start in
      let sound : IsSound b.set = p.keeps.sound (subst IsSound (sym start) (sound_start run at)) in
      tells (record { sound = sound; asked = asked; own = own; fits = fits }) d (record { agrees = agrees_then; new = subst (IsNew d) (sym same_run) new; stands = stands })
      ∙ ap (λ r. step_report d (ended job d (begun r b.set.at d) (end, current b.set d))) same_run
      ∙ ap (λ m. step_report d (ended job d (begun run m d) (end, current b.set d))) same_at
      ∙ ap (λ q. step_report d (ended job d (begun run at d) q)) (sym (p.does end is d agrees_then))
      ∙ ap (λ s. step_report d (ended job d (begun run at d) (work (game_part rules) job s))) (ap (λ t. current t d) start ∙ current_start run at d);
}

-- with no reads each was given
pub none_given : {S : Type 0} {sights : Sights S} (a : Txn S ReadsAndWrites) → IsBegun (a.set) → AllGiven sights a
none_given {sights = sights} a start = record { given = subst (λ (t : ReadsAndWrites). AllByRecursion (λ r. sights.gave a.view.now r.0 r.1) t.reads) (sym start) tt }
