-- The law of a job that was run.
use Rattle.std.proofs.Common.{◌≡◌, Some, List, [], Result, Ok, Err, IfOk, sym, ap, subst}
use Rattle.dk_types.specs.declared.item.Item.{Item}
use Rattle.dk_types.specs.declared.item.Read.{Read}
use Rattle.dk_types.specs.declared.job.Job.{Job}
use Rattle.dk_types.specs.declared.fault.AppFault.{AppFault}
use Rattle.dk_types.specs.declared.fault.NoMemory.{NoMemory}
use Rattle.dk_model.specs.DurableWorlds.{Agrees}
use Rattle.dk_model.specs.Finishes.{KeepsLaw}
use Rattle.dk_model.specs.Runs.{Act}
use Rattle.dk_model.specs.Steps.{work, game_part}
use Rattle.dk_txn.specs.declared.finished.Finished.{Finished}
use Rattle.dk_txn.specs.Finishes.{report, TellsEnd}
use Rattle.dk_txn.specs.Knowing.{HasTaskLimits}
use Rattle.dk_overlay.specs.ReadsAndWrites.{ReadsAndWrites}
use Rattle.dk_txn.specs.declared.txn.Txn.{Txn}
use Rattle.dk_txn.specs.Does.{DoesFor, outcome_of_result}
use Rattle.dk_txn.specs.Law.{IsBegun}
use Rattle.dk_txn.proofs.Laws.{law_kept}
use Rattle.dk_game.specs.declared.halt.Halt.{Halt}
use Rattle.dk_game.specs.Halted.{halt_fault}
use Rattle.dk_game.specs.Moving.{MayMove, AsksOwn}
use Rattle.dk_game.proofs.Owning.{moves_own}
use Rattle.dk_txn.specs.Sights.{Sights}
use Rattle.dk_txn.specs.Asks.{AskedInTurn, AsksAny, IsAskedOnce}

-- a run that did the whole of its job, from its start, and tells what its end tells, keeps the law
pub job_kept : {S : Type 0} {sights : Sights S} {a b : Txn S ReadsAndWrites} {r : Result (Unit {0}) Halt} (rules : Job → Act (Unit {0})) (j : Job) (end : Result (Unit {0}) AppFault) (f : Finished)
    → IsBegun (a.set) → DoesFor (MayMove j) sights halt_fault a b (work (game_part rules) j) r → AsksOwn j b.set r → HasTaskLimits j → outcome_of_result halt_fault r ≡ Some end
    → f.reads.items ≡ b.set.reads → TellsEnd b.set j end f → KeepsLaw rules j a.set.run a.set.at f.reads.items (report f)
job_kept {a = a} rules j end f start p asks fits is reads tells = record {
  keeps = λ d valid agrees new stands.
      (law_kept rules j a.set.run a.set.at end f start p is (asks end is d (subst (Agrees d) reads agrees)) (moves_own j a.set.run a.set.at start p.keeps) fits reads tells).keeps d valid agrees new stands;
}

-- what two clauses say of a run that was finished gives a third
pub both_ok : {P Q R : Finished → Type 0} (r : Result Finished NoMemory) → IfOk r P → IfOk r Q → ((f : Finished) → P f → Q f → R f) → IfOk r R
both_ok (Ok f) p q k = k f p q
both_ok (Err e) p q k = tt

pub one_ok : {P R : Finished → Type 0} (r : Result Finished NoMemory) → IfOk r P → ((f : Finished) → P f → R f) → IfOk r R
one_ok (Ok f) p k = k f p
one_ok (Err e) p k = tt

-- a run from its start asked the view once for each item that it tells
pub asked_once : {S : Type 0} {sights : Sights S} {a b : Txn S ReadsAndWrites} {v : S} {reads : List (Item × Read)} → IsBegun a.set → AsksAny sights a b → v ≡ b.view.now → reads ≡ b.set.reads → IsAskedOnce sights a.view.now v reads
asked_once {sights = sights} {a = a} {b = b} {v = v} {reads = reads} start p stays is = (
  p.asks,
  subst (λ rs. AskedInTurn sights a.view.now [] p.asks v rs) (sym is)
      (subst (λ x. AskedInTurn sights a.view.now [] p.asks x b.set.reads) (sym stays)
      (subst (λ rs. AskedInTurn sights a.view.now rs p.asks b.view.now b.set.reads) (ap (λ (t : ReadsAndWrites). t.reads) start) p.in_turn)),
)
