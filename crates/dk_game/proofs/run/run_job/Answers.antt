use Rattle.std.proofs.Common.{◌≡◌, Some, sym, ap, subst, ◌∙◌}
use Rattle.std.specs.List.{AllByRecursion}
use Rattle.dk_txn.specs.Does.{failure, outcome_of_result}
use Rattle.dk_txn.proofs.Laws.{none_given}
use Rattle.dk_game.specs.Halted.{halt_fault}
use Rattle.dk_game.proofs.Running.{job_kept, both_ok, one_ok, asked_once}
use Rattle.dk_game.proofs.run.run_job.Goals as goal
use Rattle.dk_game.proofs.run.run_job.Goals.{in-Ok, in-Err-Fault}

pub returns-clause-law : goal.returns-clause-law
returns-clause-law g c =
    let end : outcome_of_result halt_fault c.work_job.result ≡ Some c.match-work_job.end =
    elim c.match-work_job.branch [
      | in-Ok w ↦ ap (outcome_of_result halt_fault) w.in-Ok.is ∙ ap Some (sym w.end-is)
      | in-Err-Fault w ↦ ap (outcome_of_result halt_fault) w.in-Err-Fault.is ∙ ap (λ h. failure (halt_fault h)) w.in-Err-Fault.field-0-is ∙ ap Some (sym w.end-is)
    ] in
    both_ok c.end.result c.end.ensures.reads c.end.ensures.told
    (λ f reads tells. job_kept _ _ c.match-work_job.end f c.requires.begun c.work_job.ensures.does (c.work_job.ensures.asked c.requires.begun) c.requires.fits end reads tells)

pub returns-clause-given : goal.returns-clause-given
returns-clause-given g c =
    one_ok c.end.result c.end.ensures.reads (λ f reads.
    subst (λ v. AllByRecursion (λ r. g.V.View.sights.gave v r.0 r.1) f.reads.items) (sym c.end.ensures.view_stays)
    (subst (λ rs. AllByRecursion (λ r. g.V.View.sights.gave c.work_job.new.txn.view.now r.0 r.1) rs) (sym reads) (c.work_job.ensures.does.keeps.given (none_given _ c.requires.begun)).given))

pub returns-clause-becomes : goal.returns-clause-becomes
returns-clause-becomes g c = subst (g.V.View.sights.becomes c.args.txn.now.view.now) (sym c.end.ensures.view_stays) c.work_job.ensures.does.keeps.becomes

pub returns-clause-asked : goal.returns-clause-asked
returns-clause-asked g c = one_ok c.end.result c.end.ensures.reads (λ f reads. asked_once c.requires.begun c.work_job.ensures.does.keeps.asks c.end.ensures.view_stays reads)
