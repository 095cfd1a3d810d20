-- A run over a view that is lent: what is known of its transaction is known of the view once it is had back.
use Rattle.std.proofs.Common.{◌≡◌, ℕ, Result, Ok, Err, IfOk, sym, subst, ◌∙◌}
use Rattle.std.specs.List.{AllByRecursion}
use Rattle.dk_types.specs.declared.number.RunNo.{RunNo}
use Rattle.dk_types.specs.declared.job.Job.{Job}
use Rattle.dk_types.specs.declared.job.Job.TheVariants as job
use Rattle.dk_types.specs.declared.fault.NoMemory.{NoMemory}
use Rattle.dk_model.specs.Events.{Meaning}
use Rattle.dk_model.specs.Finishes.{KeepsLaw}
use Rattle.dk_model.specs.Lawful.{IsJob}
use Rattle.dk_txn.specs.declared.finished.Finished.{Finished}
use Rattle.dk_overlay.specs.ReadsAndWrites.{ReadsAndWrites, nothing_done}
use Rattle.dk_txn.specs.Finishes.{report}
use Rattle.dk_txn.specs.Asks.{IsAskedOnce}
use Rattle.dk_txn.specs.Knowing.{HasTaskLimits}
use Rattle.dk_txn.specs.Law.{IsBegun}
use Rattle.dk_txn.specs.Sights.{Sights}

-- a transaction as it was begun
pub begun_so : (t : ReadsAndWrites) (run : RunNo) (at : ℕ) → t ≡ nothing_done run at → IsBegun t
begun_so t run at start = start ∙ (λ i. nothing_done ((sym start) i).run ((sym start) i).at)

-- the law of a run that was begun so
pub law_so : (rules : Meaning) (j : Job) (run : RunNo) (at : ℕ) (t : ReadsAndWrites) (result : Result Finished NoMemory) → t ≡ nothing_done run at
    → IfOk result (λ f. KeepsLaw rules j t.run t.at f.reads.items (report f)) → IfOk result (λ f. KeepsLaw rules j run at f.reads.items (report f))
law_so rules j run at t (Ok f) start law = subst (λ (l : ReadsAndWrites). KeepsLaw rules j l.run l.at f.reads.items (report f)) start law
law_so rules j run at t (Err e) start law = tt

-- the reads were given by the view, also once it is had back
pub given_back : {S : Type 0} {v u : S} (sights : Sights S) (result : Result Finished NoMemory) → v ≡ u
    → IfOk result (λ f. AllByRecursion (λ r. sights.gave v r.0 r.1) f.reads.items) → IfOk result (λ f. AllByRecursion (λ r. sights.gave u r.0 r.1) f.reads.items)
given_back sights result same given = subst (λ v. IfOk result (λ f. AllByRecursion (λ r. sights.gave v r.0 r.1) f.reads.items)) same given

-- so the view was asked once for each, also once it is had back
pub asked_back : {S : Type 0} {a v b u : S} (sights : Sights S) (result : Result Finished NoMemory) → a ≡ b → v ≡ u
    → IfOk result (λ f. IsAskedOnce sights a v f.reads.items) → IfOk result (λ f. IsAskedOnce sights b u f.reads.items)
asked_back {v = v} {b = b} sights result first last asked =
    subst (λ x. IfOk result (λ f. IsAskedOnce sights b x f.reads.items)) last (subst (λ x. IfOk result (λ f. IsAskedOnce sights x v f.reads.items)) first asked)

-- a job within its limits has the moments of a task within theirs
pub job_fits : (j : Job) → IsJob j → HasTaskLimits j
job_fits (job.Task key due period kind arg) h = record { due_most = h.1.due; period_most = h.1.period }
job_fits job.Initialize h = tt
job_fits (job.Login conn name) h = tt
job_fits (job.Message conn name body) h = tt
job_fits (job.Channel conn name channel body) h = tt
job_fits (job.Disconnect conn name graceful) h = tt
