-- Unrolling the answer.
use Rattle.std.proofs.Common.{◌≡◌, ℕ, suc, ◌+◌, ◌-◌, ◌<◌, [], arith}
use Rattle.dk_types.specs.declared.number.ConnNo.{ConnNo}
use Rattle.dk_types.specs.declared.job.Out.TheVariants as out
use Rattle.dk_model.specs.Runs.{and_then, send}
use Rattle.dk_overlay.specs.ReadsAndWrites.{ReadsAndWrites}
use Rattle.dk_txn.specs.declared.txn.Txn.{Txn}
use Rattle.dk_txn.specs.Does.{Resumes}
use Rattle.dk_txn.specs.Sights.{Sights}
use Rattle.dk_core_tests.specs.Twins.{answer}

-- what is left at a turn begins with a message
pub at_turn : {S : Type 0} {sights : Sights S} {a b : Txn S ReadsAndWrites} (conn : ConnNo) (messages i : ℕ) → i < messages
    → Resumes sights a b (answer messages conn) (answer (messages - i) conn)
    → Resumes sights a b (answer messages conn) (and_then (send conn (out.Message [])) (λ _. answer (messages - (i + 1)) conn))
at_turn conn messages i h p = let e : messages - i ≡ suc (messages - (i + 1)) = omega arith in rw e at p
