-- What is left at a turn of a loop, unrolled by one.
use Rattle.std.proofs.Common.{◌≡◌, ℕ, suc, ◌+◌, ◌-◌, ◌<◌, arith}
use Rattle.dk_types.specs.declared.item.Item.{Item}
use Rattle.dk_types.specs.declared.item.Read.{Read}
use Rattle.dk_model.specs.Runs.{Act, and_then}
use Rattle.dk_overlay.specs.ReadsAndWrites.{ReadsAndWrites}
use Rattle.dk_txn.specs.declared.txn.Txn.{Txn}
use Rattle.dk_txn.specs.Does.{Resumes}
use Rattle.dk_demos.specs.CountersRules.{make, make_from, plan, plan_from}
use Rattle.dk_txn.specs.Sights.{Sights}

module _ {S : Type 0} {sights : Sights S} {a b : Txn S ReadsAndWrites} {whole : Act (Unit {0})} where
  pub make_turn : (all number : ℕ) → number < all → Resumes sights a b whole (make_from number (all - number)) → Resumes sights a b whole (and_then (make number) (λ _. make_from (number + 1) (all - (number + 1))))
  make_turn all number h p = let e : all - number ≡ suc (all - (number + 1)) = omega (arith, h) in rw e at p

  pub plan_turn : (seed tasks before : ℕ) → before < tasks → Resumes sights a b whole (plan_from seed before (tasks - before))
      → Resumes sights a b whole (and_then (plan seed (before + 1)) (λ _. plan_from seed (before + 1) (tasks - (before + 1))))
  plan_turn seed tasks before h p = let e : tasks - before ≡ suc (tasks - (before + 1)) = omega (arith, h) in rw e at p
