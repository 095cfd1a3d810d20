-- What is left at a turn of the filling, or of the making of sheets, unrolled by one.
use Rattle.std.proofs.Common.{◌≡◌, ℕ, suc, ◌+◌, ◌-◌, ◌<◌, [], arith}
use Rattle.dk_types.specs.declared.number.ObjectId.{ObjectId}
use Rattle.dk_model.specs.Runs.{Act, and_then, create}
use Rattle.dk_overlay.specs.ReadsAndWrites.{ReadsAndWrites}
use Rattle.dk_txn.specs.declared.txn.Txn.{Txn}
use Rattle.dk_txn.specs.Does.{Resumes}
use Rattle.dk_bench.specs.Filling.{fill}
use Rattle.dk_bench.specs.Rewriting.{schedule_one, schedule_each, plan, begin}
use Rattle.dk_txn.specs.Sights.{Sights}

pub fill_turn : {S : Type 0} {sights : Sights S} {a b : Txn S ReadsAndWrites} {whole : Act (Unit {0})} (objects made : ℕ) → made < objects
    → Resumes sights a b whole (fill (objects - made)) → Resumes sights a b whole (and_then (create 2 []) (λ _. fill (objects - (made + 1))))
fill_turn objects made h p = let e : objects - made ≡ suc (objects - (made + 1)) = omega (arith, h) in rw e at p

pub schedule_turn : {S : Type 0} {sights : Sights S} {a b : Txn S ReadsAndWrites} {whole : Act (Unit {0})} (id : ObjectId) (times scheduled : ℕ) → scheduled < times
    → Resumes sights a b whole (schedule_each id (times - scheduled))
    → Resumes sights a b whole (and_then (schedule_one id (times - (scheduled + 1))) (λ _. schedule_each id (times - (scheduled + 1))))
schedule_turn id times scheduled h p = let e : times - scheduled ≡ suc (times - (scheduled + 1)) = omega (arith, h) in rw e at p

pub plan_turn : {S : Type 0} {sights : Sights S} {a b : Txn S ReadsAndWrites} {whole : Act (Unit {0})} (sheets times planned : ℕ) → planned < sheets
    → Resumes sights a b whole (begin (sheets - planned) times) → Resumes sights a b whole (and_then (plan times) (λ _. begin (sheets - (planned + 1)) times))
plan_turn sheets times planned h p = let e : sheets - planned ≡ suc (sheets - (planned + 1)) = omega (arith, h) in rw e at p
