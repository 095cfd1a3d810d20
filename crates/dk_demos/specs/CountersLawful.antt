-- The rules of the counters are lawful: each part of them, in the shape that it has.
use Rattle.std.proofs.Common.{◌≡◌, ℕ, ◌<◌, ◌≤◌, ◌+◌, ◌/◌, ◌%◌, ◌&&◌, zero, suc, Bool, true, List, [], ◌∷◌, refl, lit<, arith, nat_lt}
use Rattle.std.proofs.lemmas.Bool.{lt-ltb}
use Rattle.std.proofs.lemmas.List.Elements.{All-nil, All-cons}
use Rattle.dk_types.specs.declared.job.Job.{Job}
use Rattle.dk_types.specs.declared.job.Job.TheVariants as job
use Rattle.dk_types.specs.Names.{IsName}
use Rattle.dk_model.specs.Lawful.{IsForGame, AreLawful}
use Rattle.dk_model.proofs.Acts.{Anything, IsLawful, lawful_rules, lawful_then, lawful_done, lawful_if}
use Rattle.dk_model.proofs.Operations.{lawful_schedule}
use Rattle.dk_model.proofs.Bytes.{name_of_ascii}
use Rattle.dk_demos.specs.RaisingLawful.{lawful_make_under, lawful_raise_under}
use Rattle.dk_demos.specs.CountersRules.{counter_name, make, make_from, counter_of_task, plan, plan_from, raise_at, raise, counters_rules}

both : (a b : Bool) → a ≡ true → b ≡ true → (a && b) ≡ true
both a b x y = rw (x, y) refl

-- the name of a counter is one
pub name_of_counter : (number : ℕ) → number < 16 → IsName (counter_name number)
name_of_counter number h =
    let tens : nat_lt (48 + number / 10) 128 ≡ true = lt-ltb _ _ (omega (arith, h)) in
    let ones : nat_lt (48 + number % 10) 128 ≡ true = lt-ltb _ _ (omega (arith, h)) in
    name_of_ascii (counter_name number) (rw (tens, ones) refl) refl refl

lawful_make : {Needs : Type 0} (number : ℕ) → number < 16 → IsLawful Needs Anything (make number)
unfolding make
lawful_make number h = lawful_make_under (counter_name number) (λ _. name_of_counter number h)

-- making the counters is lawful
pub lawful_make_from : {Needs : Type 0} (first n : ℕ) → first + n ≤ 16 → IsLawful Needs Anything (make_from first n)
lawful_make_from first zero h = lawful_done tt
lawful_make_from first (suc n) h = lawful_then (lawful_make first (omega (arith, h))) (λ _. lawful_make_from (first + 1) n (omega (arith, h)))

lawful_plan : {Needs : Type 0} (seed number : ℕ) → IsLawful Needs Anything (plan seed number)
unfolding plan
lawful_plan seed number =
    lawful_then (lawful_schedule 1 (counter_of_task seed number ∷ []) 0 (λ _. (lit< tt, All-cons (λ b. b < 256) _ [] (omega arith) (All-nil (λ b. b < 256))))) (λ _. lawful_done tt)

lawful_plan_from : {Needs : Type 0} (seed before n : ℕ) → IsLawful Needs Anything (plan_from seed before n)
lawful_plan_from seed before zero = lawful_done tt
lawful_plan_from seed before (suc n) = lawful_then (lawful_plan seed (before + 1)) (λ _. lawful_plan_from seed (before + 1) n)

lawful_raise_at : {Needs : Type 0} (number : ℕ) → IsLawful Needs Anything (raise_at number)
unfolding raise_at
lawful_raise_at number = lawful_then (lawful_raise_under (counter_name number)) (λ _. lawful_done tt)

-- raising a counter is lawful
pub lawful_raise : {Needs : Type 0} (arg : List ℕ) → IsLawful Needs Anything (raise arg)
lawful_raise [] = lawful_done tt
lawful_raise (number ∷ bytes) = lawful_if (nat_lt number 16) (lawful_raise_at number) (lawful_done tt)

lawful_job : (seed tasks : ℕ) (j : Job) → IsLawful (IsForGame j) Anything (counters_rules seed tasks j)
lawful_job seed tasks job.Initialize = lawful_then (lawful_make_from 0 16 (omega arith)) (λ _. lawful_plan_from seed 0 tasks)
lawful_job seed tasks (job.Task key due period kind arg) = lawful_raise arg
lawful_job seed tasks (job.Login conn name) = lawful_done tt
lawful_job seed tasks (job.Message conn name body) = lawful_done tt
lawful_job seed tasks (job.Channel conn name channel body) = lawful_done tt
lawful_job seed tasks (job.Disconnect conn name graceful) = lawful_done tt

-- the rules are lawful
pub counters_lawful : (seed tasks : ℕ) → AreLawful (counters_rules seed tasks)
counters_lawful seed tasks = lawful_rules (lawful_job seed tasks)
