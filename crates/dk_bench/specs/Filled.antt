-- The rules of the filler are lawful.
use Rattle.std.proofs.Common.{ℕ, ◌<◌, zero, suc, List, [], ◌∷◌, lit<, arith}
use Rattle.std.proofs.lemmas.List.Elements.{All-cons}
use Rattle.dk_types.specs.declared.job.Job.{Job}
use Rattle.dk_types.specs.declared.job.Job.TheVariants as job
use Rattle.dk_types.specs.declared.limits.TheConstants.{DELAY_MOST_MS}
use Rattle.dk_model.specs.Lawful.{IsForGame, AreLawful}
use Rattle.dk_model.proofs.Acts.{Anything, IsLawful, lawful_rules, lawful_then, lawful_done}
use Rattle.dk_model.proofs.Operations.{lawful_create, lawful_schedule, lawful_schedule_periodic}
use Rattle.dk_model.proofs.Bytes.{bytes_nil}
use Rattle.dk_demos.specs.CountersLawful.{lawful_make_from, lawful_raise}
use Rattle.dk_bench.specs.Filling.{plan, begin, fill, put_off, enter, filler_rules}

lawful_plan : {Needs : Type 0} → IsLawful Needs Anything plan
lawful_plan = lawful_then (lawful_schedule_periodic 1 (7 ∷ []) 1 1 (λ _. (lit< tt, All-cons (λ b. b < 256) 7 [] (lit< tt) bytes_nil))) (λ _. lawful_done tt)

lawful_begin : {Needs : Type 0} → IsLawful Needs Anything begin
unfolding begin
lawful_begin = lawful_then (lawful_make_from 0 16 (omega arith)) (λ _. lawful_plan)

lawful_fill : {Needs : Type 0} (objects : ℕ) → IsLawful Needs Anything (fill objects)
lawful_fill zero = lawful_done tt
lawful_fill (suc n) = lawful_then (lawful_create 2 [] (λ _. (lit< tt, bytes_nil))) (λ _. lawful_fill n)

lawful_put_off : {Needs : Type 0} → IsLawful Needs Anything put_off
lawful_put_off = lawful_then (lawful_schedule 1 [] DELAY_MOST_MS (λ _. (lit< tt, bytes_nil))) (λ _. lawful_done tt)

lawful_job : (objects : ℕ) (j : Job) → IsLawful (IsForGame j) Anything (filler_rules objects j)
lawful_job objects job.Initialize = lawful_begin
lawful_job objects (job.Login conn name) = lawful_then (lawful_fill objects) (λ _. lawful_put_off)
lawful_job objects (job.Task key due period kind arg) = lawful_raise arg
lawful_job objects (job.Message conn name body) = lawful_done tt
lawful_job objects (job.Channel conn name channel body) = lawful_done tt
lawful_job objects (job.Disconnect conn name graceful) = lawful_done tt

-- the rules are lawful
pub filler_lawful : (objects : ℕ) → AreLawful (filler_rules objects)
filler_lawful objects = lawful_rules (lawful_job objects)
