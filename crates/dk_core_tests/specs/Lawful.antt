-- The rules of the two objects are lawful.
use Rattle.std.proofs.Common.{ℕ, zero, suc, List, [], codes, refl, lit<}
use Rattle.dk_types.specs.declared.number.ConnNo.{ConnNo}
use Rattle.dk_types.specs.declared.job.Job.{Job}
use Rattle.dk_types.specs.declared.job.Job.TheVariants as job
use Rattle.dk_types.specs.declared.job.Out.TheVariants as out
use Rattle.dk_types.specs.Names.{IsName}
use Rattle.dk_model.specs.Lawful.{IsForGame, AreLawful}
use Rattle.dk_model.proofs.Acts.{Anything, IsLawful, lawful_rules, lawful_then, lawful_done}
use Rattle.dk_model.proofs.Operations.{lawful_create, lawful_bind, lawful_bound, lawful_save, lawful_schedule, lawful_send}
use Rattle.dk_model.proofs.Bytes.{bytes_nil, name_bytes, name_of_ascii}
use Rattle.dk_core_tests.specs.Twins.{make, plan, begin, mark, bind_too, change, answer, twins_rules}

name_a : IsName (codes "a")
name_a = name_of_ascii (codes "a") refl refl refl

name_b : IsName (codes "b")
name_b = name_of_ascii (codes "b") refl refl refl

name_c : IsName (codes "c")
name_c = name_of_ascii (codes "c") refl refl refl

lawful_make : {Needs : Type 0} (name : List ℕ) → IsName name → IsLawful Needs Anything (make name)
lawful_make name is = lawful_then (lawful_create 1 [] (λ _. (lit< tt, bytes_nil))) (λ id. lawful_bind name id (λ n. (is, n.1)))

lawful_plan : {Needs : Type 0} → IsLawful Needs Anything plan
lawful_plan = lawful_then (lawful_schedule 1 [] 0 (λ _. (lit< tt, bytes_nil))) (λ _. lawful_done tt)

lawful_begin : {Needs : Type 0} → IsLawful Needs Anything begin
unfolding begin
lawful_begin = lawful_then (lawful_make (codes "a") name_a) (λ _. lawful_then (lawful_make (codes "c") name_c) (λ _. lawful_then lawful_plan (λ _. lawful_plan)))

lawful_mark : {Needs : Type 0} (name : List ℕ) → IsLawful Needs Anything (mark name)
lawful_mark name = lawful_then (lawful_bound name) (λ id. lawful_save id (codes "x") (λ _. name_bytes (codes "x") (name_of_ascii (codes "x") refl refl refl)))

lawful_bind_too : {Needs : Type 0} (name too : List ℕ) → IsName too → IsLawful Needs Anything (bind_too name too)
lawful_bind_too name too is = lawful_then (lawful_bound name) (λ id. lawful_bind too id (λ n. (is, n.1)))

lawful_change : {Needs : Type 0} → IsLawful Needs Anything change
unfolding change
lawful_change = lawful_then (lawful_mark (codes "a")) (λ _. lawful_then (lawful_mark (codes "c")) (λ _. lawful_bind_too (codes "a") (codes "b") name_b))

lawful_answer : {Needs : Type 0} (n : ℕ) (conn : ConnNo) → IsLawful Needs Anything (answer n conn)
lawful_answer zero conn = lawful_done tt
lawful_answer (suc n) conn = lawful_then (lawful_send conn (out.Message [])) (λ _. lawful_answer n conn)

lawful_job : (j : Job) → IsLawful (IsForGame j) Anything (twins_rules j)
lawful_job job.Initialize = lawful_begin
lawful_job (job.Task key due period kind arg) = lawful_change
lawful_job (job.Message conn name body) = lawful_answer _ conn
lawful_job (job.Login conn name) = lawful_done tt
lawful_job (job.Channel conn name channel body) = lawful_done tt
lawful_job (job.Disconnect conn name graceful) = lawful_done tt

-- the rules are lawful
pub twins_lawful : AreLawful twins_rules
twins_lawful = lawful_rules lawful_job
