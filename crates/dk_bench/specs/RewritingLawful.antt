-- The rules of the sheets are lawful: each part of them, in the shape that it has.
use Rattle.std.proofs.Common.{ℕ, zero, suc, Option, Some, None, List, [], ◌∷◌, All, lit<}
use Rattle.std.proofs.lemmas.List.Elements.{All-nil, All-cons}
use Rattle.dk_types.specs.declared.number.ObjectId.{ObjectId}
use Rattle.dk_types.specs.declared.job.Job.{Job}
use Rattle.dk_types.specs.declared.job.Job.TheVariants as job
use Rattle.dk_types.specs.Fields.{u64_spelling, id_spelling}
use Rattle.dk_types.specs.Payload.{next_id}
use Rattle.dk_model.specs.Lawful.{IsForGame, AreLawful}
use Rattle.dk_model.specs.Records.{value_of}
use Rattle.dk_model.proofs.Acts.{Anything, AreBytes, IsLawful, lawful_rules, lawful_then, lawful_done}
use Rattle.dk_model.proofs.Bytes.{bytes_of_u64, bytes_of_id, bytes_of_list}
use Rattle.dk_model.proofs.Operations.{lawful_create, lawful_schedule}
use Rattle.dk_model.proofs.ReferenceActs.{lawful_get_for_update_as, lawful_save_as}
use Rattle.dk_bench.specs.declared.sheet.Sheet.{Sheet}
use Rattle.dk_bench.specs.Sheet.{SHEET, sheet_bytes, sheet_of, blank, raised}
use Rattle.dk_bench.specs.Rewriting.{schedule_one, schedule_each, plan, begin, rewrite_at, rewrite_found, sheets_rules}

each_in_bytes : (numbers : List ℕ) → All (λ n. AreBytes (u64_spelling n)) numbers
each_in_bytes [] = All-nil (λ n. AreBytes (u64_spelling n))
each_in_bytes (n ∷ numbers) = All-cons (λ n. AreBytes (u64_spelling n)) n numbers (bytes_of_u64 n) (each_in_bytes numbers)

-- a sheet is spelled in bytes
bytes_of_sheet : (s : Sheet) → AreBytes (sheet_bytes s)
bytes_of_sheet s = bytes_of_list u64_spelling s.numbers (each_in_bytes s.numbers)

lawful_schedule_one : {Needs : Type 0} (id : ObjectId) (delay : ℕ) → IsLawful Needs Anything (schedule_one id delay)
lawful_schedule_one id delay = lawful_then (lawful_schedule 1 (id_spelling id) delay (λ _. (lit< tt, bytes_of_id id))) (λ _. lawful_done tt)

lawful_schedule_each : {Needs : Type 0} (id : ObjectId) (times : ℕ) → IsLawful Needs Anything (schedule_each id times)
lawful_schedule_each id zero = lawful_done tt
lawful_schedule_each id (suc n) = lawful_then (lawful_schedule_one id n) (λ _. lawful_schedule_each id n)

lawful_plan : {Needs : Type 0} (times : ℕ) → IsLawful Needs Anything (plan times)
unfolding plan
lawful_plan times = lawful_then (lawful_create SHEET (sheet_bytes blank) (λ _. (lit< tt, bytes_of_sheet blank))) (λ id. lawful_schedule_each id times)

lawful_begin : {Needs : Type 0} (sheets times : ℕ) → IsLawful Needs Anything (begin sheets times)
lawful_begin zero times = lawful_done tt
lawful_begin (suc n) times = lawful_then (lawful_plan times) (λ _. lawful_begin n times)

lawful_rewrite_at : {Needs : Type 0} (id : ObjectId) → IsLawful Needs Anything (rewrite_at id)
unfolding rewrite_at
lawful_rewrite_at id =
    lawful_then (lawful_get_for_update_as {Has = Anything} SHEET sheet_of id (λ bytes sheet are is. tt)) (λ sheet.
    lawful_then (lawful_save_as SHEET id (sheet_bytes (raised sheet)) (λ _. bytes_of_sheet (raised sheet))) (λ _.
    lawful_done tt))

lawful_rewrite_found : {Needs : Type 0} (found : Option ObjectId) → IsLawful Needs Anything (rewrite_found found)
lawful_rewrite_found None = lawful_done tt
lawful_rewrite_found (Some id) = lawful_rewrite_at id

lawful_job : (sheets times : ℕ) (j : Job) → IsLawful (IsForGame j) Anything (sheets_rules sheets times j)
lawful_job sheets times job.Initialize = lawful_begin sheets times
lawful_job sheets times (job.Task key due period kind arg) = lawful_rewrite_found (value_of next_id arg)
lawful_job sheets times (job.Login conn name) = lawful_done tt
lawful_job sheets times (job.Message conn name body) = lawful_done tt
lawful_job sheets times (job.Channel conn name channel body) = lawful_done tt
lawful_job sheets times (job.Disconnect conn name graceful) = lawful_done tt

-- the rules are lawful
pub sheets_lawful : (sheets times : ℕ) → AreLawful (sheets_rules sheets times)
sheets_lawful sheets times = lawful_rules (lawful_job sheets times)
