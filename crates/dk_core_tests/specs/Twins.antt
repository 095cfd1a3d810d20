-- The rules of the game of two objects.
use Rattle.std.specs.Prelude.{ℕ, length, List, [], Ok, codes}
use Rattle.std.proofs.Common.{zero, suc}
use Rattle.dk_types.specs.declared.number.ConnNo.{ConnNo}
use Rattle.dk_types.specs.declared.job.Job.{Job}
use Rattle.dk_types.specs.declared.job.Job.TheVariants as job
use Rattle.dk_types.specs.declared.job.Out.TheVariants as out
use Rattle.dk_model.specs.Runs as act
use Rattle.dk_model.specs.Runs.{Act, and_then, give}

-- an object under a name
abbrev pub make : List ℕ → Act (Unit {0})
make name = and_then (act.create 1 []) (λ id. act.bind name id)

-- a task that is due at once
abbrev pub plan : Act (Unit {0})
plan = and_then (act.schedule 1 [] 0) (λ _. give (Ok tt))

-- the two objects, under their names, and two tasks
unfoldable pub begin : Act (Unit {0})
begin = and_then (make (codes "a")) (λ _. and_then (make (codes "c")) (λ _. and_then plan (λ _. plan)))

-- what a name is bound to gets one byte
abbrev pub mark : List ℕ → Act (Unit {0})
mark name = and_then (act.bound name) (λ id. act.save id (codes "x"))

-- a name is bound to what another is bound to
abbrev pub bind_too : List ℕ → List ℕ → Act (Unit {0})
bind_too name too = and_then (act.bound name) (λ id. act.bind too id)

-- both objects get a byte, and a name between theirs is bound
unfoldable pub change : Act (Unit {0})
change = and_then (mark (codes "a")) (λ _. and_then (mark (codes "c")) (λ _. bind_too (codes "a") (codes "b")))

-- so many messages
abbrev pub answer : ℕ → ConnNo → Act (Unit {0})
answer zero conn = give (Ok tt)
answer (suc n) conn = and_then (act.send conn (out.Message [])) (λ _. answer n conn)

-- what each job does
abbrev pub twins_rules : Job → Act (Unit {0})
twins_rules job.Initialize = begin
twins_rules (job.Task key due period kind arg) = change
twins_rules (job.Message conn name body) = answer (length body) conn
twins_rules (job.Login conn name) = give (Ok tt)
twins_rules (job.Channel conn name channel body) = give (Ok tt)
twins_rules (job.Disconnect conn name graceful) = give (Ok tt)
