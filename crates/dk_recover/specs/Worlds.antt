-- A durable world in memory, as contracts see it, and what a change of it owes.
use Rattle.std.specs.Prelude.{◌≡◌, ℕ, ◌+◌, ◌&&◌, Bool, false, nat_eq, nat_le, List, Option, Some, None, refl}
use Rattle.std.specs.List.{list_all}
use Rattle.std.specs.Coded.{Coded, code_by, coded×, coded_ℕ, coded_list, coded_option}
use Rattle.std.specs.FinMap as map
use Rattle.dk_types.specs.declared.number.RunNo.{RunNo}
use Rattle.dk_types.specs.declared.number.ObjectId.{ObjectId}
use Rattle.dk_types.specs.declared.number.TaskKey.{TaskKey}
use Rattle.dk_types.specs.declared.object.Object.{Object}
use Rattle.dk_types.specs.declared.durable.Pending.{Pending}
use Rattle.dk_types.specs.declared.durable.Effects.{Effects}
use Rattle.dk_types.specs.Values.{Task}
use Rattle.dk_model.specs.DurableWorlds.{DurableWorld}
use Rattle.dk_model.specs.Effects.{effects, apply}

-- an id is stored as the pair of its fields
abbrev pub id_code : Coded ObjectId
id_code = code_by (ℕ × ℕ) (coded× coded_ℕ coded_ℕ) (λ k. (k.run.0, k.k)) (λ p. record { run = record { 0 = p.0 }; k = p.1 }) (λ _. refl)

-- a task's key is stored as the pair of its fields
abbrev pub key_code : Coded TaskKey
key_code = code_by (ℕ × ℕ) (coded× coded_ℕ coded_ℕ) (λ k. (k.run.0, k.k)) (λ p. record { run = record { 0 = p.0 }; k = p.1 }) (λ _. refl)

-- an object is stored as its kind and its bytes
abbrev pub object_code : Coded Object
object_code = code_by (ℕ × List ℕ) (coded× coded_ℕ (coded_list coded_ℕ)) (λ o. (o.kind, o.bytes)) (λ p. record { kind = p.0; bytes = p.1 }) (λ _. refl)

-- a task is stored as its fields, one pair in another
abbrev pub task_code : Coded Task
task_code =
    code_by (ℕ × (ℕ × (ℕ × List ℕ))) (coded× coded_ℕ (coded× coded_ℕ (coded× coded_ℕ (coded_list coded_ℕ))))
    (λ t. (t.due, (t.period, (t.kind, t.arg)))) (λ p. record { due = p.0; period = p.1.0; kind = p.1.1.0; arg = p.1.1.1 }) (λ _. refl)

-- the largest committed run is stored as its number
abbrev pub last_code : Coded (Option RunNo)
last_code = coded_option (code_by ℕ coded_ℕ (λ r. r.0) (λ n. record { 0 = n }) (λ _. refl))

-- a world is stored as its parts
abbrev pub world_code : Coded DurableWorld
world_code =
    code_by (_ × (_ × (_ × (ℕ × Option RunNo))))
    (coded× (map.code id_code object_code) (coded× (map.code (coded_list coded_ℕ) id_code) (coded× (map.code key_code task_code) (coded× coded_ℕ last_code))))
    (λ w. (w.objects, (w.names, (w.tasks, (w.commits, w.last)))))
    (λ p. record { objects = p.0; names = p.1.0; tasks = p.1.1.0; commits = p.1.1.1.0; last = p.1.1.1.1 }) (λ _. refl)

-- the effects are those between the world before them and the world after them
abbrev pub AreFit : DurableWorld → Effects → Type 0
AreFit d e = e ≡ effects d (apply e d)

-- the number is the next one, and there are no more commits than runs up to the last one
abbrev pub is_next : ℕ → ℕ → RunNo → Bool
is_next commits seq last = nat_eq seq (commits + 1) && nat_le seq (last.0 + 1)

-- the run is at most the largest committed one
abbrev pub is_committed : Option RunNo → RunNo → Bool
is_committed None run = false
is_committed (Some last) run = nat_le run.0 last.0

-- such runs made all these objects
abbrev pub are_made : Option RunNo → List (ObjectId × Object) → Bool
are_made last objects = list_all (λ (e : ObjectId × Object). is_committed last e.0.run) objects

-- such runs scheduled all these tasks
abbrev pub are_scheduled : Option RunNo → List Pending → Bool
are_scheduled last tasks = list_all (λ (p : Pending). is_committed last p.key.run) tasks
