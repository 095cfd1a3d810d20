-- What a read gives, by what the stores find.
use Rattle.std.proofs.Common.{◌≡◌, ℕ, refl, sym, ap, ◌∙◌, List, Option, None, Some}
use Rattle.std.specs.Option.{option_map}
use Rattle.std.specs.FinMap.{get}
use Rattle.dk_types.specs.declared.number.ObjectId.{ObjectId}
use Rattle.dk_types.specs.declared.number.TaskKey.{TaskKey}
use Rattle.dk_types.specs.declared.object.Object.{Object}
use Rattle.dk_types.specs.declared.durable.Pending.{Pending}
use Rattle.dk_types.specs.declared.item.Item.TheVariants as ask
use Rattle.dk_types.specs.declared.item.Answer.{Answer}
use Rattle.dk_types.specs.declared.item.Answer.TheVariants as said
use Rattle.dk_types.specs.declared.item.Seen.TheVariants as sight
use Rattle.dk_types.specs.declared.item.Read.{Read}
use Rattle.dk_map.proofs.Values.{get_values}
use Rattle.dk_model.specs.DurableWorlds.{object_answer, name_answer, task_answer}
use Rattle.dk_tasks.specs.Tasks.{Kept, stamped}
use Rattle.dk_tasks.proofs.Durable.{get-durable}
use Rattle.dk_core.specs.StampedWorlds.{Stamped, sight_of, read_now}

-- an object that was read with its stamp
abbrev pub object_said : Object → ℕ → Read
object_said object stamp = record { answer = said.Object object; seen = sight.At stamp }

-- what is read where this is found
abbrev pub ReadOf : {A : Type 0} → Answer → (A → Answer) → Option (A × ℕ) → Read
ReadOf absent answer None = record { answer = absent; seen = sight.Absent }
ReadOf absent answer (Some f) = record { answer = answer f.0; seen = sight.At f.1 }

object_of : (r : Option (Object × ℕ)) → ReadOf said.NoObject said.Object r ≡ record { answer = object_answer (option_map (λ s. s.0) r); seen = sight_of (option_map (λ s. s.1) r) }
object_of None = refl
object_of (Some f) = refl

name_of : (r : Option (ObjectId × ℕ)) → ReadOf said.NoName said.Named r ≡ record { answer = name_answer (option_map (λ s. s.0) r); seen = sight_of (option_map (λ s. s.1) r) }
name_of None = refl
name_of (Some f) = refl

task_of : (key : TaskKey) (r : Option Kept) → ReadOf said.NoTask (λ _. said.Task) (option_map (stamped key) r) ≡ record { answer = task_answer (option_map (λ t. t.task) r); seen = sight_of (option_map (λ t. t.stamp) r) }
task_of key None = refl
task_of key (Some t) = refl

pub object_read : (w : Stamped) (id : ObjectId) (r : Option (Object × ℕ)) → r ≡ get w.objects id → ReadOf said.NoObject said.Object r ≡ read_now w (ask.Object id)
object_read w id r e =
    ap (ReadOf said.NoObject said.Object) e ∙ object_of (get w.objects id)
    ∙ (λ i. record { answer = object_answer (sym (get_values (λ (s : Object × ℕ). s.0) w.objects id) i); seen = sight_of (option_map (λ s. s.1) (get w.objects id)) })

pub name_read : (w : Stamped) (name : List ℕ) (r : Option (ObjectId × ℕ)) → r ≡ get w.names name → ReadOf said.NoName said.Named r ≡ read_now w (ask.Bound name)
name_read w name r e =
    ap (ReadOf said.NoName said.Named) e ∙ name_of (get w.names name)
    ∙ (λ i. record { answer = name_answer (sym (get_values (λ (s : ObjectId × ℕ). s.0) w.names name) i); seen = sight_of (option_map (λ s. s.1) (get w.names name)) })

pub task_read : (w : Stamped) (key : TaskKey) (r : Option (Pending × ℕ)) → r ≡ option_map (stamped key) (get w.tasks key) → ReadOf said.NoTask (λ _. said.Task) r ≡ read_now w (ask.Task key)
task_read w key r e =
    ap (ReadOf said.NoTask (λ _. said.Task)) e ∙ task_of key (get w.tasks key)
    ∙ (λ i. record { answer = task_answer (sym (get-durable w.tasks key) i); seen = sight_of (option_map (λ t. t.stamp) (get w.tasks key)) })
