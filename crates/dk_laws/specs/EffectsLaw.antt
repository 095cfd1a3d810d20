-- The effects between two worlds make the one into the other.
use Rattle.std.specs.Prelude.{◌≡◌, Some}
use Rattle.std.specs.FinMap.{get}
use Rattle.dk_types.specs.declared.number.TaskKey.{TaskKey}
use Rattle.dk_model.specs.DurableWorlds.{DurableWorld, Task}
use Rattle.dk_model.specs.Effects.{effects, apply}

-- a task that stands in both differs at most in its due moment
abbrev pub DifferInDue : DurableWorld → DurableWorld → Type 0
DifferInDue a b = (key : TaskKey) (x y : Task) → get a.tasks key ≡ Some x → get b.tasks key ≡ Some y → y ≡ record x { due = y.due }

-- with the effects made, a world has the objects, the names and the tasks of the other
abbrev pub EffectsLeadThere : Type 0
EffectsLeadThere = (a b : DurableWorld) → DifferInDue a b → apply (effects a b) a ≡ record b { commits = a.commits; last = a.last }
