-- How the rules read in the calls that the code makes.
use Rattle.std.proofs.Common.{◌≡◌, ℕ, List, Err, refl, ap}
use Rattle.dk_types.specs.declared.number.ConnNo.{ConnNo}
use Rattle.dk_types.specs.declared.item.Item.{Item}
use Rattle.dk_types.specs.declared.item.Read.{Read}
use Rattle.dk_types.specs.declared.fault.AppFault.TheVariants.{Refused}
use Rattle.dk_model.specs.Runs.{Run, and_then, refuse, TOO_LONG}
use Rattle.dk_overlay.specs.ReadsAndWrites.{ReadsAndWrites}
use Rattle.dk_txn.specs.Current.{current}
use Rattle.dk_txn.specs.Bindings.{binding}
use Rattle.dk_txn.specs.declared.txn.Txn.{Txn}
use Rattle.dk_txn.specs.Does.{Does}
use Rattle.dk_txn.proofs.Kit.{keeps_all}
use Rattle.dk_overlay.proofs.Tests.{Some_injective}
use Rattle.dk_game.specs.declared.halt.Halt.TheVariants as halt
use Rattle.dk_game.specs.Halted.{halt_fault}
use Rattle.dk_demos.specs.GreeterRules.{guest_name, greet, known}
use Rattle.dk_txn.specs.Sights.{Sights}

-- a guest is known by what its name is bound to
pub known_as : (conn : ConnNo) (name : List ℕ) (s : Run) → known conn name s ≡ and_then (binding (guest_name name)) (greet conn name) s
unfolding known binding and_then
known_as conn name s = refl

-- a name that would be too long is refused
pub turned_away : {S A : Type 0} {sights : Sights S} {a : Txn S ReadsAndWrites} → Does sights halt_fault a a (refuse {A = A} TOO_LONG) (Err (halt.Fault (Refused TOO_LONG)))
turned_away {a = a} = record { keeps = keeps_all; does = λ s t d agrees. ap (λ r. (r, current a.set d)) (Some_injective _ _ t) }
