-- An answer of a world tells what stands there.
use Rattle.std.proofs.Common.{◌≡◌, Option, Some, None, is_some, refl}
use Rattle.dk_types.specs.declared.number.ObjectId.{ObjectId}
use Rattle.dk_types.specs.declared.object.Object.{Object}
use Rattle.dk_model.specs.DurableWorlds.{Task, object_answer, name_answer, task_answer}
use Rattle.dk_overlay.specs.Answers.{object_in, id_in, is_pending}

-- they take a world's answers back to what stands there
pub object_in-answer : (o : Option Object) → object_in (object_answer o) ≡ o
object_in-answer None = refl
object_in-answer (Some object) = refl

pub id_in-answer : (o : Option ObjectId) → id_in (name_answer o) ≡ o
id_in-answer None = refl
id_in-answer (Some id) = refl

pub is_pending-answer : (o : Option Task) → is_pending (task_answer o) ≡ is_some o
is_pending-answer None = refl
is_pending-answer (Some task) = refl
