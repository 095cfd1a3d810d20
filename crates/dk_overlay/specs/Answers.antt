-- What an answer tells of an object, of a name, of the next name and of a task, where it is of that kind.
use Rattle.std.specs.Prelude.{ℕ, Bool, true, false, Option, Some, None, List}
use Rattle.dk_types.specs.declared.number.ObjectId.{ObjectId}
use Rattle.dk_types.specs.declared.object.Object.{Object}
use Rattle.dk_types.specs.declared.item.Answer.{Answer}
use Rattle.dk_types.specs.declared.item.Answer.TheVariants as said

-- the object of an answer that has one
abbrev pub object_in : Answer → Option Object
object_in (said.Object object) = Some object
object_in said.NoObject = None
object_in said.NoName = None
object_in (said.Named id) = None
object_in (said.Next name) = None
object_in said.NoTask = None
object_in said.Task = None

-- the id of an answer that names one
abbrev pub id_in : Answer → Option ObjectId
id_in (said.Named id) = Some id
id_in said.NoObject = None
id_in (said.Object object) = None
id_in said.NoName = None
id_in (said.Next name) = None
id_in said.NoTask = None
id_in said.Task = None

-- the next name of an answer that has one
abbrev pub next_in : Answer → Option (List ℕ)
next_in (said.Next name) = name
next_in said.NoObject = None
next_in (said.Object object) = None
next_in said.NoName = None
next_in (said.Named id) = None
next_in said.NoTask = None
next_in said.Task = None

-- whether the answer is that the task is pending
abbrev pub is_pending : Answer → Bool
is_pending said.Task = true
is_pending said.NoObject = false
is_pending (said.Object object) = false
is_pending said.NoName = false
is_pending (said.Named id) = false
is_pending (said.Next name) = false
is_pending said.NoTask = false
