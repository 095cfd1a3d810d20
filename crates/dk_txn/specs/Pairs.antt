-- Changes that are made together.
use Rattle.std.specs.Prelude.{ℕ, Option, Some, None, List, ◌++◌, Ok}
use Rattle.dk_types.specs.declared.number.ConnNo.{ConnNo}
use Rattle.dk_types.specs.declared.object.Object.{Object}
use Rattle.dk_types.specs.declared.job.Out.{Out}
use Rattle.dk_model.specs.Runs.{Act}
use Rattle.dk_overlay.specs.declared.change.Change.{Change}

abbrev object_with : List ℕ → Option Object → Option Object
object_with bytes None = None
object_with bytes (Some object) = Some (record { kind = object.kind; bytes = bytes })

-- the change that leaves the object with these bytes
abbrev pub with_bytes : Change Object → List ℕ → Change Object
with_bytes c bytes = record { before = c.before; after = object_with bytes c.after }

-- all these messages are sent
unfoldable pub send_all : List (ConnNo × Out) → Act (Unit {0})
send_all messages s = (Ok tt, record s { outs = s.outs ++ messages })
