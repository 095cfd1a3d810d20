-- The messages that members are sent.
use Rattle.std.specs.Prelude.{List, map}
use Rattle.dk_types.specs.declared.number.ConnNo.{ConnNo}
use Rattle.dk_types.specs.declared.job.Out.{Out}
use Rattle.dk_types.specs.declared.job.Session.{Session}

-- one to each, in their order
abbrev pub letters_of : Out → List Session → List (ConnNo × Out)
letters_of message members = map (λ m. (m.conn, message)) members
