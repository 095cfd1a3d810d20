-- The parts of a record's begin and end, apart from the mode that they act in.
use Rattle.std.specs.Prelude.{ℕ, List, []}
use Rattle.dk_types.specs.declared.number.ConnNo.{ConnNo}
use Rattle.dk_types.specs.declared.job.Session.{Session}
use Rattle.dk_model.specs.Runs.{Act, and_then, create, bind, unbind, remove}
use Rattle.dk_model.specs.Records.{SESSION_KIND, session_bytes, session_name}
use Rattle.dk_model.specs.Platforms.{own_record}

-- the record of a session that is on no channel, made and bound under a name
abbrev pub recording : List ℕ → ConnNo → Act (Unit {0})
recording key conn = and_then (create SESSION_KIND (session_bytes (record { conn = conn; channels = [] }))) (λ id. bind key id)

-- the session's own record, unbound and removed
abbrev pub taking : Session → Act (Unit {0})
taking session = and_then (own_record session) (λ r. and_then (unbind (session_name session.name)) (λ _. remove r.0))
