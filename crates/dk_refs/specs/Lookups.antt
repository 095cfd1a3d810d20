-- What a session's platform name is bound to.
use Rattle.std.specs.Prelude.{◌≡◌, ℕ, Bool, Option, Some, List, is_some, Ok}
use Rattle.dk_types.specs.declared.number.ObjectId.{ObjectId}
use Rattle.dk_types.specs.declared.fault.AppFault.TheVariants.{Refused}
use Rattle.dk_model.specs.Runs.{Act, TOO_LONG}
use Rattle.dk_model.specs.Records.{session_name}
use Rattle.dk_model.specs.Platforms.{platform_bound}
use Rattle.dk_txn.specs.declared.refusal.Refusal.{Refusal}
use Rattle.dk_txn.specs.Refusals.{refusal_fault}

-- the id of the record of a login name, where one is bound
unfoldable pub recorded : List ℕ → Act (Option ObjectId)
recorded name s = (Ok (platform_bound s (session_name name)), s)

-- whether a login name has a record
unfoldable pub is_recorded : List ℕ → Act Bool
is_recorded name s = (Ok (is_some (platform_bound s (session_name name))), s)

-- a refusal over a length
abbrev pub IsTooLong : Refusal → Type 0
IsTooLong e = refusal_fault e ≡ Some (Refused TOO_LONG)
