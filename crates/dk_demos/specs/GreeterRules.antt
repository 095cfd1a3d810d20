-- What the greeter means: what each job does, said on the run in its midst.
use Rattle.std.specs.Prelude.{ℕ, Option, Some, None, List, ◌++◌, Ok, codes, if◌then◌else◌}
use Rattle.std.specs.FinMap.{get}
use Rattle.dk_types.specs.declared.number.ConnNo.{ConnNo}
use Rattle.dk_types.specs.declared.number.ObjectId.{ObjectId}
use Rattle.dk_types.specs.declared.job.Job.{Job}
use Rattle.dk_types.specs.declared.job.Job.TheVariants as job
use Rattle.dk_types.specs.declared.job.Out.TheVariants as out
use Rattle.dk_model.specs.Runs.{Act, give, and_then, refuse, create, bind, send, TOO_LONG}
use Rattle.dk_model.specs.References.{get_for_update_as, save_as}
use Rattle.dk_model.specs.Records.{is_name_too_long}
use Rattle.dk_demos.specs.Guests.{GUEST, guest_bytes, guest_of, once_more}

-- the name that a guest is bound to
abbrev pub guest_name : List ℕ → List ℕ
guest_name name = codes "Guest." ++ name

-- what a client is told
abbrev pub say : ConnNo → List ℕ → Act (Unit {0})
say conn text = send conn (out.Message text)

-- a new guest, on its first visit
unfoldable pub welcome : ConnNo → List ℕ → Act (Unit {0})
welcome conn name =
    and_then (create GUEST (guest_bytes (record { visits = 1 }))) (λ id.
    and_then (bind (guest_name name) id) (λ _.
    say conn (codes "Welcome.")))

-- a guest that came before
unfoldable pub welcome_back : ConnNo → ObjectId → Act (Unit {0})
welcome_back conn id =
    and_then (get_for_update_as GUEST guest_of id) (λ guest.
    and_then (save_as GUEST id (guest_bytes (once_more guest))) (λ _.
    say conn (codes "Welcome back.")))

-- whether it is new or not
abbrev pub greet : ConnNo → List ℕ → Option ObjectId → Act (Unit {0})
greet conn name None = welcome conn name
greet conn name (Some id) = welcome_back conn id

-- the guest's name is looked up
unfoldable pub known : ConnNo → List ℕ → Act (Unit {0})
known conn name s = greet conn name (get s.world.names (guest_name name)) s

-- a login is refused where the guest's name would be too long
unfoldable pub login : ConnNo → List ℕ → Act (Unit {0})
login conn name = if is_name_too_long (guest_name name) then refuse TOO_LONG else known conn name

-- what each job does: logins alone do something
abbrev pub greeter_rules : Job → Act (Unit {0})
greeter_rules (job.Login conn name) = login conn name
greeter_rules job.Initialize = give (Ok tt)
greeter_rules (job.Message conn name body) = give (Ok tt)
greeter_rules (job.Channel conn name channel body) = give (Ok tt)
greeter_rules (job.Disconnect conn name graceful) = give (Ok tt)
greeter_rules (job.Task key due period kind arg) = give (Ok tt)
