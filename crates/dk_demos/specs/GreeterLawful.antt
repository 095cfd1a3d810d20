-- The greeter's rules are lawful: each part of them, in the shape that it has.
use Rattle.std.proofs.Common.{◌≡◌, ℕ, false, Option, Some, None, List, codes, refl, lit<}
use Rattle.std.specs.FinMap.{get}
use Rattle.dk_types.specs.declared.number.ConnNo.{ConnNo}
use Rattle.dk_types.specs.declared.number.ObjectId.{ObjectId}
use Rattle.dk_types.specs.declared.job.Job.{Job}
use Rattle.dk_types.specs.declared.job.Job.TheVariants as job
use Rattle.dk_types.specs.declared.job.Out.TheVariants as out
use Rattle.dk_types.specs.Names.{IsName}
use Rattle.dk_model.specs.Runs.{TOO_LONG}
use Rattle.dk_model.specs.Records.{is_name_too_long}
use Rattle.dk_model.specs.Lawful.{IsForGame, AreLawful}
use Rattle.dk_model.proofs.Acts.{Anything, IsLawful, lawful_rules, lawful_then, lawful_done, lawful_refuse, lawful_if, lawful_looks}
use Rattle.dk_model.proofs.Operations.{lawful_create, lawful_bind, lawful_send}
use Rattle.dk_model.proofs.ReferenceActs.{lawful_get_for_update_as, lawful_save_as}
use Rattle.dk_model.proofs.PlatformActs.{IsSomeId, bound_says}
use Rattle.dk_model.proofs.Bytes.{bytes_of_u64, name_after}
use Rattle.dk_demos.specs.Guests.{GUEST, guest_bytes, guest_of, once_more}
use Rattle.dk_demos.specs.GreeterRules as does
use Rattle.dk_demos.specs.GreeterRules.{guest_name, greet, greeter_rules}

lawful_welcome : {Needs : Type 0} (conn : ConnNo) (name : List ℕ) → (Needs → IsName name × (is_name_too_long (guest_name name) ≡ false)) → IsLawful Needs Anything (does.welcome conn name)
unfolding does.welcome
lawful_welcome conn name why =
    lawful_then (lawful_create GUEST (guest_bytes (record { visits = 1 })) (λ _. (lit< tt, bytes_of_u64 1))) (λ id.
    lawful_then (lawful_bind (guest_name name) id (λ n. (name_after (codes "Guest.") name refl (why n.0).0 (why n.0).1, n.1))) (λ _.
    lawful_send conn (out.Message (codes "Welcome."))))

lawful_welcome_back : {Needs : Type 0} (conn : ConnNo) (id : ObjectId) → IsLawful Needs Anything (does.welcome_back conn id)
unfolding does.welcome_back
lawful_welcome_back conn id =
    lawful_then (lawful_get_for_update_as {Has = Anything} GUEST guest_of id (λ bytes guest are is. tt)) (λ guest.
    lawful_then (lawful_save_as GUEST id (guest_bytes (once_more guest)) (λ _. bytes_of_u64 (once_more guest).visits)) (λ _.
    lawful_send conn (out.Message (codes "Welcome back."))))

lawful_greet : {Needs : Type 0} (conn : ConnNo) (name : List ℕ) (o : Option ObjectId) → (Needs → IsName name × (is_name_too_long (guest_name name) ≡ false)) → IsLawful Needs Anything (greet conn name o)
lawful_greet conn name None why = lawful_welcome conn name why
lawful_greet conn name (Some id) why = lawful_welcome_back conn id

lawful_known : {Needs : Type 0} (conn : ConnNo) (name : List ℕ) → (Needs → IsName name × (is_name_too_long (guest_name name) ≡ false)) → IsLawful Needs Anything (does.known conn name)
unfolding does.known
lawful_known conn name why = lawful_looks (λ s. get s.world.names (guest_name name)) (greet conn name) IsSomeId (λ s f. bound_says s (guest_name name) f) (λ o. lawful_greet conn name o (λ n. why n.0))

lawful_login : {Needs : Type 0} (conn : ConnNo) (name : List ℕ) → (Needs → IsName name) → IsLawful Needs Anything (does.login conn name)
unfolding does.login
lawful_login conn name why = lawful_if (is_name_too_long (guest_name name)) (lawful_refuse TOO_LONG) (lawful_known conn name (λ n. (why n.0, n.1)))

lawful_job : (j : Job) → IsLawful (IsForGame j) Anything (greeter_rules j)
lawful_job (job.Login conn name) = lawful_login conn name (λ n. n)
lawful_job job.Initialize = lawful_done tt
lawful_job (job.Message conn name body) = lawful_done tt
lawful_job (job.Channel conn name channel body) = lawful_done tt
lawful_job (job.Disconnect conn name graceful) = lawful_done tt
lawful_job (job.Task key due period kind arg) = lawful_done tt

-- the rules are lawful
pub greeter_lawful : AreLawful greeter_rules
greeter_lawful = lawful_rules lawful_job
