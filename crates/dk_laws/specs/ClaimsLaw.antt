-- What a claim takes is defined where something can be run, and every claim is answered.
use Rattle.std.specs.Prelude.{◌≡◌, ◌≢◌, ℕ, ◌<◌, true, Some, None, [], Contains}
use Rattle.dk_types.specs.declared.job.Job.{Job}
use Rattle.dk_types.specs.declared.event.Event.TheVariants as event
use Rattle.dk_types.specs.declared.event.ClaimReply.{ClaimReply}
use Rattle.dk_types.specs.declared.event.ClaimReply.TheVariants as claimed
use Rattle.dk_types.specs.declared.limits.TheConstants.{NUMBERS_END}
use Rattle.dk_model.specs.Worlds.{World}
use Rattle.dk_model.specs.Picks.{runnable, pick}
use Rattle.dk_model.specs.Events.{Meaning, Happens, has_left, after_claim}

-- where something can be run, a job is picked, and it is one of those that can
abbrev pub SomethingIsPicked : Type 0
SomethingIsPicked = (w : World) → runnable w ≢ [] → (job : Job) × (pick w ≡ Some job) × Contains (runnable w) job

-- where nothing can, none is
abbrev pub NothingIsPicked : Type 0
NothingIsPicked = (w : World) → runnable w ≡ [] → pick w ≡ None

-- the claim that takes the next number, the moment and this job
abbrev pub granted_next : World → Job → ClaimReply
granted_next w job = claimed.Granted (record { 0 = w.next }) w.moment job

-- where something can be run, and a claim and a number are left, a claim by any pass is granted the job that is picked
abbrev pub ClaimsAreGranted : Type 0
ClaimsAreGranted =
    (rules : Meaning) (w : World) (pass : ℕ) → runnable w ≢ [] → has_left w.budget ≡ true → w.next < NUMBERS_END
    → (job : Job) × (pick w ≡ Some job) × Happens rules w (event.Claim pass (granted_next w job)) (after_claim w pass (granted_next w job))

-- in every world a claim has an answer
abbrev pub ClaimsAreAnswered : Type 0
ClaimsAreAnswered = (rules : Meaning) (w : World) (pass : ℕ) → (reply : ClaimReply) × Happens rules w (event.Claim pass reply) (after_claim w pass reply)
