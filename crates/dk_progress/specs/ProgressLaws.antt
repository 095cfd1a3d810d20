-- What the events of a play do to a world that is fit.
use Rattle.std.specs.Prelude.{◌≡◌, ℕ, ◌+◌, ◌<◌, ◌≤◌, None, List, [], ◌∷◌, ◌++◌, Bool}
use Rattle.dk_types.specs.declared.number.RunNo.{RunNo}
use Rattle.dk_types.specs.declared.number.ConnNo.{ConnNo}
use Rattle.dk_types.specs.declared.job.Job.{Job}
use Rattle.dk_types.specs.declared.job.Input.{Input}
use Rattle.dk_types.specs.declared.job.Out.{Out}
use Rattle.dk_types.specs.declared.fault.Outcome.{Outcome}
use Rattle.dk_types.specs.declared.event.Event.TheVariants as event
use Rattle.dk_types.specs.declared.event.ConnectReply.{ConnectReply}
use Rattle.dk_types.specs.declared.event.ConnectReply.TheVariants as connected
use Rattle.dk_types.specs.declared.event.PostReply.{PostReply}
use Rattle.dk_types.specs.declared.event.ClaimReply.TheVariants as claimed
use Rattle.dk_types.specs.declared.limits.TheConstants.{NUMBERS_END, MOMENT_MOST_MS, OUTS_MOST_COUNT}
use Rattle.dk_model.specs.DurableWorlds.{empty_world}
use Rattle.dk_model.specs.Openings.{opening}
use Rattle.dk_model.specs.Worlds.{World}
use Rattle.dk_model.specs.Events.{Meaning, Happens, outbox}
use Rattle.dk_model.specs.Transcripts.{IsQuiet}
use Rattle.dk_model.specs.Lawful.{AreLawful}
use Rattle.dk_model.specs.Sendings.{SendsOneAtMost}
use Rattle.dk_progress.specs.Fitness.{HasNumbersLeft, left}

-- the world before the first run is such a world
abbrev pub FreshIsFit : Type 0
FreshIsFit = (more : ℕ) → 1 + more ≤ NUMBERS_END → HasNumbersLeft (opening empty_world None) [] more

-- a Connect draws a number where four are left, and then its connection is one of those that the world has
abbrev pub Connected : List ConnNo → ℕ → ConnectReply → World → Type 0
Connected conns more (connected.Number conn) after = HasNumbersLeft after (conns ++ conn ∷ []) more
Connected conns more (connected.Exhausted next) after = ⊥

-- a Connect leaves such a world, with its connection
abbrev pub ConnectsFit : Type 0
ConnectsFit =
    (rules : Meaning) (w after : World) (conns : List ConnNo) (more pass : ℕ) (name : List ℕ) (reply : ConnectReply)
    → HasNumbersLeft w conns (4 + more) → Happens rules w (event.Connect pass name reply) after → Connected conns more reply after

-- a Post leaves such a world
abbrev pub PostsFit : Type 0
PostsFit =
    (rules : Meaning) (w after : World) (conns : List ConnNo) (more pass : ℕ) (conn : ConnNo) (input : Input) (reply : PostReply)
    → HasNumbersLeft w conns (4 + more) → Happens rules w (event.Post pass conn input reply) after → HasNumbersLeft after conns more

-- time goes on, and nothing is added
abbrev pub TicksFit : Type 0
TicksFit =
    (rules : Meaning) (w after : World) (conns : List ConnNo) (more pass moment : ℕ)
    → HasNumbersLeft w conns more → Happens rules w (event.Tick pass moment) after → HasNumbersLeft after conns more

-- a run that was claimed and committed: its numbers fit in what is printed, and less is left to run
pub record IsRun (w : World) (conns : List ConnNo) (more : ℕ) (run : RunNo) (at : ℕ) (after : World) : Type 0 where
  pub fit : HasNumbersLeft after conns more
  pub less : left after conns < left w conns
  pub number : run.0 < NUMBERS_END
  pub moment : at ≤ MOMENT_MOST_MS

-- a run leaves such a world, with less to run
abbrev pub RunsLeaveLess : Type 0
RunsLeaveLess =
    (rules : Meaning) (w mid after : World) (conns : List ConnNo) (more pass : ℕ) (run : RunNo) (at : ℕ) (job : Job) (seq : ℕ) (outcome : Outcome)
    → AreLawful rules → SendsOneAtMost rules → HasNumbersLeft w conns more → Happens rules w (event.Claim pass (claimed.Granted run at job)) mid → Happens rules mid (event.Commit pass run seq outcome) after
    → IsRun w conns more run at after

-- no claim is refused; where nothing is left to run the world is quiet
pub record AreGranted (w : World) : Type 0 where
  pub quiet : (rules : Meaning) (pass : ℕ) (after : World) → Happens rules w (event.Claim pass claimed.Nothing) after → IsQuiet w × (after ≡ w)
  pub unspent : (rules : Meaning) (pass granted : ℕ) (after : World) → Happens rules w (event.Claim pass (claimed.Spent granted)) after → ⊥
  pub drawn : (rules : Meaning) (pass next : ℕ) (after : World) → Happens rules w (event.Claim pass (claimed.Exhausted next)) after → ⊥

-- a claim is granted there where something can be run
abbrev pub ClaimsAreGranted : Type 0
ClaimsAreGranted = (w : World) (conns : List ConnNo) (more : ℕ) → HasNumbersLeft w conns more → AreGranted w

-- a Hand of as many messages as may wait takes all
abbrev pub HandsTakeAll : Type 0
HandsTakeAll =
    (rules : Meaning) (w after : World) (conns : List ConnNo) (more pass : ℕ) (conn : ConnNo) (outs : List Out) (end : Bool)
    → HasNumbersLeft w conns more → Happens rules w (event.Hand pass conn OUTS_MOST_COUNT outs end) after → (outs ≡ outbox w conn) × HasNumbersLeft after conns more
