-- The order of a transcript: the claims and commits of each phase, read back from its text.
use Rattle.std.specs.Prelude.{◌≡◌, ℕ, Bool, Option, Some, None, List, [], ◌∷◌, ◌++◌, map, if◌then◌else◌, codes}
use Rattle.std.specs.List.{filter_map}
use Rattle.std.specs.Str.Parse.{digits_value}
use Rattle.std.specs.Fmt.{decimal}
use Rattle.dk_types.specs.declared.job.Job.{Job}
use Rattle.dk_types.specs.declared.job.Job.TheVariants as job
use Rattle.dk_types.specs.declared.fault.AppFault.TheVariants as fault
use Rattle.dk_types.specs.declared.fault.Outcome.{Outcome}
use Rattle.dk_types.specs.declared.fault.Outcome.TheVariants as outcome
use Rattle.dk_types.specs.declared.event.Event.{Event}
use Rattle.dk_types.specs.declared.event.Event.TheVariants as event
use Rattle.dk_types.specs.declared.event.ClaimReply.{ClaimReply}
use Rattle.dk_types.specs.declared.event.ClaimReply.TheVariants as claimed
use Rattle.dk_model.specs.Lines.{lines_of, first_word, after_word, escaped}
use Rattle.dk_model.specs.Platforms.{same_name}

-- a claim with its run, its moment and its job's text, or a commit with its run and its outcome's text
pub data OrderItem : Type 0 where
  Claimed : (run at : ℕ) (job : List ℕ) → OrderItem
  Committed : (run : ℕ) (outcome : List ℕ) → OrderItem

-- a job as a claim line tells it
abbrev pub job_text : Job → List ℕ
job_text job.Initialize = codes "initialize"
job_text (job.Login conn name) = codes "login " ++ escaped name
job_text (job.Message conn name body) = codes "message " ++ escaped name
job_text (job.Channel conn name channel body) = codes "channel " ++ escaped name
job_text (job.Disconnect conn name graceful) = codes "disconnect " ++ escaped name
job_text (job.Task key due period kind arg) = codes "task " ++ decimal key.run.0 ++ 46 ∷ decimal key.k

-- an outcome as a commit line tells it
abbrev pub outcome_text : Outcome → List ℕ
outcome_text outcome.Ok = codes "ok"
outcome_text (outcome.Fail (fault.Refused n)) = codes "fail r" ++ decimal n
outcome_text (outcome.Fail (fault.Game n)) = codes "fail g" ++ decimal n
outcome_text (outcome.Fail fault.TooLarge) = codes "fail large"

-- `RUN at M JOB`
abbrev pub claim_of : List ℕ → OrderItem
claim_of words = Claimed (digits_value 10 (first_word words)) (digits_value 10 (first_word (after_word (after_word words)))) (after_word (after_word (after_word words)))

-- `SEQ run RUN OUTCOME`
abbrev pub commit_of : List ℕ → OrderItem
commit_of words = Committed (digits_value 10 (first_word (after_word (after_word words)))) (after_word (after_word (after_word words)))

-- the item that a line tells; its first word says of which kind
abbrev pub item_of_line : List ℕ → Option OrderItem
item_of_line line =
    if same_name (first_word line) (codes "claim") then Some (claim_of (after_word line))
    else if same_name (first_word line) (codes "commit") then Some (commit_of (after_word line))
    else None

-- whether a line begins a phase
abbrev pub is_phase_line : List ℕ → Bool
is_phase_line line = same_name (first_word line) (codes "phase")

-- the lines before the first phase line, and those of each phase
abbrev pub parted : List (List ℕ) → List (List ℕ) × List (List (List ℕ))
parted [] = ([], [])
parted (line ∷ lines) = let p = parted lines in if is_phase_line line then ([], p.0 ∷ p.1) else (line ∷ p.0, p.1)

-- the order that a transcript tells, phase by phase
unfoldable pub order_of : List ℕ → List (List OrderItem)
order_of text = map (filter_map item_of_line) ((parted (lines_of text)).1)

-- what a claim adds to the order, where it was granted
abbrev pub item_of_claim : ClaimReply → Option OrderItem
item_of_claim (claimed.Granted run at job) = Some (Claimed run.0 at (job_text job))
item_of_claim claimed.Nothing = None
item_of_claim (claimed.Spent granted) = None
item_of_claim (claimed.Exhausted next) = None

-- the item that an event is
abbrev pub item_of : Event → Option OrderItem
item_of (event.Claim pass reply) = item_of_claim reply
item_of (event.Commit pass run seq outcome) = Some (Committed run.0 (outcome_text outcome))
item_of (event.Connect pass name reply) = None
item_of (event.Post pass conn input reply) = None
item_of (event.Release pass run) = None
item_of (event.Hand pass conn most outs end) = None
item_of (event.Tick pass moment) = None

-- each claim is followed at once by the commit of its run
abbrev pub AreInTurn : List OrderItem → Type 0
AreInTurn [] = Unit {0}
AreInTurn (Claimed run at job ∷ Committed ran outcome ∷ items) = (ran ≡ run) × AreInTurn items
AreInTurn (Claimed run at job ∷ Claimed other moment task ∷ items) = ⊥
AreInTurn (Claimed run at job ∷ []) = ⊥
AreInTurn (Committed run outcome ∷ items) = ⊥
