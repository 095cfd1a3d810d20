-- What a play does: the history that it makes on the store in its folder, the transcript that it writes of it, and what a stop leaves at each moment.
use Rattle.std.specs.Prelude.{◌≡◌, ◌≢◌, ◌⊎◌, Bool, IsTrue, ℕ, ◌+◌, ◌<◌, ◌≤◌, ◌^◌, List, [], ◌∷◌, ◌++◌, length, Option, Some, None}
use Rattle.std.specs.List.{AllByRecursion}
use Rattle.std.specs.FinMap.{get}
use Rattle.dk_types.specs.Faults.{HasRisen}
use Rattle.dk_types.specs.declared.event.Event.{Event}
use Rattle.dk_types.specs.declared.event.Event.TheVariants as event
use Rattle.dk_types.specs.declared.fault.Outcome.{Outcome}
use Rattle.dk_types.specs.declared.limits.TheConstants.{NUMBERS_END}
use Rattle.dk_types.specs.declared.number.RunNo.{RunNo}
use Rattle.dk_types.specs.declared.number.TaskKey.{TaskKey}
use Rattle.dk_types.specs.declared.side.Side.{Side}
use Rattle.dk_types.specs.declared.side.Side.TheVariants.{Zero, One}
use Rattle.dk_disk.specs.Disk.{settled}
use Rattle.dk_disk.specs.DiskHistories.{DiskHistory, now}
use Rattle.dk_model.specs.declared.script.Line.{Line}
use Rattle.dk_model.specs.DurableWorlds.{DurableWorld}
use Rattle.dk_model.specs.Events.{Meaning}
use Rattle.dk_model.specs.Images.{world_lists, image_spelling}
use Rattle.dk_model.specs.Legal.{Opened, IsLegal, commits_of, opening_of, world_after}
use Rattle.dk_model.specs.Orders.{AreInTurn, order_of}
use Rattle.dk_model.specs.Recovered.{Recovers}
use Rattle.dk_model.specs.Recovered as files
use Rattle.dk_model.specs.Stores.{Standing, StoreHeader, NoStore, StandsOn, NoneStands, standing}
use Rattle.dk_model.specs.Tails.{IsTail}
use Rattle.dk_model.specs.Transcripts.{IsTranscript}
use Rattle.dk_model.specs.Worlds.{Claim}
use Rattle.dk_journal.specs.Moments.{IsAsRead}
use Rattle.dk_journal.specs.Recoveries.{AllRecover, HeldNeverFalls, IsWorld, RecoverSince}
use Rattle.dk_journal.specs.Stores.{AreSettled}
use Rattle.dk_laws.specs.HistoryLaws.{IsOnce}
use Rattle.dk_recover.specs.Files.{OnlyReads}
use Rattle.dk_recover.specs.Recovery.{IsOurs, IsOfOther}
use Rattle.dk_host.specs.OpenedStores.{IsAtLastEpoch, IsImageTooLarge, MayBeAnew}
use Rattle.dk_play_laws.specs.BudgetLaw.{IsBudgetSpent}
use Rattle.dk_play_laws.specs.FirstParts.{scripted_of, IsFirstPart}
use Rattle.dk_command.specs.Games.{word_of}
use Rattle.dk_command.specs.Requests.{Asks, Playing, Plays}
use Rattle.dk_status.specs.declared.status.Status.{Status}
use Rattle.dk_status.specs.declared.status.Status.TheVariants as status
use Rattle.darkstar.specs.Games.{rules_of}
use Rattle.dk_streams.specs.Sources.{IsReadScript}
use Rattle.darkstar.specs.Reports.{Holds, bytes_of}

-- where the words ask for a play, this holds of it
abbrev pub ForPlay : List (List ℕ) → (Playing → Type 0) → Type 0
ForPlay words P = (play : Playing) → Asks words (Plays play) → P play

-- how a play or a server goes: the id of its game and what the game means, how many claims it may make, if there is an end of them, its workers, and whether the store is written anew behind the last phase
pub record PlayTerms : Type 0 where
  pub game : List ℕ
  pub rules : Meaning
  pub budget : Option ℕ
  pub workers : ℕ
  pub checkpoint : Bool

-- as the words ask for it
abbrev pub terms_of : Playing → PlayTerms
terms_of play = record { game = word_of play.game; rules = rules_of play.game; budget = Some play.budget; workers = play.workers; checkpoint = play.checkpoint }

-- what becomes of a home: whether it tells its content, the past of its files before and after, and how often it had failed
pub record Passage : Type 0 where
  pub tells : Bool
  pub old : DiskHistory
  pub new : DiskHistory
  pub before : ℕ
  pub after : ℕ

-- a passage by its parts
abbrev pub passage : Bool → DiskHistory → DiskHistory → ℕ → ℕ → Passage
passage tells old new before after = record { tells = tells; old = old; new = new; before = before; after = after }

-- what the host is opened with, on a store that holds this world
abbrev pub opened_with : PlayTerms → DurableWorld → Opened
opened_with terms d = record { rules = terms.rules; durable = d; budget = terms.budget }

-- none of the once-tasks whose runs these events committed is pending in this world
abbrev pub AreEnded : Opened → List Event → DurableWorld → Type 0
AreEnded o events d =
    (before later : List Event) (pass seq : ℕ) (run : RunNo) (outcome : Outcome) (claim : Claim) (key : TaskKey)
    → events ≡ before ++ event.Commit pass run seq outcome ∷ later → get (world_after o before).claims run ≡ Some claim → IsOnce key claim.job → get d.tasks key ≡ None

-- WHAT A STOP MAY LEAVE: the durable world after some first ones of these events, and so after some first commits; no once-task that was committed among them is pending
pub record IsAfterSomeEnded (o : Opened) (events : List Event) (d : DurableWorld) : Type 0 where
  pub front : List Event
  pub later : List Event
  pub parts : events ≡ front ++ later
  pub world : d ≡ (world_after o front).durable
  pub ended : AreEnded o front d

-- from this moment on each image recovers to the world after some first commits of the events, and then the tail's, and what is held never falls
abbrev pub RecoversFrom : Opened → List Event → ℕ → DiskHistory → Type 0
RecoversFrom o events start new = RecoverSince (IsAfterSomeEnded o events) start new × HeldNeverFalls start new

-- THE STORE IS KEPT. Up to some moment of the call the files are only read, and then nothing is pending. From then on every image recovers to a beginning of the events; and so it does at every moment of the call where nothing was pending before it.
pub record KeepsCommits (o : Opened) (events : List Event) (old new : DiskHistory) : Type 0 where
  pub start : ℕ
  pub from : old.clock ≤ start
  pub to : start ≤ new.clock
  pub kept : (t : ℕ) (side : Side) → t ≤ old.clock → new.disks t side ≡ old.disks t side
  pub read : (t : ℕ) (side : Side) → old.clock ≤ t → t ≤ start → IsAsRead (now old side) (new.disks t side)
  pub rests : (side : Side) → new.disks start side ≡ settled (now old side).reads
  pub recovers : RecoversFrom o events start new
  pub at_rest : AreSettled old → RecoversFrom o events old.clock new

-- A HISTORY of a server that was opened so, by the events of its passes: it is legal, and at each moment a stop leaves a beginning of its commits, or all of them and then the tail's. There is a tail only where the home's count of faults rose; by one worker that is told.
pub record RunsOn (o : Opened) (workers : ℕ) (home : Passage) (s : Status) : Type 0 where
  pub history : List Event
  pub legal : IsLegal o history
  pub front : List Event
  pub later : List Event
  pub parts : history ≡ front ++ later
  pub none : commits_of later ≡ 0
  pub tail : List Event
  pub is_tail : IsTail o front tail
  pub risen : tail ≢ [] → HasRisen home.before home.after
  pub alone : workers ≡ 1 → tail ≢ [] → s ≡ status.DiskFault
  pub keeps : IsTrue home.tells → KeepsCommits o (front ++ tail) home.old home.new

-- A RUN: the world that the home's files held, and a history from there on
pub record Run (terms : PlayTerms) (home : Passage) (s : Status) : Type 0 where
  pub world : DurableWorld
  pub held : IsTrue home.tells → Holds home.old world
  pub on : RunsOn (opened_with terms world) terms.workers home s

-- nothing was written to the store, or what a run did
abbrev pub Keeps : PlayTerms → Passage → Status → Type 0
Keeps terms home s = (IsTrue home.tells → OnlyReads home.old home.new) ⊎ Run terms home s

-- A RUN OF A SCRIPT: the events of its history that are no claims, commits and releases are a first part of what the main pass enters for the script, whose first phase has no lines. The main pass is numbered behind the workers.
pub record RunOf (terms : PlayTerms) (home : Passage) (s : Status) (script : List (List Line)) : Type 0 where
  pub run : Run terms home s
  pub begun : IsFirstPart terms.workers ([] ∷ script) (scripted_of run.on.history)

-- nothing was written to the store, or what a run of the script did
abbrev pub KeepsScript : PlayTerms → Passage → Status → List (List Line) → Type 0
KeepsScript terms home s script = (IsTrue home.tells → OnlyReads home.old home.new) ⊎ RunOf terms home s script

-- the source was read to its end as a script, and then a run of it was made
pub record IsReadAndRun (terms : PlayTerms) (home : Passage) (s : Status) (left left' : Option (List ℕ)) : Type 0 where
  pub script : List (List Line)
  pub read : IsReadScript left left' script
  pub played : RunOf terms home s script

-- nothing was written to the store, or what a run of the script did that was read
abbrev pub KeepsReadScript : PlayTerms → Passage → Status → Option (List ℕ) → Option (List ℕ) → Type 0
KeepsReadScript terms home s left left' = (IsTrue home.tells → OnlyReads home.old home.new) ⊎ IsReadAndRun terms home s left left'

-- the home's files hold no world: neither a store nor no store yet
abbrev pub HoldsNone : DiskHistory → Type 0
HoldsNone old = (d : DurableWorld) → Holds old d → ⊥

-- the epoch that a store is opened with: where there is none yet it is made with 0, and one of the older format is written anew under the next
abbrev pub IsOpenedEpoch : Standing → ℕ → Type 0
IsOpenedEpoch NoStore first = first ≡ 0
IsOpenedEpoch (StandsOn side header) first = (header.format ≡ 2 → first ≡ header.epoch) × (header.format ≡ 1 → first ≡ header.epoch + 1)
IsOpenedEpoch (NoneStands side at) first = ⊥

-- one more than the epoch that the store was opened with; or the image of this world would be too long, or that epoch is the last, and it is the same
abbrev pub IsNextEpoch : DurableWorld → ℕ → ℕ → Type 0
IsNextEpoch d first epoch = (epoch ≡ first + 1) ⊎ ((epoch ≡ first) × (2 ^ 32 ≤ length (image_spelling (world_lists d)))) ⊎ ((epoch ≡ first) × (epoch + 1 ≡ NUMBERS_END))

-- THE STORE IS WRITTEN ANEW, with this world: a store stands whose epoch is the next, or may be the same
pub record IsWrittenAnew (old new : DiskHistory) (d : DurableWorld) : Type 0 where
  pub first : ℕ
  pub opened : IsOpenedEpoch (standing (bytes_of old Zero) (bytes_of old One)) first
  pub side : Side
  pub header : StoreHeader
  pub stands : standing (bytes_of new Zero) (bytes_of new One) ≡ StandsOn side header
  pub epoch : IsNextEpoch d first header.epoch

-- the store stands with this world: it is what both files read, and what each image recovers to
pub record IsStanding (new : DiskHistory) (d : DurableWorld) : Type 0 where
  pub reads : Holds new d
  pub images : AllRecover (IsWorld d) new new.clock

-- A RUN THAT IS TOLD: the text is the transcript of the script in the order that the text itself tells, on the world that was held, and ends in the world after the history. One worker commits each run before the next is claimed. There is no tail, and the store stands with that world.
pub record IsReportedRun (terms : PlayTerms) (home : Passage) (s : Status) (script : List (List Line)) (text : List ℕ) : Type 0 where
  pub run : Run terms home s
  pub transcript : IsTranscript terms.rules (opening_of (opened_with terms run.world)) script (order_of text) text
  pub ended : transcript.end.world ≡ world_after (opened_with terms run.world) run.on.history
  pub turns : terms.workers ≡ 1 → AllByRecursion AreInTurn (order_of text)
  pub untailed : run.on.tail ≡ []
  pub stands : IsTrue home.tells → IsStanding home.new (world_after (opened_with terms run.world) run.on.history).durable
  pub anew : IsTrue home.tells → IsTrue terms.checkpoint → IsWrittenAnew home.old home.new (world_after (opened_with terms run.world) run.on.history).durable

-- a run's text went to the sink so
pub record IsWritten (W : Option (List ℕ) → Option (List ℕ) → List ℕ → Type 0) (terms : PlayTerms) (home : Passage) (s : Status) (script : List (List Line)) (contents contents' : Option (List ℕ)) : Type 0 where
  pub text : List ℕ
  pub told : IsReportedRun terms home s script text
  pub written : W contents contents' text

-- the source was read to its end as a script, and the text of its run went to the sink so
pub record IsReadAndWritten (W : Option (List ℕ) → Option (List ℕ) → List ℕ → Type 0) (terms : PlayTerms) (home : Passage) (s : Status) (left left' contents contents' : Option (List ℕ)) : Type 0 where
  pub script : List (List Line)
  pub read : IsReadScript left left' script
  pub played : IsWritten W terms home s script contents contents'

-- so many runs were claimed and committed in a run's history, and something is left to run
pub record IsSpent (terms : PlayTerms) (home : Passage) (s : Status) (granted : ℕ) : Type 0 where
  pub run : Run terms home s
  pub spent : IsBudgetSpent (opened_with terms run.world) run.on.history granted

-- the home's files held a world, of a store of the game or of none yet
abbrev pub IsOpenable : PlayTerms → Passage → Type 0
IsOpenable terms home = IsTrue home.tells → IsOurs (bytes_of home.old Zero) (bytes_of home.old One) terms.game × ((d : DurableWorld) × Holds home.old d)

-- WHY A PLAY ENDS SO: a refusal of the store by the bytes of both files; behind those a budget by what was committed, a journal or numbers by their ends
abbrev pub IsPlayEnd : PlayTerms → Passage → Status → Type 0
IsPlayEnd terms home status.Ok = IsOpenable terms home
IsPlayEnd terms home status.WriteFault = IsOpenable terms home
IsPlayEnd terms home (status.NotAStore side at) = IsTrue home.tells → Recovers (bytes_of home.old Zero) (bytes_of home.old One) (files.NotAStore side at)
IsPlayEnd terms home (status.Damaged side at) = IsTrue home.tells → IsOurs (bytes_of home.old Zero) (bytes_of home.old One) terms.game × Recovers (bytes_of home.old Zero) (bytes_of home.old One) (files.Damaged side at)
IsPlayEnd terms home (status.WrongGame found) = IsTrue home.tells → IsOfOther (bytes_of home.old Zero) (bytes_of home.old One) terms.game found
IsPlayEnd terms home (status.MigrateTooLarge n) = IsTrue home.tells → IsOurs (bytes_of home.old Zero) (bytes_of home.old One) terms.game × IsImageTooLarge (bytes_of home.old Zero) (bytes_of home.old One) n
IsPlayEnd terms home (status.MigrateEpochEnd epoch) = IsTrue home.tells → IsOurs (bytes_of home.old Zero) (bytes_of home.old One) terms.game × IsAtLastEpoch (bytes_of home.old Zero) (bytes_of home.old One) epoch
IsPlayEnd terms home (status.Budget granted) = IsOpenable terms home × IsSpent terms home (status.Budget granted) granted
IsPlayEnd terms home (status.JournalFull n) = IsOpenable terms home × (2 ^ 40 < n)
IsPlayEnd terms home (status.Exhausted next) = IsOpenable terms home × (next ≡ NUMBERS_END)
IsPlayEnd terms home status.Usage = ⊥
IsPlayEnd terms home status.NetFault = ⊥
IsPlayEnd terms home status.NoMemory = Unit {0}
IsPlayEnd terms home status.DiskFault = Unit {0}
IsPlayEnd terms home status.ReadFault = Unit {0}
IsPlayEnd terms home (status.BadScript line) = Unit {0}

-- the home's files hold this world of this game's store, or of none yet, which may be opened
pub record MayOpen (terms : PlayTerms) (old : DiskHistory) (d : DurableWorld) : Type 0 where
  pub held : Holds old d
  pub ours : IsOurs (bytes_of old Zero) (bytes_of old One) terms.game
  pub anew : MayBeAnew (bytes_of old Zero) (bytes_of old One) d
