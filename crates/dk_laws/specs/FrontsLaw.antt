-- What a pass knows of the one history still holds as that history goes on.
use Rattle.std.specs.Prelude.{◌≡◌, ◌≢◌, ℕ, ◌+◌, ◌<◌, true, Some, List, ◌++◌}
use Rattle.std.specs.List.{list_any}
use Rattle.std.specs.FinMap.{get}
use mathlib.Core.List.{IsPrefix}
use Rattle.dk_types.specs.declared.number.RunNo.{RunNo}
use Rattle.dk_types.specs.declared.number.ConnNo.{ConnNo}
use Rattle.dk_types.specs.declared.item.Item.{Item}
use Rattle.dk_types.specs.declared.item.Read.{Read}
use Rattle.dk_types.specs.declared.job.Job.{Job}
use Rattle.dk_types.specs.declared.event.Event.{Event}
use Rattle.dk_model.specs.Worlds.{World, Claim}
use Rattle.dk_model.specs.Events.{Meaning}
use Rattle.dk_model.specs.Finishes.{Report, IsHonest}
use Rattle.dk_model.specs.Lawful.{AreLawful}
use Rattle.dk_model.specs.Legal.{Opened, opening_of, world_after, IsLegal, IsFront, commits_of}
use Rattle.dk_model.specs.Messages.{messages, handed}
use Rattle.dk_model.specs.Sights.{grants, seen, IsHonestRead}
pub use Rattle.dk_model.specs.Retries.{StandAt}
use Rattle.dk_model.specs.Successors.{after_events}

-- what a legal history begins with is legal
abbrev pub FrontsAreLegal : Type 0
FrontsAreLegal = (o : Opened) (front later : List Event) → IsLegal o (front ++ later) → IsLegal o front

-- a claim that stands at its pass's front stands wherever the history goes on without that pass
abbrev pub ClaimsStandOn : Type 0
ClaimsStandOn =
    (o : Opened) (front log : List Event) (run : RunNo) (claim : Claim) → IsFront claim.pass front log → IsLegal o log
    → get (world_after o front).claims run ≡ Some claim → get (world_after o log).claims run ≡ Some claim

-- an honest run stays honest as the history goes on
abbrev pub HonestRunsStayHonest : Type 0
HonestRunsStayHonest =
    (rules : Meaning) (w : World) (front later : List Event) (job : Job) (run : RunNo) (at : ℕ) (reads : List (Item × Read)) (told : Report)
    → IsHonest rules w front job run at reads told → IsHonest rules w (front ++ later) job run at reads told

-- the number of commits is that of the opening and one for each Commit
abbrev pub CommitsAreCounted : Type 0
CommitsAreCounted = (o : Opened) (events : List Event) → AreLawful o.rules → IsLegal o events → (world_after o events).durable.commits ≡ o.durable.commits + commits_of events

-- what is read is the same: the durable world, and what each item is seen as
pub record IsReadAlike (rules : Meaning) (w : World) (before after : List Event) : Type 0 where
  pub durable : (after_events rules w after).durable ≡ (after_events rules w before).durable
  pub seen : (item : Item) → seen rules w after item ≡ seen rules w before item

-- what is read changes at commits alone
abbrev pub CommitsAloneChange : Type 0
CommitsAloneChange = (rules : Meaning) (w : World) (before more : List Event) → AreLawful rules → commits_of more ≡ 0 → IsReadAlike rules w before (before ++ more)

-- a run that was found valid is valid still where no commit came, and its commit has the same number
abbrev pub ValidRunsStayValid : Type 0
ValidRunsStayValid =
    (rules : Meaning) (w : World) (before more : List Event) (reads : List (Item × Read)) → AreLawful rules → commits_of more ≡ 0 → StandAt rules w before reads
    → StandAt rules w (before ++ more) reads × ((after_events rules w (before ++ more)).durable.commits ≡ (after_events rules w before).durable.commits)

-- after the claim of the run there is a commit
pub record HasCommitSince (run : RunNo) (events : List Event) : Type 0 where
  pub earlier : List Event
  pub later : List Event
  pub all : events ≡ earlier ++ later
  pub granted : list_any (grants run) earlier ≡ true
  pub commit : 0 < commits_of later

-- where an honest read no longer stands, there was a commit since the claim
abbrev pub ChangesTellOfCommits : Type 0
ChangesTellOfCommits =
    (rules : Meaning) (w : World) (events : List Event) (run : RunNo) (item : Item) (read : Read) → AreLawful rules → IsHonestRead rules w events run item read
    → read.seen ≢ seen rules w events item → HasCommitSince run events

-- what was handed to a connection is a beginning of what the commits sent to it
abbrev pub HandedFromTheFirst : Type 0
HandedFromTheFirst = (o : Opened) (events : List Event) (conn : ConnNo) → IsLegal o events → IsPrefix (handed events conn) (messages o.rules (opening_of o) events conn)
