-- What the store behind the commit lock keeps.
use Rattle.std.specs.Prelude.{◌≡◌, ℕ, ◌<◌, ◌≤◌, ◌^◌, Bool, IsTrue, List, [], ◌∷◌, ◌++◌, length, Option, None, Some, Result, Ok, Err}
use Rattle.dk_types.specs.Faults.{HasRisen}
use Rattle.dk_types.specs.declared.durable.Entry.{Entry}
use Rattle.dk_types.specs.declared.event.Event.{Event}
use Rattle.dk_types.specs.declared.event.Event.TheVariants as event
use Rattle.dk_types.specs.declared.limits.TheConstants.{NUMBERS_END}
use Rattle.dk_types.specs.declared.side.Side.{Side}
use Rattle.dk_types.specs.declared.side.Side.TheVariants.{Zero, One}
use Rattle.dk_disk.specs.DiskHistories.{DiskHistory, now}
use Rattle.dk_disk.specs.Opening.{Opening, IsOpen}
use Rattle.dk_model.specs.DurableWorlds.{DurableWorld}
use Rattle.dk_model.specs.Effects.{after}
use Rattle.dk_model.specs.Entries.{AreEntries, entries_spelling}
use Rattle.dk_model.specs.Lawful.{AreLawful}
use Rattle.dk_model.specs.Legal.{Opened, opening_of, IsLegal, commits_of, world_after}
use Rattle.dk_model.specs.Recovered.{IsNext}
use Rattle.dk_model.specs.Retries.{IsFirstStale}
use Rattle.dk_model.specs.Stores.{StoreHeader, StandsOn, standing}
use Rattle.dk_model.specs.Tails.{MayCommit, IsTail, IsAfterSomeOrTail}
use Rattle.dk_journal.specs.declared.journal.Journal.{Journal}
use Rattle.dk_journal.specs.declared.refused.JournalRefused.{JournalRefused}
use Rattle.dk_journal.specs.declared.refused.JournalRefused.TheVariants as journal_refused
use Rattle.dk_journal.specs.Recoveries.{AllRecover, RecoverSince, HeldNeverFalls, IsWorld}
use Rattle.dk_journal.specs.Stores.{HasStore, AreSettled}
use Rattle.dk_commit_log.specs.Logs.{HasLog}
use Rattle.dk_txn.specs.declared.finished.Finished.{Finished}
use Rattle.dk_core.specs.declared.claimed.Claimed.{Claimed}
use Rattle.dk_core.specs.declared.prepared.Prepared.{Prepared}
use Rattle.dk_core.specs.declared.answers.PrepareRefused.{PrepareRefused}
use Rattle.dk_core.specs.declared.answers.PrepareRefused.TheVariants as prepare_refused
use Rattle.dk_core.specs.Changes.{stale_of}
use Rattle.dk_core.specs.Rooms.{places_of}
use Rattle.dk_turn.specs.Fronts.{Watched}
use Rattle.dk_host.specs.declared.prepared.PreparedCommit.{PreparedCommit}
use Rattle.dk_host.specs.Commits.{IsPreparedAt}
use Rattle.dk_host.specs.Logs.{AreOfCommits}
use Rattle.dk_host.specs.Steps.{TellsStep}

-- what contracts see of a store: its watcher, the record that waits, how much room is kept, the kept count of faults where it is stopped, the home's count, and the journal's length and epoch
pub record Stored : Type 0 where
  pub watcher : Watched Event
  pub waiting : Option Prepared
  pub room : ℕ
  pub faults : Option ℕ
  pub counted : ℕ
  pub journal_length : ℕ
  pub epoch : ℕ

-- a store by its parts
abbrev pub stored : Watched Event → Option Prepared → ℕ → Option ℕ → ℕ → Journal → Stored
stored watcher waiting room faults counted journal = record { watcher = watcher; waiting = waiting; room = room; faults = faults; counted = counted; journal_length = journal.length; epoch = journal.epoch }

-- the commit of a prepared run, as the event that it is
abbrev pub commit_of : Claimed → Finished → Prepared → Event
commit_of c f p = event.Commit c.pass c.run p.entry.seq f.outcome

-- THE NEXT COMMIT: after these events all is prepared for it. It may happen there, and leads to the world of its entry, which comes next in the journal and has a spelling that a record can hold
pub record IsNextCommit (o : Opened) (events : List Event) (claimed : Claimed) (f : Finished) (p : Prepared) : Type 0 where
  pub prepared : IsPreparedAt o events claimed f p
  pub tells : TellsStep o events claimed f
  pub may : MayCommit o events (commit_of claimed f p)
  pub world : (world_after o (events ++ commit_of claimed f p ∷ [])).durable ≡ after p.entry (world_after o events).durable
  pub next : IsNext (world_after o events).durable p.entry
  pub spelled : AreEntries 2 (p.entry ∷ [])
  pub short : length (entries_spelling (p.entry ∷ [])) < 2 ^ 32

-- the commit of this run comes next, its room is kept, and it is the history's tail
pub record WaitsFor (o : Opened) (events : List Event) (places : ℕ) (claimed : Claimed) (f : Finished) (p : Prepared) (tail : List Event) : Type 0 where
  pub next : IsNextCommit o events claimed f p
  pub kept : places ≡ places_of f.effects
  pub is_tail : tail ≡ commit_of claimed f p ∷ []

-- the tail is that of the record that waits; there is none where none waits
abbrev pub Waits : Opened → List Event → ℕ → Option Prepared → List Event → Type 0
Waits o events places None tail = tail ≡ []
Waits o events places (Some p) tail = (claimed : Claimed) × ((f : Finished) × WaitsFor o events places claimed f p tail)

-- Since the files had this past, what was stays; each image recovers to the world after some first commits, or after all of them and then the tail's; and what is held does not fall.
pub record HasRecovered (o : Opened) (began past : DiskHistory) (events tail : List Event) : Type 0 where
  pub begun : began.clock ≤ past.clock
  pub kept : (t : ℕ) (side : Side) → t ≤ began.clock → past.disks t side ≡ began.disks t side
  pub recovers : RecoverSince (IsAfterSomeOrTail o events tail) began.clock past
  pub held : HeldNeverFalls began.clock past

-- this game's store stands on the home's files, the journal on its side, and has this world
pub record HoldsNow (past : DiskHistory) (game : List ℕ) (journal : Journal) (d : DurableWorld) : Type 0 where
  pub header : StoreHeader
  pub payloads : List (List ℕ)
  pub ours : header.game ≡ game
  pub store : HasStore past journal.side journal header payloads d

-- the store that stands has the world after these events, behind a log of entries: each that is numbered behind the opened world's commits is of one of these events. It begins with as many commits as are known
pub record HoldsLog (o : Opened) (events : List Event) (past : DiskHistory) (game : List ℕ) (journal : Journal) (base : Option ℕ) : Type 0 where
  pub stands : HoldsNow past game journal (world_after o events).durable
  pub first : DurableWorld
  pub entries : List Entry
  pub log : HasLog stands.header stands.payloads (world_after o events).durable first entries
  pub known : (n : ℕ) → base ≡ Some n → first.commits ≡ n
  pub of_commits : AreOfCommits o events entries

-- the journal stands on this side, and its epoch is no less than the one that the store was opened with, which is this number; and no more commits come before its entries than there are numbers
pub record IsKeptOn (side : Side) (journal : Journal) (base : Option ℕ) (begun first : ℕ) : Type 0 where
  pub here : journal.side ≡ side
  pub same : first ≡ begun
  pub later : begun ≤ journal.epoch
  pub most : (n : ℕ) → base ≡ Some n → n ≤ NUMBERS_END

-- a fault was counted since the count was so much
abbrev pub HasRisenSince : ℕ → ℕ → Type 0
HasRisenSince begun now = (before : ℕ) × ((begun ≤ before) × HasRisen before now)

-- the home's count of faults, which was so much as the host was opened: it did not fall, and where the store is stopped it rose
abbrev pub CountsOn : ℕ → Option ℕ → ℕ → Type 0
CountsOn begun None now = begun ≤ now
CountsOn begun (Some n) now = HasRisenSince begun now

-- the home is the one that was handed in: how it was opened stays, and its faults are counted on
pub record IsSameHome (begun : ℕ) (was : Opening) (faults : Option ℕ) (now : ℕ) (opening : Opening) : Type 0 where
  pub counts : CountsOn begun faults now
  pub same : opening ≡ was

-- What the store keeps: its right counts the commits that its watcher has seen; at every moment since its files had this past what a stop leaves recovers to a beginning; and unless it is stopped
-- the files now recover to the world after all that the watcher has seen, followed by the record that waits
pub record IsStored (o : Opened) (began : DiskHistory) (tells : Bool) (past : DiskHistory) (opening : Opening) (game : List ℕ) (journal : Journal) (base : Option ℕ) (front : List Event) (commits places : ℕ) (waiting : Option Prepared) (faults : Option ℕ) : Type 0 where
  pub lawful : AreLawful o.rules
  pub legal : IsLegal o front
  pub counted : commits ≡ commits_of front
  pub is_open : IsOpen opening
  pub format : journal.format ≡ 2
  pub tail : List Event
  pub waits : Waits o front places waiting tail
  pub since : IsTrue tells → HasRecovered o began past front tail
  pub holds : IsTrue tells → faults ≡ None → HoldsLog o (front ++ tail) past game journal base

-- what a prepare of the store finds: the commit comes next, and its room is kept; or the first stale read
abbrev pub FindsNext : Opened → List Event → Claimed → Finished → ℕ → Result PreparedCommit PrepareRefused → Type 0
FindsNext o events claimed f room (Ok c) = IsNextCommit o events claimed f c.prepared × (room ≡ places_of f.effects)
FindsNext o events claimed f room (Err (prepare_refused.Retry changed)) = IsFirstStale o.rules (opening_of o) events f.reads.items (stale_of changed)
FindsNext o events claimed f room (Err prepare_refused.NoMemory) = Unit {0}

-- the same of what a look finds, before its record is spelled
abbrev pub LooksNext : Opened → List Event → Claimed → Finished → ℕ → Result Prepared PrepareRefused → Type 0
LooksNext o events claimed f room (Ok p) = IsNextCommit o events claimed f p × (room ≡ places_of f.effects)
LooksNext o events claimed f room (Err (prepare_refused.Retry changed)) = IsFirstStale o.rules (opening_of o) events f.reads.items (stale_of changed)
LooksNext o events claimed f room (Err prepare_refused.NoMemory) = Unit {0}

-- the commit of some run comes next, and its room is kept
abbrev pub IsReady : Opened → Stored → Prepared → Type 0
IsReady o s p = (claimed : Claimed) × ((f : Finished) × (IsNextCommit o s.watcher.front claimed f p × (s.room ≡ places_of f.effects)))

-- the record of this run's commit waits
abbrev pub WaitsOf : Opened → Stored → Claimed → Finished → Type 0
WaitsOf o s claimed f = (p : Prepared) × ((s.waiting ≡ Some p) × (IsNextCommit o s.watcher.front claimed f p × (s.room ≡ places_of f.effects)))

-- what an append leaves: at Ok the record waits; a full journal changes nothing; a fault of the disk stops the store, with its count
abbrev pub Appends : Stored → Stored → Prepared → Result (Unit {0}) JournalRefused → Type 0
Appends old new p (Ok done) = (new.waiting ≡ Some p) × (new.faults ≡ None) × (new.counted ≡ old.counted)
Appends old new p (Err journal_refused.DiskFault) = (new.faults ≡ Some new.counted) × HasRisen old.counted new.counted
Appends old new p (Err (journal_refused.Full n)) = new ≡ old
Appends old new p (Err (journal_refused.NotAStore at)) = ⊥
Appends old new p (Err (journal_refused.Damaged at)) = ⊥
Appends old new p (Err journal_refused.NoMemory) = ⊥

-- what waits after an append, and the kept count where the disk failed
abbrev pub waiting_after : Result (Unit {0}) JournalRefused → Prepared → Option Prepared
waiting_after (Ok done) p = Some p
waiting_after (Err journal_refused.DiskFault) p = Some p
waiting_after (Err (journal_refused.Full n)) p = None
waiting_after (Err (journal_refused.NotAStore at)) p = None
waiting_after (Err (journal_refused.Damaged at)) p = None
waiting_after (Err journal_refused.NoMemory) p = None

-- the home's count of faults, where the append stopped the store
abbrev pub faults_after : Result (Unit {0}) JournalRefused → ℕ → Option ℕ
faults_after (Ok done) n = None
faults_after (Err journal_refused.DiskFault) n = Some n
faults_after (Err (journal_refused.Full m)) n = None
faults_after (Err (journal_refused.NotAStore at)) n = None
faults_after (Err (journal_refused.Damaged at)) n = None
faults_after (Err journal_refused.NoMemory) n = None

-- nothing is pending on either file, and by the table a store of this epoch stands
pub record StandsAs (past : DiskHistory) (epoch : ℕ) : Type 0 where
  pub side : Side
  pub header : StoreHeader
  pub table : standing (now past Zero).reads (now past One).reads ≡ StandsOn side header
  pub counted : epoch ≡ header.epoch
  pub rests : AreSettled past

-- HOW A HOST ENDS: at every moment since its files had this past what a stop leaves recovers to the world after some first commits of the history, or after all of them and then the tail's, and what
-- is held does not fall. Unless the store was stopped there is no tail, the files now recover to the world after all events, and the store that stands has this epoch. No commit came since the tail was looked for
pub record EndsAs (o : Opened) (began past : DiskHistory) (events : List Event) (faults : Option ℕ) (epoch : ℕ) : Type 0 where
  pub front : List Event
  pub later : List Event
  pub tail : List Event
  pub all : events ≡ front ++ later
  pub none : commits_of later ≡ 0
  pub is_tail : IsTail o front tail
  pub whole : faults ≡ None → tail ≡ []
  pub since : HasRecovered o began past front tail
  pub now : faults ≡ None → AllRecover (IsWorld (world_after o events).durable) past past.clock
  pub stands : faults ≡ None → StandsAs past epoch
