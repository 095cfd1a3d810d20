-- When the journal of a host is full.
use Rattle.std.specs.Prelude.{◌≡◌, ℕ, ◌+◌, min, List, [], ◌∷◌, length}
use Rattle.dk_types.specs.Faults.{COUNT_END}
use Rattle.dk_types.specs.declared.durable.Entry.{Entry}
use Rattle.dk_types.specs.declared.event.Event.{Event}
use Rattle.dk_model.specs.DurableWorlds.{DurableWorld}
use Rattle.dk_model.specs.Entries.{entries_spelling}
use Rattle.dk_model.specs.Legal.{Opened, world_after}
use Rattle.dk_model.specs.Stores.{StoreHeader, end_of, header_spelling}
use Rattle.dk_commit_log.specs.Logs.{HasLog}
use Rattle.dk_txn.specs.declared.finished.Finished.{Finished}
use Rattle.dk_core.specs.declared.claimed.Claimed.{Claimed}
use Rattle.dk_core.specs.declared.prepared.Prepared.{Prepared}
use Rattle.dk_host.specs.declared.refused.Why.{Why}
use Rattle.dk_host.specs.declared.refused.Why.TheVariants as why
use Rattle.dk_host.specs.Logs.{AreOfCommits}
use Rattle.dk_host.specs.Stores.{IsNextCommit}

-- the entry of a run whose commit comes next
abbrev pub next_entry : Opened → List Event → Claimed → Finished → Entry
next_entry o front claimed f = record { seq = (world_after o front).durable.commits + 1; run = claimed.run; effects = f.effects }

-- THE JOURNAL IS FULL: it has a log that leads to the durable world at this front, and with the record of this run behind its payloads it would have this length
pub record IsFullAt (o : Opened) (front : List Event) (claimed : Claimed) (f : Finished) (n : ℕ) : Type 0 where
  pub header : StoreHeader
  pub payloads : List (List ℕ)
  pub first : DurableWorld
  pub entries : List Entry
  pub log : HasLog header payloads (world_after o front).durable first entries
  pub of_commits : AreOfCommits o front entries
  pub would_be : n ≡ min (end_of (header_spelling header) payloads + 1 + (5 + length (entries_spelling (next_entry o front claimed f ∷ [])))) COUNT_END

-- so it is for whatever run this was prepared
abbrev pub IsFullFor : Opened → List Event → Prepared → ℕ → Type 0
IsFullFor o front p n = (claimed : Claimed) (f : Finished) → IsNextCommit o front claimed f p → IsFullAt o front claimed f n

-- where this is told of a commit that was refused
abbrev pub IsFullBy : Opened → List Event → Claimed → Finished → Why → Type 0
IsFullBy o front claimed f (why.Stopped faults) = Unit {0}
IsFullBy o front claimed f (why.Retry item found now) = Unit {0}
IsFullBy o front claimed f (why.JournalFull n) = IsFullAt o front claimed f n
IsFullBy o front claimed f why.DiskFault = Unit {0}
IsFullBy o front claimed f why.NoMemory = Unit {0}
