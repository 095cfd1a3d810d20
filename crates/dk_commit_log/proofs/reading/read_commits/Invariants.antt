use Rattle.std.proofs.Common.{◌-◌, ◌≡◌, ◌<◌, length, IsTrue}
use Rattle.dk_disk.specs.Disk.{settled}
use Rattle.dk_disk.specs.DiskHistories.{now}
use Rattle.dk_journal.specs.Moments.{Looks}
use Rattle.dk_commit_log.proofs.Walks.{Walk}
use Rattle.dk_commit_log.proofs.reading.read_commits.Given as goal

-- what came by is numbered, and what is left is that of the file, which stays as it was
abbrev pub invariant-records : goal.invariant-records
invariant-records g l = record {
  range : (l.found.after ≡ l.fn.after) × (l.found.last ≡ l.fn.last);
  order : l.fn.after < l.fn.last;
  opening : g.M.Home.opening l.home ≡ g.M.Home.opening l.fn.home;
  counted : g.M.Home.counted l.home ≡ g.M.Home.counted l.fn.home;
  looks : IsTrue g.M.Home.tells → now (g.M.Home.past l.fn.home) l.fn.side ≡ settled (now (g.M.Home.past l.fn.home) l.fn.side).reads → Looks (g.M.Home.past l.fn.home) (g.M.Home.past l.home);
  reads : IsTrue g.M.Home.tells → (now (g.M.Home.past l.home) l.fn.side).reads ≡ (now (g.M.Home.past l.fn.home) l.fn.side).reads;
  side : IsTrue g.M.Home.tells → l.scan.side ≡ l.fn.side;
  whole : IsTrue g.M.Home.tells → l.scan.end ≡ length (now (g.M.Home.past l.fn.home) l.fn.side).reads;
  walk : Walk g.M.Home.tells (now (g.M.Home.past l.fn.home) l.fn.side).reads l.fn.before l.fn.after l.fn.last l.found.seen l.found.entries.items l.scan;
}

abbrev pub decreases-records : goal.decreases-records
decreases-records g l = l.scan.end - l.scan.at
