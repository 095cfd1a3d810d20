use Rattle.std.proofs.Common.{◌≡◌, ◌-◌, ℕ, List, length, IsTrue}
use Rattle.dk_disk.specs.Opening.{IsOpen}
use Rattle.dk_disk.specs.DiskHistories.{now}
use Rattle.dk_model.specs.Recovered.{HasWorld}
use Rattle.dk_model.specs.Stores.{StoreHeader, header_spelling}
use Rattle.dk_model.specs.Validity.{IsValid}
use Rattle.dk_journal.specs.Moments.{Looks}
use Rattle.dk_journal.specs.Scanning.{IsScanned}
use Rattle.dk_journal.specs.Windows.{IsWindowOf}
use Rattle.dk_recover.proofs.records.read_records.Given as goal

-- the records that were read so far have the world so far
abbrev pub invariant-records : goal.invariant-records
invariant-records g l = record {
  is_open : IsOpen (g.M.Home.opening l.home);
  opening : g.M.Home.opening l.home ≡ g.M.Home.opening l.fn.home;
  whole : IsTrue g.M.Home.tells → l.scan.end ≡ length (now (g.M.Home.past l.home) l.scan.side).reads;
  window : IsTrue g.M.Home.tells → IsWindowOf l.window (now (g.M.Home.past l.home) l.scan.side).reads;
  valid : IsValid l.world;
  side : l.scan.side ≡ l.fn.scan.side;
  header : (l.scan.epoch ≡ l.fn.scan.epoch) × (l.scan.format ≡ l.fn.scan.format);
  looks : IsTrue g.M.Home.tells → Looks (g.M.Home.past l.fn.home) (g.M.Home.past l.home);
  counted : g.M.Home.counted l.home ≡ g.M.Home.counted l.fn.home;
  goes : IsTrue g.M.Home.tells → (header : StoreHeader) (done : List (List ℕ)) → header.format ≡ l.format → IsScanned (now (g.M.Home.past l.fn.home) l.fn.scan.side).reads (header_spelling header) done l.fn.scan.at l.fn.scan.end → HasWorld header done l.fn.world
      → (so_far : List (List ℕ)) × IsScanned (now (g.M.Home.past l.fn.home) l.fn.scan.side).reads (header_spelling header) so_far l.scan.at l.scan.end × HasWorld header so_far l.world;
}

abbrev pub decreases-records : goal.decreases-records
decreases-records g l = l.scan.end - l.scan.at
