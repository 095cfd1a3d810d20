use Rattle.std.proofs.Common.{drop}
use Rattle.std.specs.List.{AllByRecursion}
use Rattle.dk_model.specs.Platforms.{records_without}
use Rattle.dk_txn.specs.Asks.{AsksOf}
use Rattle.dk_txn.specs.Does.{Resumes, SameChanges}
use Rattle.dk_channels.specs.AllMembers.{wrong_kind_of, long_record_of, FoundLater, IsOfEach, IsFoundAmong}
use Rattle.dk_channels.proofs.Drops.{with_rest}
use Rattle.dk_channels.proofs.leaving.records_without.Given as goal

-- what was left to do at first is to put the records of the members that are left behind those that were found, and what is found of all members is found of those that are left
abbrev pub invariant-loop-member : goal.invariant-loop-member
invariant-loop-member g l = record {
  leads : Resumes g.V.View.sights l.fn.txn l.txn (records_without l.name l.members) (with_rest l.name l.found.items (drop l.member-index l.members));
  asks : AsksOf (IsOfEach l.fn.txn.set l.txn.set l.members) g.V.View.sights l.fn.txn l.txn;
  same : SameChanges l.fn.txn.set l.txn.set;
  found : AllByRecursion (IsFoundAmong l.fn.txn.set l.txn.set l.members) l.found.items;
  kinds : FoundLater wrong_kind_of l.fn.txn.set l.txn.set l.members l.member-index;
  lengths : FoundLater (long_record_of l.name) l.fn.txn.set l.txn.set l.members l.member-index;
}
