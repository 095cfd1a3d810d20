use Rattle.dk_disk.specs.Opening.{IsOpen}
use Rattle.dk_store_file_tests.proofs.journals.count.Given as goal

abbrev pub invariant-loop-number : goal.invariant-loop-number
invariant-loop-number l = IsOpen l.home.inner.opening
