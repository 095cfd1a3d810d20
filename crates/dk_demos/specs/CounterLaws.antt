-- A counter is read exactly.
use Rattle.std.proofs.Common.{Option, None, refl}
use Rattle.dk_types.specs.Exact.{IsExact}
use Rattle.dk_types.proofs.Composing.{last_exact}
use Rattle.dk_types.proofs.NextLaws.{next_u64_exact}
use Rattle.dk_refs.specs.Managing.{ReadsExactly, reads_exactly}
use Rattle.dk_demos.specs.declared.counter.Counter.{Counter}
use Rattle.dk_demos.specs.Counting.{IsCounter, counter_bytes, next_counter, counter_of}

-- reading a counter takes back what its bytes say, and nothing else
pub each_counter_exact : (before : Option Counter) → IsExact IsCounter counter_bytes next_counter
unfolding next_counter
each_counter_exact before =
    last_exact (λ (c : Counter). c.count) (λ count. record { count = count }) next_u64_exact (λ c is. is.count)
    (λ count is. record { count = is }) (λ count. refl) (λ c is. refl)

-- the same for an object's whole bytes
pub counter_reads : ReadsExactly IsCounter counter_bytes counter_of
unfolding counter_of
counter_reads = reads_exactly IsCounter counter_bytes next_counter (each_counter_exact None)
