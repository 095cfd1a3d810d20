-- A guest is read exactly.
use Rattle.std.proofs.Common.{Option, None, refl}
use Rattle.dk_types.specs.Exact.{IsExact}
use Rattle.dk_types.proofs.Composing.{last_exact}
use Rattle.dk_types.proofs.NextLaws.{next_u64_exact}
use Rattle.dk_refs.specs.Managing.{ReadsExactly, reads_exactly}
use Rattle.dk_demos.specs.declared.guest.Guest.{Guest}
use Rattle.dk_demos.specs.Guests.{IsGuest, guest_bytes, next_guest, guest_of}

-- reading a guest takes back what its bytes say, and nothing else
pub each_guest_exact : (before : Option Guest) → IsExact IsGuest guest_bytes next_guest
unfolding next_guest
each_guest_exact before =
    last_exact (λ (g : Guest). g.visits) (λ visits. record { visits = visits }) next_u64_exact (λ g is. is.visits)
    (λ visits is. record { visits = is }) (λ visits. refl) (λ g is. refl)

-- the same for an object's whole bytes
pub guest_reads : ReadsExactly IsGuest guest_bytes guest_of
unfolding guest_of
guest_reads = reads_exactly IsGuest guest_bytes next_guest (each_guest_exact None)
