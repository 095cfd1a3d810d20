-- Readings whose faults are places.
use Rattle.std.specs.Prelude.{IfErr}
use Rattle.std.proofs.Common.{◌≢◌, ◌≡◌, ℕ, Result, Ok, Err, refl, ap}
use Rattle.dk_types.specs.declared.refused.WireRefused.{WireRefused}
use Rattle.dk_types.specs.declared.refused.WireRefused.TheVariants.{Short, Extra, BadTag, TooLong, NoMemory}
use Rattle.dk_wire.specs.declared.payload.PayloadRefused.{PayloadRefused}
use Rattle.dk_wire.specs.declared.payload.PayloadRefused.TheVariants as payload
use Rattle.dk_types.specs.Rest.{Rest}
use Rattle.dk_types.specs.Reading.{Reads}
use Rattle.dk_types.specs.Payload.{placed}
use Rattle.dk_wire.specs.Payload.{located, Gives}

-- what is told of a field that was taken is what reading gives, with its fault at the field's place
pub told_gives : {A : Type 0} (reading : Rest → Result (A × Rest) WireRefused) (old : Rest) (at : ℕ) (taken : Result A WireRefused) (new : Rest) (result : Result A PayloadRefused) → at ≡ old.at → result ≡ located at taken → Reads reading old taken new → Gives (λ r. placed r.at (reading r)) old result new
told_gives {A} reading old at taken new result same is reads = rw (is, same) (by taken reads)
  where
    by : (taken : Result A WireRefused) → Reads reading old taken new → Gives (λ r. placed r.at (reading r)) old (located old.at taken) new
    by (Ok x) reads = ap (placed old.at) reads
    by (Err NoMemory) reads = (reads.0, tt)
    by (Err (Short need have)) reads = (reads.0, ap (placed old.at) reads.1)
    by (Err (Extra at)) reads = (reads.0, ap (placed old.at) reads.1)
    by (Err (BadTag at tag)) reads = (reads.0, ap (placed old.at) reads.1)
    by (Err TooLong) reads = (reads.0, ap (placed old.at) reads.1)

-- where taking took no memory, telling takes none
pub told_memory : {A : Type 0} (at : ℕ) (taken : Result A WireRefused) (result : Result A PayloadRefused) → result ≡ located at taken → IfErr taken (λ e. e ≢ NoMemory) → IfErr result (λ e. e ≢ payload.NoMemory)
told_memory at (Ok x) result is never = rw is tt
told_memory at (Err NoMemory) result is never = absurd (never refl)
told_memory at (Err (Short need have)) result is never = rw is (λ e. cc)
told_memory at (Err (Extra place)) result is never = rw is (λ e. cc)
told_memory at (Err (BadTag place tag)) result is never = rw is (λ e. cc)
told_memory at (Err TooLong) result is never = rw is (λ e. cc)
