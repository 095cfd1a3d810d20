-- What holds of a file and of the other holds of both.
use Rattle.std.proofs.Common.{ℕ, ◌<◌, ◌^◌, List, length, arith}
use Rattle.dk_types.specs.declared.side.Side.{Side}
use Rattle.dk_types.specs.declared.side.Side.TheVariants.{Zero, One}
use Rattle.dk_disk.specs.Step.{IsWithin, IsAddressable, step_size}
use Rattle.dk_disk.specs.declared.step.Step.{Step}
use Rattle.dk_disk.specs.declared.step.Step.TheVariants as step
use Rattle.dk_disk.specs.DiskHistories.{other_side}

pub by_side : (P : Side → Type 0) (side : Side) → P side → P (other_side side) → (s : Side) → P s
by_side P Zero this other Zero = this
by_side P Zero this other One = other
by_side P One this other Zero = other
by_side P One this other One = this

pub addressable : (step : Step) (file : List ℕ) → IsWithin step file → length file < 2 ^ 63 → step_size step < 2 ^ 63 → IsAddressable step
addressable (step.Write at bytes) file within small size = omega (arith, within, small, size)
addressable (step.Cut to) file within small size = tt
addressable step.Sync file within small size = tt
