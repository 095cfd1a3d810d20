-- Which refusals a checkpoint has before it writes, and what an image's refusal is to it.
use Rattle.std.specs.Prelude.{⊤, Result, Ok, Err}
use Rattle.dk_image.specs.declared.refused.ImageRefused.{ImageRefused}
use Rattle.dk_image.specs.declared.refused.ImageRefused.TheVariants as image
use Rattle.dk_checkpoint.specs.declared.refused.CheckpointRefused.{CheckpointRefused}
use Rattle.dk_checkpoint.specs.declared.refused.CheckpointRefused.TheVariants.{DiskFault, TooLarge, EpochEnd, NoMemory}

-- what an image's refusal is to a checkpoint
abbrev pub refusal_of : ImageRefused → CheckpointRefused
refusal_of (image.TooLarge length) = TooLarge length
refusal_of image.NoMemory = NoMemory

-- refused before the first call on the home
abbrev pub IsEarly : CheckpointRefused → Type 0
IsEarly DiskFault = ⊥
IsEarly (TooLarge length) = ⊤
IsEarly (EpochEnd epoch) = ⊤
IsEarly NoMemory = ⊤

-- it was not
abbrev pub HasBegun : {A : Type 0} → Result A CheckpointRefused → Type 0
HasBegun (Ok made) = ⊤
HasBegun (Err DiskFault) = ⊤
HasBegun (Err (TooLarge length)) = ⊥
HasBegun (Err (EpochEnd epoch)) = ⊥
HasBegun (Err NoMemory) = ⊥
