-- A decoder behind the frames that it read.
use Rattle.std.specs.Prelude.{◌≡◌, ℕ, ◌+◌, ◌-◌, ◌≤◌, List, ◌++◌, length, drop, option_map}
use Rattle.dk_model.specs.Frames.{Stage}
use Rattle.dk_frame.specs.declared.frames.Frames.{Frames}
use Rattle.dk_frame.specs.Meanings.{fault_of, stage_of}
use Rattle.dk_frame.specs.Fronts.{IsRead}
use Rattle.dk_frame.specs.Decoding.{Decoding, kept, passed}

-- behind what was read of what it held and of this piece
abbrev pub behind : Decoding → List ℕ → Frames → Decoding
behind d piece read = passed (record { fed = d.fed + length piece; at = d.at; stage = d.stage; held = d.held ++ piece; fault = d.fault }) read.taken (stage_of read.stage) (option_map fault_of read.fault)

-- behind what was read, where so many bytes of what it holds were
abbrev pub gone_on : Decoding → ℕ → Frames → Decoding
gone_on d n read = record {
  fed = d.fed;
  at = d.at + read.taken;
  stage = stage_of read.stage;
  held = kept (stage_of read.stage) (option_map fault_of read.fault) (drop n d.held);
  fault = option_map fault_of read.fault;
}

-- the frames of what was held and of what came later were read, and what follows them is held behind what was
pub record IsReadBehind (start : Stage) (held later new : List ℕ) (read : Frames) : Type 0 where
  pub is_read : IsRead start (held ++ later) read
  pub whole : length held ≤ read.taken
  pub now : new ≡ held ++ drop (read.taken - length held) later
