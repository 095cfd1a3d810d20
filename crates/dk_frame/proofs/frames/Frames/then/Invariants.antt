use Rattle.std.proofs.Common.{◌≡◌, ℕ, ◌+◌, ◌-◌, ◌≤◌, List, ◌++◌, length, map}
use Rattle.dk_model.specs.Frames.{Stage}
use Rattle.dk_frame.specs.Meanings.{frame_of, stage_of}
use Rattle.dk_frame.specs.Fronts.{AreTaken}
use Rattle.dk_frame.proofs.frames.Frames.then.Given as goal

abbrev pub invariant-frames : goal.invariant-frames
invariant-frames l =
    (l.taken ≤ length l.bytes)
    × ((start : Stage) (front : List ℕ) → AreTaken start front (map frame_of l.fn.self.frames.items) l.fn.self.taken (stage_of l.fn.self.stage) → l.fn.self.taken ≡ length front
    → AreTaken start (front ++ l.bytes) (map frame_of l.frames.items) (l.before + l.taken) (stage_of l.stage))

abbrev pub decreases-frames : goal.decreases-frames
decreases-frames l = length l.bytes - l.taken
