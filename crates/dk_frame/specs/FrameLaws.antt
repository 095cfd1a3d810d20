-- What follows from the definition of frames.
use Rattle.std.specs.Prelude.{◌≡◌, ℕ, List, ◌++◌}
use Rattle.dk_types.specs.Exact.{IsPrefixFree}
use Rattle.dk_model.specs.Frames.{Frame, IsFrame, frame_spelling, IsOut, out_spelling, Following, Bad, Fault, IsStream}

-- no frame's spelling begins another's
abbrev pub OneSpelling : Type 0
OneSpelling = IsPrefixFree IsFrame frame_spelling

-- the same of the server's frames
abbrev pub OneSpellingOut : Type 0
OneSpellingOut = IsPrefixFree IsOut out_spelling

-- the frames of a stream and what follows them are determined
abbrev pub OneReading : Type 0
OneReading = (stream : List ℕ) (frames others : List Frame) (next other : Following) → IsStream stream frames next → IsStream stream others other → (frames ≡ others) × (next ≡ other)

-- what a stream begins with, its longer streams begin with
abbrev pub LongerStream : Type 0
LongerStream = (stream more : List ℕ) (frames longer : List Frame) (next after : Following) → IsStream stream frames next → IsStream (stream ++ more) longer after → (later : List Frame) × (longer ≡ frames ++ later)

-- a bad frame is never followed by another
abbrev pub FaultsLast : Type 0
FaultsLast = (stream more : List ℕ) (frames : List Frame) (at : ℕ) (fault : Fault) → IsStream stream frames (Bad at fault) → IsStream (stream ++ more) frames (Bad at fault)
