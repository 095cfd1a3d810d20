-- What is held is less than a frame.
use Rattle.std.proofs.Common.{ℕ, ◌+◌, ◌<◌, List, [], ◌∷◌, length, Option, Some, None, sym, ap, subst, arith}
use Rattle.dk_model.specs.Frames.{Frame, Stage, AtLogin, InSession, LoggedOut, Fault, Follows, length_most, stream_of}
use Rattle.dk_frame.specs.Decoding.{Decoding, HasDecoded, following_at, kept}
use Rattle.dk_frame.proofs.Apart.{partial_most}

-- what is kept of what follows the frames
kept_few : (stage : Stage) (n at : ℕ) (rest : List ℕ) (fault : Option Fault) → Follows stage n rest (following_at at (kept stage fault rest) fault) → length (kept stage fault rest) < 4 + length_most
kept_few AtLogin n at rest (Some fault) told = omega arith
kept_few AtLogin n at [] None told = omega arith
kept_few AtLogin n at (b ∷ rest) None told = partial_most AtLogin (b ∷ rest) told.2
kept_few InSession n at rest (Some fault) told = omega arith
kept_few InSession n at [] None told = omega arith
kept_few InSession n at (b ∷ rest) None told = partial_most InSession (b ∷ rest) told.2
kept_few LoggedOut n at rest (Some fault) told = omega arith
kept_few LoggedOut n at rest None told = omega arith

pub held_few : (d : Decoding) (stream : List ℕ) (frames : List Frame) → HasDecoded d stream frames → length d.held < 4 + length_most
held_few d stream frames s =
    let n = length (stream_of frames) in
    let told = subst (λ (stage : Stage). Follows stage n s.is.rest (following_at d.at d.held d.fault)) (sym s.stage) s.is.follows in
    let kept_told = subst (λ (held : List ℕ). Follows d.stage n s.is.rest (following_at d.at held d.fault)) s.held told in
    omega (arith, kept_few d.stage n d.at s.is.rest d.fault kept_told, ap (λ (b : List ℕ). length b) s.held)
