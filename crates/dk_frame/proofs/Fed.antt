-- What a call answers of the frames that it read.
use Rattle.std.proofs.Common.{◌≡◌, ℕ, List, ◌++◌, map, None, option_map, Result, Ok, Err, IfOk, IfErr, sym, ap, subst, ◌∙◌}
use Rattle.std.proofs.lemmas.List.{append-nil}
use Rattle.dk_model.specs.Frames.{Frame, LoggedOut, Bad}
use Rattle.dk_frame.specs.declared.frame.ClientFrame.{ClientFrame}
use Rattle.dk_frame.specs.declared.frame.FrameRefused.{FrameRefused}
use Rattle.dk_frame.specs.declared.frames.Frames.{Frames}
use Rattle.dk_frame.specs.Meanings.{frame_of, fault_of, stage_of}
use Rattle.dk_frame.specs.Fronts.{IsRead, IsReportedFault}
use Rattle.dk_frame.specs.Decoding.{Decoding, HasDecoded, Refuses, following, following_at}
use Rattle.dk_frame.specs.Behind.{behind}
use Rattle.dk_frame.proofs.Standing.{stands_on}

-- with this piece, these are the next frames of whatever the decoder stands for
abbrev pub Gives : Decoding → List ℕ → Decoding → List Frame → Type 0
Gives old piece new frames = (stream : List ℕ) (given : List Frame) → HasDecoded old stream given → HasDecoded new (stream ++ piece) (given ++ frames)

-- what was read are the next frames
pub gives_read : (old : Decoding) (piece : List ℕ) (read : Frames) → old.fault ≡ None → (old.stage ≡ LoggedOut → ⊥) → IsRead old.stage (old.held ++ piece) read → Gives old piece (behind old piece read) (map frame_of read.frames.items)
gives_read old piece read fine running is stream given s =
    stands_on old stream piece given (map frame_of read.frames.items) read.taken (stage_of read.stage) (option_map fault_of read.fault) fine running is.taken is.stops s

-- so where they are answered
pub gives_answer : {V E : Type 0} (items_of : V → List ClientFrame) (result : Result V E) (items : List ClientFrame) (old : Decoding) (piece : List ℕ) (new : Decoding) → Gives old piece new (map frame_of items) → IfOk result (λ frames. items_of frames ≡ items) → IfOk result (λ frames. Gives old piece new (map frame_of (items_of frames)))
gives_answer items_of (Ok frames) items old piece new gives same = subst (λ (fs : List ClientFrame). Gives old piece new (map frame_of fs)) (sym same) gives
gives_answer items_of (Err e) items old piece new gives same = tt

-- and where the fault is
pub refuses_answer : {V : Type 0} (result : Result V FrameRefused) (read : Frames) (old : Decoding) (piece : List ℕ) (new : Decoding) (at : ℕ) → Gives old piece new (map frame_of read.frames.items) → new.at ≡ at → new.fault ≡ option_map fault_of read.fault → IfErr result (IsReportedFault read at) → IfErr result (Refuses old piece new)
refuses_answer (Ok frames) read old piece new at gives place faults told = tt
refuses_answer (Err e) read old piece new at gives place faults told = subst (Refuses old piece new) (sym told.is) (
  bad,
  λ stream given s.
      subst (λ (frames : List Frame). HasDecoded new (stream ++ piece) frames) (append-nil given) (subst (λ (items : List ClientFrame). HasDecoded new (stream ++ piece) (given ++ map frame_of items)) told.none (gives stream given s)),
)
  where
    bad : following new ≡ Bad at (fault_of told.why)
    bad = ap (following_at new.at new.held) (faults ∙ ap (option_map fault_of) told.fault) ∙ ap (λ (n : ℕ). Bad n (fault_of told.why)) place
