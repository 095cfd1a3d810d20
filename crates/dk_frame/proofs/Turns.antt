-- Frames one behind another.
use Rattle.std.proofs.Common.{◌≡◌, ℕ, ◌+◌, ◌≤◌, List, [], ◌∷◌, ◌++◌, length, drop, map, Some, None, option_map, refl, sym, ap, subst, ◌∙◌, append_assoc, length-append, arith}
use Rattle.std.proofs.lemmas.List.{drop_at, drop-drop, length-drop, append-nil}
use Rattle.std.proofs.lemmas.List.Concat.{flat_map-append}
use Rattle.dk_model.specs.Frames.{Frame, Stage, AtLogin, InSession, LoggedOut, MayCome, AreInTurn, IsPartial, IsBad, Fault, stage_behind, stage_after, stream_of, opcode_of, frame_spelling}
use Rattle.dk_frame.specs.declared.frames.Frames.{Frames}
use Rattle.dk_frame.specs.Meanings.{frame_of, fault_of, stage_of}
use Rattle.dk_frame.specs.Fronts.{IsWhole, AreTaken, Stops, IsReadOn}

-- frames in turn, and then others from where these left off
pub AreInTurn-append : (stage : Stage) (frames later : List Frame) → AreInTurn stage frames → AreInTurn (stage_after stage frames) later → AreInTurn stage (frames ++ later)
AreInTurn-append stage [] later are more = more
AreInTurn-append stage (f ∷ frames) later are more = (are.0, are.1, AreInTurn-append (stage_behind f) frames later are.2 more)

-- the stage behind both
pub stage_after-append : (stage : Stage) (frames later : List Frame) → stage_after stage (frames ++ later) ≡ stage_after (stage_after stage frames) later
stage_after-append stage [] later = refl
stage_after-append stage (f ∷ frames) later = stage_after-append (stage_behind f) frames later

-- the bytes of both
pub stream_of-append : (frames later : List Frame) → stream_of (frames ++ later) ≡ stream_of frames ++ stream_of later
stream_of-append frames later = flat_map-append frame_spelling frames later

-- the bytes of one frame
pub stream_of-one : (f : Frame) → stream_of (f ∷ []) ≡ frame_spelling f
stream_of-one f = append-nil (frame_spelling f)

-- one more frame is taken
pub taken_more : (start stage : Stage) (bytes : List ℕ) (frames : List Frame) (taken more : ℕ) (f : Frame) → AreTaken start bytes frames taken stage → IsWhole stage (drop taken bytes) f more → AreTaken start bytes (frames ++ f ∷ []) (taken + more) (stage_behind f)
taken_more start stage bytes frames taken more f are whole =
    let tail = drop more (drop taken bytes) in
    let own = frame_spelling f in
    let all : stream_of (frames ++ f ∷ []) ≡ stream_of frames ++ own = stream_of-append frames (f ∷ []) ∙ ap (λ (b : List ℕ). stream_of frames ++ b) (stream_of-one f) in
    let parted : bytes ≡ stream_of (frames ++ f ∷ []) ++ tail =
    are.parts ∙ ap (λ (b : List ℕ). stream_of frames ++ b) whole.parts ∙ sym (append_assoc (stream_of frames) own tail) ∙ ap (λ (b : List ℕ). b ++ tail) (sym all) in
    let size : length (stream_of (frames ++ f ∷ [])) ≡ taken + more = ap (λ (b : List ℕ). length b) all ∙ omega (arith, length-append (stream_of frames) own, are.takes, whole.takes) in
    let cut : drop (taken + more) bytes ≡ tail = ap (drop (taken + more)) parted ∙ drop_at (stream_of (frames ++ f ∷ [])) tail (taken + more) size in
    let may : MayCome (stage_after start frames) (opcode_of f) = subst (λ (s : Stage). MayCome s (opcode_of f)) are.comes_to whole.may_come in
    record {
      in_turn = AreInTurn-append start frames (f ∷ []) are.in_turn (may, whole.is_frame, tt);
      comes_to = sym (stage_after-append start frames (f ∷ []));
      parts = parted ∙ ap (λ (b : List ℕ). stream_of (frames ++ f ∷ []) ++ b) (sym cut);
      takes = sym size;
      within = omega (arith, size, ap (λ (b : List ℕ). length b) parted, length-append (stream_of (frames ++ f ∷ [])) tail);
    }

-- what stands behind so many of the bytes that follow others
pub drop_behind : (front bytes : List ℕ) (n k : ℕ) → n ≡ length front → drop (n + k) (front ++ bytes) ≡ drop k bytes
drop_behind front bytes n k all = sym (drop-drop k n (front ++ bytes)) ∙ ap (drop k) (drop_at front bytes n (sym all))

-- a frame at the front of what stands there takes no more than there is
pub whole_within : (stage : Stage) (bytes : List ℕ) (f : Frame) (at more : ℕ) → at ≤ length bytes → IsWhole stage (drop at bytes) f more → at + more ≤ length bytes
whole_within stage bytes f at more within whole =
    let long = ap (λ (b : List ℕ). length b) whole.parts in
    omega (arith, within, long, length-drop at bytes, length-append (frame_spelling f) (drop more (drop at bytes)), whole.takes)

-- one more frame is taken of the bytes that follow others
pub taken_on : (start stage : Stage) (front bytes : List ℕ) (frames : List Frame) (before taken more : ℕ) (f : Frame)
    → AreTaken start (front ++ bytes) frames (before + taken) stage → before ≡ length front → IsWhole stage (drop taken bytes) f more
    → AreTaken start (front ++ bytes) (frames ++ f ∷ []) (before + (taken + more)) (stage_behind f)
taken_on start stage front bytes frames before taken more f are all whole =
    let there = subst (λ (b : List ℕ). IsWhole stage b f more) (sym (drop_behind front bytes before taken all)) whole in
    let place : (before + taken) + more ≡ before + (taken + more) = omega arith in
    subst (λ (n : ℕ). AreTaken start (front ++ bytes) (frames ++ f ∷ []) n (stage_behind f)) place (taken_more start stage (front ++ bytes) frames (before + taken) more f are there)

-- so frames are read on behind others, where the last bytes are those behind which no frame is whole
pub read_on : (old : Frames) (bytes : List ℕ) (read : Frames) (more : ℕ)
    → ((start : Stage) (front : List ℕ) → AreTaken start front (map frame_of old.frames.items) old.taken (stage_of old.stage) → old.taken ≡ length front
    → AreTaken start (front ++ bytes) (map frame_of read.frames.items) (old.taken + more) (stage_of read.stage))
    → read.taken ≡ old.taken + more → Stops (stage_of read.stage) (drop more bytes) (option_map fault_of read.fault) → IsReadOn old bytes read
read_on old bytes read more taken place stops start front are all = record {
  taken = subst (λ (n : ℕ). AreTaken start (front ++ bytes) (map frame_of read.frames.items) n (stage_of read.stage)) (sym place) (taken start front are all);
  stops = subst (λ (b : List ℕ). Stops (stage_of read.stage) b (option_map fault_of read.fault)) (sym (ap (λ (n : ℕ). drop n (front ++ bytes)) place ∙ drop_behind front bytes old.taken more all)) stops;
}

-- less than a frame stops it
pub partial_stops : (stage : Stage) (bytes : List ℕ) → (stage ≡ LoggedOut → ⊥) → IsPartial stage bytes → Stops stage bytes None
partial_stops AtLogin bytes running is = is
partial_stops InSession bytes running is = is
partial_stops LoggedOut bytes running is = absurd (running refl)

-- a bad frame stops it
pub bad_stops : (stage : Stage) (bytes : List ℕ) (fault : Fault) → (stage ≡ LoggedOut → ⊥) → IsBad stage bytes fault → Stops stage bytes (Some fault)
bad_stops AtLogin bytes fault running is = is
bad_stops InSession bytes fault running is = is
bad_stops LoggedOut bytes fault running is = absurd (running refl)

-- nothing follows a LOGOUT
pub over_stops : (stage : Stage) (bytes : List ℕ) → stage ≡ LoggedOut → Stops stage bytes None
over_stops stage bytes over = subst (λ (s : Stage). Stops s bytes None) (sym over) refl
