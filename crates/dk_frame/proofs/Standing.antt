-- What a decoder stands for, piece after piece.
use Rattle.std.proofs.Common.{◌≡◌, ℕ, ◌+◌, List, [], ◌∷◌, ◌++◌, length, drop, Option, Some, None, refl, sym, ap, subst, ◌∙◌, append_assoc, length-append, arith}
use Rattle.dk_model.specs.Frames.{Frame, Stage, AtLogin, InSession, LoggedOut, Fault, Following, Bad, Follows, AreInTurn, stage_after, stream_of}
use Rattle.dk_frame.specs.Fronts.{AreTaken, Stops}
use Rattle.dk_frame.specs.Decoding.{Decoding, HasDecoded, following, following_at, kept, passed}
use Rattle.dk_frame.proofs.Turns.{AreInTurn-append, stage_after-append, stream_of-append}
use Rattle.dk_frame.proofs.GoingOn.{faults_go_on}

-- fed so many more bytes, and nothing else
abbrev pub fed_more : Decoding → ℕ → Decoding
fed_more d n = record { fed = d.fed + n; at = d.at; stage = d.stage; held = d.held; fault = d.fault }

-- while frames may follow, what follows the frames is held
kept_all : (stage : Stage) (fault : Option Fault) (rest : List ℕ) → fault ≡ None → (stage ≡ LoggedOut → ⊥) → kept stage fault rest ≡ rest
kept_all stage (Some fault) rest none running = absurd cc
kept_all AtLogin None rest none running = refl
kept_all InSession None rest none running = refl
kept_all LoggedOut None rest none running = absurd (running refl)

-- what stops the frames is what follows them
stops_follow : (stage : Stage) (at : ℕ) (rest : List ℕ) (fault : Option Fault) → Stops stage rest fault → Follows stage at rest (following_at at (kept stage fault rest) fault)
stops_follow AtLogin at [] None stops = refl
stops_follow AtLogin at (b ∷ rest) None stops = (refl, omega arith, stops)
stops_follow AtLogin at rest (Some fault) stops = (refl, stops)
stops_follow InSession at [] None stops = refl
stops_follow InSession at (b ∷ rest) None stops = (refl, omega arith, stops)
stops_follow InSession at rest (Some fault) stops = (refl, stops)
stops_follow LoggedOut at rest None stops = refl
stops_follow LoggedOut at rest (Some fault) stops = absurd cc

-- where no frame follows whatever comes, more bytes change nothing but their count
pub stands_still : (d : Decoding) (stream piece : List ℕ) (given : List Frame) (fault : Fault) → d.fault ≡ Some fault → HasDecoded d stream given → HasDecoded (fed_more d (length piece)) (stream ++ piece) given
stands_still d stream piece given fault bad s = record {
  is = record {
    in_turn = s.is.in_turn;
    rest = s.is.rest ++ piece;
    whole = ap (λ (b : List ℕ). b ++ piece) s.is.whole ∙ append_assoc (stream_of given) s.is.rest piece;
    follows = subst (λ (next : Following). Follows (stage_after AtLogin given) (length (stream_of given)) (s.is.rest ++ piece) next) (sym told)
        (faults_go_on (stage_after AtLogin given) (length (stream_of given)) s.is.rest piece d.at fault (subst (λ (next : Following). Follows (stage_after AtLogin given) (length (stream_of given)) s.is.rest next) told s.is.follows));
  };
  fed = omega (arith, s.fed, length-append stream piece);
  at = s.at;
  stage = s.stage;
  held = s.held ∙ nothing s.is.rest ∙ sym (nothing (s.is.rest ++ piece));
}
  where
    told : following d ≡ Bad d.at fault
    told = ap (following_at d.at d.held) bad

    nothing : (rest : List ℕ) → kept d.stage d.fault rest ≡ []
    nothing rest = ap (λ (f : Option Fault). kept d.stage f rest) bad

-- the same behind a LOGOUT
pub stands_over : (d : Decoding) (stream piece : List ℕ) (given : List Frame) → d.fault ≡ None → d.stage ≡ LoggedOut → HasDecoded d stream given → HasDecoded (fed_more d (length piece)) (stream ++ piece) given
stands_over d stream piece given fine over s = record {
  is = record {
    in_turn = s.is.in_turn;
    rest = s.is.rest ++ piece;
    whole = ap (λ (b : List ℕ). b ++ piece) s.is.whole ∙ append_assoc (stream_of given) s.is.rest piece;
    follows = subst (λ (stage : Stage). Follows stage (length (stream_of given)) (s.is.rest ++ piece) (following d)) end
        (subst (λ (stage : Stage). Follows stage (length (stream_of given)) s.is.rest (following d)) (sym end) s.is.follows);
  };
  fed = omega (arith, s.fed, length-append stream piece);
  at = s.at;
  stage = s.stage;
  held = s.held ∙ nothing s.is.rest ∙ sym (nothing (s.is.rest ++ piece));
}
  where
    end : LoggedOut ≡ stage_after AtLogin given
    end = sym over ∙ s.stage

    nothing : (rest : List ℕ) → kept d.stage d.fault rest ≡ []
    nothing rest = ap (λ (f : Option Fault). kept d.stage f rest) fine ∙ ap (λ (stage : Stage). kept stage None rest) over

-- the decoder behind the frames that it read of what it held and of a piece
abbrev pub fed_on : Decoding → List ℕ → ℕ → Stage → Option Fault → Decoding
fed_on d piece taken stage fault = passed (record { fed = d.fed + length piece; at = d.at; stage = d.stage; held = d.held ++ piece; fault = d.fault }) taken stage fault

-- the frames that a piece completes are the next of the stream
pub stands_on : (d : Decoding) (stream piece : List ℕ) (given frames : List Frame) (taken : ℕ) (stage : Stage) (fault : Option Fault)
    → d.fault ≡ None → (d.stage ≡ LoggedOut → ⊥) → AreTaken d.stage (d.held ++ piece) frames taken stage → Stops stage (drop taken (d.held ++ piece)) fault
    → HasDecoded d stream given → HasDecoded (fed_on d piece taken stage fault) (stream ++ piece) (given ++ frames)
stands_on d stream piece given frames taken stage fault fine running are stops s = record {
  is = record {
    in_turn = AreInTurn-append AtLogin given frames s.is.in_turn (subst (λ (x : Stage). AreInTurn x frames) s.stage are.in_turn);
    rest = rest;
    whole = parted;
    follows = subst (λ (x : Stage). Follows x (length (stream_of (given ++ frames))) rest (following_at (d.at + taken) (kept stage fault rest) fault)) ends
        (subst (λ (n : ℕ). Follows stage n rest (following_at (d.at + taken) (kept stage fault rest) fault)) place (stops_follow stage (d.at + taken) rest fault stops));
  };
  fed = omega (arith, s.fed, length-append stream piece);
  at = place;
  stage = ends;
  held = refl;
}
  where
    rest : List ℕ
    rest = drop taken (d.held ++ piece)

    all : stream_of (given ++ frames) ≡ stream_of given ++ stream_of frames
    all = stream_of-append given frames

    held_is : d.held ≡ s.is.rest
    held_is = s.held ∙ kept_all d.stage d.fault s.is.rest fine running

    parted : stream ++ piece ≡ stream_of (given ++ frames) ++ rest
    parted =
        ap (λ (b : List ℕ). b ++ piece) s.is.whole ∙ append_assoc (stream_of given) s.is.rest piece
        ∙ ap (λ (b : List ℕ). stream_of given ++ (b ++ piece)) (sym held_is) ∙ ap (λ (b : List ℕ). stream_of given ++ b) are.parts
        ∙ sym (append_assoc (stream_of given) (stream_of frames) rest) ∙ ap (λ (b : List ℕ). b ++ rest) (sym all)

    place : d.at + taken ≡ length (stream_of (given ++ frames))
    place = omega (arith, s.at, are.takes, length-append (stream_of given) (stream_of frames), ap (λ (b : List ℕ). length b) all)

    ends : stage ≡ stage_after AtLogin (given ++ frames)
    ends = are.comes_to ∙ ap (λ (x : Stage). stage_after x frames) s.stage ∙ sym (stage_after-append AtLogin given frames)

-- a decoder that was fed nothing
pub stands_new : (held : List ℕ) → held ≡ [] → HasDecoded (record { fed = 0; at = 0; stage = AtLogin; held = held; fault = None }) [] []
stands_new held is = subst (λ (h : List ℕ). HasDecoded (record { fed = 0; at = 0; stage = AtLogin; held = h; fault = None }) [] []) (sym is) (record {
  is = record { in_turn = tt; rest = []; whole = refl; follows = refl };
  fed = refl;
  at = refl;
  stage = refl;
  held = refl;
})
