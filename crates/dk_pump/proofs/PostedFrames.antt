-- Frames as posts: the posting of frames goes on from frame to frame.
use Rattle.std.proofs.Common.{◌≡◌, ℕ, List, [], ◌∷◌, ◌++◌, Ok, Err, refl, sym, ap, subst, ◌∙◌, append_assoc}
use Rattle.std.proofs.lemmas.List.{append-nil, map-append}
use Rattle.std.proofs.lemmas.List.Concat.{flat_map-append}
use Rattle.dk_types.specs.declared.number.ConnNo.{ConnNo}
use Rattle.dk_types.specs.declared.job.Input.{Input}
use Rattle.dk_types.specs.declared.event.Event.{Event}
use Rattle.dk_types.specs.declared.event.Event.TheVariants as event
use Rattle.dk_types.specs.declared.event.PostReply.TheVariants as posted
use Rattle.dk_model.specs.Frames.{Frame, Logout, InSession, AreInTurn, stage_after}
use Rattle.dk_model.specs.Legal.{Opened}
use Rattle.dk_connections.specs.declared.answers.PostRefused.{PostRefused}
use Rattle.dk_connections.specs.declared.answers.PostRefused.TheVariants as refused
use Rattle.dk_frame.proofs.Turns.{stage_after-append}
use Rattle.dk_host.specs.Calls.{post_events}
use Rattle.dk_pump.specs.declared.posting.Progress.TheVariants as progress
use Rattle.dk_pump.specs.Passes.{Enters}
use Rattle.dk_pump.specs.Reading.{inputs_in, inputs_of, taken, IsAsked, PostsFrames}
use Rattle.dk_pump.proofs.Entering.{enters_none, enters_then, enters_as}

-- the inputs of both
pub inputs-append : (frames later : List Frame) → inputs_of (frames ++ later) ≡ inputs_of frames ++ inputs_of later
inputs-append frames later = flat_map-append inputs_in frames later

-- the posts of both
pub taken-append : (pass : ℕ) (conn : ConnNo) (inputs later : List Input) → taken pass conn (inputs ++ later) ≡ taken pass conn inputs ++ taken pass conn later
taken-append pass conn inputs later = map-append (λ i. event.Post pass conn i posted.Taken) inputs later

-- of these frames, those before `rest` were posted, and none of them was a LOGOUT
pub record IsPosting (o : Opened) (count pass : ℕ) (conn : ConnNo) (all rest : List Frame) (front front' : List Event) : Type 0 where
  pub done : List Frame
  pub parts : all ≡ done ++ rest
  pub stage : stage_after InSession done ≡ InSession
  pub in_turn : AreInTurn InSession rest
  pub enters : Enters o count pass (taken pass conn (inputs_of done)) front front'

module _ (o : Opened) (count pass : ℕ) (conn : ConnNo) where
  pub posting_first : (all : List Frame) (front : List Event) → AreInTurn InSession all → IsPosting o count pass conn all all front front
  posting_first all front turn = record { done = []; parts = refl; stage = refl; in_turn = turn; enters = enters_none o count pass front }

  -- the inputs of the frames before one that asks for this, and of it
  inputs_with : (done : List Frame) (f : Frame) (asked : Input) → inputs_in f ≡ asked ∷ [] → inputs_of (done ++ f ∷ []) ≡ inputs_of done ++ asked ∷ []
  inputs_with done f asked is = inputs-append done (f ∷ []) ∙ ap (λ is. inputs_of done ++ is) (append-nil (inputs_in f) ∙ is)

  -- one more was posted and taken
  pub posting_more : (all rest : List Frame) (f : Frame) (asked : Input) (front mid front' : List Event) → IsPosting o count pass conn all (f ∷ rest) front mid → IsAsked f asked
      → Enters o count pass (event.Post pass conn asked posted.Taken ∷ []) mid front' → IsPosting o count pass conn all rest front front'
  posting_more all rest f asked front mid front' p is e = record {
    done = p.done ++ f ∷ [];
    parts = p.parts ∙ sym (append_assoc p.done (f ∷ []) rest);
    stage = stage_after-append InSession p.done (f ∷ []) ∙ is.goes_on;
    in_turn = subst (λ s. AreInTurn s rest) is.goes_on p.in_turn.2;
    enters = enters_as o count pass (taken pass conn (inputs_of p.done) ++ event.Post pass conn asked posted.Taken ∷ []) (taken pass conn (inputs_of (p.done ++ f ∷ []))) front front'
        (ap (taken pass conn) (inputs_with p.done f asked is.input) ∙ taken-append pass conn (inputs_of p.done) (asked ∷ []))
        (enters_then o count pass (taken pass conn (inputs_of p.done)) (event.Post pass conn asked posted.Taken ∷ []) front mid front' p.enters e);
  }

  -- behind a LOGOUT there is nothing
  last_logout : (rest : List Frame) → AreInTurn InSession (Logout ∷ rest) → rest ≡ []
  last_logout [] turn = refl
  last_logout (f ∷ rest) turn = absurd turn.2.0

  -- up to a LOGOUT
  pub posted_to_logout : (all rest : List Frame) (f : Frame) (front front' : List Event) → f ≡ Logout → IsPosting o count pass conn all (f ∷ rest) front front' → PostsFrames o count pass conn all (Ok progress.ToLogout) front front'
  posted_to_logout all rest f front front' out p =
      let none : rest ≡ [] = last_logout rest (subst (λ g. AreInTurn InSession (g ∷ rest)) out p.in_turn) in
      let is : all ≡ p.done ++ Logout ∷ [] = p.parts ∙ ap (λ g. p.done ++ g ∷ rest) out ∙ ap (λ fs. p.done ++ Logout ∷ fs) none in
      record {
        events = taken pass conn (inputs_of p.done);
        posts = (p.done, is, ap (taken pass conn) (sym (append-nil (inputs_of p.done)) ∙ sym (inputs-append p.done (Logout ∷ [])) ∙ ap inputs_of (sym is)));
        enters = p.enters;
      }

  -- up to a frame for which there was no memory
  pub posted_without_memory : (all rest : List Frame) (f : Frame) (front front' : List Event) → IsPosting o count pass conn all (f ∷ rest) front front' → PostsFrames o count pass conn all (Err refused.NoMemory) front front'
  posted_without_memory all rest f front front' p = record {
    events = taken pass conn (inputs_of p.done);
    posts = record { before = inputs_of p.done; after = inputs_of (f ∷ rest); parts = ap inputs_of p.parts ∙ inputs-append p.done (f ∷ rest); posts = refl };
    enters = p.enters;
  }

  -- the inputs of all, where one frame among them asks for this
  parted_inputs : (all done rest : List Frame) (f : Frame) (asked : Input) → all ≡ done ++ f ∷ rest → inputs_in f ≡ asked ∷ [] → inputs_of all ≡ inputs_of done ++ asked ∷ inputs_of rest
  parted_inputs all done rest f asked parts is = ap inputs_of parts ∙ inputs-append done (f ∷ rest) ∙ ap (λ is. inputs_of done ++ (is ++ inputs_of rest)) is

  -- up to a post that was refused
  pub posted_refused : (all rest : List Frame) (f : Frame) (asked : Input) (r : PostRefused) (front mid front' : List Event) → IsPosting o count pass conn all (f ∷ rest) front mid → IsAsked f asked
      → Enters o count pass (post_events pass conn asked (Err r)) mid front' → PostsFrames o count pass conn all (Err r) front front'
  posted_refused all rest f asked refused.Closed front mid front' p is e = record {
    events = taken pass conn (inputs_of p.done) ++ event.Post pass conn asked posted.Closed ∷ [];
    posts = record { before = inputs_of p.done; at = asked; after = inputs_of rest; parts = parted_inputs all p.done rest f asked p.parts is.input; posts = refl };
    enters = enters_then o count pass _ _ front mid front' p.enters e;
  }
  posted_refused all rest f asked (refused.QueueFull waiting) front mid front' p is e = record {
    events = taken pass conn (inputs_of p.done) ++ event.Post pass conn asked (posted.QueueFull waiting) ∷ [];
    posts = record { before = inputs_of p.done; at = asked; after = inputs_of rest; parts = parted_inputs all p.done rest f asked p.parts is.input; posts = refl };
    enters = enters_then o count pass _ _ front mid front' p.enters e;
  }
  posted_refused all rest f asked refused.NoMemory front mid front' p is e = record {
    events = taken pass conn (inputs_of p.done) ++ [];
    posts = record { before = inputs_of p.done; after = asked ∷ inputs_of rest; parts = parted_inputs all p.done rest f asked p.parts is.input; posts = append-nil (taken pass conn (inputs_of p.done)) };
    enters = enters_then o count pass _ _ front mid front' p.enters e;
  }
