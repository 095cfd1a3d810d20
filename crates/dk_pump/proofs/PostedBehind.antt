-- What is posted of frames behind others that were posted.
use Rattle.std.proofs.Common.{◌≡◌, ℕ, List, [], ◌∷◌, ◌++◌, Ok, Err, refl, sym, ap, ◌∙◌, append_assoc}
use Rattle.std.proofs.lemmas.List.{append-nil}
use Rattle.dk_types.specs.declared.number.ConnNo.{ConnNo}
use Rattle.dk_types.specs.declared.event.Event.{Event}
use Rattle.dk_types.specs.declared.event.Event.TheVariants as event
use Rattle.dk_types.specs.declared.event.PostReply.{PostReply}
use Rattle.dk_model.specs.Frames.{Frame, InSession, stage_after}
use Rattle.dk_connections.specs.declared.answers.PostRefused.{PostRefused}
use Rattle.dk_connections.specs.declared.answers.PostRefused.TheVariants as refused
use Rattle.dk_pump.specs.declared.ends.SessionEnd.{SessionEnd}
use Rattle.dk_pump.specs.declared.ends.SessionEnd.TheVariants as ends
use Rattle.dk_pump.specs.declared.posting.Progress.TheVariants as progress
use Rattle.dk_pump.specs.Ends.{end_of_post}
use Rattle.dk_pump.specs.Reading.{inputs_of, taken, StopsAt, Posts, IsOfRead, IsPosted}
use Rattle.dk_pump.proofs.PostedFrames.{inputs-append, taken-append}

module _ (pass : ℕ) (conn : ConnNo) where
  -- all of them were posted, and reading ended behind them
  pub posted_whole : (frames : List Frame) → stage_after InSession frames ≡ InSession → (end : SessionEnd) → IsOfRead end → IsPosted pass conn frames end (taken pass conn (inputs_of frames))
  posted_whole frames stage ends.Logout is = absurd is
  posted_whole frames stage (ends.End at) is = (stage, refl)
  posted_whole frames stage (ends.Truncated at) is = (stage, refl)
  posted_whole frames stage (ends.Bad bad) is = (stage, refl)
  posted_whole frames stage ends.ReadFault is = (stage, refl)
  posted_whole frames stage (ends.Flood waiting) is = absurd is
  posted_whole frames stage ends.Closed is = absurd is
  posted_whole frames stage (ends.Exhausted next) is = absurd is
  posted_whole frames stage (ends.Budget bytes) is = (stage, refl)
  posted_whole frames stage ends.NoMemory is = record { before = inputs_of frames; after = []; parts = sym (append-nil (inputs_of frames)); posts = refl }

  module _ (done pending : List Frame) where
    pub taken_both : taken pass conn (inputs_of (done ++ pending)) ≡ taken pass conn (inputs_of done) ++ taken pass conn (inputs_of pending)
    taken_both = ap (taken pass conn) (inputs-append done pending) ∙ taken-append pass conn (inputs_of done) (inputs_of pending)

    -- up to a LOGOUT, which is the last
    pub posted_to_end : (events : List Event) → Posts pass conn pending (Ok progress.ToLogout) events → IsPosted pass conn (done ++ pending) ends.Logout (taken pass conn (inputs_of done) ++ events)
    posted_to_end events p = (done ++ p.0, ap (λ fs. done ++ fs) p.1 ∙ sym (append_assoc done p.0 _), ap (λ es. taken pass conn (inputs_of done) ++ es) p.2 ∙ sym taken_both)

    stops_behind : (reply : PostReply) (events : List Event) → StopsAt pass conn (inputs_of pending) reply events → StopsAt pass conn (inputs_of (done ++ pending)) reply (taken pass conn (inputs_of done) ++ events)
    stops_behind reply events s = record {
      before = inputs_of done ++ s.before;
      at = s.at;
      after = s.after;
      parts = inputs-append done pending ∙ ap (λ is. inputs_of done ++ is) s.parts ∙ sym (append_assoc (inputs_of done) s.before (s.at ∷ s.after));
      posts = ap (λ es. taken pass conn (inputs_of done) ++ es) s.posts ∙ sym (append_assoc (taken pass conn (inputs_of done)) (taken pass conn s.before) (event.Post pass conn s.at reply ∷ [])) ∙ ap (λ es. es ++ event.Post pass conn s.at reply ∷ []) (sym (taken-append pass conn (inputs_of done) s.before));
    }

    -- up to a post that was refused
    pub refused_behind : (why : PostRefused) (events : List Event) → Posts pass conn pending (Err why) events → IsPosted pass conn (done ++ pending) (end_of_post why) (taken pass conn (inputs_of done) ++ events)
    refused_behind refused.Closed events p = stops_behind _ events p
    refused_behind (refused.QueueFull waiting) events p = stops_behind _ events p
    refused_behind refused.NoMemory events p = record {
      before = inputs_of done ++ p.before;
      after = p.after;
      parts = inputs-append done pending ∙ ap (λ is. inputs_of done ++ is) p.parts ∙ sym (append_assoc (inputs_of done) p.before p.after);
      posts = ap (λ es. taken pass conn (inputs_of done) ++ es) p.posts ∙ sym (taken-append pass conn (inputs_of done) p.before);
    }
