-- A session's reading goes on from piece to piece, and comes to its end.
use Rattle.std.proofs.Common.{◌≡◌, ℕ, Bool, List, [], ◌∷◌, ◌++◌, Option, Ok, Err, refl, sym, ap, subst, ◌∙◌, append_assoc}
use Rattle.std.proofs.lemmas.List.{append-nil}
use Rattle.std.specs.Io.KnownBytes.{Consumes}
use Rattle.dk_types.specs.declared.number.ConnNo.{ConnNo}
use Rattle.dk_types.specs.declared.event.Event.{Event}
use Rattle.dk_model.specs.Frames.{Frame, Stage, Login, InSession, AreInTurn, stage_after}
use Rattle.dk_model.specs.Legal.{Opened}
use Rattle.dk_connections.specs.declared.answers.PostRefused.{PostRefused}
use Rattle.dk_connections.specs.declared.answers.PostRefused.TheVariants as refused
use Rattle.dk_frame.specs.Decoding.{Decoding, HasDecoded}
use Rattle.dk_frame.proofs.Turns.{stage_after-append}
use Rattle.dk_pump.specs.declared.ends.SessionEnd.{SessionEnd}
use Rattle.dk_pump.specs.declared.ends.SessionEnd.TheVariants as ends
use Rattle.dk_pump.specs.declared.posting.Progress.TheVariants as progress
use Rattle.dk_pump.specs.Ends.{end_of_post}
use Rattle.dk_pump.specs.Passes.{Enters}
use Rattle.dk_pump.specs.Reading.{inputs_of, taken, PostsFrames, IsRead, IsCause, Counts, Loses, HasStream, IsNextRead, IsNextEnd, IsGreeted, IsPosted, ReadsTo, IsClosed, ReadsSession}
use Rattle.dk_pump.proofs.Entering.{enters_none, enters_then, enters_as}
use Rattle.dk_pump.proofs.PostedFrames.{inputs-append, taken-append}
use Rattle.dk_pump.proofs.PostedBehind.{posted_whole, posted_to_end, refused_behind}
use Rattle.dk_pump.proofs.Streams.{consumes_none, consumes_then, cause_then}

-- frames behind others come in turn
pub turn_behind : (stage : Stage) (first second : List Frame) → AreInTurn stage (first ++ second) → AreInTurn (stage_after stage first) second
turn_behind stage [] second turn = turn
turn_behind stage (f ∷ first) second turn = turn_behind _ first second turn.2

-- ---- reading goes on

-- Behind the frames that greeting left, these bytes were read and fed; all frames but those pending were posted, and none of them was a LOGOUT.
pub record IsReading (o : Opened) (count pass : ℕ) (conn : ConnNo) (rest pending : List Frame) (left left' : Option (List ℕ)) (old new : Decoding) (counted counted' : ℕ) (front front' : List Event) : Type 0 where
  pub bytes : List ℕ
  pub later : List Frame
  pub done : List Frame
  pub read : IsRead left left' old new bytes later
  pub parts : rest ++ later ≡ done ++ pending
  pub stage : stage_after InSession done ≡ InSession
  pub counts : counted' ≡ counted
  pub enters : Enters o count pass (taken pass conn (inputs_of done)) front front'

module _ (o : Opened) (count pass : ℕ) (conn : ConnNo) (rest : List Frame) where
  pub reading_first : (left : Option (List ℕ)) (d : Decoding) (counted : ℕ) (front : List Event) → IsReading o count pass conn rest rest left left d d counted counted front front
  reading_first left d counted front = record {
    bytes = [];
    later = [];
    done = [];
    read = record {
      consumed = consumes_none left;
      fed = λ stream given s. subst (λ bytes. HasDecoded d bytes (given ++ [])) (sym (append-nil stream)) (subst (HasDecoded d stream) (sym (append-nil given)) s);
    };
    parts = append-nil rest;
    stage = refl;
    counts = refl;
    enters = enters_none o count pass front;
  }

  module _ (left left' : Option (List ℕ)) (old new : Decoding) (counted counted' : ℕ) (front mid front' : List Event) where
    -- the decoder stands for the session's stream still
    pub reading_stream : (pending : List Frame) → IsGreeted old rest → IsReading o count pass conn rest pending left left' old new counted counted' front mid → HasStream new
    reading_stream pending g r = record { stream = g.stream ++ r.bytes; given = (Login g.name ∷ rest) ++ r.later; stands = r.read.fed g.stream (Login g.name ∷ rest) g.stands }

    -- what is pending comes in turn
    pub pending_turn : (pending : List Frame) → IsGreeted old rest → IsReading o count pass conn rest pending left left' old new counted counted' front mid → AreInTurn InSession pending
    pending_turn pending g r =
        let s : HasDecoded new (g.stream ++ r.bytes) (Login g.name ∷ (rest ++ r.later)) = r.read.fed g.stream (Login g.name ∷ rest) g.stands in
        let all : AreInTurn InSession (r.done ++ pending) = subst (AreInTurn InSession) r.parts s.is.in_turn.2 in
        subst (λ stage. AreInTurn stage pending) r.stage (turn_behind InSession r.done pending all)

    -- all that was pending was posted
    pub reading_posted : (pending : List Frame) → IsReading o count pass conn rest pending left left' old new counted counted' front mid → PostsFrames o count pass conn pending (Ok progress.All) mid front'
        → IsReading o count pass conn rest [] left left' old new counted counted' front front'
    reading_posted pending r p = record {
      bytes = r.bytes;
      later = r.later;
      done = r.done ++ pending;
      read = r.read;
      parts = r.parts ∙ sym (append-nil (r.done ++ pending));
      stage = stage_after-append InSession r.done pending ∙ ap (λ stage. stage_after stage pending) r.stage ∙ p.posts.1;
      counts = r.counts;
      enters = enters_as o count pass (taken pass conn (inputs_of r.done) ++ p.events) (taken pass conn (inputs_of (r.done ++ pending))) front front'
          (ap (taken pass conn) (inputs-append r.done pending) ∙ taken-append pass conn (inputs_of r.done) (inputs_of pending) ∙ ap (λ es. taken pass conn (inputs_of r.done) ++ es) (sym p.posts.0))
          (enters_then o count pass (taken pass conn (inputs_of r.done)) p.events front mid front' r.enters p.enters);
    }

    -- up to a LOGOUT, which is the last
    pub reads_to_logout : (pending : List Frame) → IsReading o count pass conn rest pending left left' old new counted counted' front mid → PostsFrames o count pass conn pending (Ok progress.ToLogout) mid front'
        → ReadsTo o count pass conn ends.Logout rest left left' old new counted counted' front front'
    reads_to_logout pending r p = record {
      bytes = r.bytes;
      lost = [];
      later = r.later;
      events = taken pass conn (inputs_of r.done) ++ p.events;
      consumed = subst (Consumes left left') (sym (append-nil r.bytes)) r.read.consumed;
      loses = refl;
      fed = r.read.fed;
      posted = subst (λ fs. IsPosted pass conn fs ends.Logout (taken pass conn (inputs_of r.done) ++ p.events)) (sym r.parts) (posted_to_end pass conn r.done pending p.events p.posts);
      cause = tt;
      counts = r.counts;
      enters = enters_then o count pass (taken pass conn (inputs_of r.done)) p.events front mid front' r.enters p.enters;
    }

    -- up to a post that was refused: nothing was lost, the count stayed, and the answer tells the cause
    post_end : (why : PostRefused) (bytes : List ℕ) → Loses (end_of_post why) [] × IsCause (end_of_post why) left bytes new × (counted' ≡ counted → Counts (end_of_post why) counted counted')
    post_end refused.Closed bytes = (refl, tt, λ h. h)
    post_end (refused.QueueFull waiting) bytes = (refl, tt, λ h. h)
    post_end refused.NoMemory bytes = (tt, tt, λ h. h)

    pub reads_refused : (pending : List Frame) (why : PostRefused) → IsReading o count pass conn rest pending left left' old new counted counted' front mid → PostsFrames o count pass conn pending (Err why) mid front'
        → ReadsTo o count pass conn (end_of_post why) rest left left' old new counted counted' front front'
    reads_refused pending why r p =
        let e = post_end why r.bytes in
        record {
          bytes = r.bytes;
          lost = [];
          later = r.later;
          events = taken pass conn (inputs_of r.done) ++ p.events;
          consumed = subst (Consumes left left') (sym (append-nil r.bytes)) r.read.consumed;
          loses = e.0;
          fed = r.read.fed;
          posted = subst (λ fs. IsPosted pass conn fs (end_of_post why) (taken pass conn (inputs_of r.done) ++ p.events)) (sym r.parts) (refused_behind pass conn r.done pending why p.events p.posts);
          cause = e.1;
          counts = e.2 r.counts;
          enters = enters_then o count pass (taken pass conn (inputs_of r.done)) p.events front mid front' r.enters p.enters;
        }

  module _ (left mid left' : Option (List ℕ)) (old at new : Decoding) (counted counted_at counted' : ℕ) (front front' : List Event)
      (r : IsReading o count pass conn rest [] left mid old at counted counted_at front front') where
    -- both pieces were fed
    fed_both : (bytes : List ℕ) (frames : List Frame) → ((stream : List ℕ) (given : List Frame) → HasDecoded at stream given → HasDecoded new (stream ++ bytes) (given ++ frames))
        → (stream : List ℕ) (given : List Frame) → HasDecoded old stream given → HasDecoded new (stream ++ (r.bytes ++ bytes)) (given ++ (r.later ++ frames))
    fed_both bytes frames fed stream given s =
        subst (λ bs. HasDecoded new bs (given ++ (r.later ++ frames))) (append_assoc stream r.bytes bytes)
        (subst (HasDecoded new ((stream ++ r.bytes) ++ bytes)) (append_assoc given r.later frames) (fed (stream ++ r.bytes) (given ++ r.later) (r.read.fed stream given s)))

    -- one more piece was read
    pub reading_next : (frames : List Frame) → IsNextRead frames mid left' at new counted_at counted' → IsReading o count pass conn rest frames left left' old new counted counted' front front'
    reading_next frames n = record {
      bytes = r.bytes ++ n.bytes;
      later = r.later ++ frames;
      done = r.done;
      read = record { consumed = consumes_then left mid left' r.bytes n.bytes r.read.consumed n.read.consumed; fed = fed_both n.bytes frames n.read.fed };
      parts = sym (append_assoc rest r.later frames) ∙ ap (λ fs. fs ++ frames) (r.parts ∙ append-nil r.done);
      stage = r.stage;
      counts = n.counts ∙ r.counts;
      enters = r.enters;
    }

    -- all frames so far were posted
    all_done : rest ++ r.later ≡ r.done
    all_done = r.parts ∙ append-nil r.done

    counts_from : (end : SessionEnd) → counted_at ≡ counted → Counts end counted_at counted' → Counts end counted counted'
    counts_from end same h = subst (λ n. Counts end n counted') same h

    -- reading ended
    pub reads_to_end : (end : SessionEnd) → IsNextEnd end mid left' at new counted_at counted' → ReadsTo o count pass conn end rest left left' old new counted counted' front front'
    reads_to_end end n = record {
      bytes = r.bytes ++ n.bytes;
      lost = n.lost;
      later = r.later;
      events = taken pass conn (inputs_of r.done);
      consumed = subst (Consumes left left') (sym (append_assoc r.bytes n.bytes n.lost)) (consumes_then left mid left' r.bytes (n.bytes ++ n.lost) r.read.consumed n.consumed);
      loses = n.loses;
      fed = λ stream given s. subst (λ bytes. HasDecoded new bytes (given ++ r.later)) (append_assoc stream r.bytes n.bytes) (n.fed (stream ++ r.bytes) (given ++ r.later) (r.read.fed stream given s));
      posted = subst (λ fs. IsPosted pass conn fs end (taken pass conn (inputs_of r.done))) (sym all_done) (posted_whole pass conn r.done r.stage end n.of_read);
      cause = cause_then end left mid r.bytes n.bytes new r.read.consumed n.cause;
      counts = counts_from end r.counts n.counts;
      enters = r.enters;
    }

-- reading, and then its Disconnect
pub reads_session : {keeps : Bool} (o : Opened) (count pass : ℕ) (conn : ConnNo) (rest : List Frame) (end : SessionEnd) (left left' : Option (List ℕ)) (old new : Decoding) (counted counted' : ℕ) (front mid front' : List Event)
    → ReadsTo o count pass conn end rest left left' old new counted counted' front mid → IsClosed o keeps count pass conn end mid front' → ReadsSession o keeps count pass conn end rest left left' old new counted counted' front front'
reads_session o count pass conn rest end left left' old new counted counted' front mid front' r d =
    record { mid = mid; closing = d.events; reads = r; closes = d.closes; enters = enters_then o count pass r.events d.events front mid front' r.enters d.enters }
