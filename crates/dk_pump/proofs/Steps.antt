-- The steps of a polled session: whatever it began with, what it did goes on.
use Rattle.std.proofs.Common.{◌≡◌, ℕ, ◌<◌, ◌≤◌, Bool, true, false, cond, List, [], ◌∷◌, ◌++◌, Option, Some, None, Ok, Err, IsSome, unwrap_or, refl, sym, subst, ◌∙◌}
use Rattle.std.proofs.lemmas.List.{append-nil}
use Rattle.std.proofs.lemmas.List.Folds.{list_any-append}
use Rattle.std.specs.List.{All, list_any}
use Rattle.std.specs.Io.KnownBytes.{Appends}
use mathlib.Core.List.{IsPrefix}
use Rattle.dk_types.specs.Faults.{HasRisen}
use Rattle.dk_types.specs.declared.number.ConnNo.{ConnNo}
use Rattle.dk_types.specs.declared.job.Out.{Out}
use Rattle.dk_types.specs.declared.event.Event.{Event}
use Rattle.dk_types.specs.declared.event.Event.TheVariants as event
use Rattle.dk_types.specs.declared.event.ConnectReply.TheVariants as connected
use Rattle.dk_model.specs.Frames.{Frame, Login, InSession, stage_after}
use Rattle.dk_model.specs.Legal.{Opened, pass_of}
use Rattle.dk_core.specs.declared.answers.ConnectRefused.{ConnectRefused}
use Rattle.dk_connections.specs.declared.answers.PostRefused.{PostRefused}
use Rattle.dk_connections.specs.declared.answers.PostRefused.TheVariants as refused
use Rattle.dk_edge.specs.Streams.{AppendsPrefix}
use Rattle.dk_frame.specs.Decoding.{Decoding}
use Rattle.dk_host.specs.Calls.{Entered, connect_events}
use Rattle.dk_turn.specs.Fronts.{Known}
use Rattle.dk_turn.proofs.Beginnings.{prefix_self}
use Rattle.dk_pump.specs.declared.limits.TheConstants.{SESSION_MOST_BYTES}
use Rattle.dk_pump.specs.declared.ends.SessionEnd.{SessionEnd}
use Rattle.dk_pump.specs.declared.ends.SessionEnd.TheVariants as ends
use Rattle.dk_pump.specs.declared.ends.WriteEnd.TheVariants as written
use Rattle.dk_pump.specs.declared.course.Course.{Course}
use Rattle.dk_pump.specs.declared.posting.Progress.TheVariants as progress
use Rattle.dk_pump.specs.Ends.{end_of_connect, end_of_post}
use Rattle.dk_pump.specs.Passes.{Enters}
use Rattle.dk_pump.specs.Reading.{inputs_of, taken, PostsFrames, IsOfRead, IsNextEnd, IsPosted, IsClosed, Disconnects}
use Rattle.dk_pump.specs.Writing.{tells_end}
use Rattle.dk_pump.specs.Sessions.{LinkState, KeepsPut, KeepsTake, IsPolledRead, HasRead, IsPutting, IsWritten, HasWritten, IsSession, GoesOn, EndsReading, with_handed}
use Rattle.dk_pump.proofs.Entering.{enters_none, enters_one, enters_then}
use Rattle.dk_pump.proofs.InOrder.{reads_behind, writes_behind}
use Rattle.dk_pump.proofs.Later.{prefix_then, entered_begins}
use Rattle.dk_pump.proofs.PostedBehind.{posted_whole, posted_to_end, refused_behind}
use Rattle.dk_pump.proofs.ReadParts.{IsOfCall, refused_by_call, read_meanwhile, read_as, read_to_call, read_to_end, read_piece, pending_more, logs_in, logs_in_not, never_logs_in, posts_all, reads_out, cuts_off}
use Rattle.dk_pump.proofs.WriteParts.{given_on, written_meanwhile, unwritten_meanwhile, unwritten_over, begins_writing, puts_on, goes_without, gives_up, hands_more, hands_without, gives_up_without}
use Rattle.dk_pump.proofs.WrittenOn.{told_one, or_right}

-- a session whose reading goes on, with this connection or none
pub while_reading : (P : Course → Type 0) (c : Course) (conn : Option ConnNo) → c.conn ≡ conn → c.end ≡ None → ((x : Course) → P (record x { conn = conn; end = None })) → P c
while_reading P c conn is none each = subst (λ e. P (record c { end = e })) (sym none) (subst (λ k. P (record c { conn = k; end = None })) (sym is) (each c))

-- a session whose writing goes on, with its link or without
pub while_writing : (P : Course → Type 0) (c : Course) (conn : ConnNo) (failed : Bool) → c.conn ≡ Some conn → c.write ≡ None → c.failed ≡ failed → ((x : Course) → P (record x { conn = Some conn; write = None; failed = failed })) → P c
while_writing P c conn failed is none fails each =
    subst (λ w. P (record c { write = w })) (sym none)
    (subst (λ k. P (record c { conn = k; write = None })) (sym is)
    (subst (λ f. P (record c { conn = Some conn; write = None; failed = f })) (sym fails) (each c)))

module _ (o : Opened) (keeps : Bool) (count : ℕ) where
  module _ (began : Known Event) (given : LinkState) (pass : Known Event) (link : LinkState) (course : Course) (pending : List Frame) (s : IsSession o keeps count began given pass link course pending) where
    -- its reader entered more
    by_reading : (pass' : Known Event) (link' : LinkState) (course' : Course) (pending' : List Frame) (more : List Event) → pass'.number ≡ pass.number → Enters o count pass.number more pass.front pass'.front
        → HasRead o keeps began.number course'.conn course'.end course'.decoder given.left link'.left given.take_counted link'.take_counted pass'.front pending' s.writes (s.reads ++ more)
        → HasWritten o keeps began.number course'.conn course' given.contents link'.contents given.put_counted link'.put_counted pass'.front s.writes → IsSession o keeps count began given pass' link' course' pending'
    by_reading pass' link' course' pending' more same e read written = record {
      number = same ∙ s.number;
      reads = s.reads ++ more;
      writes = s.writes;
      events = s.events ++ more;
      read = read;
      written = written;
      both = reads_behind more s.reads s.writes s.events s.both;
      enters = enters_then o count began.number s.events more began.front pass.front pass'.front s.enters (subst (λ n. Enters o count n more pass.front pass'.front) s.number e);
    }

    -- its writer entered more
    by_writing : (pass' : Known Event) (link' : LinkState) (course' : Course) (pending' : List Frame) (more : List Event) → pass'.number ≡ pass.number → Enters o count pass.number more pass.front pass'.front
        → HasRead o keeps began.number course'.conn course'.end course'.decoder given.left link'.left given.take_counted link'.take_counted pass'.front pending' (s.writes ++ more) s.reads
        → HasWritten o keeps began.number course'.conn course' given.contents link'.contents given.put_counted link'.put_counted pass'.front (s.writes ++ more) → IsSession o keeps count began given pass' link' course' pending'
    by_writing pass' link' course' pending' more same e read written = record {
      number = same ∙ s.number;
      reads = s.reads;
      writes = s.writes ++ more;
      events = s.events ++ more;
      read = read;
      written = written;
      both = writes_behind more s.reads s.writes s.events s.both;
      enters = enters_then o count began.number s.events more began.front pass.front pass'.front s.enters (subst (λ n. Enters o count n more pass.front pass'.front) s.number e);
    }

    -- what was read, with nothing more entered
    as_before : (conn : Option ConnNo) (end : Option SessionEnd) (d : Decoding) (left : Option (List ℕ)) (counted : ℕ) (frames : List Frame) → HasRead o keeps began.number conn end d given.left left given.take_counted counted pass.front frames s.writes s.reads
        → HasRead o keeps began.number conn end d given.left left given.take_counted counted pass.front frames s.writes (s.reads ++ [])
    as_before conn end d left counted frames h = subst (HasRead o keeps began.number conn end d given.left left given.take_counted counted pass.front frames s.writes) (sym (append-nil s.reads)) h

  -- ---- reading

  -- how writing stands while reading goes on
  still_written : (o' : Opened) (keeps' : Bool) (n : ℕ) (conn : Option ConnNo) (c : Course) (d : Decoding) (a b b' : Option (List ℕ)) (k l l' : ℕ) (front front' writes : List Event) → IsPrefix front front' → c.end ≡ None → b' ≡ b → l' ≡ l
      → HasWritten o' keeps' n conn c a b k l front writes → HasWritten o' keeps' n conn (record c { decoder = d }) a b' k l' front' writes
  still_written o' keeps' n None c d a b b' k l l' front front' writes on none same still h = unwritten_meanwhile c d a b b' k l l' writes same still h
  still_written o' keeps' n (Some conn) c d a b b' k l l' front front' writes on none same still h = written_meanwhile o' keeps' n conn c d c.end a b b' k l l' front front' writes on none same still h

  -- a piece was taken, or none
  pub takes_piece : (pass : Known Event) (link link' : LinkState) (c : Course) (d : Decoding) (frames : List Frame) → c.end ≡ None → d.fed ≤ SESSION_MOST_BYTES → IsPolledRead frames link.left link'.left c.decoder d link.take_counted link'.take_counted → KeepsPut link link'
      → GoesOn o keeps count pass link c [] pass link' (record c { decoder = d }) frames
  takes_piece pass link link' c d frames none few n kept =
      while_reading (λ x. IsPolledRead frames link.left link'.left x.decoder d link.take_counted link'.take_counted → GoesOn o keeps count pass link x [] pass link' (record x { decoder = d }) frames) c c.conn refl none
      (λ x n began given s.
      let x' = record x { conn = c.conn; end = None } in
      by_reading began given pass link x' [] s pass link' (record x' { decoder = d }) frames [] refl (enters_none o count pass.number pass.front)
      (as_before began given pass link x' [] s x'.conn None d link'.left link'.take_counted frames
      (read_piece o keeps began.number x'.conn x'.decoder given.left link.left given.take_counted link.take_counted pass.front pass.front [] s.writes s.reads s.read d link'.left link'.take_counted few frames n
      (pending_more o keeps began.number x'.conn pass.front s.read.frames frames s.writes s.reads s.read.entered)))
      (still_written o keeps began.number x'.conn x' d given.contents link.contents link'.contents given.put_counted link.put_counted link'.put_counted pass.front pass.front s.writes (prefix_self pass.front) refl kept.contents kept.counted s.written)) n

  -- all was posted, and nothing was pending
  whole_behind : (n : ℕ) (conn : ConnNo) (done : List Frame) → stage_after InSession done ≡ InSession → (end : SessionEnd) → IsOfRead end → IsPosted n conn (done ++ []) end (taken n conn (inputs_of done) ++ [])
  whole_behind n conn done stage end is =
      subst (IsPosted n conn (done ++ []) end) (sym (append-nil (taken n conn (inputs_of done))))
      (subst (λ fs. IsPosted n conn fs end (taken n conn (inputs_of done))) (sym (append-nil done)) (posted_whole n conn done stage end is))

  -- reading ended by what was taken
  ends_by_piece : (conn : Option ConnNo) (pass pass' : Known Event) (link link' : LinkState) (c c' : Course) (d : Decoding) (end : SessionEnd) → d.fed ≤ SESSION_MOST_BYTES → IsNextEnd end link.left link'.left c.decoder d link.take_counted link'.take_counted → KeepsPut link link'
      → EndsReading o keeps count conn end pass (record c { conn = conn; end = None; decoder = d }) pass' c' → GoesOn o keeps count pass link (record c { conn = conn; end = None }) [] pass' link' c' []
  ends_by_piece None pass pass' link link' c c' d end few n kept e began given s =
      let x = record c { conn = None; end = None } in
      let x' = record c { conn = None; decoder = d; end = Some end; write = Some written.Done } in
      subst (λ p. IsSession o keeps count began given p link' c' []) (sym e.0)
      (subst (λ y. IsSession o keeps count began given pass link' y []) (sym e.1)
      (by_reading began given pass link x [] s pass link' x' [] [] refl (enters_none o count pass.number pass.front)
      (as_before began given pass link x [] s None (Some end) d link'.left link'.take_counted []
      (read_to_end o keeps began.number None x.decoder given.left link.left given.take_counted link.take_counted pass.front pass.front [] s.writes s.reads s.read d link'.left link'.take_counted few end n s.reads
      (never_logs_in began.number s.read.frames s.writes s.reads s.read.entered end n.of_read)))
      (unwritten_over x d end given.contents link.contents link'.contents given.put_counted link.put_counted link'.put_counted s.writes kept.contents kept.counted s.written)))
  ends_by_piece (Some conn) pass pass' link link' c c' d end few n kept e began given s =
      let x = record c { conn = Some conn; end = None } in
      let x' = record c { conn = Some conn; decoder = d; end = Some end } in
      let closed : IsClosed o keeps count began.number conn end pass.front pass'.front = subst (λ m. IsClosed o keeps count m conn end pass.front pass'.front) s.number e.2 in
      let h = s.read.entered in
      subst (λ y. IsSession o keeps count began given pass' link' y []) (sym e.0)
      (by_reading began given pass link x [] s pass' link' x' [] closed.events e.1 (subst (λ m. Enters o count m closed.events pass.front pass'.front) (sym s.number) closed.enters)
      (read_to_end o keeps began.number (Some conn) x.decoder given.left link.left given.take_counted link.take_counted pass.front pass'.front [] s.writes s.reads s.read d link'.left link'.take_counted few end n (s.reads ++ closed.events)
      (reads_out began.number conn s.read.frames [] s.reads h o keeps end pass'.front s.writes [] closed.events
      (whole_behind began.number conn h.done h.stage end n.of_read)
      closed.closes))
      (written_meanwhile o keeps began.number conn x d (Some end) given.contents link.contents link'.contents given.put_counted link.put_counted link'.put_counted pass.front pass'.front s.writes closed.enters.begins refl kept.contents kept.counted s.written))

  pub ends_reading : (pass pass' : Known Event) (link link' : LinkState) (c c' : Course) (d : Decoding) (end : SessionEnd) → c.end ≡ None → d.fed ≤ SESSION_MOST_BYTES → IsNextEnd end link.left link'.left c.decoder d link.take_counted link'.take_counted → KeepsPut link link'
      → EndsReading o keeps count c.conn end pass (record c { decoder = d }) pass' c' → GoesOn o keeps count pass link c [] pass' link' c' []
  ends_reading pass pass' link link' c c' d end none few n kept e =
      while_reading (λ x. IsNextEnd end link.left link'.left x.decoder d link.take_counted link'.take_counted → EndsReading o keeps count c.conn end pass (record x { decoder = d }) pass' c' → GoesOn o keeps count pass link x [] pass' link' c' []) c c.conn refl none
      (λ x n e. ends_by_piece c.conn pass pass' link link' x c' d end few n kept e) n e

  -- ---- logging in

  -- a Connect was answered with a number
  pub connects : (pass pass' : Known Event) (link : LinkState) (c : Course) (conn : ConnNo) (name : List ℕ) (rest : List Frame) → c.conn ≡ None → c.end ≡ None → pass'.number ≡ pass.number
      → Entered o pass.number (connect_events pass.number name (Ok conn)) pass.front pass'.front → All (λ e. pass_of e < count) pass'.front
      → GoesOn o keeps count pass link c (Login name ∷ rest) pass' link (record c { conn = Some conn }) rest
  connects pass pass' link c conn name rest is none same e named = while_reading (λ x. GoesOn o keeps count pass link x (Login name ∷ rest) pass' link (record x { conn = Some conn }) rest) c None is none
      (λ y began given s.
      let x = record y { conn = None; end = None } in
      let n = began.number in
      let now = subst (λ m. Entered o m (connect_events m name (Ok conn)) pass.front pass'.front) s.number e in
      by_reading began given pass link x (Login name ∷ rest) s pass' link (record x { conn = Some conn }) rest (event.Connect n name (connected.Number conn) ∷ []) same
      (subst (λ m. Enters o count m (event.Connect n name (connected.Number conn) ∷ []) pass.front pass'.front) (sym s.number) (enters_one o count n _ pass.front pass'.front now named))
      (read_as o keeps n None x.decoder given.left link.left given.take_counted link.take_counted pass.front pass'.front (Login name ∷ rest) s.writes s.reads s.read (Some conn) rest (s.reads ++ event.Connect n name (connected.Number conn) ∷ [])
      (logs_in n conn s.read.frames name rest s.writes s.reads s.read.entered))
      (begins_writing o keeps n conn x given.contents link.contents given.put_counted link.put_counted pass'.front s.writes refl s.written))

  -- a Connect was refused
  pub refuses : (pass mid pass' : Known Event) (link : LinkState) (c c' : Course) (r : ConnectRefused) (name : List ℕ) (rest : List Frame) → c.conn ≡ None → c.end ≡ None → mid.number ≡ pass.number
      → Entered o pass.number (connect_events pass.number name (Err r)) pass.front mid.front → All (λ e. pass_of e < count) mid.front
      → EndsReading o keeps count None (end_of_connect r) mid c pass' c' → GoesOn o keeps count pass link c (Login name ∷ rest) pass' link c' []
  refuses pass mid pass' link c c' r name rest is none same entered named ends =
      while_reading (λ x. EndsReading o keeps count None (end_of_connect r) mid x pass' c' → GoesOn o keeps count pass link x (Login name ∷ rest) pass' link c' []) c None is none
      (λ y ends began given s.
      let x = record y { conn = None; end = None } in
      let end = end_of_connect r in
      let x' = record x { end = Some end; write = Some written.Done } in
      let n = began.number in
      let events = connect_events n name (Err r) in
      let now = subst (λ m. Entered o m (connect_events m name (Err r)) pass.front mid.front) s.number entered in
      subst (λ p. IsSession o keeps count began given p link c' []) (sym ends.0)
      (subst (λ z. IsSession o keeps count began given mid link z []) (sym ends.1)
      (by_reading began given pass link x (Login name ∷ rest) s mid link x' [] events same
      (subst (λ m. Enters o count m events pass.front mid.front) (sym s.number) (enters_one o count n events pass.front mid.front now named))
      (read_to_call o keeps n None x.decoder given.left link.left given.take_counted link.take_counted pass.front mid.front (Login name ∷ rest) s.writes s.reads s.read end (refused_by_call o n name pass.front mid.front r now) None (s.reads ++ events)
      (logs_in_not n s.read.frames name rest s.writes s.reads s.read.entered r))
      (unwritten_over x x.decoder end given.contents link.contents link.contents given.put_counted link.put_counted link.put_counted s.writes refl refl s.written)))) ends

  -- ---- posting

  -- all that was pending was posted
  pub posts_pending : (pass pass' : Known Event) (link : LinkState) (c : Course) (conn : ConnNo) (frames : List Frame) → c.conn ≡ Some conn → c.end ≡ None → pass'.number ≡ pass.number
      → PostsFrames o count pass.number conn frames (Ok progress.All) pass.front pass'.front → GoesOn o keeps count pass link c frames pass' link c []
  posts_pending pass pass' link c conn frames is none same p = while_reading (λ x. GoesOn o keeps count pass link x frames pass' link x []) c (Some conn) is none
      (λ y began given s.
      let x = record y { conn = Some conn; end = None } in
      let n = began.number in
      let q = subst (λ m. PostsFrames o count m conn frames (Ok progress.All) pass.front pass'.front) s.number p in
      by_reading began given pass link x frames s pass' link x [] q.events same (subst (λ m. Enters o count m q.events pass.front pass'.front) (sym s.number) q.enters)
      (read_as o keeps n (Some conn) x.decoder given.left link.left given.take_counted link.take_counted pass.front pass'.front frames s.writes s.reads s.read (Some conn) [] (s.reads ++ q.events) (posts_all n conn s.read.frames frames s.reads s.read.entered q.events q.posts))
      (written_meanwhile o keeps n conn x x.decoder None given.contents link.contents link.contents given.put_counted link.put_counted link.put_counted pass.front pass'.front s.writes q.enters.begins refl refl refl s.written))

  -- the posts came to an end, and reading ended with its Disconnect
  ends_by_posts : (pass mid pass' : Known Event) (link : LinkState) (c c' : Course) (conn : ConnNo) (frames : List Frame) (end : SessionEnd) → IsOfCall end → c.conn ≡ Some conn → c.end ≡ None → mid.number ≡ pass.number
      → ((n : ℕ) → pass.number ≡ n → (events : List Event) × Enters o count n events pass.front mid.front × ((done : List Frame) → IsPosted n conn (done ++ frames) end (taken n conn (inputs_of done) ++ events)))
      → EndsReading o keeps count (Some conn) end mid c pass' c' → GoesOn o keeps count pass link c frames pass' link c' []
  ends_by_posts pass mid pass' link c c' conn frames end call is none same posts ends =
      while_reading (λ x. EndsReading o keeps count (Some conn) end mid x pass' c' → GoesOn o keeps count pass link x frames pass' link c' []) c (Some conn) is none
      (λ y ends began given s.
      let x = record y { conn = Some conn; end = None } in
      let x' = record x { end = Some end } in
      let n = began.number in
      let p = posts n s.number in
      let closed : IsClosed o keeps count n conn end mid.front pass'.front = subst (λ m. IsClosed o keeps count m conn end mid.front pass'.front) (same ∙ s.number) ends.2 in
      let more = p.0 ++ closed.events in
      subst (λ z. IsSession o keeps count began given pass' link z []) (sym ends.0)
      (by_reading began given pass link x frames s pass' link x' [] more (ends.1 ∙ same)
      (subst (λ m. Enters o count m more pass.front pass'.front) (sym s.number) (enters_then o count n p.0 closed.events pass.front mid.front pass'.front p.1 closed.enters))
      (read_to_call o keeps n (Some conn) x.decoder given.left link.left given.take_counted link.take_counted pass.front pass'.front frames s.writes s.reads s.read end call (Some conn) (s.reads ++ more)
      (reads_out n conn s.read.frames frames s.reads s.read.entered o keeps end pass'.front s.writes p.0 closed.events (p.2 s.read.entered.done) closed.closes))
      (written_meanwhile o keeps n conn x x.decoder (Some end) given.contents link.contents link.contents given.put_counted link.put_counted link.put_counted pass.front pass'.front s.writes (prefix_then pass.front mid.front pass'.front p.1.begins closed.enters.begins) refl refl refl s.written))) ends

  pub posts_to_logout : (pass mid pass' : Known Event) (link : LinkState) (c c' : Course) (conn : ConnNo) (frames : List Frame) → c.conn ≡ Some conn → c.end ≡ None → mid.number ≡ pass.number
      → PostsFrames o count pass.number conn frames (Ok progress.ToLogout) pass.front mid.front → EndsReading o keeps count (Some conn) ends.Logout mid c pass' c' → GoesOn o keeps count pass link c frames pass' link c' []
  posts_to_logout pass mid pass' link c c' conn frames is none same p = ends_by_posts pass mid pass' link c c' conn frames ends.Logout tt is none same
      (λ n number. let q = subst (λ m. PostsFrames o count m conn frames (Ok progress.ToLogout) pass.front mid.front) number p in (q.events, q.enters, λ done. posted_to_end n conn done frames q.events q.posts))

  refused_post_by_call : (why : PostRefused) → IsOfCall (end_of_post why)
  refused_post_by_call refused.Closed = tt
  refused_post_by_call (refused.QueueFull waiting) = tt
  refused_post_by_call refused.NoMemory = tt

  pub posts_refused : (pass mid pass' : Known Event) (link : LinkState) (c c' : Course) (conn : ConnNo) (frames : List Frame) (why : PostRefused) → c.conn ≡ Some conn → c.end ≡ None → mid.number ≡ pass.number
      → PostsFrames o count pass.number conn frames (Err why) pass.front mid.front → EndsReading o keeps count (Some conn) (end_of_post why) mid c pass' c' → GoesOn o keeps count pass link c frames pass' link c' []
  posts_refused pass mid pass' link c c' conn frames why is none same p = ends_by_posts pass mid pass' link c c' conn frames (end_of_post why) (refused_post_by_call why) is none same
      (λ n number. let q = subst (λ m. PostsFrames o count m conn frames (Err why) pass.front mid.front) number p in (q.events, q.enters, λ done. refused_behind n conn done frames why q.events q.posts))

  -- there was no memory to go on
  pub reads_no_more : (pass pass' : Known Event) (link : LinkState) (c c' : Course) (conn : ConnNo) → c.conn ≡ Some conn → c.end ≡ None → EndsReading o keeps count (Some conn) ends.NoMemory pass c pass' c' → GoesOn o keeps count pass link c [] pass' link c' []
  reads_no_more pass pass' link c c' conn is none = ends_by_posts pass pass pass' link c c' conn [] ends.NoMemory tt is none refl
      (λ n number. ([], enters_none o count n pass.front, λ done. refused_behind n conn done [] refused.NoMemory [] (record { before = []; after = []; parts = refl; posts = refl })))

  -- ---- writing

  -- some of what was handed was put, or nothing
  pub puts : (pass : Known Event) (link link' : LinkState) (c : Course) (conn : ConnNo) (bytes unput : List ℕ) → c.conn ≡ Some conn → c.write ≡ None → c.failed ≡ false → c.outgoing ≡ bytes ++ unput → Appends link.contents link'.contents bytes
      → link'.put_counted ≡ link.put_counted → KeepsTake link link' → GoesOn o keeps count pass link c [] pass link' (record c { outgoing = unput }) []
  puts pass link link' c conn bytes unput is none not parts appended still kept =
      while_writing (λ x. x.outgoing ≡ bytes ++ unput → GoesOn o keeps count pass link x [] pass link' (record x { outgoing = unput }) []) c conn false is none not
      (λ y parts began given s.
      let x = record y { conn = Some conn; write = None; failed = false } in
      let n = began.number in
      by_writing began given pass link x [] s pass link' (record x { outgoing = unput }) [] [] refl (enters_none o count pass.number pass.front)
      (read_meanwhile o keeps n (Some conn) x.end x.decoder given.left link.left given.take_counted link.take_counted pass.front [] s.writes s.reads s.read link'.left link'.take_counted pass.front [] (prefix_self pass.front) kept.left kept.counted)
      (subst (λ ws. HasWritten o keeps n (Some conn) (record x { outgoing = unput }) given.contents link'.contents given.put_counted link'.put_counted pass.front ws) (sym (append-nil s.writes))
      (puts_on o keeps n conn given.contents link.contents given.put_counted link.put_counted x.gone x.outgoing x.end pass.front s.writes s.written bytes unput link'.contents link'.put_counted parts appended still))) parts

  -- the link failed, and a Disconnect was posted
  pub fails : (pass pass' : Known Event) (link link' : LinkState) (c : Course) (conn : ConnNo) → c.conn ≡ Some conn → c.write ≡ None → c.failed ≡ false → pass'.number ≡ pass.number → AppendsPrefix link.contents link'.contents c.outgoing
      → HasRisen link.put_counted link'.put_counted → KeepsTake link link' → Disconnects o keeps count pass.number conn false pass.front pass'.front → GoesOn o keeps count pass link c [] pass' link' (record c { outgoing = []; failed = true }) []
  fails pass pass' link link' c conn is none not same part risen kept d =
      while_writing (λ x. AppendsPrefix link.contents link'.contents x.outgoing → GoesOn o keeps count pass link x [] pass' link' (record x { outgoing = []; failed = true }) []) c conn false is none not
      (λ y part began given s.
      let x = record y { conn = Some conn; write = None; failed = false } in
      let n = began.number in
      let e = subst (λ m. Disconnects o keeps count m conn false pass.front pass'.front) s.number d in
      by_writing began given pass link x [] s pass' link' (record x { outgoing = []; failed = true }) [] e.events same (subst (λ m. Enters o count m e.events pass.front pass'.front) (sym s.number) e.enters)
      (read_meanwhile o keeps n (Some conn) x.end x.decoder given.left link.left given.take_counted link.take_counted pass.front [] s.writes s.reads s.read link'.left link'.take_counted pass'.front e.events e.enters.begins kept.left kept.counted)
      (goes_without o keeps n conn given.contents link.contents given.put_counted link.put_counted x.gone x.outgoing x.end pass.front s.writes s.written pass'.front e.events e.ends x.gone x.end link'.contents link'.put_counted refl refl part risen)) part

  -- there was no memory, and a Disconnect was posted
  pub gives_all_up : (pass pass' : Known Event) (link : LinkState) (c : Course) (conn : ConnNo) → c.conn ≡ Some conn → c.write ≡ None → c.failed ≡ false → IsSome c.end → pass'.number ≡ pass.number
      → Disconnects o keeps count pass.number conn false pass.front pass'.front → GoesOn o keeps count pass link c [] pass' link (record c { write = Some written.NoMemory }) []
  gives_all_up pass pass' link c conn is none not ended same d =
      while_writing (λ x. IsSome x.end → GoesOn o keeps count pass link x [] pass' link (record x { write = Some written.NoMemory }) []) c conn false is none not
      (λ y ended began given s.
      let x = record y { conn = Some conn; write = None; failed = false } in
      let n = began.number in
      let e = subst (λ m. Disconnects o keeps count m conn false pass.front pass'.front) s.number d in
      by_writing began given pass link x [] s pass' link (record x { write = Some written.NoMemory }) [] e.events same (subst (λ m. Enters o count m e.events pass.front pass'.front) (sym s.number) e.enters)
      (read_meanwhile o keeps n (Some conn) x.end x.decoder given.left link.left given.take_counted link.take_counted pass.front [] s.writes s.reads s.read link.left link.take_counted pass'.front e.events e.enters.begins refl refl)
      (gives_up o keeps n conn given.contents link.contents given.put_counted link.put_counted x.gone x.outgoing x.end pass.front s.writes s.written pass'.front e.events e.ends x.end ended)) ended

  -- there was no memory behind a failure of the link
  pub gives_rest_up : (pass : Known Event) (link : LinkState) (c : Course) (conn : ConnNo) → c.conn ≡ Some conn → c.write ≡ None → c.failed ≡ true → IsSome c.end → GoesOn o keeps count pass link c [] pass link (record c { write = Some written.NoMemory }) []
  gives_rest_up pass link c conn is none fails ended =
      while_writing (λ x. IsSome x.end → GoesOn o keeps count pass link x [] pass link (record x { write = Some written.NoMemory }) []) c conn true is none fails
      (λ y ended began given s.
      let x = record y { conn = Some conn; write = None; failed = true } in
      let n = began.number in
      by_writing began given pass link x [] s pass link (record x { write = Some written.NoMemory }) [] [] refl (enters_none o count pass.number pass.front)
      (read_meanwhile o keeps n (Some conn) x.end x.decoder given.left link.left given.take_counted link.take_counted pass.front [] s.writes s.reads s.read link.left link.take_counted pass.front [] (prefix_self pass.front) refl refl)
      (subst (λ ws. HasWritten o keeps n (Some conn) (record x { write = Some written.NoMemory }) given.contents link.contents given.put_counted link.put_counted pass.front ws) (sym (append-nil s.writes))
      (gives_up_without o keeps n conn given.contents link.contents given.put_counted link.put_counted x.gone x.end pass.front s.writes s.written x.end ended))) ended

  -- ---- handing

  -- after a Hand reading goes on, or ends as closed
  read_on_hand : (n : ℕ) (conn : ConnNo) (end : Option SessionEnd) (d : Decoding) (left at : Option (List ℕ)) (counted counted_at : ℕ) (front front' writes reads more : List Event) (gone : Bool) → (gone ≡ true → list_any (tells_end conn) (writes ++ more) ≡ true) → IsPrefix front front'
      → HasRead o keeps n (Some conn) end d left at counted counted_at front [] writes reads → HasRead o keeps n (Some conn) (cond gone (Some (unwrap_or end ends.Closed)) end) d left at counted counted_at front' [] (writes ++ more) reads
  read_on_hand n conn end d left at counted counted_at front front' writes reads more false told on h = read_meanwhile o keeps n (Some conn) end d left at counted counted_at front [] writes reads h at counted_at front' more on refl refl
  read_on_hand n conn (Some end) d left at counted counted_at front front' writes reads more true told on h = read_meanwhile o keeps n (Some conn) (Some end) d left at counted counted_at front [] writes reads h at counted_at front' more on refl refl
  read_on_hand n conn None d left at counted counted_at front front' writes reads more true told on h =
      let now = read_meanwhile o keeps n (Some conn) None d left at counted counted_at front [] writes reads h at counted_at front' more on refl refl in
      read_to_call o keeps n (Some conn) d left at counted counted_at front' front' [] (writes ++ more) reads now ends.Closed tt (Some conn) reads (cuts_off o keeps n conn now.frames front' (writes ++ more) reads now.entered (told refl))

  ended_where_gone : (gone : Bool) (end : Option SessionEnd) → gone ≡ true → IsSome (cond gone (Some (unwrap_or end ends.Closed)) end)
  ended_where_gone true end is = refl
  ended_where_gone false end is = absurd (cc is)

  -- a Hand was entered
  pub hands : (pass pass' : Known Event) (link : LinkState) (c : Course) (conn : ConnNo) (most : ℕ) (outs : List Out) (gone : Bool) → c.conn ≡ Some conn → c.write ≡ None → c.gone ≡ false → (c.failed ≡ false → c.outgoing ≡ []) → pass'.number ≡ pass.number
      → Entered o pass.number (event.Hand pass.number conn most outs gone ∷ []) pass.front pass'.front → All (λ e. pass_of e < count) pass'.front → GoesOn o keeps count pass link c [] pass' link (with_handed c outs gone) []
  hands pass pass' link c conn most outs gone is none there empty same e named =
      elim c.failed as (λ f. c.failed ≡ f → GoesOn o keeps count pass link c [] pass' link (with_handed c outs gone) []) [
        | false ↦ λ f. while_writing (λ x. x.gone ≡ false → x.outgoing ≡ [] → GoesOn o keeps count pass link x [] pass' link (with_handed x outs gone) []) c conn false is none f
            (λ y there empty began given s.
            let x = record y { conn = Some conn; write = None; failed = false } in
            let n = began.number in
            let more = event.Hand n conn most outs gone ∷ [] in
            let now = subst (λ m. Entered o m (event.Hand m conn most outs gone ∷ []) pass.front pass'.front) s.number e in
            by_writing began given pass link x [] s pass' link (with_handed x outs gone) [] more same (subst (λ m. Enters o count m more pass.front pass'.front) (sym s.number) (enters_one o count n more pass.front pass'.front now named))
            (read_on_hand n conn x.end x.decoder given.left link.left given.take_counted link.take_counted pass.front pass'.front s.writes s.reads more gone (λ g. list_any-append (tells_end conn) s.writes more ∙ or_right (list_any (tells_end conn) s.writes) _ (told_one n conn most outs gone ∙ g)) (entered_begins o n more pass.front pass'.front now) s.read)
            (hands_more o keeps n conn given.contents link.contents given.put_counted link.put_counted x.end (with_handed x outs gone).end pass.front pass'.front s.writes most outs gone
            (subst (λ g. IsPutting o n conn g [] x.end given.contents link.contents given.put_counted link.put_counted pass.front s.writes) there
            (subst (λ bs. IsPutting o n conn x.gone bs x.end given.contents link.contents given.put_counted link.put_counted pass.front s.writes) empty s.written)) now (ended_where_gone gone x.end))) there (empty f)
        | true ↦ λ f. while_writing (λ x. GoesOn o keeps count pass link x [] pass' link (with_handed x outs gone) []) c conn true is none f
            (λ y began given s.
            let x = record y { conn = Some conn; write = None; failed = true } in
            let n = began.number in
            let more = event.Hand n conn most outs gone ∷ [] in
            let now = subst (λ m. Entered o m (event.Hand m conn most outs gone ∷ []) pass.front pass'.front) s.number e in
            by_writing began given pass link x [] s pass' link (with_handed x outs gone) [] more same (subst (λ m. Enters o count m more pass.front pass'.front) (sym s.number) (enters_one o count n more pass.front pass'.front now named))
            (read_on_hand n conn x.end x.decoder given.left link.left given.take_counted link.take_counted pass.front pass'.front s.writes s.reads more gone (λ g. list_any-append (tells_end conn) s.writes more ∙ or_right (list_any (tells_end conn) s.writes) _ (told_one n conn most outs gone ∙ g)) (entered_begins o n more pass.front pass'.front now) s.read)
            (hands_without o keeps n conn given.contents link.contents given.put_counted link.put_counted x.gone x.end pass.front s.writes s.written (with_handed x outs gone).end pass'.front most outs gone (entered_begins o n more pass.front pass'.front now) (ended_where_gone gone x.end)))
      ] refl

  written_at : (o' : Opened) (keeps' : Bool) (n : ℕ) (conn : ConnNo) (failed : Bool) (c : Course) (a b : Option (List ℕ)) (k l : ℕ) (front front' writes : List Event) → IsPrefix front front' → c.gone ≡ false → IsWritten o' keeps' n conn None failed c a b k l front writes → IsWritten o' keeps' n conn None failed c a b k l front' writes
  written_at o' keeps' n conn false c a b k l front front' writes on there h = record { put = h.put; hands = h.hands; parts = h.parts; appended = h.appended; counts = h.counts; last = λ is. absurd (cc (sym there ∙ is)) }
  written_at o' keeps' n conn true c a b k l front front' writes on there h = record { given_up = given_on o' keeps' n conn front front' writes on h.given_up; put = h.put; counts = h.counts; last = h.last }

  -- nothing was entered, and the pass has seen more
  pub sees : (pass pass' : Known Event) (link : LinkState) (c : Course) (conn : ConnNo) → c.conn ≡ Some conn → c.write ≡ None → c.gone ≡ false → pass'.number ≡ pass.number → Entered o pass.number [] pass.front pass'.front → All (λ e. pass_of e < count) pass'.front
      → GoesOn o keeps count pass link c [] pass' link c []
  sees pass pass' link c conn is none there same e named = while_writing (λ x. x.gone ≡ false → GoesOn o keeps count pass link x [] pass' link x []) c conn c.failed is none refl
      (λ y there began given s.
      let x = record y { conn = Some conn; write = None; failed = c.failed } in
      let n = began.number in
      by_writing began given pass link x [] s pass' link x [] [] same (enters_one o count pass.number [] pass.front pass'.front e named)
      (read_meanwhile o keeps n (Some conn) x.end x.decoder given.left link.left given.take_counted link.take_counted pass.front [] s.writes s.reads s.read link.left link.take_counted pass'.front [] (entered_begins o pass.number [] pass.front pass'.front e) refl refl)
      (subst (λ ws. HasWritten o keeps n (Some conn) x given.contents link.contents given.put_counted link.put_counted pass'.front ws) (sym (append-nil s.writes))
      (written_at o keeps n conn c.failed x given.contents link.contents given.put_counted link.put_counted pass.front pass'.front s.writes (entered_begins o pass.number [] pass.front pass'.front e) there s.written))) there
