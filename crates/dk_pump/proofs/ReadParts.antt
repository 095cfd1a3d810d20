-- The reading of a polled session goes on, and comes to its end.
use Rattle.std.proofs.Common.{◌≡◌, ◌||◌, ℕ, ◌≤◌, Bool, true, false, List, [], ◌∷◌, ◌++◌, Option, Some, None, Ok, Err, inl, inr, refl, sym, ap, subst, ◌∙◌, append_assoc}
use Rattle.std.proofs.lemmas.List.{append-nil}
use Rattle.std.proofs.lemmas.List.Folds.{list_any-append}
use Rattle.std.specs.List.{list_any}
use Rattle.std.specs.Io.KnownBytes.{Consumes}
use mathlib.Core.List.{IsPrefix}
use Rattle.dk_types.specs.declared.limits.TheConstants.{NUMBERS_END}
use Rattle.dk_types.specs.declared.number.ConnNo.{ConnNo}
use Rattle.dk_types.specs.declared.event.Event.{Event}
use Rattle.dk_types.specs.declared.event.Event.TheVariants as event
use Rattle.dk_types.specs.declared.event.ConnectReply.TheVariants as connected
use Rattle.dk_model.specs.Frames.{Frame, Login, InSession, stage_after}
use Rattle.dk_model.specs.Legal.{Opened}
use Rattle.dk_core.specs.declared.answers.ConnectRefused.{ConnectRefused}
use Rattle.dk_core.specs.declared.answers.ConnectRefused.TheVariants as refused
use Rattle.dk_frame.specs.Decoding.{Decoding}
use Rattle.dk_frame.proofs.Turns.{stage_after-append}
use Rattle.dk_host.specs.Calls.{Entered, connect_events}
use Rattle.dk_pump.specs.declared.limits.TheConstants.{SESSION_MOST_BYTES}
use Rattle.dk_pump.specs.declared.ends.SessionEnd.{SessionEnd}
use Rattle.dk_pump.specs.declared.ends.SessionEnd.TheVariants as ends
use Rattle.dk_pump.specs.declared.posting.Progress.TheVariants as progress
use Rattle.dk_pump.specs.Ends.{end_of_connect}
use Rattle.dk_pump.specs.Reading.{inputs_of, taken, Posts, Counts, IsOfRead, IsNextEnd, ConnectsBy, IsPosted, Closes}
use Rattle.dk_pump.specs.Sessions.{IsPolledRead, IsInSession, IsReadOut, AreReads, StopsBy, HasRead}
use Rattle.dk_pump.specs.Writing.{tells_end}
use Rattle.dk_pump.proofs.Connected.{connect_ends, connects_none}
use Rattle.dk_turn.proofs.Beginnings.{prefix_self}
use Rattle.dk_pump.proofs.Later.{prefix_then}
use Rattle.dk_pump.proofs.PostedBehind.{taken_both}
use Rattle.dk_pump.proofs.Streams.{consumes_then, cause_then}

or_left : (x y : Bool) → x ≡ true → (x || y) ≡ true
or_left true y is = refl
or_left false y is = absurd (cc is)

-- the ends of which no byte tells, with what causes them
abbrev pub IsOfCall : SessionEnd → Type 0
IsOfCall ends.Logout = Unit {0}
IsOfCall (ends.End at) = ⊥
IsOfCall (ends.Truncated at) = ⊥
IsOfCall (ends.Bad bad) = ⊥
IsOfCall ends.ReadFault = ⊥
IsOfCall (ends.Flood waiting) = Unit {0}
IsOfCall ends.Closed = Unit {0}
IsOfCall (ends.Exhausted next) = next ≡ NUMBERS_END
IsOfCall (ends.Budget bytes) = ⊥
IsOfCall ends.NoMemory = Unit {0}

-- ---- while the other direction goes on

reads_meanwhile : (o : Opened) (keeps : Bool) (pass : ℕ) (conn : Option ConnNo) (end : Option SessionEnd) (front front' : List Event) (frames pending : List Frame) (writes reads more : List Event) → IsPrefix front front'
    → AreReads o keeps pass conn end front frames pending writes reads → AreReads o keeps pass conn end front' frames pending (writes ++ more) reads
reads_meanwhile o keeps pass None None front front' frames pending writes reads more on h = h
reads_meanwhile o keeps pass None (Some end) front front' frames pending writes reads more on h = h
reads_meanwhile o keeps pass (Some conn) None front front' frames pending writes reads more on h = h
reads_meanwhile o keeps pass (Some conn) (Some end) front front' frames pending writes reads more on h = record {
  name = h.name;
  rest = h.rest;
  posts = h.posts;
  parts = h.parts;
  connects = h.connects;
  ended = elim h.ended [
    | inl is ↦ inl (record { at = is.at; seen = prefix_then is.at front front' is.seen on; before = is.before; closing = is.closing; parts = is.parts; posted = is.posted; closes = is.closes })
    | inr is ↦ inr (record { closed = is.closed; told = list_any-append (tells_end conn) writes more ∙ or_left _ _ is.told; stage = is.stage; posted = is.posted })
  ];
}

module _ (o : Opened) (keeps : Bool) (pass : ℕ) (conn : Option ConnNo) (end : Option SessionEnd) (d : Decoding) (left at : Option (List ℕ)) (counted counted_at : ℕ) (front : List Event) (pending : List Frame) (writes reads : List Event)
    (h : HasRead o keeps pass conn end d left at counted counted_at front pending writes reads) where
  pub read_meanwhile : (left' : Option (List ℕ)) (counted' : ℕ) (front' more : List Event) → IsPrefix front front' → left' ≡ at → counted' ≡ counted_at → HasRead o keeps pass conn end d left left' counted counted' front' pending (writes ++ more) reads
  read_meanwhile left' counted' front' more on same still = record {
    bytes = h.bytes;
    lost = h.lost;
    frames = h.frames;
    consumed = subst (λ l. Consumes left l (h.bytes ++ h.lost)) (sym same) h.consumed;
    stands = h.stands;
    few = h.few;
    stops = subst (StopsBy end left h.bytes h.lost d counted) (sym still) h.stops;
    entered = reads_meanwhile o keeps pass conn end front front' h.frames pending writes reads more on h.entered;
  }

-- ---- reading goes on

module _ (o : Opened) (keeps : Bool) (pass : ℕ) (conn : Option ConnNo) (d : Decoding) (left at : Option (List ℕ)) (counted counted_at : ℕ) (front front' : List Event) (pending : List Frame) (writes reads : List Event)
    (h : HasRead o keeps pass conn None d left at counted counted_at front pending writes reads) where
  all_consumed : Consumes left at h.bytes
  all_consumed = subst (Consumes left at) (ap (λ l. h.bytes ++ l) h.stops.0 ∙ append-nil h.bytes) h.consumed

  -- what was entered is as it is told
  pub read_as : (conn' : Option ConnNo) (pending' : List Frame) (reads' : List Event) → AreReads o keeps pass conn' None front' h.frames pending' writes reads' → HasRead o keeps pass conn' None d left at counted counted_at front' pending' writes reads'
  read_as conn' pending' reads' entered = record { bytes = h.bytes; lost = h.lost; frames = h.frames; consumed = h.consumed; stands = h.stands; few = h.few; stops = h.stops; entered = entered }

  -- reading ended by a call
  stops_by_call : (end : SessionEnd) → IsOfCall end → StopsBy (Some end) left h.bytes h.lost d counted counted_at
  stops_by_call ends.Logout is = (h.stops.0, tt, h.stops.1)
  stops_by_call (ends.End at) is = absurd is
  stops_by_call (ends.Truncated at) is = absurd is
  stops_by_call (ends.Bad bad) is = absurd is
  stops_by_call ends.ReadFault is = absurd is
  stops_by_call (ends.Flood waiting) is = (h.stops.0, tt, h.stops.1)
  stops_by_call ends.Closed is = (h.stops.0, tt, h.stops.1)
  stops_by_call (ends.Exhausted next) is = (h.stops.0, is, h.stops.1)
  stops_by_call (ends.Budget bytes) is = absurd is
  stops_by_call ends.NoMemory is = (tt, tt, h.stops.1)

  pub read_to_call : (end : SessionEnd) → IsOfCall end → (conn' : Option ConnNo) (reads' : List Event) → AreReads o keeps pass conn' (Some end) front' h.frames [] writes reads' → HasRead o keeps pass conn' (Some end) d left at counted counted_at front' [] writes reads'
  read_to_call end is conn' reads' entered = record { bytes = h.bytes; lost = h.lost; frames = h.frames; consumed = h.consumed; stands = h.stands; few = h.few; stops = stops_by_call end is; entered = entered }

  module _ (new : Decoding) (left' : Option (List ℕ)) (counted' : ℕ) (few : new.fed ≤ SESSION_MOST_BYTES) where
    -- reading ended by what was read
    pub read_to_end : (end : SessionEnd) → IsNextEnd end at left' d new counted_at counted' → (reads' : List Event) → AreReads o keeps pass conn (Some end) front' h.frames [] writes reads' → HasRead o keeps pass conn (Some end) new left left' counted counted' front' [] writes reads'
    read_to_end end n reads' entered = record {
      bytes = h.bytes ++ n.bytes;
      lost = n.lost;
      frames = h.frames;
      consumed = subst (Consumes left left') (sym (append_assoc h.bytes n.bytes n.lost)) (consumes_then left at left' h.bytes (n.bytes ++ n.lost) all_consumed n.consumed);
      stands = n.fed h.bytes h.frames h.stands;
      few = few;
      stops = (n.loses, cause_then end left at h.bytes n.bytes new all_consumed n.cause, subst (λ k. Counts end k counted') h.stops.1 n.counts);
      entered = entered;
    }

    -- one more piece
    pub read_piece : (frames : List Frame) → IsPolledRead frames at left' d new counted_at counted' → AreReads o keeps pass conn None front' (h.frames ++ frames) frames writes reads → HasRead o keeps pass conn None new left left' counted counted' front' frames writes reads
    read_piece frames n entered = record {
      bytes = h.bytes ++ n.bytes;
      lost = [];
      frames = h.frames ++ frames;
      consumed = subst (Consumes left left') (sym (append-nil (h.bytes ++ n.bytes))) (consumes_then left at left' h.bytes n.bytes all_consumed n.read.consumed);
      stands = n.read.fed h.bytes h.frames h.stands;
      few = few;
      stops = (refl, n.counts ∙ h.stops.1);
      entered = entered;
    }

-- ---- what is entered

-- the frames of one more piece are pending
pub pending_more : (o : Opened) (keeps : Bool) (pass : ℕ) (conn : Option ConnNo) (front : List Event) (frames more : List Frame) (writes reads : List Event) → AreReads o keeps pass conn None front frames [] writes reads → AreReads o keeps pass conn None front (frames ++ more) more writes reads
pending_more o keeps pass None front frames more writes reads h = (ap (λ fs. fs ++ more) h.0, h.1)
pending_more o keeps pass (Some conn) front frames more writes reads h =
    record { name = h.name; done = h.done; parts = ap (λ fs. fs ++ more) h.parts ∙ ap (λ fs. Login h.name ∷ (fs ++ more)) (append-nil h.done); stage = h.stage; posts = h.posts }

-- the client was connected
pub logs_in : (pass : ℕ) (conn : ConnNo) (frames : List Frame) (name : List ℕ) (rest : List Frame) (writes reads : List Event) → (frames ≡ Login name ∷ rest) × (reads ≡ [])
    → IsInSession pass conn frames rest (reads ++ event.Connect pass name (connected.Number conn) ∷ [])
logs_in pass conn frames name rest writes reads h = record { name = name; done = []; parts = h.0; stage = refl; posts = ap (λ es. es ++ event.Connect pass name (connected.Number conn) ∷ []) h.1 }

-- and here it was not
pub logs_in_not : (pass : ℕ) (frames : List Frame) (name : List ℕ) (rest : List Frame) (writes reads : List Event) → (frames ≡ Login name ∷ rest) × (reads ≡ [])
    → (r : ConnectRefused) → ConnectsBy pass frames (Err (end_of_connect r)) (reads ++ connect_events pass name (Err r))
logs_in_not pass frames name rest writes reads h (refused.Exhausted next) = (name, rest, h.0, ap (λ es. es ++ event.Connect pass name (connected.Exhausted next) ∷ []) h.1)
logs_in_not pass frames name rest writes reads h refused.NoMemory = ap (λ es. es ++ []) h.1

pub refused_by_call : (o : Opened) (pass : ℕ) (name : List ℕ) (old new : List Event) (r : ConnectRefused) → Entered o pass (connect_events pass name (Err r)) old new → IsOfCall (end_of_connect r)
refused_by_call o pass name old new (refused.Exhausted next) e = connect_ends o pass name next old new e
refused_by_call o pass name old new refused.NoMemory e = tt

-- no LOGIN came
pub never_logs_in : (pass : ℕ) (frames : List Frame) (writes reads : List Event) → (frames ≡ []) × (reads ≡ []) → (end : SessionEnd) → IsOfRead end → ConnectsBy pass frames (Err end) reads
never_logs_in pass frames writes reads h end is = subst (λ fs. ConnectsBy pass fs (Err end) reads) (sym h.0) (subst (ConnectsBy pass [] (Err end)) (sym h.1) (connects_none pass end is))

module _ (pass : ℕ) (conn : ConnNo) (frames pending : List Frame) (reads : List Event) (h : IsInSession pass conn frames pending reads) where
  -- what was pending was posted, and none of it was a LOGOUT
  pub posts_all : (events : List Event) → Posts pass conn pending (Ok progress.All) events → IsInSession pass conn frames [] (reads ++ events)
  posts_all events p = record {
    name = h.name;
    done = h.done ++ pending;
    parts = h.parts ∙ ap (λ fs. Login h.name ∷ fs) (sym (append-nil (h.done ++ pending)));
    stage = stage_after-append InSession h.done pending ∙ ap (λ stage. stage_after stage pending) h.stage ∙ p.1;
    posts = ap (λ es. es ++ events) h.posts ∙ ap (λ es. event.Connect pass h.name (connected.Number conn) ∷ es) (ap (λ es. taken pass conn (inputs_of h.done) ++ es) p.0 ∙ sym (taken_both pass conn h.done pending));
  }

  -- the posts were these, and the end came with its Disconnect
  pub reads_out : (o : Opened) (keeps : Bool) (end : SessionEnd) (front writes events closing : List Event) → IsPosted pass conn (h.done ++ pending) end (taken pass conn (inputs_of h.done) ++ events) → Closes o keeps pass conn end front closing
      → IsReadOut o keeps pass conn frames end front writes (reads ++ (events ++ closing))
  reads_out o keeps end front writes events closing posted closes = record {
    name = h.name;
    rest = h.done ++ pending;
    posts = taken pass conn (inputs_of h.done) ++ (events ++ closing);
    parts = h.parts;
    connects = ap (λ es. es ++ (events ++ closing)) h.posts;
    ended = inl (record { at = front; seen = prefix_self front; before = taken pass conn (inputs_of h.done) ++ events; closing = closing; parts = sym (append_assoc (taken pass conn (inputs_of h.done)) events closing); posted = posted; closes = closes });
  }

-- a Hand told that the connection is gone
pub cuts_off : (o : Opened) (keeps : Bool) (pass : ℕ) (conn : ConnNo) (frames : List Frame) (front writes reads : List Event) → IsInSession pass conn frames [] reads → list_any (tells_end conn) writes ≡ true → IsReadOut o keeps pass conn frames ends.Closed front writes reads
cuts_off o keeps pass conn frames front writes reads h told = record {
  name = h.name;
  rest = h.done;
  posts = taken pass conn (inputs_of h.done);
  parts = h.parts ∙ ap (λ fs. Login h.name ∷ fs) (append-nil h.done);
  connects = h.posts;
  ended = inr (record { closed = refl; told = told; stage = h.stage; posted = refl });
}
