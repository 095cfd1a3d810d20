-- One piece of a session's stream: what a decoder that is fed nothing tells, and then one that is fed the piece.
use Rattle.std.proofs.Common.{◌≡◌, ℕ, ◌+◌, ◌<◌, ◌≤◌, List, [], ◌∷◌, ◌++◌, length, map, take, Option, None, refl, sym, ap, subst, ◌∙◌, length-append, arith}
use Rattle.std.proofs.lemmas.List.{append-nil, length-take}
use Rattle.std.proofs.Math.Logic.{∥∥₁_elim}
use denote.Struct.Props.{props}
use Rattle.std.specs.Io.KnownBytes.{Consumes, Keeps}
use Rattle.dk_types.specs.Faults.{HasRisen}
use Rattle.dk_model.specs.Frames.{Frame, Begun}
use Rattle.dk_edge.specs.Streams.{Gives}
use Rattle.dk_frame.specs.declared.frame.ClientFrame.{ClientFrame}
use Rattle.dk_frame.specs.declared.frame.FrameRefused.{FrameRefused}
use Rattle.dk_frame.specs.declared.frame.FrameRefused.TheVariants as frames
use Rattle.dk_frame.specs.Meanings.{frame_of}
use Rattle.dk_frame.specs.Decoding.{Decoding, HasDecoded, Refuses, IsNotBegun, following}
use Rattle.dk_pump.specs.declared.limits.TheConstants.{SESSION_MOST_BYTES}
use Rattle.dk_pump.specs.declared.ends.SessionEnd.TheVariants as ends
use Rattle.dk_pump.specs.Ends.{end_of_frames}
use Rattle.dk_pump.specs.Reading.{HasStream, IsNextRead, IsNextEnd}
use Rattle.dk_pump.proofs.Streams.{consumes_none, keeps_consumes, whole_at_end, none_given, stands_as, nothing_follows}

-- a decoder that was fed nothing, and no bad frame follows
pub record IsIdle (old mid : Decoding) : Type 0 where
  pub same : (stream : List ℕ) (given : List Frame) → HasDecoded old stream given → HasDecoded mid stream given
  pub fed : mid.fed ≡ old.fed
  pub fault : mid.fault ≡ None

map_nil : (items : List ClientFrame) → map frame_of items ≡ [] → items ≡ []
map_nil [] is = refl
map_nil (f ∷ items) is = absurd (cc is)

pub idle : (old mid : Decoding) (piece : List ℕ) (items : List ClientFrame) → HasStream old → piece ≡ []
    → ((stream : List ℕ) (given : List Frame) → HasDecoded old stream given → HasDecoded mid (stream ++ piece) (given ++ map frame_of items)) → (items ≡ [] → mid.fault ≡ None) → IsIdle old mid
idle old mid piece items s nothing fed told =
    let on : (stream : List ℕ) (given : List Frame) → HasDecoded old stream given → HasDecoded mid (stream ++ []) (given ++ map frame_of items) = subst (λ p. (stream : List ℕ) (given : List Frame) → HasDecoded old stream given → HasDecoded mid (stream ++ p) (given ++ map frame_of items)) nothing fed in
    let none : items ≡ [] = map_nil items (none_given old mid s.stream s.given (map frame_of items) s.stands (on s.stream s.given s.stands)) in
    let now : HasDecoded mid s.stream s.given = stands_as old mid s.stream s.given (map frame_of items) s.stands (on s.stream s.given s.stands) in
    record {
      same = λ stream given before. stands_as old mid stream given (map frame_of items) before (on stream given before);
      fed = now.fed ∙ sym s.stands.fed;
      fault = told none;
    }

-- where no frame came, and it is only known that there is a stream
pub idle_merely : (old mid : Decoding) (items : List ClientFrame) → ∥ HasStream old ∥₁ → items ≡ []
    → ((stream : List ℕ) (given : List Frame) → HasDecoded old stream given → HasDecoded mid (stream ++ []) (given ++ map frame_of items)) → (items ≡ [] → mid.fault ≡ None) → IsIdle old mid
idle_merely old mid items s none fed told = record {
  same = λ stream given before. stands_as old mid stream given (map frame_of items) before (fed stream given before);
  fed = ∥∥₁_elim s (search props) (λ t. (idle old mid [] items t refl fed told).fed);
  fault = told none;
}

-- the decoder stands for the stream still
pub idle_stream : (old mid : Decoding) → IsIdle old mid → HasStream old → HasStream mid
idle_stream old mid is s = record { stream = s.stream; given = s.given; stands = is.same s.stream s.given s.stands }

-- how many bytes were fed
pub fed_more : (d d' : Decoding) (piece : List ℕ) (frames : List Frame) → HasStream d → ((stream : List ℕ) (given : List Frame) → HasDecoded d stream given → HasDecoded d' (stream ++ piece) (given ++ frames)) → d'.fed ≡ d.fed + length piece
fed_more d d' piece frames s fed =
    let now = (fed s.stream s.given s.stands).fed in
    let before = s.stands.fed in
    let long = length-append s.stream piece in
    omega (arith, now, before, long)

pub refused_fed : (r : FrameRefused) (d d' : Decoding) (piece : List ℕ) → HasStream d → Refuses d piece d' r → d'.fed ≤ d.fed + length piece
refused_fed (frames.BadFrame at why) d d' piece s h =
    let now = (h.1 s.stream s.given s.stands).fed in
    let before = s.stands.fed in
    let long = length-append s.stream piece in
    omega (arith, now, before, long)
refused_fed frames.NoMemory d d' piece s h = let same = ap (λ (x : Decoding). x.fed) h in omega (arith, same)

module _ (left left' : Option (List ℕ)) (old mid : Decoding) (counted counted' : ℕ) (is : IsIdle old mid) where
  none_fed : (stream : List ℕ) (given : List Frame) → HasDecoded old stream given → HasDecoded mid (stream ++ []) given
  none_fed stream given s = subst (λ bytes. HasDecoded mid bytes given) (sym (append-nil stream)) (is.same stream given s)

  -- the budget is spent
  pub budget_end : mid.fed ≡ SESSION_MOST_BYTES → counted' ≡ counted → left' ≡ left → IsNextEnd (ends.Budget SESSION_MOST_BYTES) left left' old mid counted counted'
  budget_end full steady kept =
      record { bytes = []; lost = []; loses = refl; consumed = subst (λ l. Consumes left l []) (sym kept) (consumes_none left); fed = none_fed; of_read = tt; cause = (refl, full); counts = steady }

  -- the source failed
  pub fault_end : mid.fed < SESSION_MOST_BYTES → Keeps left left' → HasRisen counted counted' → IsNextEnd ends.ReadFault left left' old mid counted counted'
  fault_end few kept risen = record { bytes = []; lost = []; loses = refl; consumed = keeps_consumes left left' kept; fed = none_fed; of_read = tt; cause = few; counts = risen }

  -- it gave its last byte before
  module _ (buffer : List ℕ) (n : ℕ) (few : mid.fed < SESSION_MOST_BYTES) (gives : Gives left left' buffer n) (zero : n ≡ 0) (steady : counted' ≡ counted) where
    nothing_left : Consumes left left' []
    nothing_left = subst (λ k. Consumes left left' (take k buffer)) zero gives.front

    pub input_end : (at : ℕ) → at ≡ mid.fed → IsNotBegun (following mid) → IsNextEnd (ends.End at) left left' old mid counted counted'
    input_end at same not =
        record { bytes = []; lost = []; loses = refl; consumed = nothing_left; fed = none_fed; of_read = tt; cause = (nothing_follows mid is.fault not, same, whole_at_end left (gives.end zero), few); counts = steady }

    pub truncated_end : (at : ℕ) → following mid ≡ Begun at → IsNextEnd (ends.Truncated at) left left' old mid counted counted'
    truncated_end at begun =
        record { bytes = []; lost = []; loses = refl; consumed = nothing_left; fed = none_fed; of_read = tt; cause = (begun, whole_at_end left (gives.end zero), few); counts = steady }

  -- it gave a piece, which was fed
  pub next_read : HasStream mid → (new : Decoding) (piece : List ℕ) (frames : List Frame) → Consumes left left' piece → 0 < length piece
      → ((stream : List ℕ) (given : List Frame) → HasDecoded mid stream given → HasDecoded new (stream ++ piece) (given ++ frames)) → counted' ≡ counted → IsNextRead frames left left' old new counted counted'
  next_read s new piece frames consumed some fed steady =
      let more = fed_more mid new piece frames s fed in
      let same = is.fed in
      record { bytes = piece; read = record { consumed = consumed; fed = λ stream given s. fed stream given (is.same stream given s) }; more = omega (arith, more, same, some); counts = steady }

-- the front of a piece is no longer than its room
pub piece_fits : (fed room : ℕ) (piece : List ℕ) → fed + room ≤ SESSION_MOST_BYTES → fed + length (take room piece) ≤ SESSION_MOST_BYTES
piece_fits fed room piece fits = let long = length-take room piece in omega (arith, fits, long)

-- a decoder of which no bad frame is known, as it stands
pub idle_now : (d : Decoding) → d.fault ≡ None → IsIdle d d
idle_now d none = record { same = λ stream given h. h; fed = refl; fault = none }

-- what was read of a decoder that was fed nothing
module _ (left left' : Option (List ℕ)) (old mid new : Decoding) (counted counted' : ℕ) (is : IsIdle old mid) where
  pub read_from : (frames : List Frame) → IsNextRead frames left left' mid new counted counted' → IsNextRead frames left left' old new counted counted'
  read_from frames n =
      let more = n.more in
      let same = is.fed in
      record { bytes = n.bytes; read = record { consumed = n.read.consumed; fed = λ stream given s. n.read.fed stream given (is.same stream given s) }; more = omega (arith, more, same); counts = n.counts }

  pub end_from : (end : _) → IsNextEnd end left left' mid new counted counted' → IsNextEnd end left left' old new counted counted'
  end_from end n = record { bytes = n.bytes; lost = n.lost; loses = n.loses; consumed = n.consumed; fed = λ stream given s. n.fed stream given (is.same stream given s); of_read = n.of_read; cause = n.cause; counts = n.counts }

-- ---- a feed that was refused

-- want of memory loses the piece; a bad frame is told of all bytes fed
pub refused_end : (r : FrameRefused) (left left' : Option (List ℕ)) (start old new : Decoding) (piece : List ℕ) (counted counted' : ℕ)
    → ((stream : List ℕ) (given : List Frame) → HasDecoded start stream given → HasDecoded old stream given) → Consumes left left' piece → Refuses old piece new r → counted' ≡ counted
    → IsNextEnd (end_of_frames r) left left' start new counted counted'
refused_end (frames.BadFrame at why) left left' start old new piece counted counted' same consumed h steady = record {
  bytes = piece;
  lost = [];
  loses = refl;
  consumed = subst (Consumes left left') (sym (append-nil piece)) consumed;
  fed = λ stream given s. h.1 stream given (same stream given s);
  of_read = tt;
  cause = h.0;
  counts = steady;
}
refused_end frames.NoMemory left left' start old new piece counted counted' same consumed h steady = record {
  bytes = [];
  lost = piece;
  loses = tt;
  consumed = consumed;
  fed = λ stream given s. subst (λ bytes. HasDecoded new bytes given) (sym (append-nil stream)) (subst (λ d. HasDecoded d stream given) (sym h) (same stream given s));
  of_read = tt;
  cause = tt;
  counts = steady;
}
