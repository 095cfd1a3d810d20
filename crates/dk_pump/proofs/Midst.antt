-- What holds of a session in its midst.
use Rattle.std.proofs.Common.{◌≡◌, ℕ, ◌<◌, ◌≤◌, length, map, is_some, slice_index_or, arith, Bool, false, List, [], ◌∷◌, ◌++◌, Option, Some, None, IsSome, refl, sym, subst, ◌∙◌}
use Rattle.std.proofs.Math.Logic.{∥∥₁_map, ∥∥₁_elim}
use Rattle.std.specs.Coded.{le_prop}
use denote.Struct.Props.{props}
use mathlib.Core.Bool.{Bool-set}
use Rattle.dk_types.specs.declared.number.ConnNo.{ConnNo}
use Rattle.dk_types.specs.declared.event.Event.{Event}
use Rattle.dk_model.specs.Frames.{Frame, Stage, AtLogin, InSession, LoggedOut, AreInTurn, IsFrame, Login, Message, Channel, Logout, MayCome, opcode_of, stage_behind}
use Rattle.dk_model.specs.Legal.{Opened}
use Rattle.dk_frame.specs.declared.frame.ClientFrame.{ClientFrame}
use Rattle.dk_frame.specs.declared.frame.ClientFrame.TheVariants as client
use Rattle.dk_frame.specs.Decoding.{HasDecoded}
use Rattle.dk_frame.specs.Meanings.{frame_of}
use Rattle.dk_turn.specs.Fronts.{Known}
use Rattle.dk_pump.specs.declared.limits.TheConstants.{SESSION_MOST_BYTES}
use Rattle.dk_pump.specs.declared.ends.SessionEnd.{SessionEnd}
use Rattle.dk_pump.specs.declared.ends.WriteEnd.{WriteEnd}
use Rattle.dk_pump.specs.declared.course.Course.{Course}
use Rattle.dk_pump.specs.Reading.{HasStream}
use Rattle.dk_pump.specs.Sessions.{LinkState, IsSession, GoesOn, IsMidst, HasEnded, HasWritten, IsWritten}
use Rattle.dk_pump.proofs.Entering.{enters_none}
use Rattle.dk_pump.proofs.ReadOn.{turn_behind}
use Rattle.dk_pump.proofs.Steps.{while_reading}
use Rattle.dk_pump.proofs.Streams.{appends_none, consumes_none}
use Rattle.dk_pump.proofs.WriteParts.{some_not_none}

module _ (o : Opened) (keeps : Bool) (count : ℕ) where
  pub goes_then : (pass mid pass' : Known Event) (link at link' : LinkState) (c d c' : Course) (p q r : List Frame) → GoesOn o keeps count pass link c p mid at d q → GoesOn o keeps count mid at d q pass' link' c' r → GoesOn o keeps count pass link c p pass' link' c' r
  goes_then pass mid pass' link at link' c d c' p q r one two began given s = two began given (one began given s)

  pub midst_on : (pass pass' : Known Event) (link link' : LinkState) (c c' : Course) (p q : List Frame) → GoesOn o keeps count pass link c p pass' link' c' q → IsMidst o keeps count pass link c p → IsMidst o keeps count pass' link' c' q
  midst_on pass pass' link link' c c' p q goes m = ∥∥₁_map m (λ x. (x.0, x.1, goes x.0 x.1 x.2))

  module _ (pass : Known Event) (link : LinkState) (c : Course) (pending : List Frame) (m : IsMidst o keeps count pass link c pending) where
    -- the budget was kept
    pub midst_few : c.decoder.fed ≤ SESSION_MOST_BYTES
    midst_few = ∥∥₁_elim m le_prop (λ x. x.2.read.few)

    -- the decoder stands for the stream
    pub midst_stream : ∥ HasStream c.decoder ∥₁
    midst_stream = ∥∥₁_map m (λ x. record { stream = x.2.read.bytes; given = x.2.read.frames; stands = x.2.read.stands })

  -- ---- frames in their turn

  name_is_prop : (f : Frame) → IsProp (IsFrame f)
  name_is_prop (Login name) = hlevel props
  name_is_prop (Message body) = hlevel props
  name_is_prop (Channel channel body) = hlevel props
  name_is_prop Logout = hlevel props

  may_is_prop : (stage : Stage) (opcode : ℕ) → IsProp (MayCome stage opcode)
  may_is_prop AtLogin opcode = hlevel props
  may_is_prop InSession opcode = hlevel props
  may_is_prop LoggedOut opcode = hlevel props

  turn_is_prop : (stage : Stage) (frames : List Frame) → IsProp (AreInTurn stage frames)
  turn_is_prop stage [] = hlevel props
  turn_is_prop stage (f ∷ frames) =
      let may = may_is_prop stage (opcode_of f) in
      let is = name_is_prop f in
      let rest = turn_is_prop (stage_behind f) frames in
      hlevel (props, may, is, rest)

  -- what is pending may be posted
  pub pending_in_turn : (pass : Known Event) (link : LinkState) (c : Course) (pending : List Frame) (conn : ConnNo) → c.conn ≡ Some conn → c.end ≡ None → IsMidst o keeps count pass link c pending → AreInTurn InSession pending
  pending_in_turn pass link c pending conn is none m = ∥∥₁_elim m (turn_is_prop InSession pending) (λ x.
      while_reading (λ y. IsSession o keeps count x.0 x.1 pass link y pending → AreInTurn InSession pending) c (Some conn) is none
      (λ y s.
      let h = s.read.entered in
      let all : AreInTurn InSession (h.done ++ pending) = (subst (AreInTurn AtLogin) h.parts s.read.stands.is.in_turn).2 in
      subst (λ stage. AreInTurn stage pending) h.stage (turn_behind InSession h.done pending all)) x.2)

  -- before there is a connection, the first frame may come first
  pub first_in_turn : (pass : Known Event) (link : LinkState) (c : Course) (pending : List Frame) → c.conn ≡ None → c.end ≡ None → IsMidst o keeps count pass link c pending → AreInTurn AtLogin pending
  first_in_turn pass link c pending is none m = ∥∥₁_elim m (turn_is_prop AtLogin pending) (λ x.
      while_reading (λ y. IsSession o keeps count x.0 x.1 pass link y pending → AreInTurn AtLogin pending) c None is none
      (λ y s. subst (AreInTurn AtLogin) s.read.entered.0 s.read.stands.is.in_turn) x.2)

  -- ---- ends

  ended_of : (n : ℕ) (conn : ConnNo) (write : WriteEnd) (failed : Bool) (c : Course) (a b : Option (List ℕ)) (k l : ℕ) (front writes : List Event) (some : Option WriteEnd) → some ≡ Some write → IsWritten o keeps n conn some failed c a b k l front writes → IsSome c.end
  ended_of n conn write failed c a b k l front writes None is h = absurd (cc is)
  ended_of n conn write failed c a b k l front writes (Some w) is h = h.ended

  over_of : (n : ℕ) (write : WriteEnd) (conn : Option ConnNo) (c : Course) (a b : Option (List ℕ)) (k l : ℕ) (front writes : List Event) → c.write ≡ Some write → c.end ≡ None → HasWritten o keeps n conn c a b k l front writes → ⊥
  over_of n write None c a b k l front writes is none h = absurd (cc (sym is ∙ (h.going none).0))
  over_of n write (Some conn) c a b k l front writes is none h = some_not_none c.end none (ended_of n conn write c.failed c a b k l front writes c.write is h)

  -- where writing ended, so did reading
  pub midst_over : (pass : Known Event) (link : LinkState) (c : Course) (write : WriteEnd) → c.write ≡ Some write → c.end ≡ None → IsMidst o keeps count pass link c [] → ⊥
  midst_over pass link c write is none m = ∥∥₁_elim m (λ x y. absurd x) (λ x. over_of x.0.number write c.conn c x.1.contents link.contents x.1.put_counted link.put_counted pass.front x.2.writes is none x.2.written)

  there_of : (n : ℕ) (conn : Option ConnNo) (c : Course) (a b : Option (List ℕ)) (k l : ℕ) (front writes : List Event) → c.write ≡ None → IsSome c.end → HasWritten o keeps n conn c a b k l front writes → IsSome conn
  there_of n (Some conn) c a b k l front writes none ended h = refl
  there_of n None c a b k l front writes none ended h = absurd (cc (sym none ∙ h.over ended))

  -- where reading has ended and writing has not, there is a connection
  pub midst_there : (pass : Known Event) (link : LinkState) (c : Course) → c.write ≡ None → IsMidst o keeps count pass link c [] → IsSome c.end → IsSome c.conn
  midst_there pass link c none m ended = ∥∥₁_elim m (Bool-set _ _) (λ x. there_of x.0.number c.conn c x.1.contents link.contents x.1.put_counted link.put_counted pass.front x.2.writes none ended x.2.written)

-- ---- what a program finds

-- a value that is not there
pub not_ended : {A : Type 0} (x : Option A) (found : Bool) → found ≡ is_some x → found ≡ false → x ≡ None
not_ended None found is not = refl
not_ended (Some a) found is not = absurd (cc (sym is ∙ not))

-- the first of frames that come in their turn is a LOGIN
pub only_login : (items : List ClientFrame) (first : ClientFrame) → 0 < length items → first ≡ slice_index_or items 0 first → AreInTurn AtLogin (map frame_of items) → ((name : List ℕ) → first ≡ client.Login name → ⊥) → ⊥
only_login [] first some is turn not = absurd (omega (arith, some))
only_login (client.Login name ∷ items) first some is turn not = not name is
only_login (client.Message body ∷ items) first some is turn not = absurd (let one = turn.0 in omega (arith, one))
only_login (client.Channel channel body ∷ items) first some is turn not = absurd (let one = turn.0 in omega (arith, one))
only_login (client.Logout ∷ items) first some is turn not = absurd (let one = turn.0 in omega (arith, one))

-- ---- a session's begin and end

module _ (o : Opened) (keeps : Bool) (count : ℕ) where
  -- nothing was done yet
  pub session_first : (pass : Known Event) (link : LinkState) (c : Course) → HasDecoded c.decoder [] [] → c.conn ≡ None → c.end ≡ None → c.outgoing ≡ [] → c.failed ≡ false → c.gone ≡ false → c.write ≡ None → IsSession o keeps count pass link pass link c []
  session_first pass link c stands conn none outgoing failed gone write =
      while_reading (λ x. HasDecoded x.decoder [] [] → x.outgoing ≡ [] → x.failed ≡ false → x.gone ≡ false → x.write ≡ None → IsSession o keeps count pass link pass link x []) c None conn none
      (λ x stands outgoing failed gone write. record {
        number = refl;
        reads = [];
        writes = [];
        events = [];
        read = record { bytes = []; lost = []; frames = []; consumed = consumes_none link.left; stands = stands; few = (let is = stands.fed in omega (arith, is)); stops = (refl, refl); entered = (refl, refl) };
        written = record { going = λ is. (write, outgoing, failed, gone); over = λ some. absurd (cc some); none = refl; put = appends_none link.contents; counts = refl };
        both = (refl, refl);
        enters = enters_none o count pass.number pass.front;
      }) stands outgoing failed gone write

  module _ (began : Known Event) (given : LinkState) (pass : Known Event) (link : LinkState) (c : Course) (m : ∥ IsSession o keeps count began given pass link c [] ∥₁) where
    pub midst_of : IsMidst o keeps count pass link c []
    midst_of = ∥∥₁_map m (λ s. (began, given, s))

    -- it went on
    pub session_on : (pass' : Known Event) (link' : LinkState) (c' : Course) → GoesOn o keeps count pass link c [] pass' link' c' [] → ∥ IsSession o keeps count began given pass' link' c' [] ∥₁
    session_on pass' link' c' goes = ∥∥₁_map m (goes began given)

    -- and came to its end
    pub session_ended : (pass' : Known Event) (link' : LinkState) (c' : Course) (end : SessionEnd) (write : WriteEnd) → GoesOn o keeps count pass link c [] pass' link' c' [] → c'.end ≡ Some end → c'.write ≡ Some write
        → ∥ HasEnded o keeps count (record { end = end; write = write; began = began; given = given; pass = pass'; link = link' }) ∥₁
    session_ended pass' link' c' end write goes reading writing = ∥∥₁_map m (λ s. record { course = c'; reading = reading; writing = writing; whole = goes began given s })
