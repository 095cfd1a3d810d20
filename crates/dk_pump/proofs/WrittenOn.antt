-- A session's writing goes on from Hand to Hand, and comes to its end.
use Rattle.std.proofs.Common.{◌≡◌, ◌&&◌, ◌||◌, ℕ, ◌+◌, ◌<◌, Bool, true, false, cond, inl, inr, List, [], ◌∷◌, ◌++◌, length, take, drop, get_or, Option, Some, None, is_none, if◌then◌else◌, refl, sym, ap, subst, ◌∙◌, append_assoc, length-append, arith}
use Rattle.std.proofs.lemmas.List.{append-nil, take-append-le, take_all, take-append-drop, drop_more}
use Rattle.std.proofs.lemmas.List.Concat.{flat_map-append}
use Rattle.std.proofs.lemmas.List.Folds.{list_any-append}
use Rattle.std.proofs.Math.Seq.{take-append-add}
use Rattle.std.specs.List.{list_any}
use mathlib.Core.List.{IsPrefix}
use Rattle.std.specs.Io.KnownBytes.{Appends}
use Rattle.dk_types.specs.Faults.{HasRisen}
use Rattle.dk_types.specs.declared.number.ConnNo.{ConnNo}
use Rattle.dk_types.specs.declared.job.Out.{Out}
use Rattle.dk_types.specs.declared.event.Event.{Event}
use Rattle.dk_types.specs.declared.event.Event.TheVariants as event
use Rattle.dk_model.specs.Worlds.{Connection}
use Rattle.dk_model.specs.Events.{outbox, outbox_at}
use Rattle.dk_model.specs.Frames.{out_spelling}
use Rattle.dk_model.specs.Histories.{Leads}
use Rattle.dk_model.specs.Legal.{Opened, opening_of}
use Rattle.dk_model.specs.Messages.{same_conn, messages, handed, handed_by}
use Rattle.dk_laws.proofs.Handed.{messages_handed}
use Rattle.dk_laws.proofs.NumberedMaps.{equal}
use Rattle.dk_laws.proofs.OneWorld.{parted}
use Rattle.dk_laws.proofs.SoundConnections.{all_append}
use Rattle.dk_edge.specs.Streams.{AppendsPrefix}
use Rattle.dk_host.specs.Calls.{Entered}
use Rattle.dk_pump.specs.declared.ends.WriteEnd.{WriteEnd}
use Rattle.dk_pump.specs.declared.ends.WriteEnd.TheVariants as ends
use Rattle.dk_pump.specs.Passes.{Enters}
use Rattle.dk_pump.specs.Reading.{EndsSession, Disconnects}
use Rattle.dk_pump.specs.Writing.{frames_of, IsHand, AreHands, tells_end, hands_to, IsGivenUp, WritesSession, IsWriting, EndsHands, HandsOn}
use Rattle.dk_pump.proofs.Entering.{enters_none, enters_then}
use Rattle.dk_pump.proofs.Streams.{appends_none, appends_then}

-- ---- what was put

pub frames_of-append : (outs later : List Out) → frames_of (outs ++ later) ≡ frames_of outs ++ frames_of later
frames_of-append outs later = flat_map-append out_spelling outs later

-- bytes that were appended are a part of themselves and more
pub part_of_more : (a b : Option (List ℕ)) (bs cs : List ℕ) → Appends a b bs → AppendsPrefix a b (bs ++ cs)
part_of_more a b bs cs h =
    let long = length-append bs cs in
    (length bs, omega arith, subst (Appends a b) (sym (take-append-le (length bs) bs cs (omega arith) ∙ take_all (length bs) bs (omega arith))) h)

-- bytes, and then a part of others
pub part_then : (a b c : Option (List ℕ)) (bs cs : List ℕ) → Appends a b bs → AppendsPrefix b c cs → AppendsPrefix a c (bs ++ cs)
part_then a b c bs cs h part =
    let long = length-append bs cs in
    let within = part.1 in
    (length bs + part.0, omega (arith, long, within), subst (Appends a c) (sym (take-append-add bs cs part.0)) (appends_then a b c bs (take part.0 cs) h part.2))

-- a part of bytes, and of more
pub part_wider : (a b : Option (List ℕ)) (bs cs : List ℕ) → AppendsPrefix a b bs → AppendsPrefix a b (bs ++ cs)
part_wider a b bs cs part =
    let long = length-append bs cs in
    let within = part.1 in
    (part.0, omega (arith, long, within), subst (Appends a b) (sym (take-append-le part.0 bs cs within)) part.2)

-- the frames of the first messages are a part of all
pub part_of_all : (a b : Option (List ℕ)) (outs : List Out) (i : ℕ) → Appends a b (frames_of (take i outs)) → AppendsPrefix a b (frames_of outs)
part_of_all a b outs i h =
    subst (λ bs. AppendsPrefix a b bs) (sym (frames_of-append (take i outs) (drop i outs)) ∙ ap frames_of (take-append-drop i outs)) (part_of_more a b (frames_of (take i outs)) (frames_of (drop i outs)) h)

-- and so is a part of the next one's behind them
pub part_of_frame : (a b c : Option (List ℕ)) (outs : List Out) (i : ℕ) (x : Out) (frame : List ℕ) → i < length outs → x ≡ get_or outs i x → frame ≡ out_spelling x → Appends a b (frames_of (take i outs)) → AppendsPrefix b c frame → AppendsPrefix a c (frames_of outs)
part_of_frame a b c outs i x frame lt is spelled h part =
    let parted : drop i outs ≡ x ∷ drop (i + 1) outs = drop_more outs i x lt ∙ ap (λ (y : Out). y ∷ drop (i + 1) outs) (sym is) in
    let all : frames_of outs ≡ (frames_of (take i outs) ++ out_spelling x) ++ frames_of (drop (i + 1) outs) =
    sym (ap frames_of (take-append-drop i outs)) ∙ frames_of-append (take i outs) (drop i outs) ∙ ap (λ os. frames_of (take i outs) ++ frames_of os) parted
    ∙ sym (append_assoc (frames_of (take i outs)) (out_spelling x) (frames_of (drop (i + 1) outs))) in
    subst (λ bs. AppendsPrefix a c bs) (sym all) (part_wider a c (frames_of (take i outs) ++ out_spelling x) (frames_of (drop (i + 1) outs)) (part_then a b c (frames_of (take i outs)) (out_spelling x) h (subst (λ bs. AppendsPrefix b c bs) spelled part)))

-- ---- what was handed

pub handed-append : (events later : List Event) (conn : ConnNo) → handed (events ++ later) conn ≡ handed events conn ++ handed later conn
handed-append [] later conn = refl
handed-append (e ∷ events) later conn = ap (λ os. handed_by conn e ++ os) (handed-append events later conn) ∙ sym (append_assoc (handed_by conn e) (handed events conn) (handed later conn))

itself : (conn : ConnNo) → same_conn conn conn ≡ true
itself conn = equal conn.0 conn.0 refl

pub handed_one : (pass : ℕ) (conn : ConnNo) (most : ℕ) (outs : List Out) (end : Bool) → handed (event.Hand pass conn most outs end ∷ []) conn ≡ outs
handed_one pass conn most outs end = append-nil _ ∙ ap (λ b. if b then outs else []) (itself conn)

pub hand_one : (pass : ℕ) (conn : ConnNo) (most : ℕ) (outs : List Out) (end : Bool) → AreHands pass conn (event.Hand pass conn most outs end ∷ [])
hand_one pass conn most outs end = ((most, outs, end, refl), tt)

pub told_one : (pass : ℕ) (conn : ConnNo) (most : ℕ) (outs : List Out) (end : Bool) → list_any (tells_end conn) (event.Hand pass conn most outs end ∷ []) ≡ end
told_one pass conn most outs true = ap (λ b. (b && true) || false) (itself conn)
told_one pass conn most outs false = ap (λ b. (b && false) || false) (itself conn)

pub hands-append : (pass : ℕ) (conn : ConnNo) (events later : List Event) → AreHands pass conn events → AreHands pass conn later → AreHands pass conn (events ++ later)
hands-append pass conn events later first second = all_append (IsHand pass conn) events later first second

-- the end of a session tells of no hand
pub ending_tells : (o : Opened) (keeps : Bool) (pass : ℕ) (conn : ConnNo) (front closing later : List Event) → EndsSession o keeps pass conn false front closing → list_any (tells_end conn) (closing ++ later) ≡ list_any (tells_end conn) later
ending_tells o keeps pass conn front closing later (inl d) = ap (λ es. list_any (tells_end conn) (es ++ later)) d.1 ∙ ap (λ x. tells_end conn x || list_any (tells_end conn) later) d.2.is
ending_tells o keeps pass conn front closing later (inr d) = ap (λ es. list_any (tells_end conn) (es ++ later)) d.0

-- what ended a session at a front ended it for every front that goes on from there
pub ended_on : (o : Opened) (keeps : Bool) (pass : ℕ) (conn : ConnNo) (front front' closing : List Event) → IsPrefix front front' → EndsSession o keeps pass conn false front closing → EndsSession o keeps pass conn false front' closing
ended_on o keeps pass conn front front' closing on (inl d) = inl d
ended_on o keeps pass conn front front' closing on (inr d) =
    let was = d.1.1 in
    inr (d.0, (d.1.0, record { at = was.at; seen = (was.seen.0 ++ on.0, sym (append_assoc was.at was.seen.0 on.0) ∙ (ap (λ es. es ++ on.0) was.seen.1 ∙ on.1)); shut = was.shut }))

-- what was handed was handed by Hands
pub handed_by_hands : (conn : ConnNo) (events : List Event) → handed events conn ≡ handed (hands_to conn events) conn
handed_by_hands conn [] = refl
handed_by_hands conn (event.Hand pass to most outs end ∷ events) =
    let later = handed_by_hands conn events in
    elim (same_conn to conn) as (λ b. same_conn to conn ≡ b → (if b then outs else []) ++ handed events conn ≡ handed (cond b (event.Hand pass to most outs end ∷ hands_to conn events) (hands_to conn events)) conn) [
      | true ↦ λ is. ap (λ os. outs ++ os) later ∙ ap (λ b. (if b then outs else []) ++ handed (hands_to conn events) conn) (sym is)
      | false ↦ λ is. later
    ] refl
handed_by_hands conn (event.Connect pass name reply ∷ events) = handed_by_hands conn events
handed_by_hands conn (event.Post pass to input reply ∷ events) = handed_by_hands conn events
handed_by_hands conn (event.Claim pass reply ∷ events) = handed_by_hands conn events
handed_by_hands conn (event.Release pass run ∷ events) = handed_by_hands conn events
handed_by_hands conn (event.Commit pass run seq outcome ∷ events) = handed_by_hands conn events
handed_by_hands conn (event.Tick pass moment ∷ events) = handed_by_hands conn events

-- where a connection is gone nothing waits
nothing_waits : (c : Option Connection) → true ≡ is_none c → outbox_at c ≡ []
nothing_waits None gone = refl
nothing_waits (Some c) gone = absurd (cc gone)

-- after a Hand that tells that the connection is gone, all that was sent was handed
pub all_handed : (o : Opened) (pass : ℕ) (conn : ConnNo) (most : ℕ) (outs : List Out) (old new : List Event) → Entered o pass (event.Hand pass conn most outs true ∷ []) old new → handed new conn ≡ messages o.rules (opening_of o) new conn
all_handed o pass conn most outs old new e =
    let w = opening_of o in
    let last = e.legal.history.last in
    let sent = messages_handed o.rules o.durable o.budget new last e.legal.history.leads conn in
    let p = parted o.rules w e.before (event.Hand pass conn most outs true ∷ []) last (subst (λ es. Leads o.rules w es last) e.front e.legal.history.leads) in
    let none : outbox last conn ≡ [] = ap (λ x. outbox x conn) p.second.2 ∙ nothing_waits _ p.second.1.1 in
    sym (sent ∙ ap (λ os. handed new conn ++ os) none ∙ append-nil (handed new conn))

or_assoc : (x y z : Bool) → ((x || y) || z) ≡ (x || (y || z))
or_assoc true y z = refl
or_assoc false y z = refl

pub or_right : (x y : Bool) → y ≡ true → (x || y) ≡ true
or_right true y is = refl
or_right false y is = is

-- ---- handing on

-- Hands so far, after which the connection is known to be gone, or not
pub record IsHandingOn (o : Opened) (count pass : ℕ) (conn : ConnNo) (gone end : Bool) (front front' : List Event) : Type 0 where
  pub events : List Event
  pub hands : AreHands pass conn events
  pub enters : Enters o count pass events front front'
  pub ends : end ≡ true → (gone || list_any (tells_end conn) events) ≡ true

-- ---- writing goes on

module _ (o : Opened) (count pass : ℕ) (conn : ConnNo) where
  pub writing_first : (contents : Option (List ℕ)) (counted : ℕ) (front : List Event) → IsWriting o count pass conn contents contents counted counted front front
  writing_first contents counted front = record { events = []; hands = tt; put = appends_none contents; counts = refl; enters = enters_none o count pass front }

  -- handing on begins
  pub handing_first : (gone : Bool) (front : List Event) → IsHandingOn o count pass conn gone gone front front
  handing_first gone front = record { events = []; hands = tt; enters = enters_none o count pass front; ends = λ is. ap (λ b. b || false) is }

  -- one more Hand
  pub handing_more : (gone end end' : Bool) (most : ℕ) (outs : List Out) (front mid front' : List Event) → IsHandingOn o count pass conn gone end front mid → Enters o count pass (event.Hand pass conn most outs end' ∷ []) mid front'
      → IsHandingOn o count pass conn gone end' front front'
  handing_more gone end end' most outs front mid front' h e = record {
    events = h.events ++ event.Hand pass conn most outs end' ∷ [];
    hands = hands-append pass conn h.events _ h.hands (hand_one pass conn most outs end');
    enters = enters_then o count pass h.events _ front mid front' h.enters e;
    ends = λ is. or_right gone _ (list_any-append (tells_end conn) h.events _ ∙ or_right (list_any (tells_end conn) h.events) _ (told_one pass conn most outs end' ∙ is));
  }

  module _ (a b : Option (List ℕ)) (counted counted_at : ℕ) (front at : List Event) (w : IsWriting o count pass conn a b counted counted_at front at) where
    -- the events with one Hand more, and what they handed
    module _ (most : ℕ) (outs : List Out) (end : Bool) (mid : List Event) (e : Enters o count pass (event.Hand pass conn most outs end ∷ []) at mid) where
      abbrev with_hand : List Event
      with_hand = w.events ++ event.Hand pass conn most outs end ∷ []

      handed_with : handed with_hand conn ≡ handed w.events conn ++ outs
      handed_with = handed-append w.events _ conn ∙ ap (λ os. handed w.events conn ++ os) (handed_one pass conn most outs end)

      frames_with : frames_of (handed with_hand conn) ≡ frames_of (handed w.events conn) ++ frames_of outs
      frames_with = ap frames_of handed_with ∙ frames_of-append (handed w.events conn) outs

      hands_with : AreHands pass conn with_hand
      hands_with = hands-append pass conn w.events _ w.hands (hand_one pass conn most outs end)

      enters_with : Enters o count pass with_hand front mid
      enters_with = enters_then o count pass w.events _ front at mid w.enters e

      -- its frames were put
      pub writing_more : (c : Option (List ℕ)) (counted' : ℕ) → Appends b c (frames_of outs) → counted' ≡ counted_at → IsWriting o count pass conn a c counted counted' front mid
      writing_more c counted' put same = record {
        events = with_hand;
        hands = hands_with;
        put = subst (Appends a c) (sym frames_with) (appends_then a b c _ _ w.put put);
        counts = same ∙ w.counts;
        enters = enters_with;
      }

      -- a part of them was put, and the session was given up
      module _ (c : Option (List ℕ)) (put : AppendsPrefix b c (frames_of outs)) where
        part_with : (more : List ℕ) → AppendsPrefix a c (frames_of (handed with_hand conn) ++ more)
        part_with more = part_wider a c _ more (subst (AppendsPrefix a c) (sym frames_with) (part_then a b c _ _ w.put put))

        pub gives_up : {keeps : Bool} (counted' : ℕ) (front' : List Event) → Disconnects o keeps count pass conn false mid front' → WritesSession o keeps count pass conn ends.NoMemory a c counted counted' front front'
        gives_up counted' front' d = record {
          events = with_hand ++ d.events;
          is = record { before = with_hand; closing = d.events; after = []; parts = ap (λ es. with_hand ++ es) (sym (append-nil d.events)); hands_before = hands_with; hands_after = tt; ends = d.ends };
          put = subst (λ bs. AppendsPrefix a c bs) (sym (ap frames_of (handed-append with_hand d.events conn) ∙ frames_of-append (handed with_hand conn) (handed d.events conn))) (part_with (frames_of (handed d.events conn)));
          counts = tt;
          all = tt;
          enters = enters_then o count pass with_hand d.events front mid front' enters_with d.enters;
        }

        by_end : {keeps : Bool} (r : WriteEnd) (all later : List Event) (counted' : ℕ) (front' : List Event) → IsGivenUp o keeps pass conn front' all → AppendsPrefix a c (frames_of (handed all conn)) → HasRisen counted counted' → Enters o count pass all front front'
            → list_any (tells_end conn) all ≡ (list_any (tells_end conn) w.events || (end || list_any (tells_end conn) later)) → EndsHands conn end r later → WritesSession o keeps count pass conn r a c counted counted' front front'
        by_end ends.Done all later n front' given part risen enters told ended = absurd ended
        by_end ends.WriteFault all later n front' given part risen enters told ended =
            record { events = all; is = (given, told ∙ or_right (list_any (tells_end conn) w.events) _ ended); put = part; counts = risen; all = tt; enters = enters }
        by_end ends.NoMemory all later n front' given part risen enters told ended = record { events = all; is = given; put = part; counts = tt; all = tt; enters = enters }

        -- and what was handed on was not put
        pub goes_without : {keeps : Bool} (result : WriteEnd) (counted' : ℕ) (between front' : List Event) → HasRisen counted counted' → Disconnects o keeps count pass conn false mid between → HandsOn o count pass conn end result between front'
            → WritesSession o keeps count pass conn result a c counted counted' front front'
        goes_without {keeps = keeps} result counted' between front' risen d h =
            let all = with_hand ++ (d.events ++ h.events) in
            let given : IsGivenUp o keeps pass conn front' all =
            record { before = with_hand; closing = d.events; after = h.events; parts = refl; hands_before = hands_with; hands_after = h.hands; ends = ended_on o keeps pass conn between front' d.events h.enters.begins d.ends } in
            let part : AppendsPrefix a c (frames_of (handed all conn)) =
            subst (λ bs. AppendsPrefix a c bs) (sym (ap frames_of (handed-append with_hand (d.events ++ h.events) conn) ∙ frames_of-append (handed with_hand conn) (handed (d.events ++ h.events) conn)))
            (part_with (frames_of (handed (d.events ++ h.events) conn))) in
            let enters : Enters o count pass all front front' = enters_then o count pass with_hand (d.events ++ h.events) front mid front' enters_with (enters_then o count pass d.events h.events mid between front' d.enters h.enters) in
            let told : list_any (tells_end conn) all ≡ (list_any (tells_end conn) w.events || (end || list_any (tells_end conn) h.events)) =
            list_any-append (tells_end conn) with_hand (d.events ++ h.events)
            ∙ ap (λ b. b || list_any (tells_end conn) (d.events ++ h.events)) (list_any-append (tells_end conn) w.events _ ∙ ap (λ b. list_any (tells_end conn) w.events || b) (told_one pass conn most outs end))
            ∙ ap (λ b. (list_any (tells_end conn) w.events || end) || b) (ending_tells o keeps pass conn between d.events h.events d.ends)
            ∙ or_assoc (list_any (tells_end conn) w.events) end (list_any (tells_end conn) h.events) in
            by_end result all h.events counted' front' given part risen enters told h.ends

    -- the Hand told that the connection is gone, and its frames were put
    pub writing_done : {keeps : Bool} (most : ℕ) (outs : List Out) (c : Option (List ℕ)) (counted' : ℕ) (front' : List Event) → Entered o pass (event.Hand pass conn most outs true ∷ []) at front' → Enters o count pass (event.Hand pass conn most outs true ∷ []) at front'
        → Appends b c (frames_of outs) → counted' ≡ counted_at → WritesSession o keeps count pass conn ends.Done a c counted counted' front front'
    writing_done most outs c counted' front' entered e put same =
        let events = with_hand most outs true front' e in
        record {
          events = events;
          is = record { hands = hands_with most outs true front' e; before = w.events; most = most; outs = outs; last = refl };
          put = subst (Appends a c) (sym (frames_with most outs true front' e)) (appends_then a b c _ _ w.put put);
          counts = same ∙ w.counts;
          all = λ alone. handed_by_hands conn events ∙ ap (λ es. handed es conn) (sym alone) ∙ sym (handed_by_hands conn front') ∙ all_handed o pass conn most outs at front' entered;
          enters = enters_with most outs true front' e;
        }

    -- nothing more was handed
    pub gives_up_early : {keeps : Bool} (mid front' : List Event) → Enters o count pass [] at mid → Disconnects o keeps count pass conn false mid front' → WritesSession o keeps count pass conn ends.NoMemory a b counted counted_at front front'
    gives_up_early mid front' none d = record {
      events = w.events ++ d.events;
      is = record { before = w.events; closing = d.events; after = []; parts = ap (λ es. w.events ++ es) (sym (append-nil d.events)); hands_before = w.hands; hands_after = tt; ends = d.ends };
      put = subst (λ bs. AppendsPrefix a b bs) (sym (ap frames_of (handed-append w.events d.events conn) ∙ frames_of-append (handed w.events conn) (handed d.events conn))) (part_of_more a b _ _ w.put);
      counts = tt;
      all = tt;
      enters = enters_then o count pass w.events d.events front at front' w.enters (enters_then o count pass [] d.events at mid front' none d.enters);
    }
