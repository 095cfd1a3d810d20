-- The writing of a polled session goes on, and comes to its end.
use Rattle.std.proofs.Common.{◌≡◌, ◌||◌, ℕ, Bool, true, false, List, [], ◌∷◌, ◌++◌, Option, Some, None, IsSome, refl, sym, ap, subst, ◌∙◌, append_assoc}
use Rattle.std.proofs.lemmas.List.{append-nil}
use Rattle.std.proofs.lemmas.List.Folds.{list_any-append}
use Rattle.std.specs.List.{list_any}
use Rattle.std.specs.Io.KnownBytes.{Appends}
use mathlib.Core.List.{IsPrefix}
use Rattle.dk_types.specs.Faults.{HasRisen}
use Rattle.dk_types.specs.declared.number.ConnNo.{ConnNo}
use Rattle.dk_types.specs.declared.job.Out.{Out}
use Rattle.dk_types.specs.declared.event.Event.{Event}
use Rattle.dk_types.specs.declared.event.Event.TheVariants as event
use Rattle.dk_model.specs.Legal.{Opened}
use Rattle.dk_model.specs.Messages.{handed}
use Rattle.dk_edge.specs.Streams.{AppendsPrefix}
use Rattle.dk_host.specs.Calls.{Entered}
use Rattle.dk_pump.specs.declared.ends.SessionEnd.{SessionEnd}
use Rattle.dk_pump.specs.declared.ends.WriteEnd.{WriteEnd}
use Rattle.dk_pump.specs.declared.ends.WriteEnd.TheVariants as ends
use Rattle.dk_pump.specs.declared.course.Course.{Course}
use Rattle.dk_frame.specs.Decoding.{Decoding}
use Rattle.dk_pump.specs.Reading.{EndsSession}
use Rattle.dk_pump.specs.Writing.{frames_of, AreHands, tells_end, IsHandedOut, IsGivenUp}
use Rattle.dk_pump.specs.Sessions.{IsPutting, IsGoingWithout, IsWrittenOut, IsUnwritten, IsWritten}
use Rattle.dk_pump.proofs.Streams.{appends_then}
use Rattle.dk_pump.proofs.WrittenOn.{part_of_more, part_then, part_wider, frames_of-append, handed-append, handed_one, hand_one, told_one, hands-append, handed_by_hands, all_handed, or_right, ended_on}

-- a value is there, and is not
pub some_not_none : {A : Type 0} (x : Option A) → x ≡ None → IsSome x → ⊥
some_not_none None is some = absurd (cc some)
some_not_none (Some a) is some = absurd (cc is)

-- a Hand that tells the end, among others
handed_out_tells : (pass : ℕ) (conn : ConnNo) (events : List Event) → IsHandedOut pass conn events → list_any (tells_end conn) events ≡ true
handed_out_tells pass conn events h = ap (list_any (tells_end conn)) h.last ∙ list_any-append (tells_end conn) h.before _ ∙ or_right _ _ (told_one pass conn h.most h.outs true)

-- ---- while reading goes on

-- what was given up stays so
pub given_on : (o : Opened) (keeps : Bool) (pass : ℕ) (conn : ConnNo) (front front' events : List Event) → IsPrefix front front' → IsGivenUp o keeps pass conn front events → IsGivenUp o keeps pass conn front' events
given_on o keeps pass conn front front' events on g = record { before = g.before; closing = g.closing; after = g.after; parts = g.parts; hands_before = g.hands_before; hands_after = g.hands_after; ends = ended_on o keeps pass conn front front' g.closing on g.ends }

written_by : (o : Opened) (keeps : Bool) (pass : ℕ) (conn : ConnNo) (write : Option WriteEnd) (failed : Bool) (c : Course) (d : Decoding) (end : Option SessionEnd) (a b : Option (List ℕ)) (k l : ℕ) (front front' writes : List Event)
    → IsPrefix front front' → c.end ≡ None → IsWritten o keeps pass conn write failed c a b k l front writes → IsWritten o keeps pass conn write failed (record c { decoder = d; end = end }) a b k l front' writes
written_by o keeps pass conn (Some write) failed c d end a b k l front front' writes on none h = absurd (some_not_none c.end none h.ended)
written_by o keeps pass conn None false c d end a b k l front front' writes on none h =
    record { put = h.put; hands = h.hands; parts = h.parts; appended = h.appended; counts = h.counts; last = λ is. absurd (some_not_none c.end none (h.last is).2) }
written_by o keeps pass conn None true c d end a b k l front front' writes on none h =
    record { given_up = given_on o keeps pass conn front front' writes on h.given_up; put = h.put; counts = h.counts; last = λ is. absurd (some_not_none c.end none (h.last is).1) }

-- reading went on, or ended on a session that has a connection
pub written_meanwhile : (o : Opened) (keeps : Bool) (pass : ℕ) (conn : ConnNo) (c : Course) (d : Decoding) (end : Option SessionEnd) (a b b' : Option (List ℕ)) (k l l' : ℕ) (front front' writes : List Event)
    → IsPrefix front front' → c.end ≡ None → b' ≡ b → l' ≡ l → IsWritten o keeps pass conn c.write c.failed c a b k l front writes → IsWritten o keeps pass conn c.write c.failed (record c { decoder = d; end = end }) a b' k l' front' writes
written_meanwhile o keeps pass conn c d end a b b' k l l' front front' writes on none same still h =
    subst (λ x. IsWritten o keeps pass conn c.write c.failed (record c { decoder = d; end = end }) a x k l' front' writes) (sym same)
    (subst (λ n. IsWritten o keeps pass conn c.write c.failed (record c { decoder = d; end = end }) a b k n front' writes) (sym still)
    (written_by o keeps pass conn c.write c.failed c d end a b k l front front' writes on none h))

-- reading went on without a connection
pub unwritten_meanwhile : (c : Course) (d : Decoding) (a b b' : Option (List ℕ)) (k l l' : ℕ) (writes : List Event) → b' ≡ b → l' ≡ l → IsUnwritten c a b k l writes → IsUnwritten (record c { decoder = d }) a b' k l' writes
unwritten_meanwhile c d a b b' k l l' writes same still h = record { going = h.going; over = h.over; none = h.none; put = subst (λ x. Appends a x []) (sym same) h.put; counts = still ∙ h.counts }

-- and ended
pub unwritten_over : (c : Course) (d : Decoding) (end : SessionEnd) (a b b' : Option (List ℕ)) (k l l' : ℕ) (writes : List Event) → b' ≡ b → l' ≡ l → IsUnwritten c a b k l writes
    → IsUnwritten (record c { decoder = d; end = Some end; write = Some ends.Done }) a b' k l' writes
unwritten_over c d end a b b' k l l' writes same still h =
    record { going = λ is. absurd (cc is); over = λ some. refl; none = h.none; put = subst (λ x. Appends a x []) (sym same) h.put; counts = still ∙ h.counts }

-- the client was connected
pub begins_writing : (o : Opened) (keeps : Bool) (pass : ℕ) (conn : ConnNo) (c : Course) (a b : Option (List ℕ)) (k l : ℕ) (front writes : List Event) → c.end ≡ None → IsUnwritten c a b k l writes
    → IsWritten o keeps pass conn c.write c.failed (record c { conn = Some conn }) a b k l front writes
begins_writing o keeps pass conn c a b k l front writes none h =
    let g = h.going none in
    subst (λ w. IsWritten o keeps pass conn w c.failed (record c { conn = Some conn }) a b k l front writes) (sym g.0)
    (subst (λ f. IsWritten o keeps pass conn None f (record c { conn = Some conn }) a b k l front writes) (sym g.2)
    (record {
      put = [];
      hands = subst (AreHands pass conn) (sym h.none) tt;
      parts = ap (λ es. frames_of (handed es conn)) h.none ∙ sym g.1;
      appended = h.put;
      counts = h.counts;
      last = λ is. absurd (cc (sym g.3 ∙ is));
    }))

-- ---- putting

module _ (o : Opened) (keeps : Bool) (pass : ℕ) (conn : ConnNo) (a b : Option (List ℕ)) (k l : ℕ) where
  module _ (gone : Bool) (unput : List ℕ) (end : Option SessionEnd) (front writes : List Event) (h : IsPutting o pass conn gone unput end a b k l front writes) where
    -- some bytes more were put
    pub puts_on : (bytes left : List ℕ) (b' : Option (List ℕ)) (l' : ℕ) → unput ≡ bytes ++ left → Appends b b' bytes → l' ≡ l → IsPutting o pass conn gone left end a b' k l' front writes
    puts_on bytes left b' l' parts appended still = record {
      put = h.put ++ bytes;
      hands = h.hands;
      parts = h.parts ∙ ap (λ bs. h.put ++ bs) parts ∙ sym (append_assoc h.put bytes left);
      appended = appends_then a b b' h.put bytes h.appended appended;
      counts = still ∙ h.counts;
      last = h.last;
    }

    -- with a Disconnect the session is given up
    module _ (front' more : List Event) (d : EndsSession o keeps pass conn false front' more) where
      given_up : IsGivenUp o keeps pass conn front' (writes ++ more)
      given_up = record { before = writes; closing = more; after = []; parts = ap (λ es. writes ++ es) (sym (append-nil more)); hands_before = h.hands; hands_after = tt; ends = d }

      all_frames : frames_of (handed (writes ++ more) conn) ≡ (h.put ++ unput) ++ frames_of (handed more conn)
      all_frames = ap frames_of (handed-append writes more conn) ∙ frames_of-append (handed writes conn) (handed more conn) ∙ ap (λ bs. bs ++ frames_of (handed more conn)) h.parts

      -- the link failed
      pub goes_without : (gone' : Bool) (end' : Option SessionEnd) (b' : Option (List ℕ)) (l' : ℕ) → gone' ≡ gone → end' ≡ end → AppendsPrefix b b' unput → HasRisen l l' → IsGoingWithout o keeps pass conn gone' end' a b' k l' front' (writes ++ more)
      goes_without gone' end' b' l' same still part risen = record {
        given_up = given_up;
        put = subst (AppendsPrefix a b') (sym all_frames) (part_wider a b' (h.put ++ unput) (frames_of (handed more conn)) (part_then a b b' h.put unput h.appended part));
        counts = subst (λ n. HasRisen n l') h.counts risen;
        last = λ is. let last = h.last (sym same ∙ is) in (list_any-append (tells_end conn) writes more ∙ or_left' (list_any (tells_end conn) more) (handed_out_tells pass conn writes last.0), subst IsSome (sym still) last.2);
      }
        where
          or_left' : (y : Bool) {x : Bool} → x ≡ true → (x || y) ≡ true
          or_left' y is = ap (λ z. z || y) is

      -- there was no memory
      pub gives_up : (end' : Option SessionEnd) → IsSome end' → IsWrittenOut o keeps pass conn ends.NoMemory end' a b k l front' (writes ++ more)
      gives_up end' ended = record {
        is = given_up;
        put = subst (AppendsPrefix a b) (sym all_frames) (part_wider a b (h.put ++ unput) (frames_of (handed more conn)) (part_of_more a b h.put unput h.appended));
        counts = tt;
        all = tt;
        ended = ended;
      }

  -- a Hand was entered, and its frames are still to be put
  pub hands_more : (end end' : Option SessionEnd) (front front' writes : List Event) (most : ℕ) (outs : List Out) (gone : Bool) → IsPutting o pass conn false [] end a b k l front writes
      → Entered o pass (event.Hand pass conn most outs gone ∷ []) front front' → (gone ≡ true → IsSome end') → IsPutting o pass conn gone (frames_of outs) end' a b k l front' (writes ++ event.Hand pass conn most outs gone ∷ [])
  hands_more end end' front front' writes most outs gone h e ended =
      let all = writes ++ event.Hand pass conn most outs gone ∷ [] in
      let hands : AreHands pass conn all = hands-append pass conn writes _ h.hands (hand_one pass conn most outs gone) in
      record {
        put = h.put;
        hands = hands;
        parts = ap frames_of (handed-append writes _ conn ∙ ap (λ os. handed writes conn ++ os) (handed_one pass conn most outs gone)) ∙ frames_of-append (handed writes conn) outs ∙ ap (λ bs. bs ++ frames_of outs) (h.parts ∙ append-nil h.put);
        appended = h.appended;
        counts = h.counts;
        last = λ is. (
          record { hands = hands; before = writes; most = most; outs = outs; last = ap (λ g. writes ++ event.Hand pass conn most outs g ∷ []) is },
          λ alone. handed_by_hands conn all ∙ ap (λ es. handed es conn) (sym alone) ∙ sym (handed_by_hands conn front')
              ∙ all_handed o pass conn most outs front front' (subst (λ g. Entered o pass (event.Hand pass conn most outs g ∷ []) front front') is e),
          ended is,
        );
      }

  module _ (gone : Bool) (end : Option SessionEnd) (front writes : List Event) (h : IsGoingWithout o keeps pass conn gone end a b k l front writes) where
    -- a Hand was entered, whose frames are not put
    pub hands_without : (end' : Option SessionEnd) (front' : List Event) (most : ℕ) (outs : List Out) (gone' : Bool) → IsPrefix front front' → (gone' ≡ true → IsSome end') → IsGoingWithout o keeps pass conn gone' end' a b k l front' (writes ++ event.Hand pass conn most outs gone' ∷ [])
    hands_without end' front' most outs gone' on ended =
        let more = event.Hand pass conn most outs gone' ∷ [] in
        let g = h.given_up in
        record {
          given_up = record {
            before = g.before;
            closing = g.closing;
            after = g.after ++ more;
            parts = ap (λ es. es ++ more) g.parts ∙ append_assoc g.before (g.closing ++ g.after) more ∙ ap (λ es. g.before ++ es) (append_assoc g.closing g.after more);
            hands_before = g.hands_before;
            hands_after = hands-append pass conn g.after more g.hands_after (hand_one pass conn most outs gone');
            ends = ended_on o keeps pass conn front front' g.closing on g.ends;
          };
          put = subst (AppendsPrefix a b) (sym (ap frames_of (handed-append writes more conn) ∙ frames_of-append (handed writes conn) (handed more conn))) (part_wider a b (frames_of (handed writes conn)) (frames_of (handed more conn)) h.put);
          counts = h.counts;
          last = λ is. (list_any-append (tells_end conn) writes more ∙ or_right (list_any (tells_end conn) writes) _ (told_one pass conn most outs gone' ∙ is), ended is);
        }

    -- there was no memory
    pub gives_up_without : (end' : Option SessionEnd) → IsSome end' → IsWrittenOut o keeps pass conn ends.NoMemory end' a b k l front writes
    gives_up_without end' ended = record { is = h.given_up; put = h.put; counts = tt; all = tt; ended = ended }
