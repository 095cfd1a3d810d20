-- A session's begin: pieces without a frame, the first frames, and the Connect.
use Rattle.std.proofs.Common.{◌≡◌, ℕ, ◌<◌, ◌≤◌, List, [], ◌∷◌, ◌++◌, map, Option, Ok, Err, refl, sym, ap, subst, ◌∙◌, append_assoc, length, slice_index_or, arith}
use Rattle.std.proofs.lemmas.List.{append-nil}
use Rattle.std.specs.List.{All, remove}
use Rattle.std.specs.Io.KnownBytes.{Consumes}
use Rattle.dk_types.specs.declared.limits.TheConstants.{NUMBERS_END}
use Rattle.dk_types.specs.declared.event.Event.{Event}
use Rattle.dk_types.specs.declared.event.Event.TheVariants as event
use Rattle.dk_types.specs.declared.event.ConnectReply.TheVariants as connected
use Rattle.dk_model.specs.Frames.{Frame, Login}
use Rattle.dk_model.specs.Legal.{Opened, IsLegal, pass_of}
use Rattle.dk_play_laws.proofs.Budgets.{numbers_end}
use Rattle.dk_core.specs.declared.answers.ConnectRefused.{ConnectRefused}
use Rattle.dk_core.specs.declared.answers.ConnectRefused.TheVariants as refused
use Rattle.dk_frame.specs.declared.frame.ClientFrame.{ClientFrame}
use Rattle.dk_frame.specs.declared.frame.ClientFrame.TheVariants as client
use Rattle.dk_frame.specs.Meanings.{frame_of}
use Rattle.dk_frame.specs.Decoding.{Decoding}
use Rattle.dk_host.specs.Calls.{Entered, connect_events}
use Rattle.dk_pump.specs.declared.limits.TheConstants.{SESSION_MOST_BYTES}
use Rattle.dk_pump.specs.declared.ends.SessionEnd.{SessionEnd}
use Rattle.dk_pump.specs.declared.ends.SessionEnd.TheVariants as ends
use Rattle.dk_pump.specs.declared.greeting.Greeted.{Greeted}
use Rattle.dk_pump.specs.Ends.{end_of_connect}
use Rattle.dk_pump.specs.Reading.{IsOfRead, Counts, IsNextRead, IsNextEnd, IsFirstRead, IsFirstEnd, ConnectsBy, Greets}
use Rattle.dk_pump.proofs.Entering.{enters_none, enters_one}
use Rattle.dk_pump.proofs.Streams.{consumes_then, cause_then}

-- where a Connect finds no number, numbers have come to their end
pub connect_ends : (o : Opened) (pass : ℕ) (name : List ℕ) (next : ℕ) (old new : List Event) → Entered o pass (event.Connect pass name (connected.Exhausted next) ∷ []) old new → next ≡ NUMBERS_END
connect_ends o pass name next old new e = numbers_end o e.before (event.Connect pass name (connected.Exhausted next)) next refl (subst (IsLegal o) e.front e.legal)

-- a list without length has nothing
pub empty_is : {A : Type 0} (items : List A) → length items ≡ 0 → items ≡ []
empty_is [] none = refl
empty_is (x ∷ items) none = absurd (omega (arith, none))

-- a LOGIN that was taken off the front stands there
pub first_is : (items : List ClientFrame) (first : ClientFrame) (name : List ℕ) (rest : List ClientFrame) → 0 < length items → first ≡ slice_index_or items 0 first → rest ≡ remove items 0 → first ≡ client.Login name
    → map frame_of items ≡ Login name ∷ map frame_of rest
first_is [] first name rest some is others login = absurd (omega (arith, some))
first_is (f ∷ items) first name rest some is others login = ap (λ x. frame_of x ∷ map frame_of items) (sym is ∙ login) ∙ ap (λ fs. Login name ∷ map frame_of fs) (sym others)

-- before the first frame: one more piece was read, or reading ended
module _ (left mid left' : Option (List ℕ)) (at new : Decoding) (counted counted_at counted' : ℕ) (w : IsFirstRead [] left mid at counted counted_at) where
  pub first_next : (frames : List Frame) → IsNextRead frames mid left' at new counted_at counted' → IsFirstRead frames left left' new counted counted'
  first_next frames n = record {
    bytes = w.bytes ++ n.bytes;
    consumed = consumes_then left mid left' w.bytes n.bytes w.consumed n.read.consumed;
    stands = n.read.fed w.bytes [] w.stands;
    counts = n.counts ∙ w.counts;
  }

  pub first_end : (end : SessionEnd) → IsNextEnd end mid left' at new counted_at counted' → IsFirstEnd end left left' new counted counted'
  first_end end n = record {
    bytes = w.bytes ++ n.bytes;
    lost = n.lost;
    loses = n.loses;
    consumed = subst (Consumes left left') (sym (append_assoc w.bytes n.bytes n.lost)) (consumes_then left mid left' w.bytes (n.bytes ++ n.lost) w.consumed n.consumed);
    stands = n.fed w.bytes [] w.stands;
    of_read = n.of_read;
    cause = cause_then end left mid w.bytes n.bytes new w.consumed n.cause;
    counts = subst (λ k. Counts end k counted') w.counts n.counts;
  }

-- before a frame came nothing is entered
pub connects_none : (pass : ℕ) (end : SessionEnd) → IsOfRead end → ConnectsBy pass [] (Err end) []
connects_none pass ends.Logout is = absurd is
connects_none pass (ends.End at) is = (refl, refl)
connects_none pass (ends.Truncated at) is = (refl, refl)
connects_none pass (ends.Bad bad) is = (refl, refl)
connects_none pass ends.ReadFault is = (refl, refl)
connects_none pass (ends.Flood waiting) is = absurd is
connects_none pass ends.Closed is = absurd is
connects_none pass (ends.Exhausted next) is = absurd is
connects_none pass (ends.Budget bytes) is = (refl, refl)
connects_none pass ends.NoMemory is = refl

module _ (o : Opened) (count pass : ℕ) (left left' : Option (List ℕ)) (new : Decoding) (counted counted' : ℕ) where
  -- no LOGIN came
  pub greets_end : (end : SessionEnd) (front : List Event) → IsFirstEnd end left left' new counted counted' → new.fed ≤ SESSION_MOST_BYTES → Greets o count pass (Err end) left left' new counted counted' front front
  greets_end end front n few = record {
    bytes = n.bytes;
    lost = n.lost;
    frames = [];
    events = [];
    consumed = n.consumed;
    loses = n.loses;
    stands = n.stands;
    few = few;
    connects = connects_none pass end n.of_read;
    cause = n.cause;
    counts = n.counts;
    enters = enters_none o count pass front;
  }

  module _ (name : List ℕ) (frames : List Frame) (first : IsFirstRead frames left left' new counted counted') (few : new.fed ≤ SESSION_MOST_BYTES) (front front' : List Event) (named : All (λ e. pass_of e < count) front') where
    -- the client was connected
    pub greets : (greeted : Greeted) → frames ≡ Login name ∷ map frame_of greeted.rest.items → Entered o pass (connect_events pass name (Ok greeted.conn)) front front' → Greets o count pass (Ok greeted) left left' new counted counted' front front'
    greets greeted is e = record {
      bytes = first.bytes;
      lost = [];
      frames = frames;
      events = connect_events pass name (Ok greeted.conn);
      consumed = subst (Consumes left left') (sym (append-nil first.bytes)) first.consumed;
      loses = refl;
      stands = first.stands;
      few = few;
      connects = (name, is, refl);
      cause = tt;
      counts = first.counts;
      enters = enters_one o count pass _ front front' e named;
    }

    -- and here it was not
    pub greets_refused : (rest : List Frame) (r : ConnectRefused) → frames ≡ Login name ∷ rest → Entered o pass (connect_events pass name (Err r)) front front' → Greets o count pass (Err (end_of_connect r)) left left' new counted counted' front front'
    greets_refused rest (refused.Exhausted next) is e = record {
      bytes = first.bytes;
      lost = [];
      frames = frames;
      events = connect_events pass name (Err (refused.Exhausted next));
      consumed = subst (Consumes left left') (sym (append-nil first.bytes)) first.consumed;
      loses = refl;
      stands = first.stands;
      few = few;
      connects = (name, rest, is, refl);
      cause = connect_ends o pass name next front front' e;
      counts = first.counts;
      enters = enters_one o count pass _ front front' e named;
    }
    greets_refused rest refused.NoMemory is e = record {
      bytes = first.bytes;
      lost = [];
      frames = frames;
      events = [];
      consumed = subst (Consumes left left') (sym (append-nil first.bytes)) first.consumed;
      loses = tt;
      stands = first.stands;
      few = few;
      connects = refl;
      cause = tt;
      counts = first.counts;
      enters = enters_one o count pass _ front front' e named;
    }
