-- One poll of a direction.
use Rattle.std.proofs.Common.{◌≡◌, ℕ, ◌+◌, ◌-◌, length, arith, List, [], ◌++◌, map, take, drop, Vec, Global, Option, Result, Ok, Err, MatchResult, sym, ap, subst, subst₂, ◌∙◌, append_assoc}
use Rattle.std.proofs.lemmas.List.{append-nil, length-drop, take_all, take-append-drop}
use Rattle.std.proofs.Math.Seq.{drop-drop}
use Rattle.std.specs.Io.KnownBytes.{Keeps}
use Rattle.futures.specs.Poll.{IfReady, OnPending}
use Rattle.futures.specs.declared.task.Poll.{Poll}
use Rattle.futures.specs.declared.task.Poll.TheVariants.{Ready, Pending}
use Rattle.dk_model.specs.Frames.{Frame}
use Rattle.dk_frame.specs.declared.frame.ClientFrame.{ClientFrame}
use Rattle.dk_frame.specs.Decoding.{Decoding, HasDecoded}
use Rattle.dk_frame.specs.Meanings.{frame_of}
use Rattle.dk_pump.specs.declared.ends.SessionEnd.{SessionEnd}
use Rattle.dk_pump.specs.Reading.{IsNextEnd}
use Rattle.dk_pump.specs.Sessions.{IsPolledRead}
use Rattle.dk_pump.proofs.OnePiece.{IsIdle, end_from}
use Rattle.dk_pump.proofs.Streams.{keeps_consumes}

-- some bytes of a frame were put, and those behind them are left
pub put_more : (frame : List ℕ) (put n : ℕ) (mid now rest : List ℕ) → drop put frame ++ rest ≡ mid → mid ≡ now → now ≡ take n (drop put frame) ++ (drop (put + n) frame ++ rest)
put_more frame put n mid now rest is same =
    sym same ∙ sym is ∙ ap (λ l. l ++ rest) (sym (take-append-drop n (drop put frame)) ∙ ap (λ l. take n (drop put frame) ++ l) (drop-drop n put frame)) ∙ append_assoc (take n (drop put frame)) (drop (put + n) frame) rest

-- a link that was not ready
pub not_ready : (left left' : Option (List ℕ)) (d : Decoding) (counted counted' : ℕ) → Keeps left left' → counted' ≡ counted → IsPolledRead [] left left' d d counted counted'
not_ready left left' d counted counted' kept still = record {
  bytes = [];
  read = record { consumed = keeps_consumes left left' kept; fed = λ stream given s. subst₂ (HasDecoded d) (sym (append-nil stream)) (sym (append-nil given)) s };
  counts = still;
}

module _ (left left' : Option (List ℕ)) (old mid new : Decoding) (counted counted' : ℕ) (is : IsIdle old mid) where
  read_from : (frames : List Frame) → IsPolledRead frames left left' mid new counted counted' → IsPolledRead frames left left' old new counted counted'
  read_from frames n = record { bytes = n.bytes; read = record { consumed = n.read.consumed; fed = λ stream given s. n.read.fed stream given (is.same stream given s) }; counts = n.counts }

  pub polled_from : (r : Poll (Result (Vec ClientFrame Global) SessionEnd))
      → IfReady r (λ x. MatchResult x (λ frames. IsPolledRead (map frame_of frames.items) left left' mid new counted counted') (λ end. IsNextEnd end left left' mid new counted counted'))
      → IfReady r (λ x. MatchResult x (λ frames. IsPolledRead (map frame_of frames.items) left left' old new counted counted') (λ end. IsNextEnd end left left' old new counted counted'))
  polled_from (Ready (Ok frames)) n = read_from (map frame_of frames.items) n
  polled_from (Ready (Err end)) n = end_from left left' old mid new counted counted' is end n
  polled_from Pending n = n

  pub waited_from : (r : Poll (Result (Vec ClientFrame Global) SessionEnd)) → OnPending r (IsPolledRead [] left left' mid new counted counted') → OnPending r (IsPolledRead [] left left' old new counted counted')
  waited_from (Ready x) n = n
  waited_from Pending n = read_from [] n

-- the bytes of a frame behind those that were put
pub rest_of : (frame slice : List ℕ) (put : ℕ) → slice ≡ frame → take (length slice - put) (drop put slice) ≡ drop put frame
rest_of frame slice put is =
    take_all (length slice - put) (drop put slice) (let long = length-drop put slice in omega (arith, long)) ∙ ap (drop put) is

-- the frames that came of a poll, or how reading ended
abbrev pub Polled : Option (List ℕ) → Option (List ℕ) → Decoding → Decoding → ℕ → ℕ → Result (Vec ClientFrame Global) SessionEnd → Type 0
Polled left left' old new counted counted' r = MatchResult r (λ frames. IsPolledRead (map frame_of frames.items) left left' old new counted counted') (λ end. IsNextEnd end left left' old new counted counted')

-- what a poll that was pending says
pub on_pending : {A : Type 0} (r : Poll A) (P : Type 0) → r ≡ Pending → OnPending r P → P
on_pending r P is h = subst (λ x. OnPending x P) is h
