-- Messages one behind another.
use Rattle.std.proofs.Common.{◌≡◌, ℕ, ◌+◌, ◌-◌, ◌≤◌, ◌<◌, List, [], ◌∷◌, ◌++◌, length, take, drop, refl, sym, ap, subst, ◌∙◌, append_assoc, length-append, arith}
use Rattle.std.proofs.lemmas.List.{drop-drop, length-drop, length-take}
use Rattle.dk_types.specs.Fields.{u32_spelling}
use Rattle.dk_wire.proofs.LengthLaws.{length-u32}
use Rattle.dk_model.specs.Frames.{Frame, Message, Stage, InSession, AreInTurn, States, body_most, stage_after, stream_of}
use Rattle.dk_frame.specs.Fields.{Has}
use Rattle.dk_frame.specs.Fronts.{IsWhole, IsMessage, AreTaken, AddsTaken}
use Rattle.dk_frame.proofs.FrontLemmas.{whole_front}
use Rattle.dk_frame.proofs.Turns.{AreInTurn-append, stage_after-append, stream_of-append, taken_more, drop_behind}

-- a length, the opcode of a message and its body are a message at the front
pub message_front : (bytes fields : List ℕ) (len : ℕ) → States bytes len (2 ∷ fields) → 0 < len → len ≤ 1 + length fields → length (take (len - 1) fields) ≤ body_most → IsMessage bytes (take (len - 1) fields) (drop (len - 1) fields)
message_front bytes fields len states some long few =
    let body = take (len - 1) fields in
    let has : Has 2 body (Message body) = record { is_frame = few; opcode_is = refl; fields_are = refl } in
    let whole = whole_front InSession bytes fields len 2 (Message body) states some long (omega arith, omega arith) has in
    let size : 4 + len ≡ 5 + length body = omega (arith, length-take (len - 1) fields) in
    let parted : 4 + len ≡ 5 + (len - 1) = omega arith in
    let five : 5 ≡ length (u32_spelling len ++ 2 ∷ []) = omega (arith, length-append (u32_spelling len) (2 ∷ []), length-u32 len) in
    let is : bytes ≡ (u32_spelling len ++ 2 ∷ []) ++ fields = states.parts ∙ sym (append_assoc (u32_spelling len) (2 ∷ []) fields) in
    let cut : drop (4 + len) bytes ≡ drop (len - 1) fields = ap (λ (n : ℕ). drop n bytes) parted ∙ ap (drop (5 + (len - 1))) is ∙ drop_behind (u32_spelling len ++ 2 ∷ []) fields 5 (len - 1) five in
    record {
      whole = subst (λ (n : ℕ). IsWhole InSession bytes (Message body) n) size whole;
      behind_is = sym cut ∙ ap (λ (n : ℕ). drop n bytes) size;
    }

-- messages were put behind others, and this follows them
pub record Along (bytes : List ℕ) (old new : List Frame) (rest : List ℕ) : Type 0 where
  pub taken : ℕ
  pub adds : AddsTaken InSession bytes old new taken
  pub rest_is : rest ≡ drop taken bytes

-- one more message
pub along_more : (bytes : List ℕ) (old new : List Frame) (rest body behind : List ℕ) → Along bytes old new rest → IsMessage rest body behind → Along bytes old (new ++ Message body ∷ []) behind
along_more bytes old new rest body behind along is =
    let n = 5 + length body in
    let whole : IsWhole InSession (drop along.taken bytes) (Message body) n = subst (λ (b : List ℕ). IsWhole InSession b (Message body) n) along.rest_is is.whole in
    record {
      taken = along.taken + n;
      adds = record {
        more = along.adds.more ++ Message body ∷ [];
        now = ap (λ (fs : List Frame). fs ++ Message body ∷ []) along.adds.now ∙ append_assoc old along.adds.more (Message body ∷ []);
        are = taken_more InSession InSession bytes along.adds.more along.taken n (Message body) along.adds.are whole;
      };
      rest_is = is.behind_is ∙ ap (drop n) along.rest_is ∙ drop-drop n along.taken bytes;
    }

-- frames are taken behind others
taken_further : (start stage then : Stage) (bytes : List ℕ) (frames later : List Frame) (taken more : ℕ) → AreTaken start bytes frames taken stage → AreTaken stage (drop taken bytes) later more then → AreTaken start bytes (frames ++ later) (taken + more) then
taken_further start stage then bytes frames later taken more are further =
    let all : stream_of (frames ++ later) ≡ stream_of frames ++ stream_of later = stream_of-append frames later in
    let rest : drop more (drop taken bytes) ≡ drop (taken + more) bytes = drop-drop more taken bytes in
    record {
      in_turn = AreInTurn-append start frames later are.in_turn (subst (λ (s : Stage). AreInTurn s later) are.comes_to further.in_turn);
      comes_to = further.comes_to ∙ ap (λ (s : Stage). stage_after s later) are.comes_to ∙ sym (stage_after-append start frames later);
      parts = are.parts ∙ ap (λ (b : List ℕ). stream_of frames ++ b) (further.parts ∙ ap (λ (b : List ℕ). stream_of later ++ b) rest)
          ∙ sym (append_assoc (stream_of frames) (stream_of later) (drop (taken + more) bytes)) ∙ ap (λ (b : List ℕ). b ++ drop (taken + more) bytes) (sym all);
      takes = omega (arith, are.takes, further.takes, length-append (stream_of frames) (stream_of later), ap (λ (b : List ℕ). length b) all);
      within = omega (arith, are.within, further.within, length-drop taken bytes);
    }

-- messages are taken of the bytes that follow others
pub messages_on : (start stage : Stage) (front bytes : List ℕ) (frames new : List Frame) (before taken more : ℕ)
    → AreTaken start (front ++ bytes) frames (before + taken) stage → before ≡ length front → AddsTaken stage (drop taken bytes) frames new more
    → AreTaken start (front ++ bytes) new (before + (taken + more)) stage
messages_on start stage front bytes frames new before taken more are all adds =
    let there = subst (λ (b : List ℕ). AreTaken stage b adds.more more stage) (sym (drop_behind front bytes before taken all)) adds.are in
    let place : (before + taken) + more ≡ before + (taken + more) = omega arith in
    subst (λ (fs : List Frame). AreTaken start (front ++ bytes) fs (before + (taken + more)) stage) (sym adds.now)
    (subst (λ (n : ℕ). AreTaken start (front ++ bytes) (frames ++ adds.more) n stage) place (taken_further start stage stage (front ++ bytes) frames adds.more (before + taken) more are there))
