-- A stream has one reading.
use Rattle.std.proofs.Common.{◌≡◌, ℕ, ◌+◌, ◌^◌, ◌≤◌, ◌<◌, ◌⊎◌, inl, inr, List, [], ◌∷◌, ◌++◌, length, refl, sym, ap, subst, ◌∙◌, append_assoc, length-append, arith}
use Rattle.std.proofs.lemmas.List.{append-nil}
use Rattle.dk_types.specs.declared.job.Out.{Out}
use Rattle.dk_types.specs.declared.job.Out.TheVariants as out
use Rattle.dk_types.specs.Fields.{u32_spelling, name_spelling}
use Rattle.dk_wire.proofs.LengthLaws.{length-u32}
use Rattle.dk_model.specs.Frames.{Frame, Login, Message, Channel, Logout, Stage, AtLogin, InSession, LoggedOut, Fault, BadLength, BadOpcode, BadField, Following, Nothing, Begun, Bad, IsFrame, IsOut, IsBad, IsPartial, Tells, Follows, AreInTurn, MayCome, States, Begins, opcode_of, fields_of, frame_spelling, out_opcode, out_fields, spelled, stage_behind, stage_after, stream_of, length_most}
use Rattle.dk_frame.specs.FrameLaws.{OneSpelling, OneSpellingOut, OneReading, LongerStream, FaultsLast}
use Rattle.dk_frame.proofs.Lengths.{name_spelling_most, length-spelled}
use Rattle.dk_frame.proofs.Opened.{numbers_apart, names_apart, fields_most, spelled_parts, opened, opened_whole}
use Rattle.dk_frame.proofs.GoingOn.{faults_go_on}

-- lists with fronts of one length have one front and one rest
fronts_apart : (xs zs ys ws : List ℕ) → length xs ≡ length zs → xs ++ ys ≡ zs ++ ws → (xs ≡ zs) × (ys ≡ ws)
fronts_apart [] [] ys ws len e = (refl, e)
fronts_apart [] (z ∷ zs) ys ws len e = absurd (omega arith)
fronts_apart (x ∷ xs) [] ys ws len e = absurd (omega arith)
fronts_apart (x ∷ xs) (z ∷ zs) ys ws len e =
    let head : x ≡ z = cc in
    let tail : xs ++ ys ≡ zs ++ ws = cc in
    let both = fronts_apart xs zs ys ws (omega arith) tail in
    let first : xs ≡ zs = both.0 in
    (cc, both.1)

-- two spelled frames, with what stands behind them
spelled_apart : (op other : ℕ) (fields others x y : List ℕ) → 1 + length fields < 2 ^ 32 → 1 + length others < 2 ^ 32 → spelled op fields ++ x ≡ spelled other others ++ y → (op ≡ other) × (fields ≡ others) × (x ≡ y)
spelled_apart op other fields others x y small small' e =
    let same = sym (spelled_parts op fields x) ∙ e ∙ spelled_parts other others y in
    let n = numbers_apart (1 + length fields) (1 + length others) (op ∷ (fields ++ x)) (other ∷ (others ++ y)) (omega arith) (omega arith) same in
    let head : op ≡ other = cc in
    let tail : fields ++ x ≡ others ++ y = cc in
    let both = fronts_apart fields others x y (omega (arith, n.0)) tail in
    (head, both.0, both.1)

-- a frame's opcode and fields are those of no other
same_frame : (f g : Frame) → IsFrame f → IsFrame g → opcode_of f ≡ opcode_of g → fields_of f ≡ fields_of g → f ≡ g
same_frame (Login n) (Login m) is is' op e =
    let both = names_apart n m [] [] is is' (append-nil (name_spelling n) ∙ e ∙ sym (append-nil (name_spelling m))) in
    ap Login both.0
same_frame (Message n) (Message m) is is' op e = ap Message e
same_frame (Channel c n) (Channel d m) is is' op e =
    let both = names_apart c d n m is.0 is'.0 e in
    ap (λ (k : List ℕ). Channel k n) both.0 ∙ ap (λ (k : List ℕ). Channel d k) both.1
same_frame Logout Logout is is' op e = refl
same_frame (Login n) (Message m) is is' op e = absurd (omega (arith, op))
same_frame (Login n) (Channel d m) is is' op e = absurd (omega (arith, op))
same_frame (Login n) Logout is is' op e = absurd (omega (arith, op))
same_frame (Message n) (Login m) is is' op e = absurd (omega (arith, op))
same_frame (Message n) (Channel d m) is is' op e = absurd (omega (arith, op))
same_frame (Message n) Logout is is' op e = absurd (omega (arith, op))
same_frame (Channel c n) (Login m) is is' op e = absurd (omega (arith, op))
same_frame (Channel c n) (Message m) is is' op e = absurd (omega (arith, op))
same_frame (Channel c n) Logout is is' op e = absurd (omega (arith, op))
same_frame Logout (Login m) is is' op e = absurd (omega (arith, op))
same_frame Logout (Message m) is is' op e = absurd (omega (arith, op))
same_frame Logout (Channel d m) is is' op e = absurd (omega (arith, op))

pub one_spelling : OneSpelling
one_spelling f g x y is is' e =
    let parts = spelled_apart (opcode_of f) (opcode_of g) (fields_of f) (fields_of g) x y (omega (arith, fields_most f is)) (omega (arith, fields_most g is')) e in
    (same_frame f g is is' parts.0 parts.1, parts.2)

-- a server's fields have at most the bytes of a name and of a body
out_fields_most : (o : Out) → IsOut o → length (out_fields o) ≤ 1048832
out_fields_most out.Accepted is = omega arith
out_fields_most out.Refused is = omega arith
out_fields_most (out.Message body) is = omega (arith, is)
out_fields_most (out.Channel channel body) is = omega (arith, length-append (name_spelling channel) body, name_spelling_most channel is.0, is.1)
out_fields_most out.Close is = omega arith

same_out : (o p : Out) → IsOut o → IsOut p → out_opcode o ≡ out_opcode p → out_fields o ≡ out_fields p → o ≡ p
same_out out.Accepted out.Accepted is is' op e = refl
same_out out.Refused out.Refused is is' op e = refl
same_out (out.Message n) (out.Message m) is is' op e = ap out.Message e
same_out (out.Channel c n) (out.Channel d m) is is' op e =
    let both = names_apart c d n m is.0 is'.0 e in
    ap (λ (k : List ℕ). out.Channel k n) both.0 ∙ ap (λ (k : List ℕ). out.Channel d k) both.1
same_out out.Close out.Close is is' op e = refl
same_out out.Accepted out.Refused is is' op e = absurd (omega (arith, op))
same_out out.Accepted (out.Message m) is is' op e = absurd (omega (arith, op))
same_out out.Accepted (out.Channel d m) is is' op e = absurd (omega (arith, op))
same_out out.Accepted out.Close is is' op e = absurd (omega (arith, op))
same_out out.Refused out.Accepted is is' op e = absurd (omega (arith, op))
same_out out.Refused (out.Message m) is is' op e = absurd (omega (arith, op))
same_out out.Refused (out.Channel d m) is is' op e = absurd (omega (arith, op))
same_out out.Refused out.Close is is' op e = absurd (omega (arith, op))
same_out (out.Message n) out.Accepted is is' op e = absurd (omega (arith, op))
same_out (out.Message n) out.Refused is is' op e = absurd (omega (arith, op))
same_out (out.Message n) (out.Channel d m) is is' op e = absurd (omega (arith, op))
same_out (out.Message n) out.Close is is' op e = absurd (omega (arith, op))
same_out (out.Channel c n) out.Accepted is is' op e = absurd (omega (arith, op))
same_out (out.Channel c n) out.Refused is is' op e = absurd (omega (arith, op))
same_out (out.Channel c n) (out.Message m) is is' op e = absurd (omega (arith, op))
same_out (out.Channel c n) out.Close is is' op e = absurd (omega (arith, op))
same_out out.Close out.Accepted is is' op e = absurd (omega (arith, op))
same_out out.Close out.Refused is is' op e = absurd (omega (arith, op))
same_out out.Close (out.Message m) is is' op e = absurd (omega (arith, op))
same_out out.Close (out.Channel d m) is is' op e = absurd (omega (arith, op))

pub one_spelling_out : OneSpellingOut
one_spelling_out o p x y is is' e =
    let parts = spelled_apart (out_opcode o) (out_opcode p) (out_fields o) (out_fields p) x y (omega (arith, out_fields_most o is)) (omega (arith, out_fields_most p is')) e in
    (same_out o p is is' parts.0 parts.1, parts.2)

-- two lengths that bytes state are one
stated_once : (bytes x y : List ℕ) (n m : ℕ) → States bytes n x → States bytes m y → (n ≡ m) × (x ≡ y)
stated_once bytes x y n m one other = numbers_apart n m x y one.fits other.fits (sym one.parts ∙ other.parts)

-- bytes that state a length have four bytes and what stands behind them
states_length : (bytes behind : List ℕ) (len : ℕ) → States bytes len behind → length bytes ≡ 4 + length behind
states_length bytes behind len states = ap (λ (b : List ℕ). length b) states.parts ∙ omega (arith, length-append (u32_spelling len) behind, length-u32 len)

states_long : (bytes behind : List ℕ) (len : ℕ) → States bytes len behind → 4 ≤ length bytes
states_long bytes behind len states = omega (arith, states_length bytes behind len states)

-- bytes do not state both a length that no frame may have and one that a frame may have
length_not_begun : (bytes : List ℕ) (len other : ℕ) (x y : List ℕ) → States bytes len x → ((len ≡ 0) ⊎ (length_most < len)) → Begins bytes other y → ⊥
length_not_begun bytes len other x y states wrong begins =
    let o = stated_once bytes x y len other states begins.states in
    elim wrong [ inl none ↦ omega (arith, none, o.0, begins.some) | inr long ↦ omega (arith, long, o.0, begins.most) ]

-- bytes that begin with a frame which may come there
pub record Front (stage : Stage) (bytes : List ℕ) (f : Frame) (behind : List ℕ) : Type 0 where
  pub is_frame : IsFrame f
  pub may_come : MayCome stage (opcode_of f)
  pub parts : bytes ≡ frame_spelling f ++ behind

-- a length and an opcode that bytes state are those of the frame that they begin with
front_states : (stage : Stage) (bytes behind fields : List ℕ) (len opcode : ℕ) (f : Frame) → Front stage bytes f behind → States bytes len (opcode ∷ fields) → (len ≡ 1 + length (fields_of f)) × (opcode ≡ opcode_of f) × (fields ≡ fields_of f ++ behind)
front_states stage bytes behind fields len opcode f front states = opened_whole f bytes behind fields len opcode front.is_frame front.parts states

-- bytes that begin with a frame are not less than one
front_not_partial : (stage : Stage) (bytes behind : List ℕ) (f : Frame) → Front stage bytes f behind → IsPartial stage bytes → ⊥
front_not_partial stage bytes behind f front (inl short) =
    omega (arith, short, ap (λ (b : List ℕ). length b) front.parts, length-append (frame_spelling f) behind, length-spelled (opcode_of f) (fields_of f))
front_not_partial stage bytes behind f front (inr (inl (len, begins))) =
    let o = opened f bytes behind [] len front.is_frame front.parts begins.states in
    absurd cc
front_not_partial stage bytes behind f front (inr (inr (len, opcode, fields, begins, may, short))) =
    let o = front_states stage bytes behind fields len opcode f front begins.states in
    omega (arith, o.0, short, ap (λ (b : List ℕ). length b) o.2, length-append (fields_of f) behind)

-- nor are they bad
front_not_bad : (stage : Stage) (bytes behind : List ℕ) (f : Frame) (fault : Fault) → Front stage bytes f behind → IsBad stage bytes fault → ⊥
front_not_bad stage bytes behind f BadLength front (len, rest, states, wrong) =
    let o = opened f bytes behind rest len front.is_frame front.parts states in
    elim wrong [ inl none ↦ omega (arith, none, o.0) | inr long ↦ omega (arith, long, o.0, fields_most f front.is_frame) ]
front_not_bad stage bytes behind f BadOpcode front (len, opcode, fields, begins, not) =
    let o = front_states stage bytes behind fields len opcode f front begins.states in
    not (subst (MayCome stage) (sym o.1) front.may_come)
front_not_bad stage bytes behind f BadField front (len, opcode, fields, begins, may, long, none) = none f behind front.is_frame front.parts

-- so a frame is no part of what follows the frames
front_not_told : (stage : Stage) (at : ℕ) (bytes behind : List ℕ) (f : Frame) (next : Following) → Front stage bytes f behind → Tells stage at bytes next → ⊥
front_not_told stage at bytes behind f Nothing front told =
    omega (arith, ap (λ (b : List ℕ). length b) told, ap (λ (b : List ℕ). length b) front.parts, length-append (frame_spelling f) behind, length-spelled (opcode_of f) (fields_of f))
front_not_told stage at bytes behind f (Begun place) front told = front_not_partial stage bytes behind f front told.2
front_not_told stage at bytes behind f (Bad place fault) front told = front_not_bad stage bytes behind f fault front told.1

front_not_following : (stage : Stage) (at : ℕ) (bytes behind : List ℕ) (f : Frame) (next : Following) → Front stage bytes f behind → Follows stage at bytes next → ⊥
front_not_following AtLogin at bytes behind f next front told = front_not_told AtLogin at bytes behind f next front told
front_not_following InSession at bytes behind f next front told = front_not_told InSession at bytes behind f next front told
front_not_following LoggedOut at bytes behind f next front told = front.may_come

-- the frames of two readings of bytes, one of which goes on: the longer reading has further frames behind those of the shorter, in what stands there
further : (stage : Stage) (at : ℕ) (frames longer : List Frame) (rest rest' : List ℕ) (next : Following) → AreInTurn stage frames → AreInTurn stage longer → stream_of frames ++ rest ≡ stream_of longer ++ rest' → Follows (stage_after stage longer) at rest' next
    → (later : List Frame) × (longer ≡ frames ++ later) × (rest ≡ stream_of later ++ rest') × AreInTurn (stage_after stage frames) later
further stage at [] longer rest rest' next are more e told = (longer, refl, e, more)
further stage at (f ∷ frames) [] rest rest' next are more e told =
    let front : Front stage rest' f (stream_of frames ++ rest) = record { is_frame = are.1; may_come = are.0; parts = sym e ∙ append_assoc (frame_spelling f) (stream_of frames) rest } in
    absurd (front_not_following stage at rest' (stream_of frames ++ rest) f next front told)
further stage at (f ∷ frames) (g ∷ longer) rest rest' next are more e told =
    let same = sym (append_assoc (frame_spelling f) (stream_of frames) rest) ∙ e ∙ append_assoc (frame_spelling g) (stream_of longer) rest' in
    let one = one_spelling f g (stream_of frames ++ rest) (stream_of longer ++ rest') are.1 more.1 same in
    let turn : AreInTurn (stage_behind f) longer = subst (λ (h : Frame). AreInTurn (stage_behind h) longer) (sym one.0) more.2 in
    let end : Follows (stage_after (stage_behind f) longer) at rest' next = subst (λ (h : Frame). Follows (stage_after (stage_behind h) longer) at rest' next) (sym one.0) told in
    let more' = further (stage_behind f) at frames longer rest rest' next are.2 turn one.1 end in
    (more'.0, ap (λ (h : Frame). h ∷ longer) (sym one.0) ∙ ap (λ (fs : List Frame). f ∷ fs) more'.1, more'.2, more'.3)

pub longer_stream : LongerStream
longer_stream stream more frames longer next after s t =
    let same : stream_of frames ++ (s.rest ++ more) ≡ stream_of longer ++ t.rest = sym (append_assoc (stream_of frames) s.rest more) ∙ ap (λ (b : List ℕ). b ++ more) (sym s.whole) ∙ t.whole in
    let f = further AtLogin (length (stream_of longer)) frames longer (s.rest ++ more) t.rest after s.in_turn t.in_turn same t.follows in
    (f.0, f.1)

pub faults_last : FaultsLast
faults_last stream more frames at fault s = record {
  in_turn = s.in_turn;
  rest = s.rest ++ more;
  whole = ap (λ (b : List ℕ). b ++ more) s.whole ∙ append_assoc (stream_of frames) s.rest more;
  follows = faults_go_on (stage_after AtLogin frames) (length (stream_of frames)) s.rest more at fault s.follows;
}

-- a bad frame has a length at least
bad_long : (stage : Stage) (bytes : List ℕ) (fault : Fault) → IsBad stage bytes fault → 4 ≤ length bytes
bad_long stage bytes BadLength (len, behind, states, wrong) = states_long bytes behind len states
bad_long stage bytes BadOpcode (len, opcode, fields, begins, not) = states_long bytes (opcode ∷ fields) len begins.states
bad_long stage bytes BadField (len, opcode, fields, begins, may, long, none) = states_long bytes (opcode ∷ fields) len begins.states

-- two frames that bytes begin to spell are one
begun_once : (bytes fields others : List ℕ) (len other op op' : ℕ) → States bytes len (op ∷ fields) → States bytes other (op' ∷ others) → (len ≡ other) × (op ≡ op') × (fields ≡ others)
begun_once bytes fields others len other op op' one two =
    let o = stated_once bytes (op ∷ fields) (op' ∷ others) len other one two in
    let tails : op ∷ fields ≡ op' ∷ others = o.1 in
    (o.0, cc, cc)

-- less than a frame is no bad frame
partial_not_bad : (stage : Stage) (bytes : List ℕ) (fault : Fault) → IsPartial stage bytes → IsBad stage bytes fault → ⊥
partial_not_bad stage bytes fault (inl short) bad = omega (arith, short, bad_long stage bytes fault bad)
partial_not_bad stage bytes BadLength (inr (inl (len, begins))) (other, behind, states, wrong) =
    let o = stated_once bytes [] behind len other begins.states states in
    elim wrong [ inl none ↦ omega (arith, none, o.0, begins.some) | inr long ↦ omega (arith, long, o.0, begins.most) ]
partial_not_bad stage bytes BadOpcode (inr (inl (len, begins))) (other, opcode, fields, other_begins, not) =
    let o = stated_once bytes [] (opcode ∷ fields) len other begins.states other_begins.states in absurd cc
partial_not_bad stage bytes BadField (inr (inl (len, begins))) (other, opcode, fields, other_begins, may, long, none) =
    let o = stated_once bytes [] (opcode ∷ fields) len other begins.states other_begins.states in absurd cc
partial_not_bad stage bytes BadLength (inr (inr (len, op, fields, begins, may, short))) (other, behind, states, wrong) =
    let o = stated_once bytes (op ∷ fields) behind len other begins.states states in
    elim wrong [ inl none ↦ omega (arith, none, o.0, begins.some) | inr long ↦ omega (arith, long, o.0, begins.most) ]
partial_not_bad stage bytes BadOpcode (inr (inr (len, op, fields, begins, may, short))) (other, opcode, others, other_begins, not) =
    let o = begun_once bytes fields others len other op opcode begins.states other_begins.states in not (subst (MayCome stage) o.1 may)
partial_not_bad stage bytes BadField (inr (inr (len, op, fields, begins, may, short))) (other, opcode, others, other_begins, may', long, none) =
    let o = begun_once bytes fields others len other op opcode begins.states other_begins.states in
    omega (arith, short, long, o.0, ap (λ (b : List ℕ). length b) o.2)

-- a bad frame has one fault
bad_once : (stage : Stage) (bytes : List ℕ) (fault other : Fault) → IsBad stage bytes fault → IsBad stage bytes other → fault ≡ other
bad_once stage bytes BadLength BadLength a b = refl
bad_once stage bytes BadOpcode BadOpcode a b = refl
bad_once stage bytes BadField BadField a b = refl
bad_once stage bytes BadLength BadOpcode a b = absurd (length_not_begun bytes a.0 b.0 a.1 (b.1 ∷ b.2) a.2 a.3 b.3)
bad_once stage bytes BadLength BadField a b = absurd (length_not_begun bytes a.0 b.0 a.1 (b.1 ∷ b.2) a.2 a.3 b.3)
bad_once stage bytes BadOpcode BadLength a b = absurd (length_not_begun bytes b.0 a.0 b.1 (a.1 ∷ a.2) b.2 b.3 a.3)
bad_once stage bytes BadField BadLength a b = absurd (length_not_begun bytes b.0 a.0 b.1 (a.1 ∷ a.2) b.2 b.3 a.3)
bad_once stage bytes BadOpcode BadField a b =
    let o = begun_once bytes a.2 b.2 a.0 b.0 a.1 b.1 a.3.states b.3.states in absurd (a.4 (subst (MayCome stage) (sym o.1) b.4))
bad_once stage bytes BadField BadOpcode a b =
    let o = begun_once bytes a.2 b.2 a.0 b.0 a.1 b.1 a.3.states b.3.states in absurd (b.4 (subst (MayCome stage) o.1 a.4))

-- one thing is told of bytes
told_once : (stage : Stage) (at : ℕ) (bytes : List ℕ) (next other : Following) → Tells stage at bytes next → Tells stage at bytes other → next ≡ other
told_once stage at bytes Nothing Nothing a b = refl
told_once stage at bytes Nothing (Begun q) a b = absurd (omega (arith, b.1, ap (λ (x : List ℕ). length x) a))
told_once stage at bytes Nothing (Bad q g) a b = absurd (omega (arith, bad_long stage bytes g b.1, ap (λ (x : List ℕ). length x) a))
told_once stage at bytes (Begun p) Nothing a b = absurd (omega (arith, a.1, ap (λ (x : List ℕ). length x) b))
told_once stage at bytes (Begun p) (Begun q) a b = ap Begun (a.0 ∙ sym b.0)
told_once stage at bytes (Begun p) (Bad q g) a b = absurd (partial_not_bad stage bytes g a.2 b.1)
told_once stage at bytes (Bad p f) Nothing a b = absurd (omega (arith, bad_long stage bytes f a.1, ap (λ (x : List ℕ). length x) b))
told_once stage at bytes (Bad p f) (Begun q) a b = absurd (partial_not_bad stage bytes f b.2 a.1)
told_once stage at bytes (Bad p f) (Bad q g) a b = ap (λ (n : ℕ). Bad n f) (a.0 ∙ sym b.0) ∙ ap (Bad q) (bad_once stage bytes f g a.1 b.1)

follows_once : (stage : Stage) (at : ℕ) (bytes : List ℕ) (next other : Following) → Follows stage at bytes next → Follows stage at bytes other → next ≡ other
follows_once AtLogin at bytes next other a b = told_once AtLogin at bytes next other a b
follows_once InSession at bytes next other a b = told_once InSession at bytes next other a b
follows_once LoggedOut at bytes next other a b = a ∙ sym b

-- no frame is behind the last
none_later : (stage : Stage) (at : ℕ) (later : List Frame) (rest rest' : List ℕ) (next : Following) → AreInTurn stage later → rest ≡ stream_of later ++ rest' → Follows stage at rest next → later ≡ []
none_later stage at [] rest rest' next are e told = refl
none_later stage at (g ∷ later) rest rest' next are e told =
    let front : Front stage rest g (stream_of later ++ rest') = record { is_frame = are.1; may_come = are.0; parts = e ∙ append_assoc (frame_spelling g) (stream_of later) rest' } in
    absurd (front_not_following stage at rest (stream_of later ++ rest') g next front told)

pub one_reading : OneReading
one_reading stream frames others next other s t =
    let f = further AtLogin (length (stream_of others)) frames others s.rest t.rest other s.in_turn t.in_turn (sym s.whole ∙ t.whole) t.follows in
    let none = none_later (stage_after AtLogin frames) (length (stream_of frames)) f.0 s.rest t.rest next f.3 f.2 s.follows in
    let same : frames ≡ others = sym (append-nil frames) ∙ ap (λ (fs : List Frame). frames ++ fs) (sym none) ∙ sym f.1 in
    let rests : s.rest ≡ t.rest = f.2 ∙ ap (λ (fs : List Frame). stream_of fs ++ t.rest) none in
    let told = subst (λ (b : List ℕ). Follows (stage_after AtLogin frames) (length (stream_of frames)) b next) rests s.follows in
    let told' = subst (λ (fs : List Frame). Follows (stage_after AtLogin fs) (length (stream_of fs)) t.rest other) (sym same) t.follows in
    (same, follows_once (stage_after AtLogin frames) (length (stream_of frames)) t.rest next other told told')

-- less than a frame has fewer bytes than the longest frame
pub partial_most : (stage : Stage) (bytes : List ℕ) → IsPartial stage bytes → length bytes < 4 + length_most
partial_most stage bytes (inl short) = omega (arith, short)
partial_most stage bytes (inr (inl (len, begins))) = omega (arith, states_length bytes [] len begins.states)
partial_most stage bytes (inr (inr (len, opcode, fields, begins, may, short))) = omega (arith, states_length bytes (opcode ∷ fields) len begins.states, short, begins.most)
