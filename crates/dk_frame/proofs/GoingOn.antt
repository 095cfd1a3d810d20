-- Bytes that go on.
use Rattle.std.proofs.Common.{◌≡◌, ℕ, ◌+◌, ◌≤◌, List, ◌∷◌, ◌++◌, length, take, drop, refl, sym, ap, ◌∙◌, append_assoc, length-append, arith}
use Rattle.std.proofs.lemmas.List.{take_at, take-append-le, take-append-drop}
use Rattle.dk_types.specs.Fields.{u32_spelling}
use Rattle.dk_model.specs.Frames.{Frame, Stage, AtLogin, InSession, LoggedOut, Fault, BadLength, BadOpcode, BadField, Bad, IsBad, Follows, States, Begins, opcode_of, fields_of, frame_spelling}
use Rattle.dk_frame.proofs.Opened.{spelled_parts, opened_whole}

-- a length that bytes state, they state also where more follows
pub States-more : (bytes more behind : List ℕ) (len : ℕ) → States bytes len behind → States (bytes ++ more) len (behind ++ more)
States-more bytes more behind len is = record { fits = is.fits; parts = ap (λ (b : List ℕ). b ++ more) is.parts ∙ append_assoc (u32_spelling len) behind more }

pub Begins-more : (bytes more behind : List ℕ) (len : ℕ) → Begins bytes len behind → Begins (bytes ++ more) len (behind ++ more)
Begins-more bytes more behind len is = record { states = States-more bytes more behind len is.states; some = is.some; most = is.most }

-- a front that is not longer than the first part of a list is that part's front
front_of : (xs ys zs ws : List ℕ) → xs ++ ys ≡ zs ++ ws → length zs ≤ length xs → xs ≡ zs ++ drop (length zs) xs
front_of xs ys zs ws e short =
    let cut : take (length zs) xs ≡ zs = sym (take-append-le (length zs) xs ys short) ∙ ap (take (length zs)) e ∙ take_at zs ws (length zs) refl in
    sym (take-append-drop (length zs) xs) ∙ ap (λ (b : List ℕ). b ++ drop (length zs) xs) cut

-- bytes that state a frame's length, its opcode and its fields begin with the frame
pub respelled : (f : Frame) (bytes fields behind : List ℕ) (len opcode : ℕ) → States bytes len (opcode ∷ fields) → len ≡ 1 + length (fields_of f) → opcode ≡ opcode_of f → fields ≡ fields_of f ++ behind → bytes ≡ frame_spelling f ++ behind
respelled f bytes fields behind len opcode states count op own =
    states.parts ∙ ap (λ (n : ℕ). u32_spelling n ++ (opcode ∷ fields)) count ∙ ap (λ (n : ℕ). u32_spelling (1 + length (fields_of f)) ++ (n ∷ fields)) op
    ∙ ap (λ (b : List ℕ). u32_spelling (1 + length (fields_of f)) ++ (opcode_of f ∷ b)) own ∙ sym (spelled_parts (opcode_of f) (fields_of f) behind)

-- a bad frame is bad whatever follows it
pub bad_more : (stage : Stage) (bytes more : List ℕ) (fault : Fault) → IsBad stage bytes fault → IsBad stage (bytes ++ more) fault
bad_more stage bytes more BadLength (len, behind, states, wrong) = (len, behind ++ more, States-more bytes more behind len states, wrong)
bad_more stage bytes more BadOpcode (len, opcode, fields, begins, not) = (len, opcode, fields ++ more, Begins-more bytes more (opcode ∷ fields) len begins, not)
bad_more stage bytes more BadField (len, opcode, fields, begins, may, long, none) =
    let longer = Begins-more bytes more (opcode ∷ fields) len begins in (
      len,
      opcode,
      fields ++ more,
      longer,
      may,
      omega (arith, length-append fields more),
      λ f behind is e.
          let o = opened_whole f (bytes ++ more) behind (fields ++ more) len opcode is e longer.states in
          let short : length (fields_of f) ≤ length fields = omega (arith, o.0) in
          none f (drop (length (fields_of f)) fields) is (respelled f bytes fields (drop (length (fields_of f)) fields) len opcode begins.states o.0 o.1 (front_of fields more (fields_of f) behind o.2 short)),
    )

-- so what follows the frames stays the bad frame
pub faults_go_on : (stage : Stage) (at : ℕ) (bytes more : List ℕ) (place : ℕ) (fault : Fault) → Follows stage at bytes (Bad place fault) → Follows stage at (bytes ++ more) (Bad place fault)
faults_go_on AtLogin at bytes more place fault is = (is.0, bad_more AtLogin bytes more fault is.1)
faults_go_on InSession at bytes more place fault is = (is.0, bad_more InSession bytes more fault is.1)
faults_go_on LoggedOut at bytes more place fault is = is
