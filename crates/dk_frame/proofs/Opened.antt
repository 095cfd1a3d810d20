-- What the bytes say that begin with a frame.
use Rattle.std.proofs.Common.{◌≡◌, ℕ, ◌+◌, ◌^◌, ◌<◌, ◌≤◌, List, ◌∷◌, ◌++◌, length, sym, ◌∙◌, append_assoc, length-append, arith}
use Rattle.dk_types.specs.Names.{IsName}
use Rattle.dk_types.specs.Exact.{IsPrefixFree}
use Rattle.dk_types.specs.Fields.{IsU32, u32_spelling, name_spelling}
use Rattle.dk_types.specs.Reading.{u32_at, name_at}
use Rattle.dk_types.proofs.ExactLaws.{prefix_free}
use Rattle.dk_types.proofs.FieldLaws.{u32_exact, name_exact}
use Rattle.dk_model.specs.Frames.{Frame, Login, Message, Channel, Logout, IsFrame, opcode_of, fields_of, frame_spelling, spelled, States}
use Rattle.dk_frame.proofs.Lengths.{name_spelling_most}

-- no number's spelling begins another
pub numbers_apart : IsPrefixFree IsU32 u32_spelling
numbers_apart = prefix_free IsU32 u32_spelling u32_at u32_exact

-- no name's spelling begins another
pub names_apart : IsPrefixFree IsName name_spelling
names_apart = prefix_free IsName name_spelling name_at name_exact

-- the fields of a frame have at most the bytes of a name and of a body
pub fields_most : (f : Frame) → IsFrame f → length (fields_of f) ≤ 1048832
fields_most (Login name) is = omega (arith, name_spelling_most name is)
fields_most (Message body) is = omega (arith, is)
fields_most (Channel channel body) is = omega (arith, length-append (name_spelling channel) body, name_spelling_most channel is.0, is.1)
fields_most Logout is = omega arith

-- a spelled frame, with what stands behind it, in its parts
pub spelled_parts : (opcode : ℕ) (fields behind : List ℕ) → spelled opcode fields ++ behind ≡ u32_spelling (1 + length fields) ++ (opcode ∷ (fields ++ behind))
unfolding spelled
spelled_parts opcode fields behind = append_assoc (u32_spelling (1 + length fields)) (opcode ∷ fields) behind

-- the first bytes of two lists are one, and so are the others
cons_apart : (x y : ℕ) (xs ys : List ℕ) → x ∷ xs ≡ y ∷ ys → (x ≡ y) × (xs ≡ ys)
cons_apart x y xs ys e = (cc, cc)

-- the length that the bytes state is that of the frame that they begin with, and its opcode and fields stand behind it
pub opened : (f : Frame) (bytes behind rest : List ℕ) (len : ℕ) → IsFrame f → bytes ≡ frame_spelling f ++ behind → States bytes len rest → (len ≡ 1 + length (fields_of f)) × (rest ≡ opcode_of f ∷ (fields_of f ++ behind))
opened f bytes behind rest len is e states =
    let small : 1 + length (fields_of f) < 2 ^ 32 = omega (arith, fields_most f is) in
    let same : u32_spelling len ++ rest ≡ u32_spelling (1 + length (fields_of f)) ++ (opcode_of f ∷ (fields_of f ++ behind)) = sym states.parts ∙ e ∙ spelled_parts (opcode_of f) (fields_of f) behind in
    numbers_apart len (1 + length (fields_of f)) rest (opcode_of f ∷ (fields_of f ++ behind)) states.fits small same

-- the same, with an opcode and fields that are known to stand there
pub opened_whole : (f : Frame) (bytes behind fields : List ℕ) (len opcode : ℕ) → IsFrame f → bytes ≡ frame_spelling f ++ behind → States bytes len (opcode ∷ fields) → (len ≡ 1 + length (fields_of f)) × (opcode ≡ opcode_of f) × (fields ≡ fields_of f ++ behind)
opened_whole f bytes behind fields len opcode is e states =
    let o = opened f bytes behind (opcode ∷ fields) len is e states in
    let p = cons_apart opcode (opcode_of f) fields (fields_of f ++ behind) o.1 in
    (o.0, p.0, p.1)
