-- The frame at the front of bytes, and when there is none.
use Rattle.std.proofs.Common.{◌≡◌, ℕ, ◌+◌, ◌-◌, ◌<◌, ◌≤◌, List, ◌∷◌, ◌++◌, length, take, drop, sym, ap, subst, ◌∙◌, arith}
use Rattle.std.proofs.lemmas.List.{take_at, drop_at, take-append-drop, length-take}
use Rattle.dk_types.specs.Fields.{u32_spelling}
use Rattle.dk_model.specs.Frames.{Frame, Stage, BadField, IsBad, MayCome, States, Begins, opcode_of, fields_of, frame_spelling, spelled}
use Rattle.dk_frame.specs.Fields.{Has, HasNoFrame}
use Rattle.dk_frame.specs.Fronts.{IsWhole}
use Rattle.dk_frame.proofs.Lengths.{length-spelled}
use Rattle.dk_frame.proofs.Opened.{spelled_parts, opened_whole}

-- a length, an opcode and the fields that they count are a frame at the front
pub whole_front : (stage : Stage) (bytes fields : List ℕ) (len opcode : ℕ) (f : Frame) → States bytes len (opcode ∷ fields) → 0 < len → len ≤ 1 + length fields → MayCome stage opcode → Has opcode (take (len - 1) fields) f → IsWhole stage bytes f (4 + len)
whole_front stage bytes fields len opcode f states some long may has =
    let own = take (len - 1) fields in
    let tail = drop (len - 1) fields in
    let count : 1 + length own ≡ len = omega (arith, length-take (len - 1) fields) in
    let parted : own ++ tail ≡ fields = take-append-drop (len - 1) fields in
    let is : bytes ≡ spelled opcode own ++ tail =
    states.parts ∙ ap (λ (n : ℕ). u32_spelling n ++ (opcode ∷ fields)) (sym count) ∙ ap (λ (b : List ℕ). u32_spelling (1 + length own) ++ (opcode ∷ b)) (sym parted) ∙ sym (spelled_parts opcode own tail) in
    let size : length (spelled opcode own) ≡ 4 + len = omega (arith, length-spelled opcode own) in
    let cut : drop (4 + len) bytes ≡ tail = ap (drop (4 + len)) is ∙ drop_at (spelled opcode own) tail (4 + len) size in
    let same : spelled opcode own ≡ frame_spelling f = ap (λ (n : ℕ). spelled n own) (sym has.opcode_is) ∙ ap (λ (b : List ℕ). spelled (opcode_of f) b) (sym has.fields_are) in
    record {
      may_come = subst (λ (n : ℕ). MayCome stage n) (sym has.opcode_is) may;
      is_frame = has.is_frame;
      parts = is ∙ ap (λ (b : List ℕ). b ++ tail) same ∙ ap (λ (b : List ℕ). frame_spelling f ++ b) (sym cut);
      takes = sym size ∙ ap (λ (b : List ℕ). length b) same;
    }

-- where no frame has these fields, the frame is bad
pub bad_field : (stage : Stage) (bytes fields : List ℕ) (len opcode : ℕ) → Begins bytes len (opcode ∷ fields) → len ≤ 1 + length fields → MayCome stage opcode → HasNoFrame opcode (take (len - 1) fields) → IsBad stage bytes BadField
bad_field stage bytes fields len opcode begins long may none = (
  len,
  opcode,
  fields,
  begins,
  may,
  long,
  λ f behind is e.
      let o = opened_whole f bytes behind fields len opcode is e begins.states in
      let count : length (fields_of f) ≡ len - 1 = omega (arith, o.0) in
      let own : fields_of f ≡ take (len - 1) fields = sym (ap (take (len - 1)) o.2 ∙ take_at (fields_of f) behind (len - 1) count) in
      none f (record { is_frame = is; opcode_is = sym o.1; fields_are = own }),
)
