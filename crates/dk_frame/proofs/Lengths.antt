-- How long spellings are.
use Rattle.std.proofs.Common.{◌≡◌, ℕ, ◌+◌, ◌≤◌, List, ◌∷◌, ◌++◌, length, length-append, arith}
use Rattle.dk_types.specs.Names.{IsName}
use Rattle.dk_types.specs.Fields.{u32_spelling, name_spelling}
use Rattle.dk_wire.proofs.LengthLaws.{length-u32, length-name}
use Rattle.dk_model.specs.Frames.{spelled}

-- a name's spelling has at most 256 bytes
pub name_spelling_most : (name : List ℕ) → IsName name → length (name_spelling name) ≤ 256
name_spelling_most name is = omega (arith, length-name name, is.most)

-- a name's spelling and what stands behind it
pub length_of_named : (name body : List ℕ) → length (name_spelling name ++ body) ≡ 1 + length name + length body
length_of_named name body = omega (arith, length-append (name_spelling name) body, length-name name)

-- a frame's bytes are four of a length, an opcode and its fields
pub length-spelled : (opcode : ℕ) (fields : List ℕ) → length (spelled opcode fields) ≡ 5 + length fields
unfolding spelled
length-spelled opcode fields = omega (arith, length-append (u32_spelling (1 + length fields)) (opcode ∷ fields), length-u32 (1 + length fields))
