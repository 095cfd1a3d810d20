-- How long spellings are.
use Rattle.std.proofs.Common.{◌≡◌, ℕ, List, length, refl, length-append, arith}
use Rattle.std.specs.List.{flat_map}
use Rattle.std.proofs.lemmas.List.Concat.{length-flat_map}
use Rattle.dk_types.specs.declared.number.ObjectId.{ObjectId}
use Rattle.dk_types.specs.declared.number.TaskKey.{TaskKey}
use Rattle.dk_types.specs.Fields.{u8_spelling, u16_spelling, u32_spelling, u64_spelling, name_spelling, blob_spelling, id_spelling, key_spelling, id_of_key}
use Rattle.dk_types.specs.Lists.{list_spelling}
use Rattle.dk_wire.specs.Lengths.{name_length, blob_length, list_length}

pub length-u8 : (n : ℕ) → length (u8_spelling n) ≡ 1
unfolding u8_spelling
length-u8 n = refl

pub length-u16 : (n : ℕ) → length (u16_spelling n) ≡ 2
unfolding u16_spelling
length-u16 n = refl

pub length-u32 : (n : ℕ) → length (u32_spelling n) ≡ 4
unfolding u32_spelling
length-u32 n = refl

pub length-u64 : (n : ℕ) → length (u64_spelling n) ≡ 8
unfolding u64_spelling
length-u64 n = refl

pub length-name : (name : List ℕ) → length (name_spelling name) ≡ name_length name
unfolding name_spelling
length-name name = omega arith

pub length-blob : (blob : List ℕ) → length (blob_spelling blob) ≡ blob_length blob
unfolding blob_spelling
length-blob blob = omega (arith, length-append (u32_spelling (length blob)) blob, length-u32 (length blob))

pub length-id : (id : ObjectId) → length (id_spelling id) ≡ 12
unfolding id_spelling
length-id id = omega (arith, length-append (u64_spelling id.run.0) (u32_spelling id.k), length-u64 id.run.0, length-u32 id.k)

pub length-key : (key : TaskKey) → length (key_spelling key) ≡ 12
unfolding key_spelling
length-key key = length-id (id_of_key key)

-- a list's length is that of its count and of its items
pub length-list : {A : Type 0} (spelling : A → List ℕ) (xs : List A) → length (list_spelling spelling xs) ≡ list_length (λ x. length (spelling x)) xs
unfolding list_spelling
length-list spelling xs =
    omega (arith, length-append (u32_spelling (length xs)) (flat_map spelling xs), length-flat_map spelling xs, length-u32 (length xs))
