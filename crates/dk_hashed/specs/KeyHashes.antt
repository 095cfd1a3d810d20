-- What the hasher of keys computes.
use Rattle.std.specs.Prelude.{ℕ, ◌*◌, ◌/◌, ◌%◌, ◌^◌, ◌==◌, List, length, if◌then◌else◌, bit_xor}
use Rattle.std.specs.Int.{w32, w64, from_le_bytes}
use Rattle.std.specs.Hash.FoldHasher as folding
use Rattle.dk_hashed.specs.declared.key_hasher.KeyHasher.{KeyHasher}

abbrev pub initial : KeyHasher
initial = record { state = 0x243f_6a88_85a3_08d3 }

-- a product, whose high half goes into the low one
abbrev pub mixed : ℕ → ℕ
mixed product = bit_xor product (product / 2 ^ 32)

-- the state after one more number
abbrev pub joined : KeyHasher → ℕ → KeyHasher
joined h number = record { state = mixed ((bit_xor h.state number * 0x9e37_79b9_7f4a_7c15) % 2 ^ 64) }

-- the hash of std's hasher
abbrev pub folded : List ℕ → ℕ
folded bytes = folding.finish (folding.write folding.initial bytes)

-- bytes as one number: four and eight as what they spell
abbrev pub number_of : List ℕ → ℕ
number_of bytes = if length bytes == 4 then from_le_bytes w32 bytes else (if length bytes == 8 then from_le_bytes w64 bytes else folded bytes)

-- the state after a write of bytes
abbrev pub write : KeyHasher → List ℕ → KeyHasher
write h bytes = joined h (number_of bytes)
