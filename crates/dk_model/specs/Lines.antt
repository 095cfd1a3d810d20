-- The lines of a text, and how numbers, names and bodies are written in one.
use Rattle.std.specs.Prelude.{ℕ, ◌+◌, ◌/◌, ◌%◌, ◌==◌, ◌&&◌, not, Bool, List, [], ◌∷◌, ◌++◌, nat_lt, nat_le, if◌then◌else◌}
use Rattle.std.specs.List.{flat_map, onto_first, before_first, after_first}

-- each line ends with the byte 0A, which is no part of it; the last may end with the text
abbrev pub lines_of : List ℕ → List (List ℕ)
lines_of [] = []
lines_of (b ∷ bytes) = if b == 10 then [] ∷ lines_of bytes else onto_first b (lines_of bytes)

-- a text of these lines, each ended by the byte 0A
abbrev pub text_of : List (List ℕ) → List ℕ
text_of lines = flat_map (λ line. line ++ 10 ∷ []) lines

-- whether a byte is a space
abbrev pub is_space : ℕ → Bool
is_space b = b == 32

-- the bytes of a line up to its first space
abbrev pub first_word : List ℕ → List ℕ
first_word = before_first is_space

-- what stands after the first space
abbrev pub after_word : List ℕ → List ℕ
after_word = after_first is_space

-- the letter of a hexadecimal digit
abbrev pub hex_digit : ℕ → ℕ
hex_digit n = if nat_lt n 10 then 48 + n else 87 + n

-- a byte from 0x20 to 0x7E stands for itself, but for the backslash
abbrev pub is_plain : ℕ → Bool
is_plain b = nat_le 32 b && nat_le b 126 && not (b == 92)

-- any other byte is `\x` and its two hexadecimal digits
abbrev pub byte_text : ℕ → List ℕ
byte_text b = if is_plain b then b ∷ [] else 92 ∷ 120 ∷ hex_digit (b / 16) ∷ hex_digit (b % 16) ∷ []

-- bytes as the text of a line has them
abbrev pub escaped : List ℕ → List ℕ
escaped bytes = flat_map byte_text bytes
