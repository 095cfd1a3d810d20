-- A store's file as bytes: its header, its records, and the gate that ends them; and which of two files stands.
use Rattle.std.specs.Prelude.{◌≡◌, ◌≢◌, ⊤, ℕ, ◌+◌, ◌-◌, ◌<◌, ◌^◌, ◌==◌, ◌&&◌, ◌||◌, Bool, not, nat_le, nat_lt, if◌then◌else◌, Option, Some, None, List, [], ◌∷◌, ◌++◌, length, take, drop, replicate, slice_index, nat_eq}
use Rattle.std.specs.List.{list_all}
use Rattle.std.specs.Cmp.Lexicographic.{pointwise}
use Rattle.std.specs.Int.{w16, w64, from_be_bytes}
use Rattle.dk_types.specs.GameIds.{IsGameId}
use Rattle.dk_types.specs.declared.side.Side.{Side}
use Rattle.dk_types.specs.declared.side.Side.TheVariants.{Zero, One}
use Rattle.dk_types.specs.declared.limits.TheConstants.{NUMBERS_END, GAME_ID_MOST_BYTES}
use Rattle.dk_types.specs.Fields.{blob_spelling, u16_spelling, u64_spelling}
use Rattle.dk_model.specs.Entries.{IsFormat}

-- whose store it is, how often it was written anew, and the format of its payloads
pub record StoreHeader : Type 0 where
  pub game : List ℕ
  pub epoch : ℕ
  pub format : ℕ

-- a header within its limits
pub record IsHeader (header : StoreHeader) : Type 0 where
  pub game : IsGameId header.game
  pub epoch : header.epoch < NUMBERS_END
  pub format : IsFormat header.format

-- `DARKSTAR`
abbrev pub letters : List ℕ
letters = 68 ∷ 65 ∷ 82 ∷ 75 ∷ 83 ∷ 84 ∷ 65 ∷ 82 ∷ []

-- what a header has behind its gate, 63 bytes: the letters, the format, the epoch, and the game's id behind its length and before zeros
abbrev pub header_fields : StoreHeader → List ℕ
header_fields header = letters ++ (u16_spelling header.format ++ (u64_spelling header.epoch ++ (length header.game ∷ (header.game ++ replicate (GAME_ID_MOST_BYTES - length header.game) 0))))

-- a header of a live file, 64 bytes: its gate is open
abbrev pub header_spelling : StoreHeader → List ℕ
header_spelling header = 1 ∷ header_fields header

-- an open gate and a payload behind its length, for each record
abbrev pub records : List (List ℕ) → List ℕ
records [] = []
records (payload ∷ payloads) = 1 ∷ (blob_spelling payload ++ records payloads)

-- each payload has a length of 32 bits
abbrev pub AreSized : List (List ℕ) → Type 0
AreSized [] = ⊤
AreSized (payload ∷ payloads) = (length payload < 2 ^ 32) × AreSized payloads

-- the place of the gate that ends the records
abbrev pub end_of : List ℕ → List (List ℕ) → ℕ
end_of header payloads = length header + length (records payloads)

-- THE GRAMMAR: the file has these records behind this header. The first gate that is not open ends them, and what is behind it is not looked at.
pub record Reads (file header : List ℕ) (payloads : List (List ℕ)) : Type 0 where
  pub gate : ℕ
  pub behind : List ℕ
  pub closed : gate ≢ 1
  pub bytes : file ≡ header ++ (records payloads ++ gate ∷ behind)
  pub header_length : length header ≡ 64
  pub sized : AreSized payloads

-- a file that is no store, or not yet
abbrev pub is_blank : List ℕ → Bool
is_blank file = nat_le (length file) 1 || not (slice_index file 0 == 1)

-- the parts of a header's 64 bytes
abbrev pub format_in : List ℕ → ℕ
format_in bytes = from_be_bytes w16 (take 2 (drop 9 bytes))

-- the number of times that the store was written anew
abbrev pub epoch_in : List ℕ → ℕ
epoch_in bytes = from_be_bytes w64 (take 8 (drop 11 bytes))

-- how many bytes the game's id has
abbrev pub game_length_in : List ℕ → ℕ
game_length_in bytes = slice_index bytes 19

-- the game's id
abbrev pub game_in : List ℕ → List ℕ
game_in bytes = take (game_length_in bytes) (drop 20 bytes)

-- what 64 bytes say as a header
abbrev pub header_in : List ℕ → StoreHeader
header_in bytes = record { game = game_in bytes; epoch = epoch_in bytes; format = format_in bytes }

-- from `!` to `~`
abbrev pub is_visible : ℕ → Bool
is_visible byte = nat_le 33 byte && nat_le byte 126

-- The place of the first field that no header has: the letters, the format, the epoch, the id's length, the id, the zeros behind it.
abbrev pub header_fault : List ℕ → Option ℕ
header_fault bytes =
    if not (pointwise nat_eq (take 8 (drop 1 bytes)) letters) then Some 1
    else if not (format_in bytes == 1 || format_in bytes == 2) then Some 9
    else if nat_le NUMBERS_END (epoch_in bytes) then Some 11
    else if nat_lt (game_length_in bytes) 1 || nat_lt GAME_ID_MOST_BYTES (game_length_in bytes) then Some 19
    else if not (list_all is_visible (game_in bytes)) then Some 20
    else if not (list_all (λ byte. byte == 0) (drop (20 + game_length_in bytes) bytes)) then Some (20 + game_length_in bytes)
    else None

-- how a file looks: blank, live under a header, or not as a store, from this place on
pub data Look : Type 0 where
  Blank : Look
  Live : (header : StoreHeader) → Look
  Faulty : (at : ℕ) → Look

-- a file's look by its header and the place of the header's first fault
abbrev pub look_of_header : List ℕ → Option ℕ → Look
look_of_header bytes None = Live (header_in bytes)
look_of_header bytes (Some at) = Faulty at

-- a blank file first; then one that is too short for a header; then its header
abbrev pub look : List ℕ → Look
look file = if is_blank file then Blank else if nat_lt (length file) 65 then Faulty 0 else look_of_header (take 64 file) (header_fault (take 64 file))

-- what two files are: no store yet, a store on one side, or not a store
pub data Standing : Type 0 where
  NoStore : Standing
  StandsOn : (side : Side) (header : StoreHeader) → Standing
  NoneStands : (side : Side) (at : ℕ) → Standing

-- THE TABLE, of the first file's length and both looks. The first file is looked at first. Of two live ones the greater epoch stands, and equal epochs are a fault of the second.
abbrev pub standing_of : ℕ → Look → Look → Standing
standing_of length_ (Faulty at) one = NoneStands Zero at
standing_of length_ Blank (Faulty at) = NoneStands One at
standing_of length_ (Live h) (Faulty at) = NoneStands One at
standing_of length_ (Live h) Blank = StandsOn Zero h
standing_of length_ Blank (Live k) = StandsOn One k
standing_of length_ (Live h) (Live k) = if nat_lt k.epoch h.epoch then StandsOn Zero h else if nat_lt h.epoch k.epoch then StandsOn One k else NoneStands One 11
standing_of length_ Blank Blank = if nat_le length_ 65 then NoStore else NoneStands Zero 0

-- which of two files stands
abbrev pub standing : List ℕ → List ℕ → Standing
standing zero one = standing_of (length zero) (look zero) (look one)
