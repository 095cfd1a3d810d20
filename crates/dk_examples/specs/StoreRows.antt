-- Stores as bytes: how a first commit, an image and a header are spelled, and what two files give that are new, torn, damaged or both live.
use Rattle.std.specs.Prelude.{◌≡◌, ◌≢◌, ℕ, ◌+◌, ◌-◌, ◌*◌, ◌≤◌, Some, List, [], ◌∷◌, ◌++◌, length, take, drop, replicate, nat_le, if◌then◌else◌, codes}
use Rattle.dk_types.specs.declared.side.Side.TheVariants.{Zero, One}
use Rattle.dk_types.specs.declared.durable.Entry.{Entry}
use Rattle.dk_model.specs.DurableWorlds.{DurableWorld, empty_world}
use Rattle.dk_model.specs.Entries.{SpellsEntries}
use Rattle.dk_model.specs.Images.{SpellsImage}
use Rattle.dk_model.specs.Stores.{StoreHeader, header_spelling, NoStore, StandsOn, NoneStands, standing}
use Rattle.dk_model.specs.Recovered.{Recovers, Holding, Damaged}
use Rattle.dk_examples.specs.Worked.{run, id, object, Lists, listed, no_effects, in_eight, in_four}

-- bytes by their hexadecimal digits, two for each
abbrev pub digit : ℕ → ℕ
digit c = if nat_le 97 c then c - 87 else c - 48

-- the bytes of so many pairs of digits
abbrev pub hex : List ℕ → List ℕ
hex [] = []
hex (a ∷ []) = []
hex (a ∷ b ∷ more) = (digit a * 16 + digit b) ∷ hex more

-- a header of SwordWorld's store
abbrev pub sword : ℕ → ℕ → StoreHeader
sword epoch format = record { game = codes "sword-world"; epoch = epoch; format = format }

-- the same as bytes: the open gate, the letters, the format, the epoch, and the id behind its length and before zeros
abbrev pub header_bytes : ℕ → ℕ → List ℕ
header_bytes epoch format = hex (codes "014441524b53544152") ++ (0 ∷ format ∷ (in_eight epoch ++ (hex (codes "0b73776f72642d776f726c64") ++ replicate 33 0)))

-- headers of both formats and of two epochs are spelled so
abbrev pub HeadersAreSpelled : Type 0
HeadersAreSpelled = (header_spelling (sword 0 1) ≡ header_bytes 0 1) × (header_spelling (sword 0 2) ≡ header_bytes 0 2) × (header_spelling (sword 1 2) ≡ header_bytes 1 2) × (length (header_bytes 0 1) ≡ 64)

-- ---- a first commit: the sword lies in the room, which is bound under `Room`

-- what the first commit leaves
abbrev pub first_lists : Lists
first_lists = record {
  objects = (id 0 0, object 2 (13 ∷ codes "a shiny sword")) ∷ (id 0 1, object 1 (in_four 0 ++ (in_four 1 ++ (in_eight 0 ++ in_four 0)))) ∷ [];
  names = (codes "Room", id 0 1) ∷ [];
  tasks = [];
}

-- the same as a durable world
abbrev pub first_world : DurableWorld
first_world = listed first_lists 1 (Some (run 0))

-- the same as an entry
abbrev pub first_entry : Entry
first_entry = record { seq = 1; run = run 0; effects = record no_effects { written = first_lists.objects; bound = first_lists.names } }

-- a kind and a blob
abbrev pub sword_bytes : List ℕ
sword_bytes = hex (codes "00020000000e0d61207368696e792073776f7264")

-- the room's kind and its bytes behind their length
abbrev pub room_bytes : List ℕ
room_bytes = hex (codes "0001000000140000000000000001000000000000000000000000")

-- the sword's id as bytes
abbrev pub sword_id : List ℕ
sword_id = hex (codes "000000000000000000000000")

-- the room's id as bytes
abbrev pub room_id : List ℕ
room_id = hex (codes "000000000000000000000001")

-- one entry, its number and its run; the objects written; none removed; the name bound; the four other lists, each with none
abbrev pub first_payload : List ℕ
first_payload =
    hex (codes "0000000100000000000000010000000000000000") ++ (hex (codes "00000002") ++ (sword_id ++ (sword_bytes ++ (room_id ++ (room_bytes
    ++ (hex (codes "00000000") ++ (hex (codes "0000000104526f6f6d") ++ (room_id ++ hex (codes "00000000000000000000000000000000")))))))))

-- in both formats
abbrev pub FirstCommitIsSpelled : Type 0
FirstCommitIsSpelled = SpellsEntries 1 (first_entry ∷ []) first_payload × SpellsEntries 2 (first_entry ∷ []) first_payload × (length first_payload ≡ 135)

-- a commit without effects
abbrev pub bare_entry : ℕ → ℕ → Entry
bare_entry seq number = record { seq = seq; run = run number; effects = no_effects }

-- its number, its run, and seven lists with none
abbrev pub bare_payload : List ℕ
bare_payload = hex (codes "0000000100000000000000030000000000000003") ++ hex (codes "00000000000000000000000000000000000000000000000000000000")

-- a commit without effects is spelled so
abbrev pub BareCommitIsSpelled : Type 0
BareCommitIsSpelled = SpellsEntries 2 (bare_entry 3 3 ∷ []) bare_payload × (length bare_payload ≡ 48)

-- alice logs in: her session's record and her player are made, and the player is put into the room
abbrev pub login_lists : Lists
login_lists = record {
  objects =
      (id 0 0, object 2 (13 ∷ codes "a shiny sword")) ∷ (id 0 1, object 1 (in_four 1 ++ (in_eight 2 ++ (in_four 1 ++ (in_four 1 ++ (in_eight 0 ++ in_four 0))))))
      ∷ (id 2 0, object 65281 (in_eight 1 ++ in_four 0)) ∷ (id 2 1, object 3 (5 ∷ (codes "alice" ++ 0 ∷ []))) ∷ [];
  names = (codes "$s.alice", id 2 0) ∷ (codes "Player.alice", id 2 1) ∷ (codes "Room", id 0 1) ∷ [];
  tasks = [];
}

-- the entry of a login
abbrev pub login_entry : Entry
login_entry = record {
  seq = 2;
  run = run 2;
  effects = record no_effects { written = drop 1 login_lists.objects; bound = take 2 login_lists.names };
}

-- the id of the session's record as bytes
abbrev pub record_id : List ℕ
record_id = hex (codes "000000000000000200000000")

-- the player's id as bytes
abbrev pub player_id : List ℕ
player_id = hex (codes "000000000000000200000001")

-- three objects and two names
abbrev pub login_payload : List ℕ
login_payload =
    hex (codes "0000000100000000000000020000000000000002") ++ (hex (codes "00000003") ++ (room_id ++ (hex (codes "0001000000200000000100000000000000020000000100000001000000000000000000000000")
    ++ (record_id ++ (hex (codes "ff010000000c000000000000000100000000") ++ (player_id ++ (hex (codes "00030000000705616c69636500")
    ++ (hex (codes "00000000") ++ (hex (codes "000000020824732e616c696365") ++ (record_id ++ (hex (codes "0c506c617965722e616c696365") ++ (player_id
    ++ hex (codes "00000000000000000000000000000000")))))))))))))

-- her session ends: the room has no player, and the record and its name are gone
abbrev pub end_lists : Lists
end_lists = record {
  objects = (id 0 0, object 2 (13 ∷ codes "a shiny sword")) ∷ (id 0 1, object 1 (in_four 0 ++ (in_four 1 ++ (in_eight 0 ++ in_four 0)))) ∷ (id 2 1, object 3 (5 ∷ (codes "alice" ++ 0 ∷ []))) ∷ [];
  names = (codes "Player.alice", id 2 1) ∷ (codes "Room", id 0 1) ∷ [];
  tasks = [];
}

-- the entry of a session's end
abbrev pub end_entry : Entry
end_entry = record {
  seq = 4;
  run = run 4;
  effects = record no_effects { written = take 1 (drop 1 end_lists.objects); removed = id 2 0 ∷ []; unbound = codes "$s.alice" ∷ [] };
}

-- one object written and one removed, and one name unbound
abbrev pub end_payload : List ℕ
end_payload =
    hex (codes "0000000100000000000000040000000000000004") ++ (hex (codes "00000001") ++ (room_id ++ (room_bytes ++ (hex (codes "00000001") ++ (record_id
    ++ (hex (codes "00000000") ++ (hex (codes "000000010824732e616c696365") ++ hex (codes "000000000000000000000000"))))))))

-- both are spelled so
abbrev pub LaterCommitsAreSpelled : Type 0
LaterCommitsAreSpelled =
    SpellsEntries 2 (login_entry ∷ []) login_payload × (length login_payload ≡ 199) × SpellsEntries 2 (end_entry ∷ []) end_payload × (length end_payload ≡ 107)

-- the world after the first commit: the number of commits and the next of the largest run; two objects, one name, no task
abbrev pub first_image : List ℕ
first_image =
    hex (codes "00000000000000010000000000000001") ++ (hex (codes "00000002") ++ (sword_id ++ (sword_bytes ++ (room_id ++ (room_bytes
    ++ (hex (codes "0000000104526f6f6d") ++ (room_id ++ hex (codes "00000000"))))))))

-- the image of the first world is spelled so, in both formats
abbrev pub ImageIsSpelled : Type 0
ImageIsSpelled = SpellsImage 1 first_world first_image × SpellsImage 2 first_world first_image × (length first_image ≡ 115)

-- ---- which of two files stands

-- a live file without a record
abbrev pub live : ℕ → List ℕ
live epoch = header_bytes epoch 2 ++ 0 ∷ []

-- a file of at most one byte, or whose first byte is not 01, is blank; a first file of more than 65 bytes that is blank is not a store
abbrev pub BlankFilesAreNoStore : Type 0
BlankFilesAreNoStore =
    (standing [] [] ≡ NoStore) × (standing (1 ∷ []) [] ≡ NoStore) × (standing [] (1 ∷ []) ≡ NoStore)
    × ((gate : ℕ) (rest : List ℕ) → gate ≢ 1 → length rest ≤ 64 → standing (gate ∷ rest) [] ≡ NoStore)
    × ((gate : ℕ) (rest : List ℕ) → gate ≢ 1 → 65 ≤ length rest → standing (gate ∷ rest) [] ≡ NoneStands Zero 0)

-- a file that begins with 01 and ends within the header, or right behind it
abbrev pub TornHeadersAreNoStore : Type 0
TornHeadersAreNoStore =
    (rest : List ℕ) → 1 ≤ length rest → length rest ≤ 63 → ((other : List ℕ) → standing (1 ∷ rest) other ≡ NoneStands Zero 0) × (standing [] (1 ∷ rest) ≡ NoneStands One 0)

-- a header with other letters, format, epoch, length, id and zeros, and a closed gate
abbrev pub header_of : List ℕ → List ℕ → List ℕ → List ℕ → List ℕ → List ℕ
header_of letters format epoch game padding = 1 ∷ (letters ++ (format ++ (epoch ++ (game ++ (padding ++ 0 ∷ [])))))

-- the letters of a header
abbrev pub letters : List ℕ
letters = hex (codes "4441524b53544152")

-- the format of a header
abbrev pub second_format : List ℕ
second_format = 0 ∷ 2 ∷ []

-- the id of a header, behind its length
abbrev pub game : List ℕ
game = hex (codes "0b73776f72642d776f726c64")

-- each wrong field is told by its place, the first of several
abbrev pub WrongHeadersAreToldByPlace : Type 0
WrongHeadersAreToldByPlace =
    (standing (header_of (hex (codes "4441524b53544153")) second_format (in_eight 0) game (replicate 33 0)) [] ≡ NoneStands Zero 1)
    × (standing (header_of letters (0 ∷ 3 ∷ []) (in_eight 0) game (replicate 33 0)) [] ≡ NoneStands Zero 9)
    × (standing (header_of letters second_format (64 ∷ 0 ∷ 0 ∷ 0 ∷ 0 ∷ 0 ∷ 0 ∷ 0 ∷ []) game (replicate 33 0)) [] ≡ NoneStands Zero 11)
    × (standing (header_of letters second_format (in_eight 0) (0 ∷ []) (replicate 44 0)) [] ≡ NoneStands Zero 19)
    × (standing (header_of letters second_format (in_eight 0) (2 ∷ 97 ∷ 32 ∷ []) (replicate 42 0)) [] ≡ NoneStands Zero 20)
    × (standing (header_of letters second_format (in_eight 0) game (replicate 32 0 ++ 1 ∷ [])) [] ≡ NoneStands Zero 31)
    × (standing (live 0) (header_of letters (0 ∷ 3 ∷ []) (64 ∷ 0 ∷ 0 ∷ 0 ∷ 0 ∷ 0 ∷ 0 ∷ 0 ∷ []) game (replicate 33 0)) ≡ NoneStands One 9)

-- where both are live the greater epoch stands; equal epochs are a fault of the second
abbrev pub TheGreaterEpochStands : Type 0
TheGreaterEpochStands =
    (standing (live 0) (live 1) ≡ StandsOn One (sword 1 2)) × (standing (live 3) (live 2) ≡ StandsOn Zero (sword 3 2)) × (standing (live 2) (live 2) ≡ NoneStands One 11)
    × (standing (live 0) [] ≡ StandsOn Zero (sword 0 2)) × (standing [] (live 1) ≡ StandsOn One (sword 1 2))

-- ---- what two files hold

-- behind a header a record of the first commit, and these bytes
abbrev pub with_first : ℕ → List ℕ → List ℕ
with_first format behind = header_bytes 0 format ++ (1 ∷ (hex (codes "00000087") ++ (first_payload ++ behind)))

-- a store as it is made holds nothing, and after its first commit that world, in both formats
abbrev pub StoresHoldTheirWorld : Type 0
StoresHoldTheirWorld =
    Recovers (live 0) [] (Holding empty_world) × Recovers (with_first 1 (0 ∷ [])) [] (Holding first_world) × Recovers (with_first 2 (0 ∷ [])) [] (Holding first_world)

-- after a login, a run without effects and the end of the session: four records
abbrev pub whole_journal : List ℕ
whole_journal =
    with_first 2 (1 ∷ (hex (codes "000000c7") ++ (login_payload ++ (1 ∷ (hex (codes "00000030") ++ (bare_payload ++ (1 ∷ (hex (codes "0000006b") ++ (end_payload ++ 0 ∷ [])))))))))

-- the durable world of that journal
abbrev pub end_world : DurableWorld
end_world = listed end_lists 4 (Some (run 4))

-- the journal holds that world, and has so many bytes
abbrev pub JournalsHoldTheirWorld : Type 0
JournalsHoldTheirWorld = Recovers whole_journal [] (Holding end_world) × (length whole_journal ≡ 574)

-- a record whose gate is closed is not looked at, whatever was written of it
abbrev pub TornRecordsAreNotLookedAt : Type 0
TornRecordsAreNotLookedAt = Recovers (with_first 2 (0 ∷ (hex (codes "00000030") ++ hex (codes "000000010000")))) [] (Holding first_world)

-- the store that a checkpoint made, of the next epoch, whose first record is the image
abbrev pub with_image : List ℕ
with_image = header_bytes 1 2 ++ (1 ∷ (hex (codes "00000073") ++ (first_image ++ 0 ∷ [])))

-- beside the journal of the epoch before it, the file of a checkpoint stands and holds its image
abbrev pub ImagesStand : Type 0
ImagesStand = Recovers (with_first 2 (0 ∷ [])) with_image (Holding first_world) × (length with_image ≡ 185)

-- an open gate before a record that is cut off behind its length, and within the length of the second record; before one with nothing in it, and a closed first gate where an image should be
abbrev pub DamageIsToldByPlace : Type 0
DamageIsToldByPlace =
    Recovers (header_bytes 0 2 ++ (1 ∷ hex (codes "00000087"))) [] (Damaged Zero 64)
    × Recovers (with_first 2 (1 ∷ hex (codes "0000"))) [] (Damaged Zero 204)
    × Recovers (header_bytes 0 2 ++ (1 ∷ (hex (codes "00000000") ++ 0 ∷ []))) [] (Damaged Zero 64)
    × Recovers (live 0) (live 1) (Damaged One 64)
