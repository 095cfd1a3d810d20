-- What `inspect` writes of a durable world: one JSON object with no space in it, and the line's end.
use Rattle.std.specs.Prelude.{ℕ, ◌/◌, ◌%◌, ◌==◌, Option, Some, None, List, [], ◌∷◌, ◌++◌, map, flat_map, nat_lt, if◌then◌else◌, codes, decimal}
use Rattle.std.specs.Char.{digit_char}
use Rattle.hex.specs.Hex.{encode_lower}
use Rattle.dk_types.specs.declared.number.RunNo.{RunNo}
use Rattle.dk_types.specs.declared.number.ObjectId.{ObjectId}
use Rattle.dk_types.specs.declared.object.Object.{Object}
use Rattle.dk_types.specs.declared.durable.Pending.{Pending}
use Rattle.dk_types.specs.declared.durable.Durable.{Durable}

-- what stands for a byte in a text: a backslash before the quotation mark and itself, a letter after one for the five bytes that
-- have a letter, four digits for the other bytes below 32, and else the byte itself
abbrev pub byte_text : ℕ → List ℕ
byte_text b =
    if b == 34 then 92 ∷ 34 ∷ []
    else if b == 92 then 92 ∷ 92 ∷ []
    else if b == 8 then codes "\\b"
    else if b == 9 then codes "\\t"
    else if b == 10 then codes "\\n"
    else if b == 12 then codes "\\f"
    else if b == 13 then codes "\\r"
    else if nat_lt b 32 then codes "\\u00" ++ digit_char (b / 16) ∷ digit_char (b % 16) ∷ []
    else b ∷ []

-- bytes between quotation marks
abbrev pub quote : List ℕ → List ℕ
quote bytes = 34 ∷ (flat_map byte_text bytes ++ 34 ∷ [])

-- `RUN.K`, by which an object or a task is named
abbrev pub place_text : ℕ → ℕ → List ℕ
place_text run k = decimal run ++ 46 ∷ decimal k

-- texts with a comma between each two of them
abbrev pub in_commas : List (List ℕ) → List ℕ
in_commas [] = []
in_commas (text ∷ texts) = text ++ flat_map (λ later. 44 ∷ later) texts

-- texts between brackets
abbrev pub array_text : List (List ℕ) → List ℕ
array_text texts = 91 ∷ (in_commas texts ++ 93 ∷ [])

-- a bound name: [name, id]
abbrev pub name_text : List ℕ × ObjectId → List ℕ
name_text e = array_text (quote e.0 ∷ quote (place_text e.1.run.0 e.1.k) ∷ [])

-- an object: [id, kind, its bytes in hexadecimal]
abbrev pub object_text : ObjectId × Object → List ℕ
object_text e = array_text (quote (place_text e.0.run.0 e.0.k) ∷ decimal e.1.kind ∷ quote (encode_lower e.1.bytes) ∷ [])

-- a task: [key, due, period, kind, its argument in hexadecimal]
abbrev pub task_text : Pending → List ℕ
task_text p = array_text (quote (place_text p.key.run.0 p.key.k) ∷ decimal p.due ∷ decimal p.period ∷ decimal p.kind ∷ quote (encode_lower p.arg) ∷ [])

-- the largest committed run, or null where there is none
abbrev pub last_text : Option RunNo → List ℕ
last_text None = codes "null"
last_text (Some run) = decimal run.0

-- a member: its name, a colon, and its value
abbrev pub member_text : List ℕ → List ℕ → List ℕ
member_text name value = quote name ++ 58 ∷ value

-- the object's members, in the order of their names, and the line's end
abbrev pub world_text : List ℕ → Durable → List ℕ
world_text game world = 123 ∷ (in_commas (
    member_text (codes "commits") (decimal world.commits)
    ∷ member_text (codes "game") (quote game)
    ∷ member_text (codes "last_run") (last_text world.last)
    ∷ member_text (codes "names") (array_text (map name_text world.names))
    ∷ member_text (codes "objects") (array_text (map object_text world.objects))
    ∷ member_text (codes "tasks") (array_text (map task_text world.tasks))
    ∷ []) ++ 125 ∷ 10 ∷ [])
