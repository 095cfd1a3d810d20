-- The items of a durable world as JSON values.
use Rattle.std.specs.Prelude.{ℕ, List, [], ◌∷◌, ◌++◌, flat_map}
use Rattle.hex.specs.Hex.{encode_lower}
use Rattle.serde_json.specs.Data.{Data, unsigned, number, string, array, no_items, item}
use Rattle.serde_json.specs.Written.{compact_text}
use Rattle.dk_types.specs.declared.number.ObjectId.{ObjectId}
use Rattle.dk_types.specs.declared.object.Object.{Object}
use Rattle.dk_types.specs.declared.durable.Pending.{Pending}
use Rattle.dk_inspect.specs.Texts.{place_text}

-- the name that an object or a task has
abbrev pub place_data : ℕ → ℕ → Data
place_data run k = string (place_text run k)

-- a bound name
abbrev pub name_data : List ℕ × ObjectId → Data
name_data e = array (item (string e.0) (item (place_data e.1.run.0 e.1.k) no_items))

-- an object
abbrev pub object_data : ObjectId × Object → Data
object_data e = array (item (place_data e.0.run.0 e.0.k) (item (number (unsigned e.1.kind)) (item (string (encode_lower e.1.bytes)) no_items)))

-- a task
abbrev pub task_data : Pending → Data
task_data p = array (item (place_data p.key.run.0 p.key.k) (item (number (unsigned p.due)) (item (number (unsigned p.period)) (item (number (unsigned p.kind)) (item (string (encode_lower p.arg)) no_items)))))

-- an item behind a comma
abbrev pub later_text : {A : Type 0} → (A → Data) → A → List ℕ
later_text told x = 44 ∷ compact_text (told x)

-- items between brackets
abbrev pub list_text : {A : Type 0} → (A → Data) → List A → List ℕ
list_text told [] = 91 ∷ 93 ∷ []
list_text told (x ∷ xs) = 91 ∷ (compact_text (told x) ++ (flat_map (later_text told) xs ++ 93 ∷ []))
