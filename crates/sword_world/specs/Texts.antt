-- The texts of SwordWorld.
use Rattle.std.specs.Prelude.{ℕ, List, [], ◌∷◌, ◌++◌, codes}

-- each further name after a comma, and the last after `and`
abbrev pub followed : List (List ℕ) → List ℕ
followed [] = []
followed (x ∷ []) = codes " and " ++ x
followed (x ∷ y ∷ xs) = codes ", " ++ x ++ followed (y ∷ xs)

-- the names in one line of text
abbrev pub joined : List (List ℕ) → List ℕ
joined [] = []
joined (x ∷ xs) = x ++ followed xs

-- a line that lists names, or none where there is no name
abbrev pub list_line : List ℕ → List (List ℕ) → List ℕ
list_line front [] = []
list_line front (x ∷ xs) = front ++ joined (x ∷ xs) ++ codes ".\n"

-- what a player sees: the other players in the order of entering, and the things on the floor
abbrev pub look_text : List (List ℕ) → List (List ℕ) → List ℕ
look_text others things = codes "You are in a plain room.\n" ++ list_line (codes "Also in here: ") others ++ list_line (codes "On the floor: ") things

-- what is told of a thing
abbrev pub sentence : List ℕ → List ℕ → List ℕ
sentence front description = front ++ description ++ codes "."

-- a player carries one thing at most
abbrev pub already_text : List ℕ → List ℕ
already_text description = sentence (codes "You already carry ") description

-- no thing lies in the room
abbrev pub bare_text : List ℕ
bare_text = codes "There is nothing to take."

-- a thing was taken
abbrev pub take_text : List ℕ → List ℕ
take_text description = sentence (codes "You take ") description

-- there is no thing to drop
abbrev pub empty_text : List ℕ
empty_text = codes "You carry nothing."

-- a thing was dropped
abbrev pub drop_text : List ℕ → List ℕ
drop_text description = sentence (codes "You drop ") description
