-- Scripts: the phases that a text has, or its first line outside the grammar.
use Rattle.std.specs.Prelude.{◌≡◌, ◌⊎◌, ℕ, ◌+◌, ◌<◌, ◌≤◌, ◌&&◌, ◌==◌, not, Bool, true, List, [], ◌∷◌, ◌++◌, length, nat_le, codes}
use Rattle.std.specs.List.{AllByRecursion, list_all, onto_first, before_first}
use Rattle.std.specs.FinSet as sets
use Rattle.std.specs.Fmt.{decimal}
use Rattle.dk_types.specs.declared.limits.TheConstants.{SCRIPT_MOST_BYTES, TEXT_MOST_BYTES, MOMENT_MOST_MS}
use Rattle.dk_types.specs.Names.{bytes_cmp}
use Rattle.dk_model.specs.declared.script.Line.{Line}
use Rattle.dk_model.specs.declared.script.Line.TheVariants as line
use Rattle.dk_model.specs.Lines.{lines_of, text_of}

-- a byte of a name: visible, and no space
abbrev pub is_name_byte : ℕ → Bool
is_name_byte b = nat_le 33 b && nat_le b 126

-- a byte of a message's text: visible, or a space
abbrev pub is_text_byte : ℕ → Bool
is_text_byte b = nat_le 32 b && nat_le b 126

-- how a line is written; words are parted by one space, a text goes on to the end of its line, and a moment is decimal
abbrev pub line_text : Line → List ℕ
line_text (line.Login name) = codes "login " ++ name
line_text (line.Send name text) = codes "send " ++ (name ++ 32 ∷ text)
line_text (line.Channel name channel text) = codes "channel " ++ (name ++ 32 ∷ (channel ++ 32 ∷ text))
line_text (line.Logout name) = codes "logout " ++ name
line_text (line.Drop name) = codes "drop " ++ name
line_text (line.Tick moment) = codes "tick " ++ decimal moment

-- the line that ends a phase
abbrev pub sync_text : List ℕ
sync_text = codes "sync"

-- a text of a line, within its limit and of its bytes
abbrev pub IsText : List ℕ → Type 0
IsText text = (length text ≤ TEXT_MOST_BYTES) × (list_all is_text_byte text ≡ true)

-- a name as a line has it
pub record IsLineName (name : List ℕ) : Type 0 where
  pub some : 0 < length name
  pub most : length name ≤ 255
  pub visible : list_all is_name_byte name ≡ true

-- each field of a line in its form
abbrev pub IsLine : Line → Type 0
IsLine (line.Login name) = IsLineName name
IsLine (line.Send name text) = IsLineName name × IsText text
IsLine (line.Channel name channel text) = IsLineName name × IsLineName channel × IsText text
IsLine (line.Logout name) = IsLineName name
IsLine (line.Drop name) = IsLineName name
IsLine (line.Tick moment) = moment ≤ MOMENT_MOST_MS

-- an empty line and a line that begins with `#` are passed over
abbrev pub is_passed_over : List ℕ → Bool
is_passed_over [] = true
is_passed_over (b ∷ line) = b == 35

-- what a line of a text is: nothing, a line that does something, or the end of a phase
pub data Spoken : Type 0 where
  PassedOver : Spoken
  Does : Line → Spoken
  Sync : Spoken

-- the text says this
abbrev pub Says : List ℕ → Spoken → Type 0
Says text PassedOver = is_passed_over text ≡ true
Says text (Does l) = (text ≡ line_text l) × IsLine l
Says text Sync = text ≡ sync_text

-- the names that mean connections
abbrev pub LineNames : Type 0
LineNames = sets.FinSet bytes_cmp

-- a line that may stand where these names mean a connection
abbrev pub MayStand : LineNames → Line → Type 0
MayStand names (line.Login name) = Unit {0}
MayStand names (line.Send name text) = sets.contains names name ≡ true
MayStand names (line.Channel name channel text) = sets.contains names name ≡ true
MayStand names (line.Logout name) = sets.contains names name ≡ true
MayStand names (line.Drop name) = sets.contains names name ≡ true
MayStand names (line.Tick moment) = Unit {0}

-- the names that mean a connection after the line
abbrev pub names_after : LineNames → Line → LineNames
names_after names (line.Login name) = sets.insert names name
names_after names (line.Send name text) = names
names_after names (line.Channel name channel text) = names
names_after names (line.Logout name) = sets.remove names name
names_after names (line.Drop name) = sets.remove names name
names_after names (line.Tick moment) = names

-- what may be said where these names mean a connection
abbrev pub MaySay : LineNames → Spoken → Type 0
MaySay names PassedOver = Unit {0}
MaySay names (Does l) = MayStand names l
MaySay names Sync = Unit {0}

-- the names that mean a connection once it is said
abbrev pub names_said : LineNames → Spoken → LineNames
names_said names PassedOver = names
names_said names (Does l) = names_after names l
names_said names Sync = names

-- the lines of a text are within the grammar one after another, and this is what they say
abbrev pub AreWithin : LineNames → List (List ℕ) → List Spoken → Type 0
AreWithin names [] [] = Unit {0}
AreWithin names (text ∷ texts) (s ∷ spoken) = Says text s × MaySay names s × AreWithin (names_said names s) texts spoken
AreWithin names [] (s ∷ spoken) = ⊥
AreWithin names (text ∷ texts) [] = ⊥

-- the names that mean a connection once all is said
abbrev pub names_at : LineNames → List Spoken → LineNames
names_at names [] = names
names_at names (s ∷ spoken) = names_at (names_said names s) spoken

-- the phases of what is said: each `sync` ends one
abbrev pub phases_said : List Spoken → List (List Line)
phases_said [] = [] ∷ []
phases_said (PassedOver ∷ spoken) = phases_said spoken
phases_said (Does l ∷ spoken) = onto_first l (phases_said spoken)
phases_said (Sync ∷ spoken) = [] ∷ phases_said spoken

-- the text is a script of these phases
pub record IsScript (bytes : List ℕ) (phases : List (List Line)) : Type 0 where
  pub short : length bytes ≤ SCRIPT_MOST_BYTES
  pub spoken : List Spoken
  pub within : AreWithin sets.empty (lines_of bytes) spoken
  pub said : phases ≡ phases_said spoken

-- the text says nothing that may be said where these names mean a connection
abbrev pub IsOutside : LineNames → List ℕ → Type 0
IsOutside names text = (s : Spoken) → Says text s → MaySay names s → ⊥

-- whether a byte ends a line
abbrev pub is_end : ℕ → Bool
is_end b = b == 10

-- the bytes up to the first 0A
abbrev pub first_line : List ℕ → List ℕ
first_line = before_first is_end

-- a line without its end
abbrev pub IsUnended : List ℕ → Type 0
IsUnended line = list_all (λ b. not (is_end b)) line ≡ true

-- the line of this number, counted from 1, is the first outside the grammar, or holds the byte behind as many as a script may have: whole lines within
-- the grammar and within that many bytes stand before it
pub record IsBadLine (bytes : List ℕ) (number : ℕ) : Type 0 where
  pub before : List (List ℕ)
  pub rest : List ℕ
  pub parted : bytes ≡ text_of before ++ rest
  pub unended : AllByRecursion IsUnended before
  pub counted : number ≡ length before + 1
  pub spoken : List Spoken
  pub within : AreWithin sets.empty before spoken
  pub reached : length (text_of before) ≤ SCRIPT_MOST_BYTES
  pub bad : ((0 < length rest) × IsOutside (names_at sets.empty spoken) (first_line rest))
      ⊎ ((SCRIPT_MOST_BYTES < length bytes) × (SCRIPT_MOST_BYTES ≤ length (text_of before) + length (first_line rest)))

-- the lines of all phases may be entered one after another, where these names mean a connection
abbrev pub AllMayStand : LineNames → List Line → Type 0
AllMayStand names [] = Unit {0}
AllMayStand names (l ∷ lines) = IsLine l × MayStand names l × AllMayStand (names_after names l) lines

-- the names that mean connections after these lines
abbrev pub names_through : LineNames → List Line → LineNames
names_through names [] = names
names_through names (l ∷ lines) = names_through (names_after names l) lines

-- and so phase after phase
abbrev pub AllStand : LineNames → List (List Line) → Type 0
AllStand names [] = Unit {0}
AllStand names (lines ∷ phases) = AllMayStand names lines × AllStand (names_through names lines) phases
