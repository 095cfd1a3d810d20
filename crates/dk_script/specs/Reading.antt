-- What a reader of lines keeps of a script.
use Rattle.std.specs.Prelude.{◌≡◌, ◌≢◌, ◌⊎◌, ℕ, List, [], ◌∷◌, ◌++◌, length, slice_index}
use Rattle.std.specs.FinSet as sets
use Rattle.dk_model.specs.declared.script.Line.{Line}
use Rattle.dk_model.specs.declared.script.Line.TheVariants as line
use Rattle.dk_model.specs.Lines.{lines_of}
use Rattle.dk_model.specs.Scripts.{LineNames, IsLineName, IsUnended, Says, MaySay, names_said, first_line}
use Rattle.dk_model.specs.Scripts as said
use Rattle.dk_script.specs.declared.lines.Spoken.{Spoken}
use Rattle.dk_script.specs.declared.lines.Spoken.TheVariants as spoken
use Rattle.dk_script.specs.declared.reader.Reader.{Reader}

-- what a line was read as, as the model has it
abbrev pub said_by : Spoken → said.Spoken
said_by spoken.PassedOver = said.PassedOver
said_by (spoken.Login name) = said.Does (line.Login name.now)
said_by (spoken.Send name text) = said.Does (line.Send name.now text.now)
said_by (spoken.Channel name channel text) = said.Does (line.Channel name.now channel.now text.now)
said_by (spoken.Logout name) = said.Does (line.Logout name.now)
said_by (spoken.Drop name) = said.Does (line.Drop name.now)
said_by (spoken.Tick moment) = said.Does (line.Tick moment)
said_by spoken.Sync = said.Sync

-- this alone stands behind the word at the line's front
pub record IsBehind (word line rest : List ℕ) : Type 0 where
  pub is : line ≡ word ++ rest
  pub only : (other : List ℕ) → line ≡ word ++ other → other ≡ rest

-- this name alone stands before a space, with this behind it
pub record IsNamed (bytes name rest : List ℕ) : Type 0 where
  pub is : bytes ≡ name ++ 32 ∷ rest
  pub named : IsLineName name
  pub only : (other more : List ℕ) → bytes ≡ other ++ 32 ∷ more → IsLineName other → (other ≡ name) × (more ≡ rest)

-- digits with neither a sign nor a zero before them
pub record IsBare (bytes : List ℕ) : Type 0 where
  pub unsigned : slice_index bytes 0 ≢ 43
  pub no_zero : slice_index bytes 0 ≡ 48 → length bytes ≡ 1

-- the bytes are their first line and what follows it, or a line without an end
pub record IsCut (bytes line after : List ℕ) : Type 0 where
  pub first : line ≡ first_line bytes
  pub lines : lines_of bytes ≡ line ∷ lines_of after
  pub parted : (bytes ≡ line ++ 10 ∷ after) ⊎ ((bytes ≡ line) × (after ≡ []))
  pub unended : IsUnended line

-- the names that mean a connection
abbrev pub names_of : Reader → LineNames
names_of r = sets.from_list r.names.keys

-- the phases so far; the last has not ended
abbrev pub phases_of : Reader → List (List Line)
phases_of r = r.ended.items ++ r.lines.items ∷ []

-- phases with what is said behind them
abbrev pub Follows : List (List Line) → List Line → said.Spoken → List (List Line) → List Line → Type 0
Follows ended lines said.PassedOver ended' lines' = (ended' ≡ ended) × (lines' ≡ lines)
Follows ended lines (said.Does l) ended' lines' = (ended' ≡ ended) × (lines' ≡ lines ++ l ∷ [])
Follows ended lines said.Sync ended' lines' = (ended' ≡ ended ++ lines ∷ []) × (lines' ≡ [])

-- one more line is read
pub record Reads (old : Reader) (text : List ℕ) (new : Reader) : Type 0 where
  pub said : said.Spoken
  pub says : Says text said
  pub stands : MaySay (names_of old) said
  pub follows : Follows old.ended.items old.lines.items said new.ended.items new.lines.items
  pub names : names_of new ≡ names_said (names_of old) said
