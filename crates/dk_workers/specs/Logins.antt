-- What lines leave to be known, seen as the definitions see it.
use Rattle.std.specs.Prelude.{◌≡◌, ℕ, true, List}
use Rattle.std.specs.FinMap as maps
use Rattle.std.specs.FinSet as sets
use Rattle.dk_types.specs.declared.number.ConnNo.{ConnNo}
use Rattle.dk_types.specs.Names.{bytes_cmp}
use Rattle.dk_model.specs.declared.script.Line.{Line}
use Rattle.dk_model.specs.declared.script.Line.TheVariants as line
use Rattle.dk_model.specs.Scripts.{LineNames, AllMayStand, IsLineName, IsText}
use Rattle.dk_play_laws.specs.LineEvents.{Said}
use Rattle.dk_workers.specs.declared.play.logins.Logins.{Logins}

-- the connection that each name means
abbrev pub means_of : List (List ℕ × ConnNo) → maps.FinMap bytes_cmp ConnNo
means_of entries = maps.from_entries entries

-- what is known, as the definitions see it
abbrev pub said_of : Logins → Said
said_of l = record { means = means_of l.means.entries; opened = l.opened.items }

-- a line can be entered: its name means a connection, and what is posted is within its limits
abbrev pub CanBeEntered : Said → Line → Type 0
CanBeEntered s (line.Login name) = Unit {0}
CanBeEntered s (line.Send name text) = (maps.contains_key s.means name ≡ true) × IsText text
CanBeEntered s (line.Channel name channel text) = (maps.contains_key s.means name ≡ true) × IsLineName channel × IsText text
CanBeEntered s (line.Logout name) = maps.contains_key s.means name ≡ true
CanBeEntered s (line.Drop name) = maps.contains_key s.means name ≡ true
CanBeEntered s (line.Tick moment) = Unit {0}

-- each of the names means a connection
abbrev pub AllMean : LineNames → maps.FinMap bytes_cmp ConnNo → Type 0
AllMean names means = (name : List ℕ) → sets.contains names name ≡ true → maps.contains_key means name ≡ true

-- the lines may stand where these names mean a connection, and so they do
pub record MayStandAll (s : Said) (lines : List Line) : Type 0 where
  pub names : LineNames
  pub mean : AllMean names s.means
  pub stand : AllMayStand names lines
