-- The rule of the table: one seat, the board's, knows all that was told, and each other knows what was told by some moment.
use Rattle.std.specs.Prelude.{◌≡◌, ◌≢◌, ℕ, Bool, true, false}
use mathlib.Core.Option.{Option, some}
use lib.ListN.{get_elem?}
use Rattle.atomic_table.specs.Table.{State}
use Rattle.dk_notice.specs.declared.rule.View.{View}
use Rattle.dk_notice.specs.declared.told.Told.{Told}
use Rattle.dk_notice.specs.Notices.{nothing_told, GoesOn}

-- a view by its parts, where nothing is held beside it
abbrev pub view : Told → Bool → Bool → View
view known keeps first = record { known = known; heard = nothing_told; keeps = keeps; first = first; other = false }

-- the board's seat, where all this was told
abbrev pub keeper_of : Told → View
keeper_of known = view known true false

-- the same, where the count is new
abbrev pub first_of : Told → View
first_of known = view known true true

-- the seat of a notice
abbrev pub holder_of : Told → View
holder_of known = view known false false

-- a seat that nobody has
abbrev pub nobody : View
nobody = holder_of nothing_told

-- the seat of a notice of what another knows
abbrev pub copy_of : View → View
copy_of v = holder_of v.known

-- a seat that gave away that it is the first of its count
abbrev pub later_of : View → View
later_of v = view v.known v.keeps false

-- the seat of the notice to which it was given
abbrev pub taker_of : View → View
taker_of v = view v.known false true

-- a seat that heard what another knows
abbrev pub hearing : View → View → View
hearing v w = record { known = v.known; heard = w.known; keeps = v.keeps; first = v.first; other = w.first }

-- what the rule says of the seat id, where all this was told, and the first seat of each count has this place
pub record Fits (all : Told) (keeper : ℕ) (place : ℕ → ℕ) (id : ℕ) (v : View) : Type 0 where
  pub keeps : v.keeps ≡ true → (id ≡ keeper) × (v.known ≡ all)
  pub known : GoesOn v.known all
  pub heard : GoesOn v.heard all
  pub first : v.first ≡ true → id ≡ place v.known.counted
  pub apart : v.first ≡ true → v.other ≡ true → v.known.counted ≢ v.heard.counted

-- there is one truth, of which each seat knows what it has of it
pub record IsAgreed {S : Type 0} (s : State S View) : Type 0 where
  pub all : Told
  pub keeper : ℕ
  pub place : ℕ → ℕ
  pub fits : (id : ℕ) (v : View) → get_elem? s.views id ≡ some v → Fits all keeper place id v

-- this was told
abbrev pub told_so : (Told → View) → Option Told → View → Type 0
told_so seat said w = (b : Told) → said ≡ some b → w ≡ seat b

-- a seat knows how what it heard stands to what it knows
pub record IsCompared (v w : View) : Type 0 where
  pub after : w ≡ view v.known v.keeps v.first
  pub goes_on : v.keeps ≡ true → GoesOn v.heard v.known
  pub apart : v.first ≡ true → v.other ≡ true → v.known.counted ≢ v.heard.counted
