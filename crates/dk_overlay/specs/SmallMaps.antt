-- A map of few entries in a list, and of many in an ordered map.
use Rattle.std.specs.Prelude.{◌≡◌, ℕ, ◌≤◌, List, Option, Some, None, Result, Ok, Err, length, slice_set}
use Rattle.std.specs.List.{slice_get, insert, remove}
use Rattle.std.specs.declared.boxed.Box.{Box}
use Rattle.std.specs.declared.cmp.Ordering.{Ordering}
use Rattle.dk_map.specs.OrderedMap.{Ordered}
use Rattle.dk_map.specs.Entries.{find, put, without}

module _ {K V Z : Type 0} where
  -- the entries: those of the map, where there is one
  abbrev pub all_entries : List (K × V) → Option (Box (Ordered K V) Z) → List (K × V)
  all_entries few None = few
  all_entries few (Some map) = map.value.entries

  -- how many more fit
  abbrev pub all_spare : ℕ → Option (Box (Ordered K V) Z) → ℕ
  all_spare few None = few
  all_spare few (Some map) = map.value.spare

-- the entry of the key k stands at a place of es, or else it would stand there
abbrev pub IsPlace : {K V : Type 0} → (K → K → Ordering) → K → List (K × V) → Result ℕ ℕ → Type 0
IsPlace {K} {V} R k es (Ok at) = (e : K × V) × (slice_get es at ≡ Some e) × (find R k es ≡ Some e.1) × ((v : V) → put R k v es ≡ slice_set es at (e.0, v)) × (without R k es ≡ remove es at)
IsPlace {K} {V} R k es (Err at) = (at ≤ length es) × (find R k es ≡ None) × ((v : V) → put R k v es ≡ insert es at (k, v)) × (without R k es ≡ es)
