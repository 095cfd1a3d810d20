-- A finite map whose values are changed, as a store shows its map without its stamps.
use Rattle.std.specs.Prelude.{List, map}
use Rattle.std.specs.declared.cmp.Ordering.{Ordering}
use Rattle.std.specs.FinMap.{FinMap, entries}
use Rattle.dk_map.specs.AsMap.{map_of}

-- the entries, each with what f makes of its value
abbrev pub entries_with : {K V W : Type 0} → (V → W) → List (K × V) → List (K × W)
entries_with f es = map (λ e. (e.0, f e.1)) es

-- the same keys, each with what f makes of its value
unfoldable pub values_with : {K V W : Type 0} {R : K → K → Ordering} → (V → W) → FinMap R V → FinMap R W
values_with {R = R} f m = map_of R (entries_with f (entries m))
