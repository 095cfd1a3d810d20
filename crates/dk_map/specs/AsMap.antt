-- Entries in order seen as a finite map, at a key type whose order a `Value` can name. A store that holds an
-- `OrderedMap` at such a key shows `map_of R m.entries` to its callers.
use Rattle.std.specs.Prelude.{◌≡◌, false, List, Option, None, Some, IsSome}
use Rattle.std.specs.declared.cmp.Ordering.{Ordering}
use Rattle.std.specs.declared.cmp.Ordering.TheVariants.{Less}
use Rattle.std.specs.Ordering.{is_lt}
use Rattle.std.specs.FinMap.{FinMap, from_sorted, get}

-- the map of entries in order
abbrev pub map_of : {K V : Type 0} (R : K → K → Ordering) → List (K × V) → FinMap R V
map_of R es = from_sorted es

-- k is above a key, or no key is given
abbrev pub IsAfter : {K : Type 0} → (K → K → Ordering) → Option K → K → Type 0
IsAfter R None k = Unit {0}
IsAfter R (Some q) k = R q k ≡ Less

-- e is the entry of m with the least key above `after`, or with the least of all; none where m has no such key
abbrev pub IsNext : {K V : Type 0} {R : K → K → Ordering} → FinMap R V → Option K → Option (K × V) → Type 0
IsNext {K} {R = R} m after None = (k : K) → IsAfter R after k → get m k ≡ None
IsNext {K} {R = R} m after (Some e) = (get m e.0 ≡ Some e.1) × IsAfter R after e.0 × ((k : K) → IsAfter R after k → IsSome (get m k) → is_lt (R k e.0) ≡ false)
