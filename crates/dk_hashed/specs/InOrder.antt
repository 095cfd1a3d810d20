-- The entries of a hash table, put in the order of their keys.
use Rattle.std.specs.Prelude.{List}
use Rattle.std.specs.declared.cmp.Ordering.{Ordering}
use Rattle.std.specs.FinMap.{from_entries, entries as entries_of}

-- the entries in order
abbrev pub in_order : {K V : Type 0} → (K → K → Ordering) → List (K × V) → List (K × V)
in_order R es = entries_of (from_entries {R = R} es)
