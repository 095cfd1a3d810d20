-- The names that the changes of a run bind.
use Rattle.std.specs.Prelude.{◌≡◌, ℕ, Bool, false, ◌&&◌, is_some, cond, if◌then◌else◌, Option, Some, None, List}
use Rattle.std.specs.Ordering.{eq_by_cmp}
use Rattle.std.specs.FinMap.{FinMap, get}
use Rattle.dk_types.specs.declared.number.ObjectId.{ObjectId}
use Rattle.dk_types.specs.Names.{bytes_cmp}
use Rattle.dk_map.specs.Entries.{find}
use Rattle.dk_types.specs.Values.{is_above}
use Rattle.dk_overlay.specs.declared.change.Change.{Change}

-- whether a change binds its name
abbrev pub is_binding : {X : Type 0} → Option (Change X) → Bool
is_binding None = false
is_binding (Some c) = is_some c.after

-- whether the changes bind the name, and it is above the given one
abbrev pub is_bound_after : FinMap bytes_cmp (Change ObjectId) → Option (List ℕ) → List ℕ → Bool
is_bound_after changes after q = is_above after q && is_binding (get changes q)

-- the names listed are those that the changes bind
abbrev pub HasBound : List (List ℕ × Unit {0}) → List (List ℕ × Change ObjectId) → Type 0
HasBound bound changes = (q : List ℕ) → is_some (find bytes_cmp q bound) ≡ is_binding (find bytes_cmp q changes)

-- a name was listed, or taken off the list
abbrev pub IsNoted : List ℕ → Bool → List (List ℕ × Unit {0}) → List (List ℕ × Unit {0}) → Type 0
IsNoted name is_bound before after = (q : List ℕ) → find bytes_cmp q after ≡ cond (eq_by_cmp bytes_cmp q name) (if is_bound then Some tt else None) (find bytes_cmp q before)
