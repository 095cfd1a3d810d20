-- Numbers of commits, and the entries that have them.
use Rattle.std.specs.Prelude.{◌≡◌, ⊤, ℕ, ◌+◌, ◌&&◌, Bool, nat_lt, nat_le, List, [], ◌∷◌, filter}
use Rattle.dk_types.specs.declared.durable.Entry.{Entry}

-- the entries have the numbers from this one on, in order
abbrev pub AreNumbered : ℕ → List Entry → Type 0
AreNumbered next [] = ⊤
AreNumbered next (e ∷ es) = (e.seq ≡ next) × AreNumbered (next + 1) es

-- the commit came after the one of this number, and is none after the last one
abbrev pub is_between : ℕ → ℕ → Entry → Bool
is_between after last e = nat_lt after e.seq && nat_le e.seq last

-- the entries of the commits in between
abbrev pub between : ℕ → ℕ → List Entry → List Entry
between after last entries = filter (is_between after last) entries
