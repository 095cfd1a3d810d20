-- An entry that is put in where it stands behind a reference, and a value that changes places with the one at its key.
use Rattle.std.specs.Prelude.{◌≡◌, Bool, true, false, List, Option, None, Some}
use Rattle.std.specs.declared.cmp.Ordering.{Ordering}
use Rattle.dk_map.specs.Entries.{find, put}

module _ {K V : Type 0} (R : K → K → Ordering) where
  -- there is an entry, at a key that is not among the entries d
  abbrev pub IsNew : Option (K × V) → List (K × V) → Type 0
  IsNew None d = ⊥
  IsNew (Some x) d = find R x.0 d ≡ None

  -- there is an entry, and put into d it leaves e
  abbrev pub IsPut : Option (K × V) → List (K × V) → List (K × V) → Type 0
  IsPut None d e = ⊥
  IsPut (Some x) d e = e ≡ put R x.0 x.1 d

  -- where the key k is in d, the value v put there leaves e, and w is the value that was there; where it is not, all is as it was
  abbrev pub IsSwapped : K → V → V → List (K × V) → List (K × V) → Bool → Type 0
  IsSwapped k v w d e true = (find R k d ≡ Some w) × (e ≡ put R k v d)
  IsSwapped k v w d e false = (find R k d ≡ None) × (w ≡ v) × (e ≡ d)
