-- Entries in the order of their keys, with some set and some taken away; and whether that is a change that says no more than it does.
use Rattle.std.specs.Prelude.{Bool, ◌&&◌, not, is_some, List, [], ◌∷◌, Some}
use Rattle.std.specs.List.{list_all}
use Rattle.std.specs.declared.cmp.Ordering.{Ordering}
use Rattle.dk_types.specs.Values.{same_value}
use Rattle.dk_map.specs.Entries.{find, put, without}

module _ {K X : Type 0} (R : K → K → Ordering) where
  -- entries put into their places, one after another
  abbrev pub with_put : List (K × X) → List (K × X) → List (K × X)
  with_put [] es = es
  with_put (e ∷ set) es = with_put set (put R e.0 e.1 es)

  -- the entries of other keys than these
  abbrev pub without_all : List K → List (K × X) → List (K × X)
  without_all [] es = es
  without_all (k ∷ gone) es = without_all gone (without R k es)

  -- each of these is new, or differs from what stands at its key
  abbrev pub all_differ : (X → X → Bool) → List (K × X) → List (K × X) → Bool
  all_differ same es set = list_all (λ e. not (same_value same (find R e.0 es) (Some e.1))) set

  -- each of these keys is there
  abbrev pub all_there : List (K × X) → List K → Bool
  all_there es gone = list_all (λ k. is_some (find R k es)) gone

  -- none of these keys is there
  abbrev pub none_there : List (K × X) → List K → Bool
  none_there es keys = list_all (λ k. not (is_some (find R k es))) keys

  -- what is left without the keys that go, with what is set
  abbrev pub changed_by : List (K × X) → List K → List (K × X) → List (K × X)
  changed_by set gone es = with_put set (without_all gone es)

  -- Each key that goes is there, what is set differs, and no key that goes is set.
  abbrev pub is_change : (X → X → Bool) → List (K × X) → List K → List (K × X) → Bool
  is_change same set gone es = all_there es gone && all_differ same (without_all gone es) set && none_there (changed_by set gone es) gone
