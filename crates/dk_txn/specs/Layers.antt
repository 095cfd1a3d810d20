-- Changes laid over a map.
use Rattle.std.specs.Prelude.{Option, None, Some, List, [], ◌∷◌}
use Rattle.std.specs.declared.cmp.Ordering.{Ordering}
use Rattle.std.specs.FinMap.{FinMap, entries, get}
use Rattle.dk_model.specs.DurableWorlds.{with_value}

module _ {K C X : Type 0} {R : K → K → Ordering} where
  abbrev pub layered_list : (C → Option X → Option X) → List (K × C) → FinMap R X → FinMap R X
  layered_list f [] m = m
  layered_list f (e ∷ es) m = with_value (layered_list f es m) e.0 (f e.1 (get m e.0))

  -- the map with each change made; f says what a change makes of what stood at its key
  unfoldable pub layered : (C → Option X → Option X) → FinMap R C → FinMap R X → FinMap R X
  layered f changes m = layered_list f (entries changes) m

-- the newer of a change and of what stood there before
abbrev pub newest : {C X : Type 0} → (C → Option X → Option X) → Option C → Option X → Option X
newest f None x = x
newest f (Some c) x = f c x
