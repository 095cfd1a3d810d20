-- A turn of a node keeps the order of its entries, to either side.
use Rattle.std.proofs.Common.{◌≡◌, sym, append_assoc, List, ◌∷◌}
use Rattle.dk_map.specs.declared.tree.balance.Side.{Side}
use Rattle.dk_map.specs.declared.tree.balance.Side.TheVariants.{Left, Right}
use Rattle.dk_map.specs.Balance.{on_sides}

-- what stands between two entries may hang below either of them
pub turned : {K V : Type 0} (s : Side) (near : List (K × V)) (d : K × V) (middle : List (K × V)) (e : K × V) (far : List (K × V))
    → on_sides s near d (on_sides s middle e far) ≡ on_sides s (on_sides s near d middle) e far
turned Left near d middle e far = sym (append_assoc near (d ∷ middle) (e ∷ far))
turned Right near d middle e far = append_assoc far (e ∷ middle) (d ∷ near)
