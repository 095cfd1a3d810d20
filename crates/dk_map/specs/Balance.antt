-- What a tree of the map is seen as, and what always holds of it.
use Rattle.std.specs.Prelude.{◌≡◌, ℕ, ◌+◌, ◌^◌, ◌/◌, ◌-◌, ◌<◌, ◌≤◌, max, List, [], ◌∷◌, ◌++◌, length, Option, None, Some}
use Rattle.std.specs.declared.boxed.Box.{Box}
use Rattle.dk_map.specs.declared.tree.Node.{Node}
use Rattle.dk_map.specs.declared.tree.balance.Side.{Side}
use Rattle.dk_map.specs.declared.tree.balance.Side.TheVariants.{Left, Right}

module _ {K V : Type 0} where
  -- the entries of a node, in the order of the tree
  abbrev pub node_entries : Node K V → List (K × V)
  node_entries n = n.left.0 ++ (n.key, n.value) ∷ n.right.0

  -- one level above the higher side
  abbrev pub node_height : Node K V → ℕ
  node_height n = max n.left.1 n.right.1 + 1

  -- how high a node is on a side, and on the other
  abbrev pub near_height : Side → Node K V → ℕ
  near_height Left n = n.left.1
  near_height Right n = n.right.1

  abbrev pub far_height : Side → Node K V → ℕ
  far_height Left n = n.right.1
  far_height Right n = n.left.1

  -- the entries of a tree on a side, an entry, and those of the tree on the other, in the order of the tree
  abbrev pub on_sides : Side → List (K × V) → K × V → List (K × V) → List (K × V)
  on_sides Left near e far = near ++ e ∷ far
  on_sides Right near e far = far ++ e ∷ near

  -- the entries of a cell: an empty cell has none
  abbrev pub cell_entries : Option (Node K V) → List (K × V)
  cell_entries None = []
  cell_entries (Some n) = node_entries n

  -- the entries below a link
  abbrev pub root_entries : {Z : Type 0} → Option (Box (Option (Node K V)) Z) → List (K × V)
  root_entries None = []
  root_entries (Some b) = cell_entries b.value

-- neither height is more than this above the other
abbrev pub DifferByAtMost : ℕ → ℕ → ℕ → Type 0
DifferByAtMost by l r = (l ≤ r + by) × (r ≤ l + by)

-- a height h is low for n entries: at most twice the logarithm of n + 1
abbrev pub IsLow : ℕ → ℕ → Type 0
IsLow h n = 2 ^ (h / 2) ≤ n + 1

-- what a node whose sides are l and r high settles to: it is h high
abbrev pub IsSettledHeight : ℕ → ℕ → ℕ → Type 0
IsSettledHeight l r h = (max l r ≤ h) × (h ≤ max l r + 1) × (DifferByAtMost 1 l r → h ≡ max l r + 1)

module _ {K V : Type 0} where
  -- the cell has a node of height h whose sides differ by one at most, and that height is low for its entries
  abbrev pub IsAvlCell : Option (Node K V) → ℕ → Type 0
  IsAvlCell None h = ⊥
  IsAvlCell (Some n) h = (h ≡ node_height n) × DifferByAtMost 1 n.left.1 n.right.1 × IsLow h (length (node_entries n))

  -- the same below a link, where no node is of height 0
  abbrev pub IsAvl : {Z : Type 0} → Option (Box (Option (Node K V)) Z) → ℕ → Type 0
  IsAvl None h = h ≡ 0
  IsAvl (Some b) h = IsAvlCell b.value h

  -- the cell has a node whose sides differ by two at most, and there is room for one level more
  abbrev pub IsNearlyAvl : Option (Node K V) → Type 0
  IsNearlyAvl None = ⊥
  IsNearlyAvl (Some n) = (node_height n < 2 ^ 8 - 1) × DifferByAtMost 2 n.left.1 n.right.1

  -- the cell has a node that is two levels higher on a side, and there is room for one level more
  abbrev pub IsLeaning : Side → Option (Node K V) → Type 0
  IsLeaning s None = ⊥
  IsLeaning s (Some n) = (near_height s n ≡ far_height s n + 2) × (near_height s n < 2 ^ 8 - 1)

  -- the new cell is balanced and h high, and has the old one's entries
  abbrev pub SettlesTo : Option (Node K V) → Option (Node K V) → ℕ → Type 0
  SettlesTo None m h = ⊥
  SettlesTo (Some n) m h = IsAvlCell m h × (cell_entries m ≡ node_entries n) × IsSettledHeight n.left.1 n.right.1 h

  -- the cell has a balanced node, and there is room for two levels more
  abbrev pub IsLowerAvl : Option (Node K V) → Type 0
  IsLowerAvl None = ⊥
  IsLowerAvl (Some n) = (node_height n < 2 ^ 8 - 1) × DifferByAtMost 1 n.left.1 n.right.1

  -- the entry that was at the top of the cell, and a tree of the two sides
  abbrev pub IsApart : Option (Node K V) → Option (K × V) → List (K × V) × ℕ → Type 0
  IsApart None e d = ⊥
  IsApart (Some n) e d = (e ≡ Some (n.key, n.value)) × (d.0 ≡ n.left.0 ++ n.right.0) × (max n.left.1 n.right.1 ≤ d.1) × (d.1 ≤ max n.left.1 n.right.1 + 1)
