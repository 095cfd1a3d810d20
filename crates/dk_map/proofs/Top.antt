-- What the node at the top of a tree says of the tree.
use Rattle.std.proofs.Common.{◌≡◌, ℕ, ◌+◌, ◌≤◌, max, arith, refl, sym, ap, subst, ◌∙◌, List, [], ◌∷◌, ◌++◌, length, Option, None, Some, Box}
use Rattle.std.specs.Option.{IsSomeAnd}
use Rattle.std.specs.declared.cmp.Ordering.{Ordering}
use Rattle.std.specs.Cmp.{IsTotalOrder}
use Rattle.dk_map.specs.declared.tree.Node.{Node}
use Rattle.dk_map.specs.Balance.{node_entries, node_height, root_entries, cell_entries, IsAvl, IsAvlCell, IsLow, DifferByAtMost, IsSettledHeight, SettlesTo, IsApart}
use Rattle.dk_map.specs.Entries.{IsOrdered}
use Rattle.dk_map.proofs.Around.{AtEntry, at_entry}
use Rattle.dk_map.proofs.Puts.{grows_left, grows_right}

-- d is what a tree is seen as whose top node is n
pub record HasTop {K V : Type 0} (d : List (K × V) × ℕ) (n : Node K V) : Type 0 where
  pub entries : d.0 ≡ node_entries n
  pub height : d.1 ≡ node_height n
  pub balanced : DifferByAtMost 1 n.left.1 n.right.1

-- what a balanced cell says of its node
of_cell : {K V : Type 0} (w : Option (Node K V)) (h : ℕ) (n : Node K V) → w ≡ Some n → IsAvlCell w h → IsAvlCell (Some n) h
of_cell w h n i a = subst (λ x. IsAvlCell x h) i a

-- the top node, from the links that lead to it
pub has_top : {K V Z : Type 0} {root : Option (Box (Option (Node K V)) Z)} {h : ℕ} {d : List (K × V) × ℕ} {b : Box (Option (Node K V)) Z} {w : Option (Node K V)} {n : Node K V}
    → (root_entries root, h) ≡ d → IsAvl root h → root ≡ Some b → w ≡ b.value → w ≡ Some n → HasTop d n
has_top {h = h} {b = b} {w = w} {n = n} v a r e i =
    let full : b.value ≡ Some n = sym e ∙ i in
    let cell = of_cell b.value h n full (subst (λ x. IsAvl x h) r a) in
    record {
      entries = sym (ap (λ p. p.0) v) ∙ ap root_entries r ∙ ap cell_entries full;
      height = sym (ap (λ p. p.1) v) ∙ cell.0;
      balanced = cell.1;
    }

-- the cell that holds it is balanced
pub top_cell : {K V Z : Type 0} {root : Option (Box (Option (Node K V)) Z)} {h : ℕ} {b : Box (Option (Node K V)) Z} {w : Option (Node K V)} {n : Node K V}
    → IsAvl root h → root ≡ Some b → w ≡ b.value → w ≡ Some n → IsAvlCell (Some n) h
top_cell {h = h} {b = b} {n = n} a r e i = of_cell b.value h n (sym e ∙ i) (subst (λ x. IsAvl x h) r a)

-- what stands around the top entry
pub at_top : {K V : Type 0} {R : K → K → Ordering} {d : List (K × V) × ℕ} {n : Node K V} → IsTotalOrder R → HasTop d n → IsOrdered R d.0 → AtEntry R d.0 n.left.0 (n.key, n.value) n.right.0
at_top o t h = at_entry o t.entries h

-- what settling a cell ensures, by the node that was in it
pub settled : {K V Z : Type 0} {w : Option (Node K V)} {b c : Box (Option (Node K V)) Z} (m : Option (Node K V)) (h : ℕ) (n : Node K V) → SettlesTo w m h → w ≡ b.value → b ≡ c → c.value ≡ Some n → SettlesTo (Some n) m h
settled m h n s e p i = subst (λ x. SettlesTo x m h) (e ∙ ap (λ b. b.value) p ∙ i) s

-- a node whose left side fell by one level at most falls by one level at most
pub left_falls : (l r k h : ℕ) → DifferByAtMost 1 l r → k ≤ l → l ≤ k + 1 → IsSettledHeight k r h → (h ≤ max l r + 1) × (max l r + 1 ≤ h + 1)
left_falls l r k h d p q s = grind (arith, s.2)

-- a node whose right side fell by one level at most falls by one level at most
pub right_falls : (l r k h : ℕ) → DifferByAtMost 1 l r → k ≤ r → r ≤ k + 1 → IsSettledHeight l k h → (h ≤ max l r + 1) × (max l r + 1 ≤ h + 1)
right_falls l r k h d p q s = grind (arith, s.2)

-- a height that is low for some entries is low for more
low_more : (h n m : ℕ) → n ≤ m → IsLow h n → IsLow h m
low_more h n m p q = omega (arith, p, q)

-- a node stays balanced where another tree takes the place of a side, as high and no shorter
pub left_stays : {K V : Type 0} (n : Node K V) (h : ℕ) (t : List (K × V) × ℕ) → IsAvlCell (Some n) h → t.1 ≡ n.left.1 → length n.left.0 ≤ length t.0
    → IsAvlCell (Some (record { key = n.key; left = t; right = n.right; value = n.value })) h
left_stays n h t a same grows =
    (a.0 ∙ ap (λ k. max k n.right.1 + 1) (sym same), subst (λ k. DifferByAtMost 1 k n.right.1) (sym same) a.1, low_more h _ _ (grows_left _ _ _ _ _ refl grows) a.2)

pub right_stays : {K V : Type 0} (n : Node K V) (h : ℕ) (t : List (K × V) × ℕ) → IsAvlCell (Some n) h → t.1 ≡ n.right.1 → length n.right.0 ≤ length t.0
    → IsAvlCell (Some (record { key = n.key; left = n.left; right = t; value = n.value })) h
right_stays n h t a same grows =
    (a.0 ∙ ap (λ k. max n.left.1 k + 1) (sym same), subst (λ k. DifferByAtMost 1 n.left.1 k) (sym same) a.1, low_more h _ _ (grows_right _ _ _ _ _ refl grows) a.2)

-- the first entry of the left side is the first of the whole
pub first_of_left : {X : Type 0} (d l m r w : List X) (f : Option X) → d ≡ l ++ r → w ≡ m ++ r → IsSomeAnd f (λ e. l ≡ e ∷ m) → IsSomeAnd f (λ e. d ≡ e ∷ w)
first_of_left d l m r w None is same s = absurd s
first_of_left d l m r w (Some x) is same s = is ∙ ap (λ t. t ++ r) s ∙ ap (λ t. x ∷ t) (sym same)

-- one link leads to one node
pub same_node : {K V Z : Type 0} {root : Option (Box (Option (Node K V)) Z)} {b c : Box (Option (Node K V)) Z} {w x : Option (Node K V)} {n m : Node K V}
    → root ≡ Some b → w ≡ b.value → w ≡ Some n → root ≡ Some c → x ≡ c.value → x ≡ Some m → n ≡ m
same_node r e i s f j = cc

-- what taking a cell apart ensures, by the node that was in it
pub apart : {K V Z : Type 0} {root r : Option (Box (Option (Node K V)) Z)} {b c : Box (Option (Node K V)) Z} {w : Option (Node K V)} {n : Node K V} {e : Option (K × V)} {d : List (K × V) × ℕ}
    → root ≡ Some b → w ≡ b.value → w ≡ Some n → r ≡ Some c → r ≡ root → IsApart c.value e d → IsApart (Some n) e d
apart {c = c} {n = n} {e = e} {d = d} i v f j same s =
    let full : c.value ≡ Some n = cc in
    subst (λ x. IsApart x e d) full s

-- a tree with no top node has no entries
pub no_top : {K V Z : Type 0} {root : Option (Box (Option (Node K V)) Z)} {h : ℕ} {d : List (K × V) × ℕ} → (root_entries root, h) ≡ d → root ≡ None → d.0 ≡ []
no_top v r = sym (ap (λ p. p.0) v) ∙ ap root_entries r
