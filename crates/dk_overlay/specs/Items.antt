-- Whether two items are one.
use Rattle.std.specs.Prelude.{ℕ, ◌&&◌, Bool, true, false, nat_eq, Option, Some, None, List}
use Rattle.std.specs.Cmp.Lexicographic.{pointwise}
use Rattle.dk_types.specs.declared.item.Item.{Item}
use Rattle.dk_types.specs.declared.item.Item.TheVariants as ask

-- whether two names that may be given are one
abbrev pub same_after : Option (List ℕ) → Option (List ℕ) → Bool
same_after None None = true
same_after None (Some b) = false
same_after (Some a) None = false
same_after (Some a) (Some b) = pointwise nat_eq a b

-- whether two items are one
abbrev pub equal_items : Item → Item → Bool
equal_items (ask.Object a) (ask.Object b) = nat_eq a.run.0 b.run.0 && nat_eq a.k b.k
equal_items (ask.Object a) (ask.Bound b) = false
equal_items (ask.Object a) (ask.NextAfter b) = false
equal_items (ask.Object a) (ask.Task b) = false
equal_items (ask.Bound a) (ask.Object b) = false
equal_items (ask.Bound a) (ask.Bound b) = pointwise nat_eq a b
equal_items (ask.Bound a) (ask.NextAfter b) = false
equal_items (ask.Bound a) (ask.Task b) = false
equal_items (ask.NextAfter a) (ask.Object b) = false
equal_items (ask.NextAfter a) (ask.Bound b) = false
equal_items (ask.NextAfter a) (ask.NextAfter b) = same_after a b
equal_items (ask.NextAfter a) (ask.Task b) = false
equal_items (ask.Task a) (ask.Object b) = false
equal_items (ask.Task a) (ask.Bound b) = false
equal_items (ask.Task a) (ask.NextAfter b) = false
equal_items (ask.Task a) (ask.Task b) = nat_eq a.run.0 b.run.0 && nat_eq a.k b.k
