-- The test of items tells them apart.
use Rattle.std.proofs.Common.{◌≡◌, ℕ, true, nat_eq, Option, Some, None, List, refl, ap, arith}
use Rattle.std.specs.Cmp.Lexicographic.{bytes_decides}
use Rattle.std.proofs.lemmas.Bool.Decides.{nat_tests}
use Rattle.dk_types.specs.declared.item.Item.{Item}
use Rattle.dk_types.specs.declared.item.Item.TheVariants as ask
use Rattle.dk_overlay.specs.Items.{same_after, equal_items}
use Rattle.dk_overlay.proofs.Tests.{and_left, and_right}

number_equal : (x y : ℕ) → nat_eq x y ≡ true → x ≡ y
number_equal x y h = grind (arith, nat_tests)

number_itself : (x : ℕ) → nat_eq x x ≡ true
number_itself x = grind (arith, nat_tests)

after_equal : (a b : Option (List ℕ)) → same_after a b ≡ true → a ≡ b
after_equal None None h = refl
after_equal None (Some b) h = cc
after_equal (Some a) None h = cc
after_equal (Some a) (Some b) h = ap Some ((bytes_decides a b).0 h)

after_itself : (a : Option (List ℕ)) → same_after a a ≡ true
after_itself None = refl
after_itself (Some a) = (bytes_decides a a).1 refl

-- items that pass the test are one
pub item_equal : (a b : Item) → equal_items a b ≡ true → a ≡ b
item_equal (ask.Object a) (ask.Object b) h =
    let r : a.run.0 ≡ b.run.0 = number_equal _ _ (and_left _ _ h) in
    let k : a.k ≡ b.k = number_equal _ _ (and_right _ _ h) in
    λ i. ask.Object (record { run = record { 0 = r i }; k = k i })
item_equal (ask.Object a) (ask.Bound b) h = cc
item_equal (ask.Object a) (ask.NextAfter b) h = cc
item_equal (ask.Object a) (ask.Task b) h = cc
item_equal (ask.Bound a) (ask.Object b) h = cc
item_equal (ask.Bound a) (ask.Bound b) h = ap ask.Bound ((bytes_decides a b).0 h)
item_equal (ask.Bound a) (ask.NextAfter b) h = cc
item_equal (ask.Bound a) (ask.Task b) h = cc
item_equal (ask.NextAfter a) (ask.Object b) h = cc
item_equal (ask.NextAfter a) (ask.Bound b) h = cc
item_equal (ask.NextAfter a) (ask.NextAfter b) h = ap ask.NextAfter (after_equal a b h)
item_equal (ask.NextAfter a) (ask.Task b) h = cc
item_equal (ask.Task a) (ask.Object b) h = cc
item_equal (ask.Task a) (ask.Bound b) h = cc
item_equal (ask.Task a) (ask.NextAfter b) h = cc
item_equal (ask.Task a) (ask.Task b) h =
    let r : a.run.0 ≡ b.run.0 = number_equal _ _ (and_left _ _ h) in
    let k : a.k ≡ b.k = number_equal _ _ (and_right _ _ h) in
    λ i. ask.Task (record { run = record { 0 = r i }; k = k i })

-- an item passes the test with itself
pub item_itself : (a : Item) → equal_items a a ≡ true
item_itself (ask.Object a) = rw (number_itself a.run.0, number_itself a.k) refl
item_itself (ask.Bound a) = (bytes_decides a a).1 refl
item_itself (ask.NextAfter a) = after_itself a
item_itself (ask.Task a) = rw (number_itself a.run.0, number_itself a.k) refl
