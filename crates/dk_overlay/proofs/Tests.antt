-- Tests and their combinations.
use Rattle.std.proofs.Common.{◌≡◌, Bool, true, false, not, ◌&&◌, ◌||◌, T, Some, None, refl}
use Rattle.std.specs.declared.cmp.Ordering.{Ordering}
use Rattle.std.specs.declared.cmp.Ordering.TheVariants.{Less, Equal, Greater}
use Rattle.std.specs.Ordering.{is_lt}

pub Some_injective : {A : Type 0} (x y : A) → Some x ≡ Some y → x ≡ y
Some_injective x y e = cc

pub none_some : {A P : Type 0} (x : A) → None ≡ Some x → P
none_some x h = cc

pub and_left : (a b : Bool) → (a && b) ≡ true → a ≡ true
and_left true b h = refl
and_left false b h = cc

pub and_right : (a b : Bool) → (a && b) ≡ true → b ≡ true
and_right true b h = h
and_right false b h = cc

pub and_true : (a b : Bool) → a ≡ true → b ≡ true → (a && b) ≡ true
and_true a b e f = rw (e, f) refl

pub or_false : (a b : Bool) → a ≡ false → b ≡ false → (a || b) ≡ false
or_false a b e f = rw (e, f) refl

pub or_left : (a b : Bool) → a ≡ true → (a || b) ≡ true
or_left a b e = rw e refl

pub or_right : (a b : Bool) → b ≡ true → (a || b) ≡ true
or_right true b e = refl
or_right false b e = e

pub contrary : {P : Type 0} (b : Bool) → b ≡ true → b ≡ false → P
contrary b e f = absurd cc

pub false_unless : (b : Bool) → (b ≡ true → ⊥) → b ≡ false
false_unless true h = absurd (h refl)
false_unless false h = refl

pub not_false : (a : Bool) → not a ≡ true → a ≡ false
not_false true h = cc
not_false false h = refl

pub first_of_and : (a b : Bool) → T (a && b) → T a
first_of_and true b p = tt
first_of_and false b p = p

pub second_of_and : (a b : Bool) → T (a && b) → T b
second_of_and true b p = p
second_of_and false b p = absurd p

pub both_and : (a b : Bool) → T a → T b → T (a && b)
both_and true b p q = q
both_and false b p q = p

pub less_from_T : (o : Ordering) → T (is_lt o) → o ≡ Less
less_from_T Less p = refl
less_from_T Equal p = absurd p
less_from_T Greater p = absurd p
