-- The least element of a list, by an order that only equal elements of the list tie in.
use Rattle.std.proofs.Common.{◌≡◌, refl, ap, subst, ◌∙◌, Bool, true, false, if◌then◌else◌, List, [], ◌∷◌, Option, None, Some, ◌⊎◌, inl, inr}
use Rattle.std.specs.List.{AllByRecursion}
use Rattle.std.specs.declared.cmp.Ordering.{Ordering}
use Rattle.std.specs.declared.cmp.Ordering.TheVariants.{Less}
use Rattle.std.specs.Ordering.{is_lt, ordering_reverse}
use Rattle.std.specs.Cmp.{IsTotalOrder}
use Rattle.dk_model.specs.Picks.{least, lesser}

-- x stands in a list
abbrev pub Member : {A : Type 0} → A → List A → Type 0
Member x [] = ⊥
Member x (y ∷ ys) = (x ≡ y) ⊎ Member x ys

module _ {A : Type 0} (before : A → A → Bool) where
  -- what holds of all holds of the least
  All-least : (P : A → Type 0) (xs : List A) → AllByRecursion P xs → (x : A) → least before xs ≡ Some x → P x
  All-least P [] a x e = cc
  All-least P (y ∷ ys) a x e =
      elim (least before ys) as (λ r. least before ys ≡ r → lesser before y r ≡ Some x → P x) [
        | None ↦ λ _ l. let is : y ≡ x = cc in subst P is a.0
        | Some z ↦ λ l. elim (before z y) as (λ b. (if b then Some z else Some y) ≡ Some x → P x) [
          | true ↦ λ r. let is : z ≡ x = cc in subst P is (All-least P ys a.1 z l)
          | false ↦ λ r. let is : y ≡ x = cc in subst P is a.0
        ]
      ] refl e

module _ {A : Type 0} {R : A → A → Ordering} (o : IsTotalOrder R) (x : A) where
  -- x itself, or above it
  abbrev pub IsFrom : A → Type 0
  IsFrom y = (y ≡ x) ⊎ (R x y ≡ Less)

  -- x and then one that is x or above it
  first_stays : (r : Option A) → ((z : A) → r ≡ Some z → IsFrom z) → lesser (λ a b. is_lt (R a b)) x r ≡ Some x
  first_stays None f = refl
  first_stays (Some z) f = elim (f z refl) as (λ _. (if is_lt (R z x) then Some z else Some x) ≡ Some x) [
    | inl e ↦ elim (is_lt (R z x)) as (λ b. (if b then Some z else Some x) ≡ Some x) [ true ↦ ap Some e | false ↦ refl ]
    | inr e ↦ ap (λ c. if is_lt c then Some z else Some x) (o.antisymm z x ∙ ap ordering_reverse e)
  ]

  later_wins : (y : A) → IsFrom y → lesser (λ a b. is_lt (R a b)) y (Some x) ≡ Some x
  later_wins y (inl e) = elim (is_lt (R x y)) as (λ b. (if b then Some x else Some y) ≡ Some x) [ true ↦ refl | false ↦ ap Some e ]
  later_wins y (inr e) = ap (λ c. if is_lt c then Some x else Some y) e

  -- x is the least where it stands in the list and all others are above it
  pub least_is : (xs : List A) → Member x xs → AllByRecursion IsFrom xs → least (λ a b. is_lt (R a b)) xs ≡ Some x
  least_is [] m a = absurd m
  least_is (y ∷ ys) (inl e) a = subst (λ z. lesser (λ a b. is_lt (R a b)) z (least (λ a b. is_lt (R a b)) ys) ≡ Some x) e (first_stays _ (λ z l. All-least _ IsFrom ys a.1 z l))
  least_is (y ∷ ys) (inr m) a = ap (lesser (λ a b. is_lt (R a b)) y) (least_is ys m a.1) ∙ later_wins y a.0

-- where no element may stand, there is no least
pub least_of_none : {A : Type 0} (before : A → A → Bool) (xs : List A) → AllByRecursion (λ _. ⊥) xs → least before xs ≡ None
least_of_none before [] a = refl
least_of_none before (x ∷ xs) a = absurd a.0
