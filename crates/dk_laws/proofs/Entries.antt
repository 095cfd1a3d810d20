-- What is true of all items of a list, and of all entries of a map.
use Rattle.std.proofs.Common.{◌≡◌, Bool, true, false, cond, ◌&&◌, T, Option, Some, None, List, [], ◌∷◌, refl, ap, ◌∙◌, is_eq, is_lt}
use Rattle.std.specs.declared.cmp.Ordering.{Ordering}
use Rattle.std.specs.declared.cmp.Ordering.TheVariants.{Less, Equal, Greater}
use Rattle.std.specs.Ordering.{ordering_reverse}
use Rattle.std.specs.Cmp.{IsTotalOrder, tied_itself}
use Rattle.std.specs.List.{AllByRecursion, filter, filter_map, cons_option}
use Rattle.std.specs.FinMap.{FinMap, find, is_sorted, get, entries, entries_sorted, get-entries}
use Rattle.std.specs.FinMap.Entries.{below_all}

-- less may be said of each
pub all_weaker : {A : Type 0} (P Q : A → Type 0) → ((x : A) → P x → Q x) → (xs : List A) → AllByRecursion P xs → AllByRecursion Q xs
all_weaker P Q h [] p = tt
all_weaker P Q h (x ∷ xs) p = (h x p.0, all_weaker P Q h xs p.1)

-- of those that pass a test both is true
pub all_filter : {A : Type 0} (P : A → Type 0) (test : A → Bool) (xs : List A) → AllByRecursion P xs → AllByRecursion (λ x. P x × (test x ≡ true)) (filter test xs)
all_filter P test [] p = tt
all_filter P test (x ∷ xs) p =
    elim (test x) as (λ b. test x ≡ b → AllByRecursion (λ x. P x × (test x ≡ true)) (cond b (x ∷ filter test xs) (filter test xs))) [
      | true ↦ λ e. ((p.0, e), all_filter P test xs p.1)
      | false ↦ λ e. all_filter P test xs p.1
    ] refl

all_cons : {B : Type 0} (Q : B → Type 0) (o : Option B) (ys : List B) → ((y : B) → o ≡ Some y → Q y) → AllByRecursion Q ys → AllByRecursion Q (cons_option o ys)
all_cons Q None ys h p = p
all_cons Q (Some y) ys h p = (h y refl, p)

-- what each item is mapped to, where it is mapped
pub all_filter_map : {A B : Type 0} (Q : B → Type 0) (f : A → Option B) (xs : List A) → AllByRecursion (λ x. (y : B) → f x ≡ Some y → Q y) xs → AllByRecursion Q (filter_map f xs)
all_filter_map Q f [] p = tt
all_filter_map Q f (x ∷ xs) p = all_cons Q (f x) (filter_map f xs) p.0 (all_filter_map Q f xs p.1)

first_of_and : (a b : Bool) → T (a && b) → T a
first_of_and true b p = tt
first_of_and false b p = p

second_of_and : (a b : Bool) → T (a && b) → T b
second_of_and true b p = p
second_of_and false b p = absurd p

less_from_T : (o : Ordering) → T (is_lt o) → o ≡ Less
less_from_T Less p = refl
less_from_T Equal p = absurd p
less_from_T Greater p = absurd p

module _ {K X : Type 0} {R : K → K → Ordering} (total : IsTotalOrder R) where
  found_later : (x : K × X) (xs ys : List (K × X)) → T (below_all R x.0 ys) → AllByRecursion (λ e. find R e.0 xs ≡ Some e.1) ys → AllByRecursion (λ e. find R e.0 (x ∷ xs) ≡ Some e.1) ys
  found_later x xs [] b h = tt
  found_later x xs (y ∷ ys) b h =
      let above : R y.0 x.0 ≡ Greater = total.antisymm y.0 x.0 ∙ ap ordering_reverse (less_from_T _ (first_of_and _ _ b)) in
      (ap (λ o. cond (is_eq o) (Some x.1) (find R y.0 xs)) above ∙ h.0, found_later x xs ys (second_of_and (is_lt (R x.0 y.0)) _ b) h.1)

  found_all : (es : List (K × X)) → T (is_sorted R es) → AllByRecursion (λ e. find R e.0 es ≡ Some e.1) es
  found_all [] s = tt
  found_all (x ∷ xs) s = (
    ap (λ o. cond (is_eq o) (Some x.1) (find R x.0 xs)) (tied_itself total x.0),
    found_later x xs xs (first_of_and _ _ s) (found_all xs (second_of_and (below_all R x.0 xs) _ s)),
  )

  -- what is true of each key and its value is true of all entries
  pub all_entries : (P : K × X → Type 0) (m : FinMap R X) → ((k : K) (x : X) → get m k ≡ Some x → P (k, x)) → AllByRecursion P (entries m)
  all_entries P m h = all_weaker (λ e. find R e.0 (entries m) ≡ Some e.1) P (λ e f. h e.0 e.1 (get-entries m e.0 ∙ f)) (entries m) (found_all (entries m) (entries_sorted m))
