-- Keys of two parts: only equal keys tie where that holds of each part and the parts make the key.
use Rattle.std.proofs.Common.{◌≡◌, refl}
use Rattle.std.specs.declared.cmp.Ordering.{Ordering}
use Rattle.std.specs.declared.cmp.Ordering.TheVariants.{Less, Equal, Greater}
use Rattle.std.specs.Ordering.{ordering_then, then_cmp, on}
use Rattle.std.specs.FinMap.{IsAntisymmetric}

-- by one part and then by another
pub then-IsAntisymmetric : {K A B : Type 0} {R : A → A → Ordering} {S : B → B → Ordering} (f : K → A) (g : K → B)
    → IsAntisymmetric R → IsAntisymmetric S → ((x y : K) → f x ≡ f y → g x ≡ g y → x ≡ y) → IsAntisymmetric (then_cmp (on f R) (on g S))
then-IsAntisymmetric {R = R} {S = S} f g r s make x y e =
    elim (R (f x) (f y)) as (λ c. R (f x) (f y) ≡ c → ordering_then c (S (g x) (g y)) ≡ Equal → x ≡ y) [
      | Less ↦ λ _ t. cc
      | Equal ↦ λ p t. make x y (r (f x) (f y) p) (s (g x) (g y) t)
      | Greater ↦ λ _ t. cc
    ] refl e
