-- Images are read exactly.
use Rattle.std.proofs.Common.{◌≡◌, ℕ, zero, suc, ◌+◌, ◌==◌, ◌&&◌, Bool, true, false, Option, Some, None, refl, sym, ◌∙◌, ap, subst, leb, arith}
use Rattle.std.proofs.Math.Dec.{eqb-suc-zero}
use Rattle.std.proofs.lemmas.Bool.{leb-true, ne_eqb}
use Rattle.dk_types.specs.declared.number.RunNo.{RunNo}
use Rattle.dk_types.specs.declared.durable.Durable.{Durable}
use Rattle.dk_types.specs.declared.limits.TheConstants.{NUMBERS_END}
use Rattle.dk_types.specs.Fields.{IsU64}
use Rattle.dk_types.specs.Exact.{IsExact}
use Rattle.dk_types.proofs.Composing.{then_exact, last_exact, checked_exact}
use Rattle.dk_types.proofs.NextLaws.{next_u64_exact}
use Rattle.dk_types.proofs.ListLaws.{list_exact}
use Rattle.dk_model.specs.Validity.{next_of}
use Rattle.dk_model.specs.Images.{IsImageValue, image_spelling, image_at, agrees_with, last_of}
use Rattle.dk_entry.specs.ItemLaws.{object_exact, binding_exact}
use Rattle.dk_entry.specs.TaskLaws.{pending_exact}

first_of_both : (a b : Bool) → (a && b) ≡ true → a ≡ true
first_of_both true b is = refl
first_of_both false b is = cc

agreed_small : (commits next : ℕ) → agrees_with commits next ≡ true → IsU64 next
agreed_small commits next is = omega (arith, leb-true next NUMBERS_END (first_of_both (leb next NUMBERS_END) _ (first_of_both _ _ is)))

-- the largest committed run and one more than it tell each other
next_again : (next : ℕ) → next_of (last_of next) ≡ next
next_again zero = refl
next_again (suc n) = rw (eqb-suc-zero n) (omega arith)

last_again : (last : Option RunNo) → last ≡ last_of (next_of last)
last_again None = refl
last_again (Some run) =
    let some : (run.0 + 1 == 0) ≡ false = ne_eqb (run.0 + 1) 0 (λ (e : run.0 + 1 ≡ 0). omega (arith, e)) in
    rw some (ap (λ (n : ℕ). Some (record { 0 = n })) (omega arith))

-- reading an image takes back what its bytes say, and nothing else
pub image_exact : (format : ℕ) → IsExact (IsImageValue format) image_spelling (image_at format)
unfolding image_at
image_exact format =
    then_exact (λ (d : Durable). d.commits) _ next_u64_exact (λ d is. is.commits) (λ commits small.
    then_exact (λ (d : Durable). next_of d.last) _ (checked_exact (agrees_with commits) next_u64_exact) (λ d is. (agreed_small d.commits (next_of d.last) is.0.next, subst (λ (n : ℕ). agrees_with n (next_of d.last) ≡ true) is.1 is.0.next)) (λ next fits.
    then_exact (λ (d : Durable). d.objects) _ (list_exact (object_exact format)) (λ d is. is.0.0.objects) (λ objects a.
    then_exact (λ (d : Durable). d.names) _ (list_exact binding_exact) (λ d is. is.0.0.0.names) (λ names b.
    last_exact (λ (d : Durable). d.tasks) (λ tasks. record { commits = commits; last = last_of next; objects = objects; names = names; tasks = tasks }) (list_exact (pending_exact format)) (λ d is. is.0.0.0.0.tasks)
    (λ tasks c. ((((record { commits = small; next = subst (λ (n : ℕ). agrees_with commits n ≡ true) (sym (next_again next)) fits.1; objects = a; names = b; tasks = c }, refl), next_again next), refl), refl)) (λ tasks. refl)
    (λ d is i. record { commits = is.0.0.0.1 i; last = (last_again d.last ∙ ap last_of is.0.0.1) i; objects = is.0.1 i; names = is.1 i; tasks = d.tasks })))))
