use Rattle.std.proofs.Common.{ℕ, List, ◌≡◌, ◌∙◌, refl, ap}
use Rattle.std.specs.Ordering.{nat_cmp}
use Rattle.std.proofs.lemmas.Iterator.Search.{cmp_from_yields_List}
use Rattle.std.proofs.lemmas.Iterator.{YieldsList-from_slice}
use Rattle.dk_types.specs.Names.{bytes_cmp}
use Rattle.dk_types.proofs.name.NameOrd.cmp.Goals as goal

pub returns : goal.returns
returns c =
    cmp_from_yields_List (λ x y. y ≡ x) _ nat_cmp _ c.cmp.ensures.ran (YieldsList-from_slice c.as_slice.result.now cc) (λ it e. YieldsList-from_slice c.as_slice-2.result.now cc) (λ x y. refl)
    ∙ ap (λ (bytes : List ℕ). bytes_cmp bytes c.as_slice-2.result.now) c.as_slice.ensures.value
    ∙ ap (bytes_cmp c.args.self.now) c.as_slice-2.ensures.value
