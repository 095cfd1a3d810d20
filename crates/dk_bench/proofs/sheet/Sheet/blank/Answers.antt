use Rattle.std.proofs.Common.{List, ap, ◌∙◌, ℕ}
use Rattle.dk_bench.specs.Sheet.{blank}
use Rattle.dk_bench.proofs.sheet.Sheet.blank.Goals as goal

pub returns : goal.returns
unfolding blank
returns c = ap (λ (numbers : List ℕ). record { numbers = numbers }) (c.from_vec.ensures ∙ c.in_ok-numbers.ensures.items_if_clones_equal (λ y e. e))
