use Rattle.std.proofs.Common.{◌++◌, List, ℕ, codes, ap, ◌∙◌, append_assoc}
use Rattle.std.specs.List.{flat_map}
use Rattle.darkstar.specs.StressText.{lines_of, spaced}
use Rattle.darkstar.proofs.stress.lines.lines_text.Goals as goal

pub returns : goal.returns
unfolding lines_of
returns c =
    c.in_ok-push_str.ensures.bytes ∙ ap (λ (text : List ℕ). text ++ codes "\n") (c.in_ok-push_counts.ensures ∙ ap (λ (text : List ℕ). text ++ flat_map spaced c.args.counts.now) c.in_ok-text.ensures.ok)
    ∙ simp append_assoc
